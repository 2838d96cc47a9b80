use Rattle.std.proofs.Common.{rules, tests}
use native.Mathlib.Omega.{arith}
use Rattle.laws.proofs.Sums.{entries_fit, entries_add}
use Rattle.busy.proofs.waiting.Goals as goal

pub sum-requires-clause-fits : goal.sum-requires-clause-fits
sum-requires-clause-fits c = entries_fit _ 16 65536 c.args.p.now.b c.args.h (omega arith) (cc) c.map.ensures.closure (λ x r q k. search (rules, tests)) (omega arith) c.requires _ (omega arith)

pub returns : goal.returns
returns c = entries_add _ 16 65536 c.args.p.now.b c.args.h (omega arith) (cc) c.map.ensures.closure (λ x r q k. search (rules, tests)) (omega arith) c.requires _ c.sum.ensures.ran c.sum.ensures.runs
