use Rattle.std.proofs.Common.{rules, tests}
use native.Mathlib.Omega.{arith}
use Rattle.busy.specs.Inner.{once}
use Rattle.laws.proofs.Sums.{count_fits, count_adds}
use Rattle.busy.proofs.search.refills_once.Goals as goal

pub sum-requires-clause-fits : goal.sum-requires-clause-fits
unfolding once
sum-requires-clause-fits c = count_fits _ (λ j. once c.args.t.now.budget c.args.p.now.o j c.args.w) 16 65536 _ (cc) c.map.ensures.closure (λ x r q k. search (rules, tests)) (omega arith) c.requires _ (omega arith)

pub returns : goal.returns
unfolding once
returns c = count_adds _ _ 16 65536 _ (cc) c.map.ensures.closure (λ x r q k. search (rules, tests)) (omega arith) c.requires _ c.sum.ensures.ran c.sum.ensures.runs
