use Rattle.std.proofs.Common.{rules, tests}
use native.Mathlib.Omega.{arith}
use Rattle.rules.specs.BusyLength.{refill}
use Rattle.laws.proofs.Sums.{count_fits, count_adds}
use Rattle.busy.proofs.refills.Goals as goal

pub sum-requires-clause-fits : goal.sum-requires-clause-fits
unfolding refill
sum-requires-clause-fits c = count_fits _ (λ j. refill c.args.t.now.period c.args.t.now.budget c.args.p.now.o j c.args.w) 16 8589934592 _ (cc) c.map.ensures.closure (λ x r q k. search (rules, tests)) (omega arith) c.requires.0 _ (omega arith)

pub returns : goal.returns
unfolding refill
returns c = count_adds _ _ 16 8589934592 _ (cc) c.map.ensures.closure (λ x r q k. search (rules, tests)) (omega arith) c.requires.0 _ c.sum.ensures.ran c.sum.ensures.runs
