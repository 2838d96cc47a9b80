use Rattle.std.proofs.Common.{rules, tests}
use Prim.Native.Nat.{◌*◌}
use native.Mathlib.Omega.{arith}
use mathlib.Core.Bool.{cond}
use lib.Dec.{eqb}
use Rattle.basis.specs.Words.{◌!◌, ceil}
use Rattle.laws.proofs.Sums.{count_fits, count_adds}
use Rattle.responses.proofs.asked_above.Goals as goal

pub sum-requires-clause-fits : goal.sum-requires-clause-fits
sum-requires-clause-fits c =
    count_fits _ (λ j. cond (eqb (c.args.k.now.partition ! j) c.args.h) (ceil c.args.window (c.args.k.now.gap ! j) * c.args.k.now.cost ! j) 0) 64 4294967296 _ (cc) c.map.ensures.closure (λ x r q k. search (rules, tests)) (omega arith) c.requires.0 _ (omega arith)

pub returns : goal.returns
returns c = count_adds _ _ 64 4294967296 _ (cc) c.map.ensures.closure (λ x r q k. search (rules, tests)) (omega arith) c.requires.0 _ c.sum.ensures.ran c.sum.ensures.runs
