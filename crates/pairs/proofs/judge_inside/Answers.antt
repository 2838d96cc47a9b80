use Prim.Native.Nat.{zero-le}
use native.Mathlib.Omega.{arith}
use Rattle.laws.proofs.Places.{pass_begins, pass_next, fails_here, none_fails}
use Rattle.pairs.proofs.Parts.{bad_inside, good_inside}
use Rattle.pairs.proofs.judge_inside.Goals as goal

pub loop-i-init : goal.loop-i-init
loop-i-init c = (zero-le, pass_begins _)

pub returns-then-not-pair_in_range : goal.returns-then-not-pair_in_range
returns-then-not-pair_in_range c = bad_inside _ _ _ _ _ _ (fails_here _ _ c.loop-i.invariant.1 _ _ c.loop-i-test.true c.pair_in_range.ensures c.if-not-pair_in_range.true)

pub loop-i-preserved : goal.loop-i-preserved
loop-i-preserved c = (omega arith, pass_next _ _ c.loop-i.invariant.1 _ c.pair_in_range.ensures c.if-not-pair_in_range.false)

pub returns : goal.returns
returns c = good_inside _ _ _ _ _ (none_fails _ _ c.loop-i.invariant.1 _ c.loop-i-test.false c.loop-i.invariant.0)
