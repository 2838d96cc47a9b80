use native.Mathlib.Omega.{arith}
use borrow.Author.Rules.{rules}
use Rattle.busy.proofs.Repetition.{going_begins}
use Rattle.busy.proofs.Near.{near_still, near_on, near_nearer}
use Rattle.busy.proofs.search.settled_near.Goals as goal

pub loop-length-init : goal.loop-length-init
loop-length-init c = search (rules, going_begins)

pub returns-then-sum-length : goal.returns-then-sum-length
returns-then-sum-length c = near_still _ _ _ _ _ _ _ c.requires.3 _ c.loop-length.invariant.1 (omega arith) (omega arith) _ c.refills_once.ensures _ c.from.ensures c.if-sum-length.true

pub loop-length-smaller : goal.loop-length-smaller
loop-length-smaller c = search (rules, near_nearer)

pub loop-length-preserved : goal.loop-length-preserved
loop-length-preserved c = (omega arith, near_on _ _ _ _ _ _ _ c.requires.3 _ c.loop-length.invariant.1 (omega arith) (omega arith) _ c.refills_once.ensures c.if-sum-length.false)
