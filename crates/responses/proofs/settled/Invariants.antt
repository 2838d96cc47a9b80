use Prim.Native.Nat.{◌+◌, ◌-◌}
use Rattle.responses.proofs.Repetition.{Going}
use Rattle.responses.proofs.settled.Given as goal

abbrev pub invariant-loop-r : goal.invariant-loop-r
invariant-loop-r l = Going l.period l.budget l.k.partition l.k.gap l.k.cost l.i l.x.partition (record { p = l.x.gap; e = l.x.cost }) l.r

abbrev pub decreases-loop-r : goal.decreases-loop-r
decreases-loop-r l = l.x.gap + 1 - l.r
