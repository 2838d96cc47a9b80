use Prim.Native.Nat.{◌+◌, ◌-◌}
use Rattle.busy.specs.Inner.{Going}
use Rattle.busy.proofs.settled.Given as goal

abbrev pub invariant-loop-length : goal.invariant-loop-length
invariant-loop-length l = Going l.t.period l.t.budget l.p.o l.top l.start l.deadline l.length

abbrev pub decreases-loop-length : goal.decreases-loop-length
decreases-loop-length l = l.deadline + 1 - l.length
