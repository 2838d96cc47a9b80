use Prim.Native.Nat.{◌-◌, ◌≤◌}
use Rattle.laws.proofs.Places.{PassTo}
use Rattle.ranges.proofs.Steps.{partition}
use Rattle.ranges.proofs.judge_table.Given as goal

abbrev pub invariant-loop-i : goal.invariant-loop-i
invariant-loop-i l = (l.i ≤ l.t.count) × PassTo (partition l.t) l.i

abbrev pub decreases-loop-i : goal.decreases-loop-i
decreases-loop-i l = l.t.count - l.i
