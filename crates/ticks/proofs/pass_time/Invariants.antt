use Prim.Native.Nat.{◌-◌, ◌≤◌}
use Rattle.ticks.specs.Promises.{PassTimeIs}
use Rattle.ticks.proofs.pass_time.Given as goal

abbrev pub invariant-loop-i : goal.invariant-loop-i
invariant-loop-i l = (l.i ≤ l.n) × PassTimeIs l.i l.t l.initial.p l.p

abbrev pub decreases-loop-i : goal.decreases-loop-i
decreases-loop-i l = l.n - l.i
