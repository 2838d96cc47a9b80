use Prim.Native.Nat.{◌≤◌}
use Rattle.scheduler.proofs.Fresh.{FreshTo}
use Rattle.scheduler.proofs.fresh_start.Given as goal

abbrev pub invariant-loop-i : goal.invariant-loop-i
invariant-loop-i l = (l.i ≤ l.t.count) × FreshTo l.t l.i l.p
