use Prim.Native.Nat.{◌-◌, ◌≤◌}
use Rattle.laws.proofs.Places.{PassTo}
use Rattle.pairs.proofs.Parts.{fine}
use Rattle.pairs.proofs.judge_inside.Given as goal

abbrev pub invariant-loop-i : goal.invariant-loop-i
invariant-loop-i l = (l.i ≤ l.n) × PassTo (fine l.t.period l.t.budget l.p.b l.p.o) l.i

abbrev pub decreases-loop-i : goal.decreases-loop-i
decreases-loop-i l = l.n - l.i
