use Prim.Native.Nat.{◌-◌, ◌*◌, ◌≤◌}
use mathlib.Core.Path.{◌≡◌}
use Rattle.laws.proofs.Places.{PassTo}
use Rattle.pairs.proofs.Parts.{empty}
use Rattle.pairs.proofs.nothing_beyond.Given as goal

abbrev pub invariant-loop-j : goal.invariant-loop-j
invariant-loop-j l = (l.n ≤ l.j) × (l.j ≤ 16) × (l.sum ≤ l.j * 131072) × (l.sum ≡ 0 → PassTo (empty l.n l.p.b l.p.o) l.j)

abbrev pub decreases-loop-j : goal.decreases-loop-j
decreases-loop-j l = 16 - l.j
