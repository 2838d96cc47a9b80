use mathlib.Core.Path.{◌≡◌}
use mathlib.Core.Bool.{false}
use lib.ListN.{take}
use Rattle.basis.specs.Words.{has}
use Rattle.candidates.proofs.holds.Given as goal

abbrev pub invariant-loop-x : goal.invariant-loop-x
invariant-loop-x l = has (take l.x-index l.list) l.pick ≡ false
