-- After a call there is a cursor, or nothing more: what is said of a cursor, said of that.
use Rattle.std.specs.Prelude.{ℕ, List, []}
use Rattle.std.specs.declared.option.Option.{Option as Found}
use Rattle.std.specs.declared.option.Option.TheVariants.{Some, None}

module _ {C : Type 0} where
  -- what is still to be written
  unfoldable pub lines_after : (C → List ℕ) → Found C → List ℕ
  lines_after lines (Some c) = lines c
  lines_after lines None = []

  -- what holds
  unfoldable pub HoldsAfter : (C → Type 0) → Found C → Type 0
  HoldsAfter Holds (Some c) = Holds c
  HoldsAfter Holds None = Unit {0}

  -- how far it is from the end
  unfoldable pub left_after : (C → ℕ) → Found C → ℕ
  left_after left (Some c) = left c
  left_after left None = 0
