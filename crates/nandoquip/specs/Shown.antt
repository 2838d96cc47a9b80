-- The table of records at work: two records, and one more than a table has places for.
use Rattle.std.specs.Prelude.{ℕ, List, [], ◌∷◌, ◌++◌, refl, replicate}
use Rattle.basis.specs.Words.{padded}
use Rattle.basis.specs.Rows.{Row, ◌is◌, Hold, number}
use Rattle.rules.specs.declared.Part.{Part}
use Rattle.nandoquip.specs.Records.{table_of}

abbrev part : ℕ → ℕ → ℕ → Part
part period budget phase = record { period = period; budget = budget; phase = phase }

abbrev two : List Part
two = part 8 3 0 ∷ part 20 5 7 ∷ []

abbrev seventeen : List Part
seventeen = replicate 16 (part 8 3 1) ++ part 9 9 9 ∷ []

abbrev pub shown : List Row
shown =
    (number (table_of two).count is 2 ∷ [])
    ∷ ((table_of two).period is 8 ∷ 20 ∷ replicate 14 0)
    ∷ ((table_of two).budget is 3 ∷ 5 ∷ replicate 14 0)
    ∷ ((table_of two).phase is 0 ∷ 7 ∷ replicate 14 0)
    ∷ (number (table_of seventeen).count is 17 ∷ [])
    ∷ ((table_of seventeen).period is replicate 16 8)
    ∷ ((table_of seventeen).budget is replicate 16 3)
    ∷ ((table_of seventeen).phase is replicate 16 1)
    ∷ []

pub shown_hold : Hold shown
unfolding table_of padded
shown_hold = refl
