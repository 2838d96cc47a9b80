-- What each public function of this crate promises of its answer r.
use Rattle.std.specs.Prelude.{ℕ, ◌≡◌, List, [], ◌∷◌, length}
use Rattle.std.specs.declared.result.Result.{Result}
use Rattle.rules.specs.Records.{table_bad, pairs_bad}
use Rattle.rules.specs.Refusals.{refusal}
use Rattle.rules.specs.declared.Pairs.{Pairs}
use Rattle.rules.specs.declared.Refusal.{Refusal}
use Rattle.rules.specs.declared.Table.{Table}
use Rattle.verdicts.specs.Verdicts.{verdict_as}
use Rattle.pairs.specs.Parts.{paired}

-- how many partitions have a pair
abbrev pub PairedIs : ℕ → List ℕ → ℕ → Type 0
PairedIs n o r = r ≡ paired n (length o)

module _ (t : Table) (p : Pairs) where
  -- refusal 3
  abbrev pub JudgeStateIs : Result Unit Refusal → Type 0
  JudgeStateIs r = verdict_as r ≡ refusal (pairs_bad t p.b p.o ∷ [])

  -- refusals 1 and 3
  abbrev pub JudgeIs : Result Unit Refusal → Type 0
  JudgeIs r = verdict_as r ≡ refusal (table_bad t ∷ pairs_bad t p.b p.o ∷ [])
