-- What each public function of this crate promises of its answer r: 01's refusal, or none.
use Rattle.std.specs.Prelude.{ℕ, ◌≡◌, [], ◌∷◌}
use Rattle.std.specs.declared.result.Result.{Result}
use Rattle.rules.specs.Records.{table_bad, table_or_index_bad}
use Rattle.rules.specs.Refusals.{refusal}
use Rattle.rules.specs.declared.Refusal.{Refusal}
use Rattle.rules.specs.declared.Table.{Table}
use Rattle.verdicts.specs.Verdicts.{verdict_as}

module _ (t : Table) where
  -- refusal 1
  abbrev pub JudgeTableIs : Result Unit Refusal → Type 0
  JudgeTableIs r = verdict_as r ≡ refusal (table_bad t ∷ [])

  -- refusal 1, also for a partition h that isn't there
  abbrev pub JudgeIndexIs : ℕ → Result Unit Refusal → Type 0
  JudgeIndexIs h r = verdict_as r ≡ refusal (table_or_index_bad t h ∷ [])
