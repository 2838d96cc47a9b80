-- What each public function of this crate promises of its answer r: 01's refusal, or none.
use Rattle.std.specs.Prelude.{ℕ, ◌≡◌, [], ◌∷◌}
use Rattle.std.specs.declared.result.Result.{Result}
use Rattle.rules.specs.Refusals.{bad_tasks, bad_tasks_or_index, refusal}
use Rattle.rules.specs.declared.Refusal.{Refusal}
use Rattle.rules.specs.declared.Tasks.{Tasks}
use Rattle.verdicts.specs.Verdicts.{verdict_as}

module _ (n : ℕ) (k : Tasks) where
  -- refusal 9
  abbrev pub JudgeTasksIs : Result Unit Refusal → Type 0
  JudgeTasksIs r = verdict_as r ≡ refusal (bad_tasks n k.count k.partition k.gap k.cost ∷ [])

  -- refusal 9, also for a task i that isn't there
  abbrev pub JudgeTaskIs : ℕ → Result Unit Refusal → Type 0
  JudgeTaskIs i r = verdict_as r ≡ refusal (bad_tasks_or_index n k.count k.partition k.gap k.cost i ∷ [])
