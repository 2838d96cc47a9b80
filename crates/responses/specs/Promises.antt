-- What the public function of this crate says, and promises of its answer r: the rule, or 01's refusal.
use Rattle.std.specs.Prelude.{ℕ, ◌≡◌, [], ◌∷◌}
use Rattle.std.specs.declared.result.Result.{Result}
use Rattle.rules.specs.Records.{table_bad, tasks_or_index_bad}
use Rattle.rules.specs.TaskResponse.{response_of_task}
use Rattle.rules.specs.Refusals.{refusal}
use Rattle.rules.specs.declared.Refusal.{Refusal}
use Rattle.rules.specs.declared.Table.{Table}
use Rattle.rules.specs.declared.Tasks.{Tasks}
use Rattle.verdicts.specs.Outcome.{Outcome, unless_refused}
use Rattle.responses.specs.Answers.{response_as}

-- the response of task i: refusals 1 and 9, also for an i that isn't there
abbrev pub task_response_says : Table → Tasks → ℕ → Outcome ℕ
task_response_says t k i =
    unless_refused (refusal (table_bad t ∷ tasks_or_index_bad t k i ∷ []))
    (response_of_task t.period t.budget k.count k.partition k.gap k.cost i)

abbrev pub TaskResponseIs : Table → Tasks → ℕ → Result ℕ Refusal → Type 0
TaskResponseIs t k i r = response_as r ≡ task_response_says t k i
