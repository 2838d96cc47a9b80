-- From the verdicts to what the call promises.
use Prim.Native.Nat.{ℕ, suc, ◌<◌}
use mathlib.Core.Path.{◌≡◌, ◌∙◌, ap}
use native.Mathlib.Omega.{arith}
use Rattle.basis.specs.Words.{◌!◌}
use Rattle.rules.specs.TaskResponse.{response_of_task}
use Rattle.rules.specs.declared.Table.{Table}
use Rattle.rules.specs.declared.Tasks.{Tasks}
use Rattle.laws.proofs.Numbers.{table-good, tasks_good}
use Rattle.laws.proofs.Refusals.{table_then_tasks}
use Rattle.laws.proofs.TaskResponse.{response_so_far}
use Rattle.verdicts.specs.Outcome.{gives}
use Rattle.ranges.specs.Promises.{JudgeTableIs}
use Rattle.std.specs.declared.result.Result.{Result}
use Rattle.std.specs.declared.result.Result.TheVariants.{Ok, Err}
use Rattle.rules.specs.declared.Refusal.{Refusal}
use Rattle.ranges.proofs.Good.{table_in_range}
use Rattle.verdicts.proofs.Outcomes.{hands_on_first, hands_on_second, answers_second}
use Rattle.tasks.specs.Promises.{JudgeTaskIs}
use Rattle.tasks.proofs.Judged.{asked_tasks, asked_there}
use Rattle.responses.specs.Inner.{Ready}
use Rattle.responses.specs.Promises.{TaskResponseIs}

-- a verdict is a refusal
module _ (t : Table) (k : Tasks) (i : ℕ) (v : Result Unit Refusal) (judged : JudgeTableIs t v) where
  pub refused_table : (r : Refusal) → v ≡ Err r → TaskResponseIs t k i (Err r)
  refused_table = hands_on_first _ (table_then_tasks _ _) v judged

  pub refused_task : v ≡ Ok tt → (w : Result Unit Refusal) → JudgeTaskIs t.count k i w → (r : Refusal) → w ≡ Err r → TaskResponseIs t k i (Err r)
  refused_task fine = hands_on_second _ (table_then_tasks _ _) v judged fine

-- both verdicts are good
module _ (t : Table) (k : Tasks) (i : ℕ) (v : Result Unit Refusal) (judged : JudgeTableIs t v) (fine : v ≡ Ok tt)
    (w : Result Unit Refusal) (asked : JudgeTaskIs t.count k i w) (there : w ≡ Ok tt) where
  task_there : i < k.count
  task_there = asked_there t.count k i w asked there

  pub ready : Ready t.period t.budget k.partition i
  ready =
      let table = table-good t.count t.period t.budget t.phase (table_in_range _ _ _ _ v judged fine) in
      let tasks = tasks_good t.count k.count k.partition k.gap k.cost (asked_tasks t.count k i w asked there) in
      let few = table.not_many in
      let short = tasks.not_many in
      let here = task_there in
      let home = (tasks.each i task_there).there in
      record { task = omega arith; home = omega arith; affordable = (table.each (k.partition ! i) home).affordable }

  pub responds : (r : ℕ) → r ≡ response_of_task t.period t.budget (suc i) k.partition k.gap k.cost i → TaskResponseIs t k i (Ok r)
  responds r same =
      answers_second (response_of_task t.period t.budget k.count k.partition k.gap k.cost i) (table_then_tasks _ _) v judged fine w asked (gives r) there
      (ap gives (same ∙ response_so_far t.period t.budget k.partition k.gap k.cost i k.count task_there))
