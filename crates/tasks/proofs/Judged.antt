-- From one task in range to all of them, and to one that is asked for.
use Prim.Native.Nat.{ℕ, ◌≤◌, ◌<◌}
use mathlib.Core.Path.{◌≡◌, refl, sym, ◌∙◌}
use mathlib.Core.Bool.{Bool, false, not}
use mathlib.Core.Option.{some, none}
use native.Mathlib.Omega.{arith}
use borrow.Author.Tests.{le-leb, lt-ltb, le-ltb}
use lib.Dec.{leb}
use Rattle.basis.specs.Words.{◌!◌, within, first}
use Rattle.rules.specs.Numbers.{task_in_range, first_bad_task, TasksInRange}
use Rattle.rules.specs.declared.Refusal.{Refusal}
use Rattle.rules.specs.declared.Tasks.{Tasks}
use Rattle.rules.specs.declared.Refusal.TheVariants.{BadTask}
use Rattle.laws.proofs.Tests.{is_within}
use Rattle.laws.proofs.Refusals.{tasks_alone}
use Rattle.std.specs.declared.result.Result.{Result}
use Rattle.std.specs.declared.result.Result.TheVariants.{Ok, Err}
use Rattle.verdicts.proofs.Verdicts.{says_bad, says_good, judged_fields, judged_absent, judged_there, asked_good}
use Rattle.tasks.specs.Promises.{JudgeTasksIs, JudgeTaskIs}

-- ---- the tests of one task
module _ (n partition p e : ℕ) where
  pub no_partition : n ≤ partition → false ≡ task_in_range n partition p e
  unfolding task_in_range
  no_partition l = sym (rw (le-ltb partition n l))

  module _ (there : partition < n) where
    pub no_gap : p ≡ 0 → false ≡ task_in_range n partition p e
    unfolding task_in_range
    no_gap none_there = sym (rw (lt-ltb partition n there, none_there))

    module _ (gap : p ≡ 0 → ⊥) (fits : p < 65536) where
      by_cost : task_in_range n partition p e ≡ within 1 p e
      unfolding task_in_range
      by_cost = rw (lt-ltb partition n there, is_within {low = 1} {high = 65535} {x = p} (omega arith) (omega arith))

      pub no_cost : e ≡ 0 → false ≡ task_in_range n partition p e
      no_cost free = sym (by_cost ∙ rw free)

      pub cost_decides : (e ≡ 0 → ⊥) → leb e p ≡ task_in_range n partition p e
      cost_decides costs = sym (by_cost ∙ rw (le-leb 1 e (omega arith)))

-- ---- all of them
module _ (n : ℕ) (k : Tasks) where
  -- the test of one of them
  abbrev pub task : ℕ → Bool
  task i = task_in_range n (k.partition ! i) (k.gap ! i) (k.cost ! i)

  pub too_many_tasks : 64 < k.count → JudgeTasksIs n k (Err (BadTask 64))
  unfolding first_bad_task
  too_many_tasks l = says_bad 9 tasks_alone _ (BadTask 64) 64 refl (rw (lt-ltb 64 k.count l))

  module _ (few : k.count ≤ 64) where
    by_fields : first_bad_task n k.count k.partition k.gap k.cost ≡ first k.count (λ i. not (task i))
    unfolding first_bad_task
    by_fields = rw (le-ltb 64 k.count few)

    pub bad_tasks_lem : (i : ℕ) → first k.count (λ j. not (task j)) ≡ some i → JudgeTasksIs n k (Err (BadTask i))
    bad_tasks_lem i found = says_bad 9 tasks_alone _ (BadTask i) i refl (by_fields ∙ found)

    pub good_tasks : first k.count (λ j. not (task j)) ≡ none → JudgeTasksIs n k (Ok tt)
    good_tasks none-bad = says_good 9 tasks_alone _ (by_fields ∙ none-bad)

-- ---- and one that is asked for
module _ (n : ℕ) (k : Tasks) (i : ℕ) (v : Result Unit Refusal) (judged : JudgeTasksIs n k v) where
  pub tasks_refused : (r : Refusal) → v ≡ Err r → JudgeTaskIs n k i (Err r)
  tasks_refused = judged_fields 9 tasks_alone k.count i (first_bad_task n k.count k.partition k.gap k.cost) v judged

  pub task_absent : v ≡ Ok tt → k.count ≤ i → JudgeTaskIs n k i (Err (BadTask i))
  task_absent d = judged_absent 9 tasks_alone k.count i (first_bad_task n k.count k.partition k.gap k.cost) v judged d (BadTask i) refl

  pub task_there : v ≡ Ok tt → i < k.count → JudgeTaskIs n k i (Ok tt)
  task_there = judged_there 9 tasks_alone k.count i (first_bad_task n k.count k.partition k.gap k.cost) v judged

-- what a good verdict says
module _ (n : ℕ) (k : Tasks) (i : ℕ) (v : Result Unit Refusal) (judged : JudgeTaskIs n k i v) (d : v ≡ Ok tt) where
  pub asked_tasks : TasksInRange n k.count k.partition k.gap k.cost
  asked_tasks = (asked_good 9 tasks_alone k.count i (first_bad_task n k.count k.partition k.gap k.cost) v judged d).0

  pub asked_there : i < k.count
  asked_there = (asked_good 9 tasks_alone k.count i (first_bad_task n k.count k.partition k.gap k.cost) v judged d).1
