-- 01's grounds over the records that calls take: a table, and beside it the pairs of a state, or tasks.
use Rattle.std.specs.Prelude.{ℕ, List, [], ◌∷◌}
use Rattle.rules.specs.Refusals.{Ground, bad_table, bad_table_or_index, not_admitted, bad_state, bad_tasks, bad_tasks_or_index}
use Rattle.rules.specs.declared.Table.{Table}
use Rattle.rules.specs.declared.Tasks.{Tasks}

module _ (t : Table) where
  -- 1
  abbrev pub table_bad : Ground
  table_bad = bad_table t.count t.period t.budget t.phase

  -- 1, also for a partition that isn't there
  abbrev pub table_or_index_bad : ℕ → Ground
  table_or_index_bad = bad_table_or_index t.count t.period t.budget t.phase

  -- 2
  abbrev pub unadmitted : Ground
  unadmitted = not_admitted t.count t.period t.budget

  -- 3
  abbrev pub pairs_bad : List ℕ → List ℕ → Ground
  pairs_bad = bad_state t.count t.period t.budget

  -- 9
  abbrev pub tasks_bad : Tasks → Ground
  tasks_bad k = bad_tasks t.count k.count k.partition k.gap k.cost

  -- 9, also for a task that isn't there
  abbrev pub tasks_or_index_bad : Tasks → ℕ → Ground
  tasks_or_index_bad k = bad_tasks_or_index t.count k.count k.partition k.gap k.cost

  -- 1, 9 and 2: what is against a table with its tasks
  abbrev pub tables_bad : Tasks → List Ground
  tables_bad k = table_bad ∷ tasks_bad k ∷ unadmitted ∷ []
