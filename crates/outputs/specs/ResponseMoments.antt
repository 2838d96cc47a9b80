-- What holds between two calls of the response printer, and what is still to be written then.
use Rattle.std.specs.Prelude.{ℕ, zero, suc, ◌+◌, ◌-◌, ◌≤◌, List, ◌++◌}
use Rattle.rules.specs.Numbers.{TableInRange, TasksInRange}
use Rattle.file_rules.specs.Printers.{response_header, end_line, row_of}
use Rattle.rules.specs.declared.Table.{Table}
use Rattle.rules.specs.declared.Tasks.{Tasks}
use Rattle.response_lines.specs.declared.Cursor.{Cursor}
use Rattle.response_lines.specs.declared.Cursor.TheVariants as cursor

-- the task whose row comes at a cursor, or after it
abbrev pub place : Cursor → ℕ
place cursor.Header = 0
place (cursor.Task i) = i

-- how far a cursor is from the end
unfoldable pub rows_left : Tasks → Cursor → ℕ
rows_left k cursor.Header = suc (suc k.count)
rows_left k (cursor.Task i) = suc k.count - i

module _ (t : Table) (k : Tasks) where
  -- the rows of the n tasks from i on, and the end
  unfoldable pub rows_from : ℕ → ℕ → List ℕ
  rows_from i zero = end_line k.count
  rows_from i (suc n) = row_of t k i ++ rows_from (i + 1) n

  -- what is still to be written at a cursor, and what holds there
  unfoldable pub rows_to_write : Cursor → List ℕ
  rows_to_write cursor.Header = response_header ++ rows_from 0 k.count
  rows_to_write (cursor.Task i) = rows_from i (k.count - i)

  pub record RowAt (c : Cursor) : Type 0 where
    pub table : TableInRange t.count t.period t.budget t.phase
    pub tasks : TasksInRange t.count k.count k.partition k.gap k.cost
    pub inside : place c ≤ k.count
