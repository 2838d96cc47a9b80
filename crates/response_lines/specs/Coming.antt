-- What comes at a cursor: the line, and what is after it.
use Rattle.std.specs.Prelude.{ℕ, ◌+◌, cond, List, eqb}
use Rattle.std.proofs.Math.Option.{Option}
use Rattle.std.specs.declared.option.Option.{Option as Found}
use Rattle.std.specs.declared.option.Option.TheVariants.{Some, None}
use Rattle.rules.specs.Records.{tasks_or_index_bad, tasks_bad}
use Rattle.file_rules.specs.Printers.{response_header, end_line, row_of}
use Rattle.rules.specs.declared.Table.{Table}
use Rattle.rules.specs.declared.Tasks.{Tasks}
use Rattle.response_lines.specs.declared.Cursor.{Cursor}
use Rattle.response_lines.specs.declared.Cursor.TheVariants as cursor

-- where 9 applies, if it does, the line, and the cursor after it
pub record Coming : Type 0 where
  pub fault : Option ℕ
  pub line : List ℕ
  pub next : Found Cursor

module _ (t : Table) (k : Tasks) where
  -- a line that no task makes
  abbrev pub plain : List ℕ → Found Cursor → Coming
  plain line next = record { fault = (tasks_bad t k).applies; line = line; next = next }

  -- the row of task i, which must be there
  abbrev pub row : ℕ → Coming
  row i =
      record {
        fault = (tasks_or_index_bad t k i).applies;
        line = row_of t k i;
        next = Some (cursor.Task (i + 1));
      }

  -- the header, the row of a task or, after the last one, the end with the count
  unfoldable pub coming : Cursor → Coming
  coming cursor.Header = plain response_header (Some (cursor.Task 0))
  coming (cursor.Task i) = cond (eqb i k.count) (plain (end_line k.count) None) (row i)
