-- What the functions of this crate promise of their answer r and the lent buffer, which is `last` after it.
use Rattle.std.specs.Prelude.{ℕ, ◌≡◌, List, [], ◌∷◌, length}
use Rattle.std.proofs.Math.Option.{Option}
use Rattle.std.specs.declared.option.Option.{Option as Found}
use Rattle.std.specs.declared.result.Result.{Result}
use Rattle.rules.specs.Records.{table_bad, tasks_bad}
use Rattle.rules.specs.Refusals.{Refused, Ground, ground, short_buffer, refusal}
use Rattle.rules.specs.declared.Refusal.{Refusal}
use Rattle.rules.specs.declared.Table.{Table}
use Rattle.rules.specs.declared.Tasks.{Tasks}
use Rattle.verdicts.specs.Verdicts.{verdict_as}
use Rattle.lines.specs.Lines.{bytes_of}
use Rattle.lines.specs.Promises as line
use Rattle.lines.specs.declared.Line.{Line}
use Rattle.lines.specs.declared.Made.{Made}
use Rattle.response_lines.specs.Coming.{Coming, plain, row, coming}
use Rattle.response_lines.specs.declared.Cursor.{Cursor}
-- what a call made, and the buffer after it
pub use Rattle.lines.specs.Lines.{OneLine, made_as}
pub use Rattle.lines.specs.Promises.{Printing, printed_as}

-- "Nothing is written to lent memory on a refusal"
abbrev pub printing : Option Refused → Coming → List ℕ → Printing Cursor
printing refused c buffer = line.printing refused c.line c.next buffer

-- ---- promises
module _ (t : Table) (k : Tasks) where
  -- what is against a line: 1, 9 and 7
  abbrev pub against : Coming → List ℕ → List Ground
  against c buffer = table_bad t ∷ ground 9 c.fault ∷ short_buffer (length c.line) (length buffer) ∷ []

  -- one line
  abbrev pub OneLineIs : Coming → List ℕ → Result (Made Cursor) Refusal → List ℕ → Type 0
  OneLineIs c buffer r last = printed_as r last ≡ printing (refusal (against c buffer)) c buffer

  -- what is against the table and the tasks: 1 and 9
  abbrev pub TasksJudgedIs : Result Unit Refusal → Type 0
  TasksJudgedIs v = verdict_as v ≡ refusal (table_bad t ∷ tasks_bad t k ∷ [])

  -- a line that no task makes
  abbrev pub PlainIs : Line → Found Cursor → List ℕ → Result (Made Cursor) Refusal → List ℕ → Type 0
  PlainIs l next = OneLineIs (plain t k (bytes_of l) next)

  -- the row of task i
  abbrev pub RowIs : ℕ → List ℕ → Result (Made Cursor) Refusal → List ℕ → Type 0
  RowIs i = OneLineIs (row t k i)

  -- the next line: refusals 1, 9 and 7
  abbrev pub ResponseLineIs : Cursor → List ℕ → Result (Made Cursor) Refusal → List ℕ → Type 0
  ResponseLineIs c = OneLineIs (coming t k c)
