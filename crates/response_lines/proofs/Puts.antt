-- A line that is put into the buffer, and what is against it.
use Prim.Native.Nat.{ℕ}
use mathlib.Core.Path.{◌≡◌, refl, sym, ◌∙◌, ap}
use mathlib.Core.List.{List, [], ◌∷◌}
use mathlib.Core.Option.{Option, some, none}
use lib.ListN.{length}
use Rattle.std.specs.declared.option.Option.{Option as Found}
use Rattle.std.specs.declared.result.Result.{Result}
use Rattle.std.specs.declared.result.Result.TheVariants.{Ok, Err}
use Rattle.rules.specs.Records.{table_bad}
use Rattle.rules.specs.Refusals.{Refused, refused_as, ground, short_buffer, refusal}
use Rattle.rules.specs.declared.Refusal.{Refusal}
use Rattle.rules.specs.declared.Table.{Table}
use Rattle.rules.specs.declared.Tasks.{Tasks}
use Rattle.laws.proofs.Refusals.{table_then_tasks, row_first, refused-first, refused_then}
use Rattle.verdicts.proofs.Verdicts.{verdict_refused, verdict_good, judged_early, judged_later}
use Rattle.ranges.specs.Promises.{JudgeTableIs}
use Rattle.tasks.specs.Promises.{JudgeTasksIs}
use Rattle.lines.specs.Lines.{bytes_of}
use Rattle.lines.specs.Promises.{printing, PutLineIs}
use Rattle.lines.specs.declared.Line.{Line}
use Rattle.lines.specs.declared.Made.{Made}
use Rattle.response_lines.specs.Coming.{Coming, plain}
use Rattle.response_lines.specs.Promises.{OneLineIs, TasksJudgedIs, PlainIs}
use Rattle.response_lines.specs.declared.Cursor.{Cursor}

-- ---- 1 before 9
module _ (t : Table) (k : Tasks) (v : Result Unit Refusal) (e : JudgeTableIs t v) where
  pub table_stops : (r : Refusal) → v ≡ Err r → TasksJudgedIs t k (Err r)
  table_stops r d = judged_early (table_then_tasks _ _) v e r d

  pub tasks_decide : v ≡ Ok tt → (next : Result Unit Refusal) → JudgeTasksIs t.count k next → TasksJudgedIs t k next
  tasks_decide d next f = judged_later (table_then_tasks _ _) v e next d f

-- ---- 1 and 9 before 7
module _ (t : Table) (k : Tasks) (c : Coming) (buffer : List ℕ) where
  pub line_refused : (q : Refusal) → refusal (table_bad t ∷ ground 9 c.fault ∷ []) ≡ some (refused_as q) → OneLineIs t k c buffer (Err q) buffer
  unfolding printing
  line_refused q why = ap (λ (o : Option Refused). printing o c.line c.next buffer) (sym (refused-first (row_first _ _ _) (refused_as q) why))

  pub line_put : refusal (table_bad t ∷ ground 9 c.fault ∷ []) ≡ none → (l : Line) → bytes_of l ≡ c.line
      → (r : Result (Made Cursor) Refusal) (last : List ℕ) → PutLineIs l c.next buffer r last → OneLineIs t k c buffer r last
  line_put fine l same r last f =
      f
      ∙ ap (λ (bytes : List ℕ). printing (refusal (short_buffer (length bytes) (length buffer) ∷ [])) bytes c.next buffer) same
      ∙ ap (λ (o : Option Refused). printing o c.line c.next buffer) (sym (refused_then (row_first _ _ _) fine))

-- ---- a line that no task makes
module _ (t : Table) (k : Tasks) (l : Line) (next : Found Cursor) (buffer : List ℕ) (v : Result Unit Refusal) (e : TasksJudgedIs t k v) where
  pub plain_refused : (q : Refusal) → v ≡ Err q → PlainIs t k l next buffer (Err q) buffer
  plain_refused q d = line_refused t k (plain t k (bytes_of l) next) buffer q (sym e ∙ verdict_refused v q d)

  pub plain_put : v ≡ Ok tt → (r : Result (Made Cursor) Refusal) (last : List ℕ) → PutLineIs l next buffer r last → PlainIs t k l next buffer r last
  plain_put d = line_put t k (plain t k (bytes_of l) next) buffer (sym e ∙ verdict_good v d) l refl
