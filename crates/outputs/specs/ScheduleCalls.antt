-- The calls that print a schedule: the file is judged, the state starts fresh, and then line by line until there is no more.
use Rattle.std.specs.Prelude.{ℕ, ◌≤◌, ◌≡◌, List, ◌++◌, length, take}
use Rattle.std.specs.declared.option.Option.TheVariants.{Some, None}
use Rattle.std.specs.declared.result.Result.{Result}
use Rattle.std.specs.declared.result.Result.TheVariants.{Ok, Err}
use Rattle.rules.specs.declared.Refusal.{Refusal}
use Rattle.rules.specs.declared.Table.{Table}
use Rattle.scheduler.specs.Promises.{FreshIs}
use Rattle.scheduler.specs.declared.State.{State}
use Rattle.whole_file.specs.Promises.{JudgeFileIs}
use Rattle.whole_file.specs.declared.MeterFile.{MeterFile}
use Rattle.lines.specs.Lines.{longest_line}
use Rattle.schedule_lines.specs.Promises.{ScheduleLineIs}
use Rattle.schedule_lines.specs.declared.Cursor.{Cursor}
use Rattle.schedule_lines.specs.declared.Cursor.TheVariants as cursor
use Rattle.schedule_lines.specs.declared.Printed.{Printed}
use Rattle.outputs.specs.RefusalCall.{RefusedWith}

-- one call for a line, into a buffer that holds any line
pub record Call (file : List ℕ) (t : Table) (s : State) (c : Cursor) : Type 0 where
  pub buffer : List ℕ
  pub room : longest_line ≤ length buffer
  pub answer : Result Printed Refusal
  pub last : List ℕ
  pub is : ScheduleLineIs t s file c buffer answer last

-- calls from a state and a cursor on, and what they write, joined
pub data Lines (file : List ℕ) (t : Table) : State → Cursor → List ℕ → Type 0 where
  -- a line, and the calls after it
  goes_on : {s : State} {c : Cursor} {rest : List ℕ} (call : Call file t s c) (p : Printed) (after : Cursor) → call.answer ≡ Ok p → p.made.next ≡ Some after
      → Lines file t p.state after rest → Lines file t s c (take p.made.length call.last ++ rest)
  -- the last line
  ends : {s : State} {c : Cursor} (call : Call file t s c) (p : Printed) → call.answer ≡ Ok p → p.made.next ≡ None → Lines file t s c (take p.made.length call.last)
  -- a refusal, and its line
  stops : {s : State} {c : Cursor} {output : List ℕ} (call : Call file t s c) (q : Refusal) → call.answer ≡ Err q → RefusedWith q output → Lines file t s c output

-- a schedule, printed: a refused file has the line of its refusal, any other its header and what follows
pub data SchedulePrinted (file : List ℕ) : List ℕ → Type 0 where
  refused : {output : List ℕ} (q : Refusal) → JudgeFileIs file (Err q) → RefusedWith q output → SchedulePrinted file output
  printed : {output : List ℕ} (m : MeterFile) → JudgeFileIs file (Ok m)
      → (old start : State) → FreshIs m.table old (Ok start)
      → Lines file m.table start (cursor.Header m.events) output → SchedulePrinted file output
