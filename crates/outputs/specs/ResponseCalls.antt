-- The calls that print response times: the file is judged, and then line by line until there is no more.
use Rattle.std.specs.Prelude.{ℕ, ◌≤◌, ◌≡◌, List, ◌++◌, length, take}
use Rattle.std.specs.declared.option.Option.TheVariants.{Some, None}
use Rattle.std.specs.declared.result.Result.{Result}
use Rattle.std.specs.declared.result.Result.TheVariants.{Ok, Err}
use Rattle.rules.specs.declared.Refusal.{Refusal}
use Rattle.rules.specs.declared.Table.{Table}
use Rattle.rules.specs.declared.Tasks.{Tasks}
use Rattle.whole_file.specs.Promises.{JudgeFileIs}
use Rattle.whole_file.specs.declared.MeterFile.{MeterFile}
use Rattle.lines.specs.Lines.{longest_line}
use Rattle.lines.specs.declared.Made.{Made}
use Rattle.response_lines.specs.Promises.{ResponseLineIs}
use Rattle.response_lines.specs.declared.Cursor.{Cursor}
use Rattle.response_lines.specs.declared.Cursor.TheVariants as cursor
use Rattle.outputs.specs.RefusalCall.{RefusedWith}

-- one call for a line, into a buffer that holds any line
pub record Call (t : Table) (k : Tasks) (c : Cursor) : Type 0 where
  pub buffer : List ℕ
  pub room : longest_line ≤ length buffer
  pub answer : Result (Made Cursor) Refusal
  pub last : List ℕ
  pub is : ResponseLineIs t k c buffer answer last

-- calls from a cursor on, and what they write, joined
pub data Lines (t : Table) (k : Tasks) : Cursor → List ℕ → Type 0 where
  -- a line, and the calls after it
  goes_on : {c : Cursor} {rest : List ℕ} (call : Call t k c) (made : Made Cursor) (after : Cursor) → call.answer ≡ Ok made → made.next ≡ Some after
      → Lines t k after rest → Lines t k c (take made.length call.last ++ rest)
  -- the last line
  ends : {c : Cursor} (call : Call t k c) (made : Made Cursor) → call.answer ≡ Ok made → made.next ≡ None → Lines t k c (take made.length call.last)
  -- a refusal, and its line
  stops : {c : Cursor} {output : List ℕ} (call : Call t k c) (q : Refusal) → call.answer ≡ Err q → RefusedWith q output → Lines t k c output

-- response times, printed: a refused file has the line of its refusal, any other its header and what follows
pub data ResponsePrinted (file : List ℕ) : List ℕ → Type 0 where
  refused : {output : List ℕ} (q : Refusal) → JudgeFileIs file (Err q) → RefusedWith q output → ResponsePrinted file output
  printed : {output : List ℕ} (m : MeterFile) → JudgeFileIs file (Ok m) → Lines m.table m.tasks cursor.Header output → ResponsePrinted file output
