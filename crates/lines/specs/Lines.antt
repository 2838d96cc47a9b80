-- A line of the code as 01 has it, and what a call says that writes one.
use Rattle.std.specs.Prelude.{ℕ, List}
use Rattle.std.specs.declared.option.Option.{Option as Found}
use Rattle.std.specs.declared.result.Result.{Result}
use Rattle.rules.specs.Refusals.{refused_as}
use Rattle.file_rules.specs.Printers.{schedule_header, response_header, tick_line, release_line, response_line, end_line, refused_line}
use Rattle.rules.specs.declared.Refusal.{Refusal}
use Rattle.verdicts.specs.Outcome.{Outcome, outcome_as}
use Rattle.lines.specs.declared.Line.{Line}
use Rattle.lines.specs.declared.Line.TheVariants as line
use Rattle.lines.specs.declared.Made.{Made}

-- the bytes of a line
unfoldable pub bytes_of : Line → List ℕ
bytes_of line.ScheduleHeader = schedule_header
bytes_of line.ResponseHeader = response_header
bytes_of (line.Tick ticks pick) = tick_line ticks pick
bytes_of (line.Release ticks index) = release_line ticks index
bytes_of (line.Response partition rank ticks) = response_line partition rank ticks
bytes_of (line.End count) = end_line count
bytes_of (line.Refused r) = refused_line (refused_as r)

-- no line is longer: a buffer as long as this has room for any
abbrev pub longest_line : ℕ
longest_line = 64

-- so many bytes, or refused
abbrev pub written_as : Result ℕ Refusal → Outcome ℕ
written_as = outcome_as (λ n. n)

-- a line of so many bytes, and what comes next
pub record OneLine (C : Type 0) : Type 0 where
  pub length : ℕ
  pub next : Found C

abbrev pub made_as : {C : Type 0} → Result (Made C) Refusal → Outcome (OneLine C)
made_as = outcome_as (λ m. record { length = m.length; next = m.next })
