-- What the functions of this crate promise of their answer r and the lent buffer, which is `last` after it.
use Rattle.std.specs.Prelude.{ℕ, ◌≡◌, cond, List, [], ◌∷◌, leb, eqb, length}
use Rattle.std.proofs.Math.Option.{Option, some, none}
use Rattle.std.specs.declared.option.Option.{Option as Found}
use Rattle.std.specs.declared.result.Result.{Result}
use Rattle.std.specs.declared.result.Result.TheVariants.{Ok, Err}
use Rattle.rules.specs.Records.{table_bad}
use Rattle.scheduler.specs.States.{state_bad}
use Rattle.rules.specs.declared.Pairs.{Pairs}
use Rattle.rules.specs.Refusals.{Refused, refused_as, Ground, ground, malformed, short_buffer, refusal}
use Rattle.file_rules.specs.MeterFile.{over_limit}
use Rattle.file_rules.specs.Printers.{event_line, release_line}
use Rattle.rules.specs.declared.Refusal.{Refusal}
use Rattle.rules.specs.declared.Table.{Table}
use Rattle.verdicts.specs.Outcome.{Outcome, refused, gives}
use Rattle.verdicts.specs.Verdicts.{verdict_as}
use Rattle.scheduler.specs.declared.State.{State}
use Rattle.lines.specs.Lines.{bytes_of}
use Rattle.basis.specs.Words.{onto}
use Rattle.lines.specs.declared.Line.{Line}
use Rattle.replay.specs.Promises.{event_as}
use Rattle.replay.specs.declared.Event.{Event}
use Rattle.schedule_lines.specs.Coming.{Coming, ticks_on, plain, event_coming, coming}
use Rattle.schedule_lines.specs.declared.Cursor.{Cursor}
use Rattle.schedule_lines.specs.declared.Printed.{Printed}
-- a line of so many bytes, and what comes next; or refused
pub use Rattle.lines.specs.Lines.{OneLine, made_as}

-- a state after a call, what it made, and the buffer
pub record Printing : Type 0 where
  pub after : Pairs
  pub says : Outcome (OneLine Cursor)
  pub buffer : List ℕ

-- after a refusal the state is the one that was given
abbrev pub printed_as : State → Result Printed Refusal → List ℕ → Printing
printed_as s (Ok r) buffer = record { after = r.state.pairs; says = made_as (Ok r.made); buffer = buffer }
printed_as s (Err r) buffer = record { after = s.pairs; says = made_as (Err r); buffer = buffer }

-- "Nothing is written to lent memory on a refusal and the state stays."
unfoldable pub printing : Option Refused → Pairs → Coming → List ℕ → Printing
printing none before c buffer = record { after = c.after; says = gives (record { length = length c.line; next = c.next }); buffer = onto c.line buffer }
printing (some r) before c buffer = record { after = before; says = refused r; buffer = buffer }

-- ---- promises
module _ (t : Table) (s : State) where
  -- what is against a line: 8, 1, 3, 7 and 6
  abbrev pub against : Coming → List ℕ → List Ground
  against c buffer = malformed c.fault ∷ table_bad t ∷ state_bad t s ∷ short_buffer (length c.line) (length buffer) ∷ ground 6 c.inactive ∷ []

  -- one line
  abbrev pub OneLineIs : Coming → List ℕ → Result Printed Refusal → List ℕ → Type 0
  OneLineIs c buffer r last = printed_as s r last ≡ printing (refusal (against c buffer)) s.pairs c buffer

  -- what is against the file's size, the table and the state: 8, 1 and 3
  abbrev pub SizeJudgedIs : List ℕ → Result Unit Refusal → Type 0
  SizeJudgedIs file v = verdict_as v ≡ refusal (malformed (over_limit file) ∷ table_bad t ∷ state_bad t s ∷ [])

  abbrev pub PlainIs : List ℕ → Line → Found Cursor → List ℕ → Result Printed Refusal → List ℕ → Type 0
  PlainIs file l next = OneLineIs (plain file s.pairs (bytes_of l) next)

  abbrev pub EventIs : List ℕ → ℕ → ℕ → List ℕ → Result Printed Refusal → List ℕ → Type 0
  EventIs file at ticks = OneLineIs (event_coming file t s.pairs at ticks)

  -- the next line: refusals 8, 1, 3, 7 and 6
  abbrev pub ScheduleLineIs : List ℕ → Cursor → List ℕ → Result Printed Refusal → List ℕ → Type 0
  ScheduleLineIs file c = OneLineIs (coming file t s.pairs c)

-- "7 .. 6": of a refusal 6, that the buffer is too short for the line that it would have
abbrev pub with_seven : ℕ → ℕ → Refused → Refused
with_seven ticks room r =
    let needed : ℕ = length (release_line ticks r.second) in
    cond (eqb r.number 6) (cond (leb needed room) r (record { number = 7; second = needed })) r

-- why there is no event
abbrev pub RefusedIs : ℕ → Refusal → ℕ → Refusal → Type 0
RefusedIs ticks why room r = refused_as r ≡ with_seven ticks room (refused_as why)

-- the line of an event, and the ticks after it
abbrev pub ToldIs : Event → ℕ → Line × ℕ → Type 0
ToldIs event ticks r = (bytes_of r.0 ≡ event_line ticks (event_as event)) × (r.1 ≡ ticks_on ticks (event_as event))
