-- What comes at a cursor: the line, and what is after it.
use Rattle.std.specs.Prelude.{ℕ, ◌+◌, cond, List, eqb, length}
use Rattle.std.proofs.Math.Option.{Option, none}
use Rattle.std.specs.declared.option.Option.{Option as Found}
use Rattle.std.specs.declared.option.Option.TheVariants.{Some, None}
use Rattle.rules.specs.declared.Pairs.{Pairs}
use Rattle.file_rules.specs.MeterFile.{kind_at, next_at, meter_kinds, over_limit, malformed_at}
use Rattle.file_rules.specs.Events.{Event, ticked, released, event_at, after, inactive}
use Rattle.file_rules.specs.Printers.{schedule_header, end_line, event_line}
use Rattle.rules.specs.declared.Table.{Table}
use Rattle.schedule_lines.specs.declared.Cursor.{Cursor}
use Rattle.schedule_lines.specs.declared.Cursor.TheVariants as cursor

-- the line, the state and the cursor after it, and where 8 and 6 apply, if they do
pub record Coming : Type 0 where
  pub fault : Option ℕ
  pub line : List ℕ
  pub after : Pairs
  pub inactive : Option ℕ
  pub next : Found Cursor

-- one tick more; the largest count of 64 bits stays
unfoldable pub counted_on : ℕ → ℕ
counted_on ticks = cond (eqb ticks 18446744073709551615) ticks (ticks + 1)

-- the ticks after an event
abbrev pub ticks_on : ℕ → Event → ℕ
ticks_on ticks (ticked pick) = counted_on ticks
ticks_on ticks (released index) = ticks

-- a line that no record makes
abbrev pub plain : List ℕ → Pairs → List ℕ → Found Cursor → Coming
plain file s line next = record { fault = over_limit file; line = line; after = s; inactive = none; next = next }

-- the line of the record at an offset, after so many ticks
abbrev pub event_coming : List ℕ → Table → Pairs → ℕ → ℕ → Coming
event_coming file t s at ticks =
    let e : Event = event_at t s file (kind_at file at) at in
    record {
      fault = malformed_at meter_kinds 3 file at;
      line = event_line ticks e;
      after = after t s e;
      inactive = inactive t s e;
      next = Some (cursor.Record (next_at file at) (ticks_on ticks e));
    }

-- the header, the line of a record or, at the file's end, the end
unfoldable pub coming : List ℕ → Table → Pairs → Cursor → Coming
coming file t s (cursor.Header events) = plain file s schedule_header (Some (cursor.Record events 0))
coming file t s (cursor.Record at ticks) = cond (eqb at (length file)) (plain file s (end_line ticks) None) (event_coming file t s at ticks)
