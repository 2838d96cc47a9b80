-- What holds between two calls of the schedule printer, and what is still to be written then.
use Rattle.std.specs.Prelude.{ℕ, suc, ◌-◌, ◌≤◌, ◌≡◌, List, ◌++◌, length}
use Rattle.std.proofs.Math.Option.{none}
use Rattle.rules.specs.Numbers.{TableInRange, StateInRange}
use Rattle.rules.specs.declared.Pairs.{Pairs}
use Rattle.file_rules.specs.MeterFile.{most_bytes, meter_kinds, Reading, read_from}
use Rattle.file_rules.specs.Printers.{schedule_header, schedule_from}
use Rattle.rules.specs.declared.Table.{Table}
use Rattle.schedule_lines.specs.declared.Cursor.{Cursor}
use Rattle.schedule_lines.specs.declared.Cursor.TheVariants as cursor

module _ (file : List ℕ) (t : Table) where
  -- the events from an offset on
  unfoldable pub from : ℕ → Reading
  from at = read_from meter_kinds file (length file) 3 at

  -- a moment of a run: the state is in range, and all records from the offset on are sound
  pub record Moment (s : Pairs) (at ticks : ℕ) : Type 0 where
    pub small : length file ≤ most_bytes
    pub table : TableInRange t.count t.period t.budget t.phase
    pub state : StateInRange t.count t.period t.budget s.b s.o
    pub inside : at ≤ length file
    pub sound : (from at).fault ≡ none
    pub few : ticks ≤ at

  -- what is still to be written
  unfoldable pub still : Pairs → ℕ → ℕ → List ℕ
  still s at ticks = schedule_from t file s ticks (from at).records

  -- what is still to be written at a cursor, and what holds there
  unfoldable pub to_write : Pairs → Cursor → List ℕ
  to_write s (cursor.Header events) = schedule_header ++ still s events 0
  to_write s (cursor.Record at ticks) = still s at ticks

  unfoldable pub At : Pairs → Cursor → Type 0
  At s (cursor.Header events) = Moment s events 0
  At s (cursor.Record at ticks) = Moment s at ticks

  -- how far a cursor is from the end
  unfoldable pub left : Cursor → ℕ
  left (cursor.Header events) = suc (suc (length file))
  left (cursor.Record at ticks) = suc (length file) - at
