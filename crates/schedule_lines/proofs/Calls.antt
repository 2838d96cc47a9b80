-- What comes at a cursor is what the call makes.
use Prim.Native.Nat.{ℕ}
use mathlib.Core.Path.{◌≡◌, sym, ap, subst}
use mathlib.Core.List.{List}
use borrow.Author.Tests.{eq-eqb, ne_eqb}
use lib.ListN.{length}
use Rattle.std.specs.declared.option.Option.TheVariants.{Some, None}
use Rattle.std.specs.declared.result.Result.{Result}
use Rattle.file_rules.specs.Printers.{end_line}
use Rattle.rules.specs.declared.Refusal.{Refusal}
use Rattle.rules.specs.declared.Table.{Table}
use Rattle.scheduler.specs.declared.State.{State}
use Rattle.lines.specs.Lines.{bytes_of}
use Rattle.lines.specs.declared.Line.TheVariants as line
use Rattle.schedule_lines.specs.Coming.{Coming, plain, event_coming, coming}
use Rattle.schedule_lines.specs.Promises.{OneLineIs, PlainIs, EventIs, ScheduleLineIs}
use Rattle.schedule_lines.specs.declared.Cursor.{Cursor}
use Rattle.schedule_lines.specs.declared.Cursor.TheVariants as cursor
use Rattle.schedule_lines.specs.declared.Printed.{Printed}

module _ (file : List ℕ) (t : Table) (s : State) (c : Cursor) (buffer : List ℕ) (r : Result Printed Refusal) (last : List ℕ) where
  at_cursor : (d : Coming) → coming file t s.pairs c ≡ d → OneLineIs t s d buffer r last → ScheduleLineIs t s file c buffer r last
  at_cursor d e = subst (λ (x : Coming). OneLineIs t s x buffer r last) (sym e)

  pub header_line : (events : ℕ) → c ≡ cursor.Header events → PlainIs t s file line.ScheduleHeader (Some (cursor.Record events 0)) buffer r last → ScheduleLineIs t s file c buffer r last
  unfolding coming bytes_of
  header_line events e = at_cursor _ (ap (coming file t s.pairs) e)

  module _ (at ticks : ℕ) (e : c ≡ cursor.Record at ticks) where
    pub last_line : at ≡ length file → PlainIs t s file (line.End ticks) None buffer r last → ScheduleLineIs t s file c buffer r last
    unfolding coming bytes_of
    last_line l = at_cursor (plain file s.pairs (end_line ticks) None) (rw (e, eq-eqb at (length file) l))

    pub record_line : (at ≡ length file → ⊥) → EventIs t s file at ticks buffer r last → ScheduleLineIs t s file c buffer r last
    unfolding coming
    record_line l = at_cursor (event_coming file t s.pairs at ticks) (rw (e, ne_eqb at (length file) l))
