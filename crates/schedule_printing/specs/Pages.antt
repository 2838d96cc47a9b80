-- What a page of a schedule promises: its bytes and what is to come are all that was to be written where it began.
use Rattle.std.specs.Prelude.{ℕ, ◌≤◌, ◌<◌, ◌≡◌, List, ◌++◌, length, take}
use Rattle.std.specs.declared.option.Option.{Option}
use Rattle.std.specs.declared.option.Option.TheVariants.{Some, None}
use Rattle.std.specs.declared.result.Result.{Result}
use Rattle.std.specs.declared.result.Result.TheVariants.{Ok, Err}
use Rattle.rules.specs.Refusals.{refused_as}
use Rattle.file_rules.specs.Printers.{refused_line}
use Rattle.rules.specs.declared.Refusal.{Refusal}
use Rattle.rules.specs.declared.Table.{Table}
use Rattle.scheduler.specs.declared.State.{State}
use Rattle.schedule_lines.specs.declared.Cursor.{Cursor}
use Rattle.outputs.specs.After.{lines_after}
use Rattle.outputs.specs.ScheduleMoments.{to_write, At, left}
use Rattle.schedule_printing.specs.declared.Page.{Page}

module _ (file : List ℕ) (t : Table) where
  -- what is to come after a page
  unfoldable pub to_come : State → Result (Option Cursor) Refusal → List ℕ
  to_come state (Ok next) = lines_after (to_write file t state.pairs) next
  to_come state (Err why) = refused_line (refused_as why)

  -- lines to come go on at a moment of the run, nearer to the end than the page began
  unfoldable pub Onward : Cursor → State → Result (Option Cursor) Refusal → Type 0
  Onward from state (Ok (Some c)) = At file t state.pairs c × (left file t c < left file t from)
  Onward from state (Ok None) = Unit {0}
  Onward from state (Err why) = Unit {0}

  -- a page from a state and a cursor on, in its buffer
  pub record PageIs (start : State) (from : Cursor) (r : Page) (out : List ℕ) : Type 0 where
    pub within : r.used ≤ length out
    pub bytes : take r.used out ++ to_come r.state r.rest ≡ to_write file t start.pairs from
    pub onward : Onward from r.state r.rest
