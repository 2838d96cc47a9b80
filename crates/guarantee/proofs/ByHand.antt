-- A history worked by hand, with a whole period, a release in it, and its sums.
use mathlib.Core.List.{List, [], ◌∷◌}
use mathlib.Core.Path.{refl}
use lib.ListN.{take}
use Rattle.basis.specs.Rows.{Row, ◌is◌, Hold, number, test}
use Rattle.rules.specs.declared.Pairs.{Pairs}
use Rattle.rules.specs.FreshStart.{fresh_start}
use Rattle.rules.specs.Candidates.{idle}
use Rattle.rules.specs.Tick.{spend}
use Rattle.rules.specs.Sums.{T₁, B₁}
use Rattle.laws.proofs.Admission.{admitted_exactly}
use Rattle.guarantee.proofs.Worked.{history_worked}
use Rattle.guarantee.specs.Histories.{Event, tick_to, release_of, Scheduler, scheduler, allowed, all_allowed, after, ends_with, replenishment, ticks_run, ticks_given_up, replenishments, ToTheNext}
use Rattle.guarantee.specs.Guarantee.{NothingLeft, Follows, AddsUp, AdmittedTable, StandingState}

-- 01's first table, (4,1) and (6,2), from its fresh start: the first period of partition 1, in which it runs a tick and gives one up
abbrev scheduler₁ : Scheduler
scheduler₁ = scheduler 2 T₁ B₁

abbrev pub start : Pairs
start = fresh_start 2 T₁ B₁ []

abbrev pub period : List Event
period = tick_to 1 ∷ tick_to 0 ∷ release_of 1 ∷ tick_to idle ∷ tick_to idle ∷ tick_to 0 ∷ tick_to idle ∷ []

-- 01's tick 3: "list is 0 alone"
abbrev tick3 : Pairs
tick3 = record { b = 1 ∷ 1 ∷ []; o = 1 ∷ 3 ∷ [] }

abbrev pub shown : List Row
shown =
    -- every event is allowed at its moment
    (test (all_allowed scheduler₁ start period) is 1 ∷ [])
    -- partition 1 runs a tick and gives one up: 2 in all, its budget
    ∷ (number (ticks_run scheduler₁ 1 start period) is 1 ∷ [])
    ∷ (number (ticks_given_up scheduler₁ 1 start period) is 1 ∷ [])
    -- it is replenished once, at the end; partition 0 after four ticks
    ∷ (number (replenishments scheduler₁ 1 start period) is 1 ∷ [])
    ∷ (test (ends_with scheduler₁ (replenishment 1) start period) is 1 ∷ [])
    ∷ (test (ends_with scheduler₁ (replenishment 0) start (take 5 period)) is 1 ∷ [])
    ∷ (test (ends_with scheduler₁ (replenishment 0) start period) is 0 ∷ [])
    ∷ (number (ticks_run scheduler₁ 0 start period) is 2 ∷ [])
    -- what is left of each pair before the last tick, and after it
    ∷ (take 2 (after scheduler₁ start (take 6 period)).b is 0 ∷ 0 ∷ [])
    ∷ (take 2 (after scheduler₁ start (take 6 period)).o is 3 ∷ 1 ∷ [])
    ∷ (take 2 (after scheduler₁ start period).b is 0 ∷ 2 ∷ [])
    ∷ (take 2 (after scheduler₁ start period).o is 2 ∷ 6 ∷ [])
    -- a tick to an active partition that isn't in the list is not allowed; nor is idle's, nor a release of what isn't there or has nothing
    ∷ (test (allowed scheduler₁ tick3 (tick_to 0)) is 1 ∷ [])
    ∷ (test (allowed scheduler₁ tick3 (tick_to 1)) is 0 ∷ [])
    ∷ (test (allowed scheduler₁ tick3 (tick_to idle)) is 0 ∷ [])
    ∷ (test (allowed scheduler₁ tick3 (release_of 1)) is 1 ∷ [])
    ∷ (test (allowed scheduler₁ tick3 (release_of 2)) is 0 ∷ [])
    ∷ (test (all_allowed scheduler₁ tick3 (release_of 1 ∷ release_of 1 ∷ [])) is 0 ∷ [])
    ∷ []

pub shown_hold : Hold shown
unfolding history_worked
shown_hold = refl

-- the guarantee's premises are met here: the table is admitted, the state stands, every event is allowed, and the period is whole
pub record Met : Type 0 where
  pub table : AdmittedTable 2 T₁ B₁ []
  pub state : StandingState 2 T₁ B₁ start
  pub follows : Follows 2 T₁ B₁ start period
  pub whole : ToTheNext (scheduler 2 T₁ B₁) 1 start period

pub met : Met
unfolding history_worked
met =
    record {
      table = record { in_range = refl; admitted = (admitted_exactly T₁ B₁ 2).0 refl };
      state = record { in_range = record { budgets = refl; offsets = refl; pairs = refl }; stands = refl };
      follows = refl;
      whole = record { last = refl; only = refl };
    }

-- and what it then says of the period is just what was counted
pub shown_adds_up : AddsUp 2 T₁ B₁ 1 start period
unfolding history_worked
shown_adds_up = refl

-- at tick 3 partition 0 has a tick left and is replenished: it runs that tick, and nothing is left
pub shown_nothing_left : NothingLeft tick3 0 0
unfolding spend
shown_nothing_left = refl
