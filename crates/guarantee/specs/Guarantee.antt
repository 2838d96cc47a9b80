-- The guarantee, clause by clause: quotation marks enclose what is promised of this scheduler. The proofs are in proofs/Guaranteed.antt.
use Rattle.std.specs.Prelude.{ℕ, ◌+◌, ◌≤◌, ◌<◌, true, List, [], ◌∷◌, ◌++◌, ◌≡◌}
use Rattle.basis.specs.Words.{◌!◌}
use Rattle.rules.specs.Numbers.{TableInRange, StateInRange}
use Rattle.rules.specs.declared.Pairs.{Pairs}
use Rattle.rules.specs.Admission.{Admitted}
use Rattle.rules.specs.StandingTest.{Stands}
use Rattle.rules.specs.FreshStart.{fresh_start}
use Rattle.rules.specs.Tick.{spend, replenishes}
use Rattle.guarantee.specs.Histories.{Event, tick_to, Scheduler, scheduler, all_allowed, after, ticks_run, ticks_given_up, EndsReplenished, ToTheNext}

-- "nothing is left of its old budget": nothing once the pick has lost its tick, just before b becomes B
abbrev pub NothingLeft : Pairs → ℕ → ℕ → Type 0
NothingLeft s pick h = spend s.b pick ! h ≡ 0

module _ (n : ℕ) (T B : List ℕ) where
  -- 01's scheduler over this table, "that stays fixed"
  abbrev ours : Scheduler
  ours = scheduler n T B

  -- "any state that passes the standing test": one that 01 would take, and that stands
  pub record StandingState (s : Pairs) : Type 0 where
    pub in_range : StateInRange n T B s.b s.o
    pub stands : Stands n T B s.b s.o

  -- "Let ticks and allowed releases follow in any order, each tick going to a member of the list of that moment."
  abbrev pub Follows : Pairs → List Event → Type 0
  Follows s history = all_allowed ours s history ≡ true

  -- the state that it leads to
  abbrev pub state_after : Pairs → List Event → Pairs
  state_after = after ours

  -- "the ticks it ran and the ticks it gave up add up to exactly its budget"
  abbrev pub AddsUp : ℕ → Pairs → List Event → Type 0
  AddsUp h s period = ticks_run ours h s period + ticks_given_up ours h s period ≡ B ! h

  module _ (phase : List ℕ) where
    -- "Take an admitted table": one that 01 would take, and that is admitted
    pub record AdmittedTable : Type 0 where
      pub in_range : TableInRange n T B phase
      pub admitted : Admitted n T B

    -- what is guaranteed of every partition h
    pub record Guarantee : Type 0 where
      -- (a) the standing test holds after every event: a history may end with any
      pub keeps_standing : (s : Pairs) (history : List Event) → StandingState s → Follows s history → StandingState (state_after s history)
      -- (b) "Then at each replenishment of a program nothing is left of its old budget,"
      pub nothing_left : (s : Pairs) (history : List Event) (pick h : ℕ) → StandingState s → Follows s (history ++ tick_to pick ∷ []) → h < n
          → replenishes (state_after s history).o h ≡ true
          → NothingLeft (state_after s history) pick h
      -- (c) "and over each whole period from one replenishment to the next the ticks it ran and the ticks it gave up add up to exactly its budget."
      pub whole_period : (s : Pairs) (before period : List Event) (h : ℕ) → StandingState s → Follows s (before ++ period) → h < n
          → EndsReplenished ours h s before
          → ToTheNext ours h (state_after s before) period
          → AddsUp h (state_after s before) period
      -- (d) "A fresh start of an admitted table passes the standing test."
      pub fresh_stands : StandingState (fresh_start n T B phase)
      -- (e) "The start counts as the replenishment of each phase 0 partition": so its first period is whole too
      pub first-period : (period : List Event) (h : ℕ) → Follows (fresh_start n T B phase) period → h < n
          → phase ! h ≡ 0
          → ToTheNext ours h (fresh_start n T B phase) period
          → AddsUp h (fresh_start n T B phase) period
      -- (f) in a standing state no partition has more ticks left than there are until its replenishment
      pub in_time : (s : Pairs) (h : ℕ) → StandingState s → h < n → s.b ! h ≤ s.o ! h

-- and it is guaranteed of every admitted table
abbrev pub Guaranteed : Type 0
Guaranteed = (n : ℕ) (T B phase : List ℕ) → AdmittedTable n T B phase → Guarantee n T B phase
