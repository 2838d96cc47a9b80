-- The guarantee of what the code itself does, for all words: over the promises that its functions are proved to keep.
use Rattle.std.specs.Prelude.{ℕ, ◌<◌, true, List, ◌∷◌, ◌++◌, ◌≡◌, IsOk}
use Rattle.std.specs.declared.result.Result.{Result}
use Rattle.std.specs.declared.result.Result.TheVariants.{Ok}
use Rattle.basis.specs.Words.{◌!◌}
use Rattle.rules.specs.Numbers.{StateInRange}
use Rattle.rules.specs.declared.Pairs.{Pairs}
use Rattle.rules.specs.Tick.{replenishes}
use Rattle.rules.specs.declared.Refusal.{Refusal}
use Rattle.rules.specs.declared.Table.{Table}
use Rattle.guarantee.specs.Histories.{Event, tick_to, Scheduler, scheduler, EndsReplenished, ToTheNext}
use Rattle.guarantee.specs.Guarantee.{NothingLeft, AdmittedTable, StandingState, Follows, state_after, AddsUp}
use Rattle.draw.specs.Promises.{DecideIs}
use Rattle.scheduler.specs.Promises.{FreshIs, TickIs}
use Rattle.scheduler.specs.declared.State.{State}
use Rattle.calls.specs.Calls.{Call, AllPromised, leaves_after, history}

-- ---- a table of the code as the guarantee has it
module _ (t : Table) where
  abbrev pub Admits : Type 0
  Admits = AdmittedTable t.count t.period t.budget t.phase

  abbrev pub ours : Scheduler
  ours = scheduler t.count t.period t.budget

  abbrev pub StandsIn : Pairs → Type 0
  StandsIn = StandingState t.count t.period t.budget

  abbrev pub FollowsFrom : Pairs → List Event → Type 0
  FollowsFrom = Follows t.count t.period t.budget

  abbrev pub reached : Pairs → List Event → Pairs
  reached = state_after t.count t.period t.budget

  abbrev pub Exactly : ℕ → Pairs → List Event → Type 0
  Exactly = AddsUp t.count t.period t.budget

module _ (t : Table) (s : State) (calls : List Call) where
  -- from the state s these calls make a history of the guarantee, and what it says of it holds of them
  pub record CodeKeeps : Type 0 where
    -- each tick went to a member of the list of its moment, each release was allowed, and the history leads to the state that the code has
    pub follows : FollowsFrom t s.pairs (history calls)
    pub leads : reached t s.pairs (history calls) ≡ (leaves_after s calls).pairs
    -- the state that the code has passes the standing test
    pub stands : StandsIn t (leaves_after s calls).pairs
    -- "at each replenishment of a program nothing is left of its old budget,"
    pub nothing_left : (before rest : List Event) (pick h : ℕ) → history calls ≡ before ++ tick_to pick ∷ rest → h < t.count
        → replenishes (reached t s.pairs before).o h ≡ true
        → NothingLeft (reached t s.pairs before) pick h
    -- "and over each whole period from one replenishment to the next the ticks it ran and the ticks it gave up add up to exactly its budget."
    pub whole_period : (before period rest : List Event) (h : ℕ) → history calls ≡ before ++ period ++ rest → h < t.count
        → EndsReplenished (ours t) h s.pairs before
        → ToTheNext (ours t) h (reached t s.pairs before) period
        → Exactly t h (reached t s.pairs before) period

  -- and the first period of a partition that is whole at the start
  abbrev pub KeepsFirst : Type 0
  KeepsFirst = (period rest : List Event) (h : ℕ) → history calls ≡ period ++ rest → h < t.count → t.phase ! h ≡ 0
      → ToTheNext (ours t) h s.pairs period
      → Exactly t h s.pairs period

-- from a state that stands over an admitted table, through any calls, refused ones too
abbrev pub StandingCodeKeeps : Type 0
StandingCodeKeeps = (t : Table) (s : State) (calls : List Call) → Admits t → StandsIn t s.pairs → AllPromised t s calls → CodeKeeps t s calls

-- and so from every fresh start that isn't refused
abbrev pub FreshCodeKeeps : Type 0
FreshCodeKeeps = (t : Table) (old start : State) (calls : List Call) → FreshIs t old (Ok start) → AllPromised t start calls
    → CodeKeeps t start calls × KeepsFirst t start calls

-- a tick for what was decided is not refused: so a decision and then its tick, two calls, are a step
abbrev pub DecidedTicks : Type 0
DecidedTicks = (t : Table) (s : State) (words : List ℕ) (pick : ℕ) (r : Result State Refusal) → StateInRange t.count t.period t.budget s.pairs.b s.pairs.o
    → DecideIs t s.pairs words (Ok pick)
    → TickIs t s pick r
    → IsOk r
