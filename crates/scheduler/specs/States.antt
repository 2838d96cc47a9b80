-- The state as the rules have it, and the rules over a table and a state.
use Rattle.std.specs.Prelude.{ℕ, Bool}
use Rattle.rules.specs.declared.Pairs.{Pairs}
use Rattle.rules.specs.Pick.{decision}
use Rattle.rules.specs.Tick.{tick, tick_allowed}
use Rattle.rules.specs.Refusals.{Ground, not_listed, not_active}
use Rattle.rules.specs.Records.{pairs_bad}
use Rattle.rules.specs.declared.Table.{Table}
use Rattle.scheduler.specs.declared.State.{State}

abbrev pub pairs : State → Pairs
pairs s = s.pairs

-- and back
abbrev pub state_of : Pairs → State
state_of p = record { pairs = p }

module _ (t : Table) (s : State) where
  -- the pick that a word makes
  abbrev pub decision_of : ℕ → ℕ
  decision_of = decision t.count t.period t.budget s.pairs.b s.pairs.o

  -- what a tick for a pick leaves, and whether it is allowed
  abbrev pub tick_of : ℕ → Pairs
  tick_of = tick t.count t.period t.budget s.pairs.b s.pairs.o

  abbrev pub may_tick : ℕ → Bool
  may_tick = tick_allowed t.count t.period t.budget s.pairs.b s.pairs.o

  -- grounds 3, 5 and 6
  abbrev pub state_bad : Ground
  state_bad = pairs_bad t s.pairs.b s.pairs.o

  abbrev pub unlisted : ℕ → Ground
  unlisted = not_listed t.count t.period t.budget s.pairs.b s.pairs.o

  abbrev pub inactive_now : ℕ → Ground
  inactive_now = not_active t.count s.pairs.b
