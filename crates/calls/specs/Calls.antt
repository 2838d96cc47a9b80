-- Calls of the core, as a log would have them, and the history that they make.
use Rattle.std.specs.Prelude.{ℕ, List, [], ◌∷◌, ◌++◌, map, length, take}
use Rattle.std.specs.Result.{result_unwrap_or}
use Rattle.std.specs.declared.result.Result.{Result}
use Rattle.std.specs.declared.result.Result.TheVariants.{Ok, Err}
use Rattle.rules.specs.declared.Refusal.{Refusal}
use Rattle.rules.specs.declared.Table.{Table}
use Rattle.guarantee.specs.Histories.{Event, tick_to, release_of}
use Rattle.draw.specs.Promises.{DecideIs}
use Rattle.scheduler.specs.Promises.{TickIs, ReleaseIs}
use Rattle.scheduler.specs.declared.State.{State}
use Rattle.runs.specs.Promises.{StepIs, RunIs}
use Rattle.runs.specs.declared.Stepped.{Stepped}

-- a call of decide, step, run, tick or release: what it was given beside the table and the state, and what came back
pub data Call : Type 0 where
  decided : (words : List ℕ) → Result ℕ Refusal → Call
  stepped : (word : ℕ) → Result Stepped Refusal → Call
  ran : (words buffer : List ℕ) → Result State Refusal → (last : List ℕ) → Call
  ticked : (pick : ℕ) → Result State Refusal → Call
  released : (i : ℕ) → Result State Refusal → Call

-- what came back is what the function promises, over the table t and from the state s
unfoldable pub Promised : Table → State → Call → Type 0
Promised t s (decided words r) = DecideIs t s.pairs words r
Promised t s (stepped word r) = StepIs t s word r
Promised t s (ran words buffer r last) = RunIs t s words buffer r last
Promised t s (ticked pick r) = TickIs t s pick r
Promised t s (released i r) = ReleaseIs t s i r

-- the state that a step leaves
abbrev pub stepped_to : State → Result Stepped Refusal → State
stepped_to s (Ok r) = r.state
stepped_to s (Err r) = s

-- the state after the call: a decision has none of its own, and a call that was refused leaves the one that was given
unfoldable pub leaves : State → Call → State
leaves s (decided words r) = s
leaves s (stepped word r) = stepped_to s r
leaves s (ran words buffer r last) = result_unwrap_or r s
leaves s (ticked pick r) = result_unwrap_or r s
leaves s (released i r) = result_unwrap_or r s

-- the events of a call, unless it was refused
abbrev pub if_made : Result State Refusal → List Event → List Event
if_made (Ok after) made = made
if_made (Err r) made = []

abbrev pub picked : Result Stepped Refusal → List Event
picked (Ok r) = tick_to r.pick ∷ []
picked (Err r) = []

-- what happened in the call: of a run, a tick to each pick that stands in the buffer
unfoldable pub events : Call → List Event
events (decided words r) = []
events (stepped word r) = picked r
events (ran words buffer r last) = if_made r (map tick_to (take (length words) last))
events (ticked pick r) = if_made r (tick_to pick ∷ [])
events (released i r) = if_made r (release_of i ∷ [])

-- ---- one call after another
-- each is from the state that the one before left, and gives what its function promises
unfoldable pub AllPromised : Table → State → List Call → Type 0
AllPromised t s [] = Unit {0}
AllPromised t s (c ∷ calls) = Promised t s c × AllPromised t (leaves s c) calls

unfoldable pub leaves_after : State → List Call → State
leaves_after s [] = s
leaves_after s (c ∷ calls) = leaves_after (leaves s c) calls

unfoldable pub history : List Call → List Event
history [] = []
history (c ∷ calls) = events c ++ history calls
