-- A log of six calls, one of them refused, worked by hand: every promise holds of it, and this is its history.
use Prim.Native.Nat.{ℕ}
use mathlib.Core.List.{List, [], ◌∷◌}
use mathlib.Core.Path.{◌≡◌, refl}
use Rattle.rules.specs.Candidates.{idle}
use Rattle.std.specs.declared.result.Result.TheVariants.{Ok, Err}
use Rattle.rules.specs.declared.Table.{Table}
use Rattle.rules.specs.declared.Refusal.TheVariants.{NotListed}
use Rattle.guarantee.specs.Histories.{tick_to, release_of}
use Rattle.guarantee.specs.Losses.{two}
use Rattle.verdicts.specs.Outcome.{unless_refused}
use Rattle.scheduler.specs.Promises.{change, FreshIs}
use Rattle.scheduler.specs.declared.State.{State}
use Rattle.runs.specs.Promises.{stepped as step, runs}
use Rattle.rules.specs.Worked.{worked}
use Rattle.calls.specs.Calls.{Call, decided, stepped, ran, ticked, released, Promised, leaves, events, AllPromised, leaves_after, history}

-- 01's first table, (4,1) and (6,2)
abbrev pub table : Table
table = record { count = 2; period = two 4 6; budget = two 1 2; phase = two 0 0 }

abbrev state : ℕ → ℕ → ℕ → ℕ → State
state b₀ o₀ b₁ o₁ = record { pairs = record { b = two b₀ b₁; o = two o₀ o₁ } }

-- its fresh start
abbrev pub start : State
start = state 1 4 2 6

abbrev pub calls : List Call
calls =
    -- two ticks by words, into a buffer of three bytes: to 1, and to idle
    ran (20000 ∷ 40000 ∷ []) (7 ∷ 7 ∷ 7 ∷ []) (Ok (state 1 2 1 4)) (1 ∷ 255 ∷ 7 ∷ [])
    -- a decision, and its tick: idle
    ∷ decided (60000 ∷ []) (Ok 255)
    ∷ ticked 255 (Ok (state 1 1 1 3))
    -- a tick to 1 is refused now: "list is 0 alone"
    ∷ ticked 1 (Err (NotListed 1))
    -- 1 gives up its last tick, and a step goes to 0, which is replenished
    ∷ released 1 (Ok (state 1 1 0 3))
    ∷ stepped 5 (Ok (record { state = state 1 4 0 2; pick = 0 }))
    ∷ []

pub starts : FreshIs table (state 0 0 0 0) (Ok start)
unfolding worked change
starts = refl

pub promised : AllPromised table start calls
unfolding worked unless_refused change step runs Promised leaves AllPromised
promised = (refl, (refl, (refl, (refl, (refl, (refl, tt))))))

-- what happened, and the state that it left
pub happened : history calls ≡ tick_to 1 ∷ tick_to idle ∷ tick_to idle ∷ release_of 1 ∷ tick_to 0 ∷ []
unfolding events history
happened = refl

pub left : leaves_after start calls ≡ state 1 4 0 2
unfolding leaves leaves_after
left = refl
