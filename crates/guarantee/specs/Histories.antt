-- Histories: what happens to a state, tick by tick and release by release, and what is counted in it.
use Rattle.std.specs.Prelude.{ℕ, ◌+◌, Bool, true, false, cond, ◌&&◌, List, [], ◌∷◌, ◌≡◌, eqb}
use Rattle.basis.specs.Words.{◌!◌, has}
use Rattle.rules.specs.declared.Pairs.{Pairs}
use Rattle.rules.specs.Candidates.{candidates, inversion}
use Rattle.rules.specs.Tick.{replenishes, tick}
use Rattle.rules.specs.Release.{release, release_allowed}

-- an event: a tick that goes to a pick (idle is one), or a release of an index
pub data Event : Type 0 where
  tick_to : ℕ → Event
  release_of : ℕ → Event

-- a scheduler, as far as a history shows it: how many partitions it has, the list of a moment, and what a tick does
pub record Scheduler : Type 0 where
  pub count : ℕ
  pub list : Pairs → List ℕ
  pub ticked : Pairs → ℕ → Pairs

-- 01's scheduler of n partitions: its list, and its tick
abbrev pub scheduler : ℕ → List ℕ → List ℕ → Scheduler
scheduler n T B =
    record {
      count = n;
      list = λ s. candidates n T B s.b s.o inversion;
      ticked = λ s pick. tick n T B s.b s.o pick;
    }

module _ (x : Scheduler) where
  -- What is allowed at a moment: a tick to a member of the list of that moment, a release of an active partition.
  unfoldable pub allowed : Pairs → Event → Bool
  allowed s (tick_to pick) = has (x.list s) pick
  allowed s (release_of i) = release_allowed x.count s.b i

  -- the state after an event
  unfoldable pub next : Pairs → Event → Pairs
  next s (tick_to pick) = x.ticked s pick
  next s (release_of i) = release s.b s.o i

  -- every event of the history is allowed at its moment
  unfoldable pub all_allowed : Pairs → List Event → Bool
  all_allowed s [] = true
  all_allowed s (e ∷ history) = allowed s e && all_allowed (next s e) history

  -- the state after the history
  unfoldable pub after : Pairs → List Event → Pairs
  after s [] = s
  after s (e ∷ history) = after (next s e) history

  -- what each event adds at its moment, summed over the history
  unfoldable pub counted : (Pairs → Event → ℕ) → Pairs → List Event → ℕ
  counted adds s [] = 0
  counted adds s (e ∷ history) = adds s e + counted adds (next s e) history

  -- the last event of the history is one of these
  unfoldable pub ends_with : (Pairs → Event → Bool) → Pairs → List Event → Bool
  ends_with these s [] = false
  ends_with these s (e ∷ []) = these s e
  ends_with these s (e ∷ d ∷ history) = ends_with these (next s e) (d ∷ history)

-- ---- what happens to partition h in an event
module _ (h : ℕ) where
  -- a replenishment: a tick in which its o reaches 0
  unfoldable pub replenishment : Pairs → Event → Bool
  replenishment s (tick_to pick) = replenishes s.o h
  replenishment s (release_of i) = false

  -- the tick that it runs
  unfoldable pub runs : Pairs → Event → ℕ
  runs s (tick_to pick) = cond (eqb pick h) 1 0
  runs s (release_of i) = 0

  -- the ticks that it gives up: all that is left of its budget
  unfoldable pub gives_up : Pairs → Event → ℕ
  gives_up s (tick_to pick) = 0
  gives_up s (release_of i) = cond (eqb i h) (s.b ! h) 0

-- ---- and in a history
module _ (x : Scheduler) (h : ℕ) where
  abbrev pub ticks_run : Pairs → List Event → ℕ
  ticks_run = counted x (runs h)

  abbrev pub ticks_given_up : Pairs → List Event → ℕ
  ticks_given_up = counted x (gives_up h)

  abbrev pub replenishments : Pairs → List Event → ℕ
  replenishments = counted x (λ s e. cond (replenishment h s e) 1 0)

  -- the history ends with a replenishment of h
  abbrev pub EndsReplenished : Pairs → List Event → Type 0
  EndsReplenished s history = ends_with x (replenishment h) s history ≡ true

  -- up to the next replenishment of h: the history ends with one, and has no other
  pub record ToTheNext (s : Pairs) (history : List Event) : Type 0 where
    pub last : EndsReplenished s history
    pub only : replenishments s history ≡ 1
