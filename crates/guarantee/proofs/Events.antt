-- One event: it keeps a state standing, and its books balance.
use Prim.Native.Nat.{ℕ, ◌+◌, ◌*◌, ◌<◌}
use mathlib.Core.Path.{◌≡◌, refl}
use mathlib.Core.Bool.{Bool, true, false, cond}
use mathlib.Core.List.{List}
use native.Mathlib.Nat.{zero-add}
use native.Mathlib.Omega.{arith}
use borrow.Author.Tests.{eqb-true, eqb-false}
use lib.Dec.{eqb}
use lib.ListN.{set}
use lib.Seq.{get_or-set_same, get_or-set_other}
use Rattle.basis.specs.Words.{◌!◌}
use Rattle.rules.specs.Numbers.{TableInRange, StateInRange}
use Rattle.rules.specs.declared.Pairs.{Pairs}
use Rattle.rules.specs.Candidates.{inversion}
use Rattle.rules.specs.BusyLength.{passes}
use Rattle.rules.specs.Tick.{spend, replenishes, pass_time, tick, tick_allowed}
use Rattle.rules.specs.Release.{release}
use Rattle.laws.proofs.Tests.{never}
use Rattle.laws.proofs.Tick.{spend-own, spend_other}
use Rattle.laws.proofs.Numbers.{GoodTable, table-good}
use Rattle.laws.proofs.Keeps.{tick_in_range, spend_in_range, release_in_range, time_renews, time_waits}
use Rattle.laws.proofs.BusyLength.{active-some}
use Rattle.laws.proofs.StandingTest.{stands_exactly}
use Rattle.laws.proofs.Candidates.{candidate_active}
use Rattle.guarantee.specs.Histories.{Event, tick_to, release_of, scheduler, allowed, next, replenishment, runs, gives_up}
use Rattle.guarantee.specs.Guarantee.{AdmittedTable, StandingState}
use Rattle.guarantee.proofs.Spending.{spent_passes, release_stands}
use Rattle.guarantee.proofs.Passing.{none_left, time_passes}

module _ (n : ℕ) (T B phase : List ℕ) (admitted : AdmittedTable n T B phase) (s : Pairs) (here : StandingState n T B s) where
  t : TableInRange n T B phase
  t = admitted.in_range

  table : GoodTable n T B phase
  table = table-good n T B phase t

  -- "What is allowed" of a tick is 01's own test of it
  pub allows_ticks : (pick : ℕ) → allowed (scheduler n T B) s (tick_to pick) ≡ tick_allowed n T B s.b s.o pick
  unfolding allowed tick_allowed
  allows_ticks pick = refl

  -- after the first half of a tick everybody passes with w = 1
  ready : (pick : ℕ) → tick_allowed n T B s.b s.o pick ≡ true → (h : ℕ) → h < n → passes T B (spend s.b pick) s.o h 1 ≡ true
  ready = spent_passes n T B phase s.b s.o t here.in_range here.stands

  spent_in_range : (pick : ℕ) → StateInRange n T B (spend s.b pick) s.o
  spent_in_range = spend_in_range n T B phase t s.b s.o here.in_range

  -- so it stands when the tick is over
  tick_stands : (pick : ℕ) → tick_allowed n T B s.b s.o pick ≡ true → StandingState n T B (tick n T B s.b s.o pick)
  unfolding tick
  tick_stands pick p =
      record {
        in_range = tick_in_range n T B phase t s.b s.o pick here.in_range;
        stands = (stands_exactly n T B _ _).1 (λ h l. time_passes n T B phase (spend s.b pick) s.o t (spent_in_range pick) h 0 l (ready pick p h l) admitted.admitted);
      }

  pub event_stands : (e : Event) → allowed (scheduler n T B) s e ≡ true → StandingState n T B (next (scheduler n T B) s e)
  unfolding allowed next tick_allowed
  event_stands (tick_to pick) p = tick_stands pick p
  event_stands (release_of i) p =
      record {
        in_range = release_in_range n T B phase t s.b s.o here.in_range i;
        stands = release_stands n T B phase s.b s.o t here.in_range here.stands i;
      }

  module _ (h : ℕ) (l : h < n) where
    -- nothing is left at a replenishment
    pub left_at : (pick : ℕ) → allowed (scheduler n T B) s (tick_to pick) ≡ true → replenishes s.o h ≡ true → spend s.b pick ! h ≡ 0
    unfolding allowed tick_allowed
    left_at pick p = none_left n T B phase (spend s.b pick) s.o t (spent_in_range pick) h 0 l (ready pick p h l)

    -- ---- the books of one event: what was there and what came is what was run, given up, and is there
    few : h < 16
    few = let most = table.not_many in omega arith

    spent : (pick : ℕ) → tick_allowed n T B s.b s.o pick ≡ true → cond (eqb pick h) 1 0 + spend s.b pick ! h ≡ s.b ! h
    unfolding tick_allowed
    spent pick p = go (eqb pick h) refl
      where
        go : (a : Bool) → eqb pick h ≡ a → cond a 1 0 + spend s.b pick ! h ≡ s.b ! h
        go true e =
            let same : pick ≡ h = eqb-true pick h e in
            let small = few in
            let listed = candidate_active n T B s.b s.o inversion pick p (λ d. omega arith) in
            let left = active-some s.b pick listed.1 in
            let own = spend-own s.b pick (omega arith) (rw here.in_range.budgets (omega arith)) in
            rw (← same) (omega arith)
        go false e = let other : ¬ (pick ≡ h) = eqb-false pick h e in rw zero-add (spend_other s.b pick h (λ d. omega arith))

    released : (i : ℕ) → cond (eqb i h) (s.b ! h) 0 + set s.b i 0 ! h ≡ s.b ! h
    released i = go (eqb i h) refl
      where
        go : (a : Bool) → eqb i h ≡ a → cond a (s.b ! h) 0 + set s.b i 0 ! h ≡ s.b ! h
        go true e =
            let same : i ≡ h = eqb-true i h e in
            let small = few in
            rw (same, get_or-set_same s.b h 0 0 (rw here.in_range.budgets few)) (omega arith)
        go false e = let other : ¬ (i ≡ h) = eqb-false i h e in rw zero-add (get_or-set_other s.b i h 0 0 (λ d. omega arith))

    tick_balance : (pick : ℕ) → tick_allowed n T B s.b s.o pick ≡ true → (r : Bool) → replenishes s.o h ≡ r
        → cond (eqb pick h) 1 0 + (pass_time n T B (spend s.b pick) s.o).b ! h ≡ s.b ! h + cond r 1 0 * B ! h
    tick_balance pick p true due =
        let nothing = none_left n T B phase (spend s.b pick) s.o t (spent_in_range pick) h 0 l (ready pick p h l) due in
        let whole = (time_renews n T B phase t (spend s.b pick) s.o (spent_in_range pick) h l due).0 in
        let out = spent pick p in
        omega arith
    tick_balance pick p false not-due =
        let same = (time_waits n T B phase t (spend s.b pick) s.o (spent_in_range pick) h l not-due).0 in
        let out = spent pick p in
        omega arith

    pub balance : (e : Event) → allowed (scheduler n T B) s e ≡ true
        → runs h s e + gives_up h s e + (next (scheduler n T B) s e).b ! h ≡ s.b ! h + cond (replenishment h s e) 1 0 * B ! h
    unfolding allowed next runs gives_up replenishment tick tick_allowed release
    balance (tick_to pick) p = let ticks = tick_balance pick p (replenishes s.o h) refl in omega arith
    balance (release_of i) p = let releases = released i in omega arith

    -- right after a replenishment the budget is whole
    pub whole_after : (e : Event) → replenishment h s e ≡ true → (next (scheduler n T B) s e).b ! h ≡ B ! h
    unfolding next replenishment tick
    whole_after (tick_to pick) due = (time_renews n T B phase t (spend s.b pick) s.o (spent_in_range pick) h l due).0
    whole_after (release_of i) never-due = never never-due refl
