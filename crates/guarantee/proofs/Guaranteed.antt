-- The guarantee, proved. The statements are in specs/Guarantee.antt.
use Prim.Native.Nat.{ℕ, ◌+◌, ◌*◌, ◌≤◌, ◌<◌}
use mathlib.Core.Path.{◌≡◌, refl}
use mathlib.Core.Bool.{Bool, true, false, cond}
use mathlib.Core.List.{List, [], ◌∷◌, ◌++◌}
use mathlib.Core.Logic.{inl, inr, ⊎_elim}
use native.Mathlib.Nat.{add-mul}
use native.Mathlib.Omega.{arith}
use borrow.Author.Tests.{eqb-true, eqb-false}
use lib.Dec.{eqb}
use Rattle.basis.specs.Words.{◌!◌}
use Rattle.rules.specs.declared.Pairs.{Pairs}
use Rattle.rules.specs.BusyLength.{active}
use Rattle.rules.specs.FreshStart.{fresh_start}
use Rattle.rules.specs.Tick.{replenishes}
use Rattle.laws.proofs.Tests.{never, true_or_false}
use Rattle.laws.proofs.Keeps.{fresh_in_range, fresh_whole, fresh_empty}
use Rattle.laws.proofs.BusyLength.{inactive-empty, passes_spare}
use Rattle.laws.proofs.StandingTest.{stands_exactly}
use Rattle.guarantee.specs.Histories.{Event, tick_to, scheduler, allowed, next, after, counted, ends_with, replenishment, ticks_run, ticks_given_up, replenishments, EndsReplenished, ToTheNext}
use Rattle.guarantee.specs.Guarantee.{NothingLeft, AdmittedTable, StandingState, Follows, state_after, AddsUp, Guaranteed}
use Rattle.guarantee.proofs.CriticalInstant.{EmptyOrWhole, critical_instant}
use Rattle.guarantee.proofs.Events.{event_stands, left_at, balance, whole_after}
use Rattle.guarantee.proofs.Histories.{allowed-first, allowed_later, allowed-before, allowed-rest}

module _ (n : ℕ) (T B phase : List ℕ) (table : AdmittedTable n T B phase) where
  module _ (s : Pairs) (e : Event) (history : List Event) (here : StandingState n T B s) (p : Follows n T B s (e ∷ history)) where
    first_follows : allowed (scheduler n T B) s e ≡ true
    first_follows = allowed-first (scheduler n T B) s e history p

    rest_follows : Follows n T B (next (scheduler n T B) s e) history
    rest_follows = allowed_later (scheduler n T B) s e history p

    still_stands : StandingState n T B (next (scheduler n T B) s e)
    still_stands = event_stands n T B phase table s here e first_follows

  -- (a)
  keeps : (s : Pairs) (history : List Event) → StandingState n T B s → Follows n T B s history → StandingState n T B (state_after n T B s history)
  unfolding after
  keeps s [] here p = here
  keeps s (e ∷ history) here p = keeps (next (scheduler n T B) s e) history (still_stands s e history here p) (rest_follows s e history here p)

  -- (b)
  left : (s : Pairs) (history : List Event) (pick h : ℕ) → StandingState n T B s → Follows n T B s (history ++ tick_to pick ∷ []) → h < n
      → replenishes (state_after n T B s history).o h ≡ true → NothingLeft (state_after n T B s history) pick h
  left s history pick h here p l =
      let now : Pairs = state_after n T B s history in
      let last : Follows n T B now (tick_to pick ∷ []) = allowed-rest (scheduler n T B) s history (tick_to pick ∷ []) p in
      left_at n T B phase table now (keeps s history here (allowed-before (scheduler n T B) s history (tick_to pick ∷ []) p)) h l pick
      (allowed-first (scheduler n T B) now (tick_to pick) [] last)

  module _ (h : ℕ) (l : h < n) where
    -- the books of a history: what was there and what came is what was run, given up, and is there
    books : (s : Pairs) (history : List Event) → StandingState n T B s → Follows n T B s history
        → ticks_run (scheduler n T B) h s history + ticks_given_up (scheduler n T B) h s history + (state_after n T B s history).b ! h
        ≡ s.b ! h + replenishments (scheduler n T B) h s history * B ! h
    unfolding after counted
    books s [] here p = omega arith
    books s (e ∷ history) here p =
        let now : Pairs = next (scheduler n T B) s e in
        let one = balance n T B phase table s here h l e (first_follows s e history here p) in
        let rest = books now history (still_stands s e history here p) (rest_follows s e history here p) in
        let apart = add-mul (cond (replenishment h s e) 1 0) (replenishments (scheduler n T B) h now history) (B ! h) in
        omega arith

    -- where it ends with a replenishment, the budget is whole
    whole : (s : Pairs) (history : List Event) → StandingState n T B s → Follows n T B s history → EndsReplenished (scheduler n T B) h s history
        → (state_after n T B s history).b ! h ≡ B ! h
    unfolding after ends_with
    whole s [] here p ends = never ends refl
    whole s (e ∷ []) here p ends = whole_after n T B phase table s here h l e ends
    whole s (e ∷ d ∷ history) here p ends = whole (next (scheduler n T B) s e) (d ∷ history) (still_stands s e (d ∷ history) here p) (rest_follows s e (d ∷ history) here p) ends

    -- so a budget that is whole is used up by the next replenishment
    adds_up : (s : Pairs) (period : List Event) → StandingState n T B s → Follows n T B s period → s.b ! h ≡ B ! h → ToTheNext (scheduler n T B) h s period → AddsUp n T B h s period
    adds_up s period here p full next_one =
        let sums = rw next_one.only at (books s period here p) in
        let again = whole s period here p next_one.last in
        omega arith

  -- (c)
  periods : (s : Pairs) (before period : List Event) (h : ℕ) → StandingState n T B s → Follows n T B s (before ++ period) → h < n
      → EndsReplenished (scheduler n T B) h s before
      → ToTheNext (scheduler n T B) h (state_after n T B s before) period
      → AddsUp n T B h (state_after n T B s before) period
  periods s before period h here p l from to =
      let first : Follows n T B s before = allowed-before (scheduler n T B) s before period p in
      adds_up h l (state_after n T B s before) period (keeps s before here first) (allowed-rest (scheduler n T B) s before period p) (whole h l s before here first from) to

  -- (d)
  fresh : StandingState n T B (fresh_start n T B phase)
  fresh =
      record {
        in_range = fresh_in_range n T B phase table.in_range;
        stands = (stands_exactly n T B _ _).1 (λ h l. critical_instant n T B phase table.in_range table.admitted _ _ h l (λ j k. each j (omega arith)));
      }
    where
      each : (j : ℕ) → j < n → EmptyOrWhole T B (fresh_start n T B phase).b (fresh_start n T B phase).o j
      each j l = go (eqb (phase ! j) 0) refl
        where
          go : (a : Bool) → eqb (phase ! j) 0 ≡ a → EmptyOrWhole T B (fresh_start n T B phase).b (fresh_start n T B phase).o j
          go true e = inr (fresh_whole n T B phase table.in_range j l (eqb-true (phase ! j) 0 e))
          go false e = inl (fresh_empty n T B phase table.in_range j l (eqb-false (phase ! j) 0 e))

  -- (f)
  enough : (s : Pairs) (h : ℕ) → StandingState n T B s → h < n → s.b ! h ≤ s.o ! h
  enough s h here l =
      ⊎_elim (λ on. let spare = passes_spare T B s.b s.o h 0 on ((stands_exactly n T B s.b s.o).0 here.stands h l) in omega arith)
      (λ off. let none_left = inactive-empty s.b h off in omega arith)
      (true_or_false (active s.b h))

pub guaranteed : Guaranteed
guaranteed n T B phase table =
    record {
      keeps_standing = keeps n T B phase table;
      nothing_left = left n T B phase table;
      whole_period = periods n T B phase table;
      fresh_stands = fresh n T B phase table;
      first-period = λ period h p l e to. adds_up n T B phase table h l (fresh_start n T B phase) period (fresh n T B phase table) p (fresh_whole n T B phase table.in_range h l e).0 to;
      in_time = enough n T B phase table;
    }
