-- Admission: looking at 1, 2, .. T_h decides it, and it is the busy test with w = 0 at b = B, o = T.
use Prim.Native.Nat.{ℕ, suc, ◌+◌, ◌*◌, ◌≤◌, ◌<◌}
use mathlib.Core.Path.{◌≡◌, refl, ◌∙◌, sym}
use mathlib.Core.Bool.{true, false}
use mathlib.Core.List.{List}
use mathlib.Core.Logic.{◌↔◌}
use mathlib.Core.Option.{Option, some, none}
use native.Mathlib.Nat.{le_of_suc-le-suc}
use native.Mathlib.Omega.{arith}
use borrow.Author.Tests.{leb-true, le-leb, eqb-true, eq-eqb, lt-ltb, not-false}
use lib.Dec.{leb}
use Rattle.basis.specs.Words.{◌!◌, ceil, sum_below}
use Rattle.laws.proofs.Tests.{both, and_left, and_right, never, found_some, fails}
use Rattle.laws.proofs.Places.{First, first_some, some_first, first-none, none_first}
use Rattle.laws.proofs.Totals.{sum_same, sum_plus}
use Rattle.rules.specs.Admission.{demand, at_rest, IsR, Admitted, response_within, first_unadmitted}
use Rattle.rules.specs.BusyLength.{active, busy_start, refill, busy_sum, deadline, IsBusyLength, busy_length}
use Rattle.laws.proofs.Arrivals.{arrivals_synchronous}
use Rattle.laws.proofs.BusyLength.{Length, test_exactly, start_le_sum}

module _ (T B : List ℕ) where
  -- R exists and is at most T_h
  pub record Response (h R : ℕ) : Type 0 where
    pub least : IsR T B h R
    pub within : R ≤ T ! h

  at_rest_lem : (h W : ℕ) → (1 ≤ W) × (W ≡ demand T B h W) → at_rest T B h W ≡ true
  unfolding at_rest
  at_rest_lem h W e = both (le-leb 1 W e.0) (eq-eqb W _ e.1)

  rests : (h W : ℕ) → at_rest T B h W ≡ true → (1 ≤ W) × (W ≡ demand T B h W)
  unfolding at_rest
  rests h W p = (leb-true 1 W (and_left _ _ p), eqb-true W _ (and_right (leb 1 W) _ p))

  pub response_some : (h R : ℕ) → response_within T B h ≡ some R → Response h R
  unfolding response_within IsR
  response_some h R p =
      let f : First (suc (T ! h)) (at_rest T B h) R = first_some (suc (T ! h)) (at_rest T B h) R p in
      record { least = (rests h R f.passed, λ X e. no_less X e (f.earlier X)); within = le_of_suc-le-suc f.below }
    where
      no_less : (X : ℕ) → (1 ≤ X) × (X ≡ demand T B h X) → (X < R → at_rest T B h X ≡ false) → R ≤ X
      no_less X e earlier = let not-less : ¬ (X < R) = λ l. never (at_rest_lem h X e) (earlier l) in omega arith

  pub some_response : (h R : ℕ) → Response h R → response_within T B h ≡ some R
  unfolding response_within IsR
  some_response h R r =
      some_first (suc (T ! h)) (at_rest T B h) R
      (record {
        below = omega arith;
        passed = at_rest_lem h R r.least.0;
        earlier = λ j l. fails (at_rest T B h j) (λ p. let less : R ≤ j = r.least.1 j (rests h j p) in omega arith);
      })

  -- looking at 1, 2, .. T_h decides whether R exists and is at most T_h
  pub response_exactly : (h R : ℕ) → (response_within T B h ≡ some R) ↔ Response h R
  response_exactly h R = (response_some h R, some_response h R)

  -- the first failing partition is none exactly when 01's sentence holds
  pub admitted_exactly : (n : ℕ) → (first_unadmitted n T B ≡ none) ↔ Admitted n T B
  unfolding first_unadmitted Admitted
  admitted_exactly n = (from, to)
    where
      from : first_unadmitted n T B ≡ none → (h : ℕ) → h < n → (R : ℕ) × IsR T B h R × (R ≤ T ! h)
      from p h l =
          let answer = found_some (response_within T B h) (not-false _ (first-none n _ p h l)) in
          let r = response_some h answer.0 answer.1 in
          (answer.0, r.least, r.within)

      to : ((h : ℕ) → h < n → (R : ℕ) × IsR T B h R × (R ≤ T ! h)) → first_unadmitted n T B ≡ none
      to each = none_first n _ (λ h l. rw (some_response h (each h l).0 (record { least = (each h l).1; within = (each h l).2 })))

  -- ---- admission is the busy test with w = 0 at b = B, o = T
  module _ (h : ℕ) (budget : 1 ≤ B ! h) (periods : (j : ℕ) → j < h → 1 ≤ T ! j) where
    on : active B h ≡ true
    unfolding active
    on = lt-ltb 0 (B ! h) budget

    sum_is_demand : (W : ℕ) → 1 ≤ W → busy_sum T B B T h 0 W ≡ demand T B h W
    unfolding busy_sum busy_start refill demand
    sum_is_demand W pos =
        let each : sum_below h (λ j. B ! j + refill T B T j W) ≡ sum_below h (λ j. ceil W (T ! j) * B ! j) = sum_same h _ _ one in
        let joined = sum_plus h (λ j. B ! j) (λ j. refill T B T j W) in
        rw on (omega arith)
      where
        one : (j : ℕ) → j < h → B ! j + refill T B T j W ≡ ceil W (T ! j) * B ! j
        one j l = rw (← (arrivals_synchronous (T ! j) W (periods j l) pos)) (omega arith)

    due : deadline T B T h ≡ T ! h
    unfolding deadline
    due = rw on

    sum_positive : (W : ℕ) → busy_sum T B B T h 0 W ≡ W → 1 ≤ W
    unfolding busy_start
    sum_positive W e = let start = start_le_sum T B B T h 0 W in omega arith

    busy_response : (W : ℕ) → Length T B B T h 0 W → Response h W
    unfolding IsBusyLength IsR
    busy_response W l =
        let fixed = l.least.0 in
        let pos = sum_positive W fixed in
        record {
          least = ((pos, sym fixed ∙ sum_is_demand W pos), λ X e. l.least.1 X (sum_is_demand X e.0 ∙ sym e.1));
          within = rw due at l.within;
        }

    response_busy : (R : ℕ) → Response h R → Length T B B T h 0 R
    unfolding IsBusyLength IsR
    response_busy R r =
        let pos = r.least.0.0 in
        record {
          least = (sum_is_demand R pos ∙ sym r.least.0.1, λ X e. r.least.1 X (sum_positive X e, sym e ∙ sum_is_demand X (sum_positive X e)));
          within = rw due r.within;
        }

    -- both ways, and the busy length is R
    pub admission_is_busy : busy_length T B B T h 0 ≡ response_within T B h
    admission_is_busy = go (busy_length T B B T h 0) refl (response_within T B h) refl
      where
        go : (x : Option ℕ) → busy_length T B B T h 0 ≡ x → (y : Option ℕ) → response_within T B h ≡ y → x ≡ y
        go (some W) e y d = sym (some_response h W (busy_response W ((test_exactly T B B T h 0 W).0 e))) ∙ d
        go none e (some R) d = sym e ∙ (test_exactly T B B T h 0 R).1 (response_busy R (response_some h R d))
        go none e none d = refl
