-- The critical instant: where each partition up to h is empty or has just been replenished, h passes, since the table is admitted.
use Prim.Native.Nat.{ℕ, ◌+◌, ◌*◌, ◌≤◌, ◌<◌}
use mathlib.Core.Path.{◌≡◌}
use mathlib.Core.Bool.{true, false}
use mathlib.Core.List.{List}
use mathlib.Core.Logic.{◌⊎◌, inl, inr}
use native.Mathlib.Nat.{le_refl, le_of_eq, mul-le-mul_right}
use native.Mathlib.Omega.{arith}
use borrow.Author.Tests.{le-ltb, lt-ltb}
use lib.Dec.{ltb}
use Rattle.basis.specs.Words.{◌!◌, ceil, sum_below}
use Rattle.rules.specs.Numbers.{TableInRange}
use Rattle.rules.specs.Admission.{demand, IsR, Admitted}
use Rattle.rules.specs.BusyLength.{active, busy_start, refill, busy_sum, deadline, passes}
use Rattle.laws.proofs.Totals.{sum_mono, sum_plus}
use Rattle.laws.proofs.Arrivals.{arrivals_synchronous, arrivals_most, arrivals-one}
use Rattle.laws.proofs.Numbers.{GoodTable, table-good}
use Rattle.laws.proofs.BusyLength.{Witness, witness_passes}

-- partition j is empty, or has just been replenished
abbrev pub EmptyOrWhole : List ℕ → List ℕ → List ℕ → List ℕ → ℕ → Type 0
EmptyOrWhole T B b o j = (b ! j ≡ 0) ⊎ ((b ! j ≡ B ! j) × (o ! j ≡ T ! j))

module _ (n : ℕ) (T B phase : List ℕ) (t : TableInRange n T B phase) (admitted : Admitted n T B) (b o : List ℕ) where
  table : GoodTable n T B phase
  table = table-good n T B phase t

  -- no partition asks for more before R than one that starts its period now
  at_most : (j R : ℕ) → 1 ≤ T ! j → 1 ≤ R → EmptyOrWhole T B b o j → b ! j + refill T B o j R ≤ ceil R (T ! j) * B ! j
  unfolding refill
  at_most j R period some (inl e) = rw e (let less = mul-le-mul_right (B ! j) (arrivals_most (o ! j) (T ! j) R) in omega arith)
  at_most j R period some (inr e) = rw (e.0, e.1, ← (arrivals_synchronous (T ! j) R period some)) (omega arith)

  module _ (h R : ℕ) (l : h < n) (some : 1 ≤ R) (rests : R ≡ demand T B h R) (within : R ≤ T ! h) (each : (j : ℕ) → j ≤ h → EmptyOrWhole T B b o j) where
    above : sum_below h (λ j. b ! j) + sum_below h (λ j. refill T B o j R) ≤ sum_below h (λ j. ceil R (T ! j) * B ! j)
    above =
        rw (sum_plus h (λ j. b ! j) (λ j. refill T B o j R))
        (sum_mono h _ _ (λ j k. at_most j R (table.each j (omega arith)).period some (each j (omega arith))))

    -- and h itself is replenished at most once before R
    own : refill T B o h R ≤ B ! h
    unfolding refill
    own = let once = mul-le-mul_right (B ! h) (arrivals-one (o ! h) (T ! h) R (table.each h l).period (omega arith)) in omega arith

    -- the R of admission is a witness
    response_covers : EmptyOrWhole T B b o h → Witness T B b o h 0 R
    unfolding demand busy_sum busy_start deadline active
    response_covers (inl e) =
        let off : ltb 0 (b ! h) ≡ false = le-ltb 0 (b ! h) (le_of_eq e) in
        let others = above in
        let mine = own in
        record { within = rw off (omega arith); covers = rw (off, e) (omega arith) }
    response_covers (inr e) =
        let budget = (table.each h l).budget in
        let on : ltb 0 (b ! h) ≡ true = lt-ltb 0 (b ! h) (rw e.0 budget) in
        let others = above in
        record { within = rw (on, e.1) within; covers = rw (on, e.0) (omega arith) }

  pub critical_instant : (h : ℕ) → h < n → ((j : ℕ) → j ≤ h → EmptyOrWhole T B b o j) → passes T B b o h 0 ≡ true
  unfolding Admitted IsR
  critical_instant h l each =
      let R : ℕ = (admitted h l).0 in
      let rests = (admitted h l).1.0 in
      witness_passes T B b o h 0 R (response_covers h R l rests.0 rests.1 (admitted h l).2 each (each h (le_refl h)))
