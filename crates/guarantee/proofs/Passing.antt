-- The second half of a tick: time passes. Who passed with w + 1 has nothing left at a replenishment, and passes with w when the tick is over.
use Prim.Native.Nat.{ℕ, zero, suc, ◌+◌, ◌-◌, ◌*◌, ◌≤◌, ◌<◌}
use mathlib.Core.Path.{◌≡◌, refl, ap, ◌∙◌}
use mathlib.Core.Bool.{Bool, true, false, cond}
use mathlib.Core.List.{List}
use mathlib.Core.Logic.{inl, inr, ⊎_elim}
use native.Mathlib.Nat.{le_refl}
use native.Mathlib.Omega.{arith}
use borrow.Author.Tests.{lt-ltb}
use lib.Dec.{ltb}
use Rattle.basis.specs.Words.{◌!◌, sum_below}
use Rattle.rules.specs.Numbers.{TableInRange, StateInRange}
use Rattle.rules.specs.Admission.{Admitted}
use Rattle.rules.specs.BusyLength.{arrivals, active, busy_start, refill, busy_sum, deadline, passes}
use Rattle.rules.specs.Tick.{replenishes, pass_time}
use Rattle.laws.proofs.Tests.{true_or_false}
use Rattle.laws.proofs.Totals.{sum_mono, sum_plus, sum-part}
use Rattle.laws.proofs.Arrivals.{arrivals_later, arrivals_due}
use Rattle.laws.proofs.Numbers.{GoodTable, table-good, GoodState, state-good}
use Rattle.laws.proofs.Keeps.{replenished, not_replenished, time_renews, time_waits}
use Rattle.laws.proofs.BusyLength.{active-some, inactive-empty, Witness, passes_witness, witness_passes, passes_spare, start_le_sum}
use Rattle.guarantee.proofs.CriticalInstant.{EmptyOrWhole, critical_instant}

module _ (n : ℕ) (T B phase b o : List ℕ) (t : TableInRange n T B phase) (s : StateInRange n T B b o) where
  table : GoodTable n T B phase
  table = table-good n T B phase t

  state : GoodState n T B b o
  state = state-good n T B b o table.not_many s

  abbrev b' : List ℕ
  b' = (pass_time n T B b o).b

  abbrev o' : List ℕ
  o' = (pass_time n T B b o).o

  renews : (j : ℕ) → j < n → replenishes o j ≡ true → (b' ! j ≡ B ! j) × (o' ! j ≡ T ! j)
  renews = time_renews n T B phase t b o s

  waits : (j : ℕ) → j < n → replenishes o j ≡ false → (b' ! j ≡ b ! j) × (o' ! j ≡ o ! j - 1)
  waits = time_waits n T B phase t b o s

  -- a partition's ticks in what is left of the time, X of X + 1 ticks: those waiting and those to come
  carried : (j X : ℕ) → j < n → 1 ≤ X → b' ! j + refill T B o' j X ≤ b ! j + refill T B o j (suc X)
  unfolding refill
  carried j X l some = go (replenishes o j) refl
    where
      go : (a : Bool) → replenishes o j ≡ a → b' ! j + arrivals (o' ! j) (T ! j) X * B ! j ≤ b ! j + arrivals (o ! j) (T ! j) (suc X) * B ! j
      go true due =
          let last = replenished o j due in
          let to_come_lem = (state.each j l).to_come_lem in
          let soon : o ! j ≡ 1 = omega arith in
          rw ((renews j l due).0, (renews j l due).1, soon, arrivals_due (T ! j) X (table.each j l).period some) (omega arith)
      go false not-due =
          let later = not_replenished o j not-due in
          let again : o ! j ≡ suc (o ! j - 1) = omega arith in
          let same : arrivals (o ! j) (T ! j) (suc X) ≡ arrivals (o ! j - 1) (T ! j) X = ap (λ x. arrivals x (T ! j) (suc X)) again ∙ arrivals_later (o ! j - 1) (T ! j) X in
          rw ((waits j l not-due).0, (waits j l not-due).1, same) (le_refl _)

  module _ (h w : ℕ) (l : h < n) (ready : passes T B b o h (suc w) ≡ true) where
    -- nothing is left at a replenishment: an active partition that passes with w + 1 has a tick to spare
    pub none_left : replenishes o h ≡ true → b ! h ≡ 0
    none_left due =
        ⊎_elim (λ on. let spare = passes_spare T B b o h (suc w) on ready in let last = replenished o h due in omega arith) (inactive-empty b h)
        (true_or_false (active b h))

    -- ---- some time is left: what covers now covers a tick later with a tick less
    module _ (X : ℕ) (some : 1 ≤ X) (now : Witness T B b o h (suc w) (suc X)) where
      above : sum_below h (λ j. b' ! j) + sum_below h (λ j. refill T B o' j X) ≤ sum_below h (λ j. b ! j) + sum_below h (λ j. refill T B o j (suc X))
      above =
          rw (sum_plus h (λ j. b' ! j) (λ j. refill T B o' j X), sum_plus h (λ j. b ! j) (λ j. refill T B o j (suc X)))
          (sum_mono h _ _ (λ j k. carried j X (omega arith) some))

      covered : suc w + b ! h + sum_below h (λ j. b ! j) + sum_below h (λ j. refill T B o j (suc X)) + cond (active b h) 0 (refill T B o h (suc X)) ≤ suc X
      unfolding busy_sum busy_start
      covered = now.covers

      -- h is active or not, and is replenished in this tick or not
      still_covers : (a : Bool) → active b h ≡ a → (r : Bool) → replenishes o h ≡ r → Witness T B b' o' h w X
      unfolding busy_sum busy_start deadline active
      still_covers true on true due = let left = active-some b h on in let none = none_left due in absurd (omega arith)
      still_covers true on false not-due =
          let same = waits h l not-due in
          let still-on : ltb 0 (b' ! h) ≡ true = rw same.0 on in
          let in_time : suc X ≤ o ! h = rw on at now.within in
          let sum = rw on at covered in
          let others = above in
          record { within = rw (still-on, same.1) (omega arith); covers = rw (still-on, same.0) (omega arith) }
      still_covers false off true due =
          let new = renews h l due in
          let budget = (table.each h l).budget in
          let now_on : ltb 0 (b' ! h) ≡ true = rw new.0 (lt-ltb 0 (B ! h) budget) in
          let last = replenished o h due in
          let in_time : suc X ≤ o ! h + T ! h = rw off at now.within in
          let sum = rw off at covered in
          let others = above in
          let own = carried h X l some in
          record { within = rw (now_on, new.1) (omega arith); covers = rw now_on (omega arith) }
      still_covers false off false not-due =
          let same = waits h l not-due in
          let still-off : ltb 0 (b' ! h) ≡ false = rw same.0 off in
          let later = not_replenished o h not-due in
          let in_time : suc X ≤ o ! h + T ! h = rw off at now.within in
          let sum = rw off at covered in
          let others = above in
          let own = carried h X l some in
          record { within = rw (still-off, same.1) (omega arith); covers = rw still-off (omega arith) }

    -- ---- no time is left: w is 0 and nothing waits, so each partition up to h is empty or has just been replenished
    module _ (W : ℕ) (soon : W ≤ 1) (now : Witness T B b o h (suc w) W) where
      started : suc w + b ! h + sum_below h (λ j. b ! j) ≤ 1
      unfolding busy_start
      started = let start = start_le_sum T B b o h (suc w) W in let covers = now.covers in omega arith

      fills : (j : ℕ) → j ≤ h → EmptyOrWhole T B b' o' j
      unfolding sum_below
      fills j k =
          let part : b ! j ≤ sum_below (suc h) (λ i. b ! i) = sum-part (suc h) (λ i. b ! i) j (omega arith) in
          let start = started in
          let empty : b ! j ≡ 0 = omega arith in
          ⊎_elim (λ due. inr (renews j (omega arith) due)) (λ not-due. inl ((waits j (omega arith) not-due).0 ∙ empty)) (true_or_false (replenishes o j))

      passes-at-once : Admitted n T B → passes T B b' o' h w ≡ true
      passes-at-once admitted =
          let start = started in
          let zero_left : w ≡ 0 = omega arith in
          rw zero_left (critical_instant n T B phase t admitted b' o' h l fills)

    passes_later : Admitted n T B → (W : ℕ) → Witness T B b o h (suc w) W → passes T B b' o' h w ≡ true
    passes_later admitted zero now = passes-at-once 0 (omega arith) now admitted
    passes_later admitted (suc zero) now = passes-at-once 1 (omega arith) now admitted
    passes_later admitted (suc (suc X)) now = witness_passes T B b' o' h w (suc X) (still_covers (suc X) (omega arith) now (active b h) refl (replenishes o h) refl)

    -- when the tick is over
    pub time_passes : Admitted n T B → passes T B b' o' h w ≡ true
    time_passes admitted = let some-W = passes_witness T B b o h (suc w) ready in passes_later admitted some-W.0 some-W.1
