-- The busy test: its repetition finds the least fixed point, and finds one within the deadline exactly when some W within it has a sum of at most W.
use Prim.Native.Nat.{ℕ, ◌+◌, ◌≤◌}
use mathlib.Core.Path.{◌≡◌, refl, sym, ◌∙◌, ap}
use mathlib.Core.Bool.{Bool, true, false, cond}
use mathlib.Core.List.{List}
use mathlib.Core.Logic.{◌↔◌}
use mathlib.Core.Option.{some}
use native.Mathlib.Nat.{le_refl, le_of_eq, add-le-add, mul-le-mul_right, zero-mul}
use native.Mathlib.Omega.{arith}
use borrow.Author.Tests.{ltb-true, ltb-false, le-ltb}
use lib.Dec.{ltb}
use Rattle.basis.specs.Words.{◌!◌, sum_below, found}
use Rattle.laws.proofs.Tests.{found_some}
use Rattle.laws.proofs.Totals.{sum_mono, sum-none}
use Rattle.laws.proofs.Settle.{Rising, Start, up_to, settles_finds, settles_exactly}
use Rattle.rules.specs.BusyLength.{active, busy_start, refill, busy_sum, deadline, IsBusyLength, busy_length, passes}
use Rattle.laws.proofs.Arrivals.{arrivals_mono, arrivals-none}

-- active or empty
pub active-some : (b : List ℕ) (h : ℕ) → active b h ≡ true → 1 ≤ b ! h
unfolding active
active-some b h p = ltb-true 0 (b ! h) p

pub inactive-empty : (b : List ℕ) (h : ℕ) → active b h ≡ false → b ! h ≡ 0
unfolding active
inactive-empty b h p = let none_left = ltb-false 0 (b ! h) p in omega arith

cond_mono : (t : Bool) {x y : ℕ} → x ≤ y → cond t 0 x ≤ cond t 0 y
cond_mono true h = le_refl 0
cond_mono false h = h

module _ (T B b o : List ℕ) where
  pub refill_mono : (j W X : ℕ) → W ≤ X → refill T B o j W ≤ refill T B o j X
  unfolding refill
  refill_mono j W X h = mul-le-mul_right (B ! j) (arrivals_mono (o ! j) (T ! j) W X h)

  -- more ticks, more arrivals
  pub sum_rising : (h w : ℕ) → Rising (busy_sum T B b o h w)
  unfolding busy_sum
  sum_rising h w W X l =
      add-le-add
      (add-le-add (le_refl (busy_start b h w)) (sum_mono h _ _ (λ j k. refill_mono j W X l)))
      (cond_mono (active b h) (refill_mono h W X l))

  pub start_le_sum : (h w W : ℕ) → busy_start b h w ≤ busy_sum T B b o h w W
  unfolding busy_sum
  start_le_sum h w W = omega arith

  -- what the test's answer says
  pub record Length (h w W : ℕ) : Type 0 where
    pub least : IsBusyLength T B b o h w W
    pub within : W ≤ deadline T b o h

  started : (h w : ℕ) → Start (busy_sum T B b o h w) (ltb (deadline T b o h)) (deadline T b o h) (busy_start b h w)
  started h w = up_to (busy_sum T B b o h w) (deadline T b o h) (busy_start b h w) (sum_rising h w) (start_le_sum h w)

  -- the repetition finds the least fixed point
  pub test_exactly : (h w W : ℕ) → (busy_length T B b o h w ≡ some W) ↔ Length h w W
  unfolding busy_length IsBusyLength
  test_exactly h w W = (
    λ p. let s = (settles_exactly (started h w) W).0 p in record { least = s.0; within = ltb-false _ W s.1 },
    λ l. (settles_exactly (started h w) W).1 (l.least, le-ltb _ W l.within),
  )

  -- a W within the deadline whose sum it covers: the one thing that everybody else needs to know of the busy test
  pub record Witness (h w W : ℕ) : Type 0 where
    pub within : W ≤ deadline T b o h
    pub covers : busy_sum T B b o h w W ≤ W

  witness_finds : (h w W : ℕ) → Witness h w W → (X : ℕ) × (busy_length T B b o h w ≡ some X)
  unfolding busy_length
  witness_finds h w W witness = settles_finds (started h w) W witness.covers (le-ltb _ W witness.within)

  -- a pass is a length that is found
  pub passes-found : (h w : ℕ) → passes T B b o h w ≡ found (busy_length T B b o h w)
  unfolding passes
  passes-found h w = refl

  pub passes_witness : (h w : ℕ) → passes T B b o h w ≡ true → (W : ℕ) × Witness h w W
  unfolding IsBusyLength
  passes_witness h w p =
      let answer = found_some (busy_length T B b o h w) (sym (passes-found h w) ∙ p) in
      let l = (test_exactly h w answer.0).0 answer.1 in
      (answer.0, record { within = l.within; covers = le_of_eq l.least.0 })

  pub witness_passes : (h w W : ℕ) → Witness h w W → passes T B b o h w ≡ true
  witness_passes h w W witness = passes-found h w ∙ ap found (witness_finds h w W witness).1

  pub passes_exactly : (h w : ℕ) → (passes T B b o h w ≡ true) ↔ ((W : ℕ) × Witness h w W)
  passes_exactly h w = (passes_witness h w, λ some-W. witness_passes h w some-W.0 some-W.1)

  -- an active partition that passes with w has w ticks to spare
  pub passes_spare : (h w : ℕ) → active b h ≡ true → passes T B b o h w ≡ true → w + b ! h ≤ o ! h
  unfolding deadline busy_start
  passes_spare h w on p =
      let some-W = passes_witness h w p in
      let covers : busy_sum T B b o h w some-W.0 ≤ some-W.0 = some-W.1.covers in
      let start = start_le_sum h w some-W.0 in
      let in_time : some-W.0 ≤ o ! h = rw on at some-W.1.within in
      omega arith

  -- where nothing waits at ranks up to h, h passes with w = 1
  pub quiet_passes : (h : ℕ) → ((j : ℕ) → j ≤ h → b ! j ≡ 0) → ((j : ℕ) → j ≤ h → 1 ≤ o ! j) → passes T B b o h 1 ≡ true
  unfolding deadline busy_sum busy_start refill active
  quiet_passes h empty later =
      let waits : sum_below h (λ j. b ! j) ≡ 0 = sum-none h _ (λ j l. empty j (omega arith)) in
      let off : ltb 0 (b ! h) ≡ false = le-ltb 0 (b ! h) (le_of_eq (empty h (le_refl h))) in
      let arrive : sum_below h (λ j. refill T B o j 1) ≡ 0 = sum-none h _ (λ j l. nothing j (later j (omega arith))) in
      let mine : refill T B o h 1 ≡ 0 = nothing h (later h (le_refl h)) in
      let soon = later h (le_refl h) in
      let own = empty h (le_refl h) in
      witness_passes h 1 1 (record { within = rw off (omega arith); covers = rw off (omega arith) })
    where
      nothing : (j : ℕ) → 1 ≤ o ! j → refill T B o j 1 ≡ 0
      nothing j l = rw (arrivals-none (o ! j) (T ! j) 1 l) (zero-mul (B ! j))

-- less to begin with, and a pass stays a pass: fewer ticks waiting, or a smaller w
pub passes_lower : (T B b c o : List ℕ) (h w v : ℕ) → c ! h ≤ b ! h → busy_start c h v ≤ busy_start b h w → passes T B b o h w ≡ true → passes T B c o h v ≡ true
unfolding deadline busy_sum refill
passes_lower T B b c o h w v less start p =
    let some-W = passes_witness T B b o h w p in
    witness_passes T B c o h v some-W.0 (go some-W.0 (active b h) refl (active c h) refl some-W.1.within some-W.1.covers)
  where
    go : (W : ℕ) (x : Bool) → active b h ≡ x → (y : Bool) → active c h ≡ y → W ≤ cond x (o ! h) (o ! h + T ! h)
        → busy_start b h w + sum_below h (λ j. refill T B o j W) + cond x 0 (refill T B o h W) ≤ W → Witness T B c o h v W
    go W true d true e within covers = record { within = rw e within; covers = rw e (omega arith) }
    -- its last tick is gone: no replenishment of its own falls before W, and it has a whole period more
    go W true d false e within covers =
        let nothing : refill T B o h W ≡ 0 = rw (arrivals-none (o ! h) (T ! h) W within) (zero-mul (B ! h)) in
        record { within = rw e (omega arith); covers = rw e (omega arith) }
    go W false d true e within covers =
        let none_left = inactive-empty b h d in
        let some_left = active-some c h e in
        absurd (omega arith)
    go W false d false e within covers = record { within = rw e within; covers = rw e (omega arith) }
