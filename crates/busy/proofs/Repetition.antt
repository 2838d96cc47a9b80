-- The repetition, as the code makes it, is the busy test.
use Prim.Native.Nat.{ℕ, suc, ◌+◌, ◌-◌, ◌≤◌, ◌<◌}
use mathlib.Core.Path.{◌≡◌, sym, ◌∙◌, ap, fun_ext}
use mathlib.Core.Bool.{Bool, true, false, cond}
use mathlib.Core.List.{List}
use mathlib.Core.Option.{Option, some, none}
use native.Mathlib.Nat.{le_refl, add-le-add}
use native.Mathlib.Omega.{arith}
use borrow.Author.Tests.{lt-ltb, le-ltb}
use lib.Dec.{ltb}
use Rattle.basis.specs.Words.{◌!◌, sum_below, settle}
use Rattle.basis.specs.Reckoned.{Reckoned}
use Rattle.rules.specs.BusyLength.{active, busy_start, refill, busy_sum, deadline, busy_length}
use Rattle.laws.proofs.Totals.{sum_mono, sum-one-more}
use Rattle.laws.proofs.Settle.{Rising, Start, up_to, repeating_begins, repeated_past, repeated_still, repeating_on, repeating_nearer}
use Rattle.laws.proofs.BusyLength.{refill_mono}
use Rattle.busy.specs.Inner.{filling, Settles, Going}

-- "b > 0" decides what is counted
pub counted_few : (b h top : ℕ) → h < 16 → top ≡ cond (ltb 0 b) h (h + 1) → top ≤ 16
counted_few b h top l e = go (ltb 0 b) e
  where
    go : (a : Bool) → top ≡ cond a h (h + 1) → top ≤ 16
    go true d = omega arith
    go false d = omega arith

module _ (T B o : List ℕ) (top start D : ℕ) where
  filling_rising : Rising (filling T B o top start)
  unfolding filling
  filling_rising x y l = add-le-add (le_refl start) (sum_mono top _ _ (λ j k. refill_mono T B o o j x y l))

  started : Start (filling T B o top start) (ltb D) D start
  unfolding filling
  started = up_to (filling T B o top start) D start filling_rising (λ x. omega arith)

  pub going_begins : Going T B o top start D start
  unfolding Going
  going_begins = repeating_begins started

  module _ (W : ℕ) (here : Going T B o top start D W) where
    pub going_over : D < W → none ≡ Settles T B o top start D
    unfolding Going
    going_over l = repeated_past started (Settles T B o top start D) W here (lt-ltb D W l)

    module _ (r : ℕ) (next : r ≡ sum_below top (λ j. refill T B o j W)) (l : W ≤ D) where
      sum_is : start + r ≡ filling T B o top start W
      unfolding filling
      sum_is = ap (λ x. start + x) next

      pub going_still : start + r ≡ W → some W ≡ Settles T B o top start D
      unfolding Going
      going_still = repeated_still started (Settles T B o top start D) W here (le-ltb D W l) (start + r) sum_is

      pub going_on : (start + r ≡ W → ⊥) → Going T B o top start D (start + r)
      unfolding Going
      going_on = repeating_on started (Settles T B o top start D) W here (le-ltb D W l) (start + r) sum_is

      pub going_nearer : (start + r ≡ W → ⊥) → D + 1 - (start + r) < D + 1 - W
      unfolding Going
      going_nearer = repeating_nearer started (Settles T B o top start D) W here (le-ltb D W l) (start + r) sum_is

-- ---- and so is the whole test
module _ (T B b o : List ℕ) (h w : ℕ) (d : ℕ) (due : Reckoned 131072 (cond (ltb 0 (b ! h)) (o ! h) (o ! h + T ! h)) d) where
  due_is : d ≡ deadline T b o h
  unfolding deadline active
  due_is = due.is

  pub busy_over : d < w → none ≡ busy_length T B b o h w
  unfolding busy_length settle busy_start
  busy_over l = sym (rw (lt-ltb (deadline T b o h) (w + b ! h + sum_below h (λ j. b ! j)) late))
    where
      late : deadline T b o h < w + b ! h + sum_below h (λ j. b ! j)
      late = let same = due_is in omega arith

  filling_is : (top : ℕ) → top ≡ cond (ltb 0 (b ! h)) h (h + 1) → (W : ℕ) → filling T B o top (busy_start b h w) W ≡ busy_sum T B b o h w W
  unfolding filling busy_sum active
  filling_is top e W = ap (λ x. busy_start b h w + sum_below x (λ j. refill T B o j W)) e ∙ go (ltb 0 (b ! h))
    where
      go : (a : Bool) → busy_start b h w + sum_below (cond a h (h + 1)) (λ j. refill T B o j W) ≡ busy_start b h w + sum_below h (λ j. refill T B o j W) + cond a 0 (refill T B o h W)
      go true = omega arith
      go false = let one_more = sum-one-more h (λ j. refill T B o j W) in omega arith

  pub busy_from : (start : ℕ) → start ≡ busy_start b h w → (top : ℕ) (x : Option ℕ) → top ≡ cond (ltb 0 (b ! h)) h (h + 1) → x ≡ Settles T B o top start d
      → x ≡ busy_length T B b o h w
  unfolding busy_length
  busy_from start begins top x e same =
      same ∙ rw (due_is, begins) (ap (λ (f : ℕ → ℕ). settle (suc (deadline T b o h)) f (ltb (deadline T b o h)) (busy_start b h w)) (fun_ext (filling_is top e)))

  module _ (mine : ℕ) (own : Reckoned 65536 (b ! h) mine) (above : ℕ) (waits : Reckoned 1048577 (sum_below h (λ j. b ! j)) above) where
    pub start_small : w ≤ d → w + mine + above < 2097152
    start_small l =
        let near = due.small in
        let one = own.small in
        let others = waits.small in
        omega arith

    start_is : w + mine + above ≡ busy_start b h w
    unfolding busy_start
    start_is = let one = own.is in let others = waits.is in omega arith

    pub busy_settled : (top : ℕ) (x : Option ℕ) → top ≡ cond (ltb 0 (b ! h)) h (h + 1) → x ≡ Settles T B o top (w + mine + above) d
        → x ≡ busy_length T B b o h w
    busy_settled = busy_from (w + mine + above) start_is

-- what the whole test rests on
pub ruleset whole_test = (counted_few, start_small, going_begins, busy_over, busy_settled)
