-- Up to where nobody is replenished twice: each round is a sum, and the sums go on from one partition to the next.
use Prim.Native.Nat.{ℕ, ◌+◌, ◌-◌, ◌*◌, ◌≤◌, ◌<◌}
use mathlib.Core.Path.{◌≡◌, refl, sym, ◌∙◌, ap, subst}
use mathlib.Core.Bool.{Bool, true, false, cond}
use mathlib.Core.List.{List}
use mathlib.Core.Logic.{⊎_elim}
use mathlib.Core.Option.{some}
use native.Mathlib.Nat.{le_antisymm}
use native.Mathlib.Omega.{arith}
use borrow.Author.Tests.{lt-ltb, le-ltb}
use lib.Dec.{ltb}
use Rattle.basis.specs.Words.{◌!◌, sum_below, found}
use Rattle.basis.specs.Reckoned.{Reckoned}
use Rattle.rules.specs.BusyLength.{busy_start, refill, passes}
use Rattle.rules.specs.Candidates.{inversion}
use Rattle.laws.proofs.Tests.{below_or_not}
use Rattle.laws.proofs.Totals.{sum_same, sum-one-more}
use Rattle.laws.proofs.BusyLength.{passes-found}
use Rattle.busy.specs.Inner.{Settles, Going, once, Reaches}
use Rattle.busy.specs.Spans.{span_as}
use Rattle.std.specs.declared.option.Option.{Option as Found}
use Rattle.busy.proofs.Refill.{adds_none, adds_one}
use Rattle.std.specs.Option.{is_some}
use Rattle.busy.proofs.Ends.{found_as}
use Rattle.busy.proofs.Repetition.{going_still, going_on, going_nearer, busy_from}

-- ---- one round
module _ (T B o : List ℕ) (top reach : ℕ) (reaches : Reaches T o top reach) where
  -- a partition that is not replenished twice adds its budget once, or nothing
  once_is : (W : ℕ) → W ≤ reach → (j : ℕ) → j < top → once B o j W ≡ refill T B o j W
  unfolding once refill Reaches
  once_is W l j k = ⊎_elim late early (below_or_not (o ! j) W)
    where
      early : W ≤ o ! j → cond (ltb (o ! j) W) (B ! j) 0 ≡ refill T B o j W
      early e = rw (le-ltb (o ! j) W e) (adds_none (T ! j) (B ! j) (o ! j) W e)

      late : o ! j < W → cond (ltb (o ! j) W) (B ! j) 0 ≡ refill T B o j W
      late e = let near = reaches j k in rw (lt-ltb (o ! j) W e) (adds_one (T ! j) (B ! j) (o ! j) W e (omega arith))

  near_sum : (W r : ℕ) → W ≤ reach → Reckoned 1048577 (sum_below top (λ j. once B o j W)) r → r ≡ sum_below top (λ j. refill T B o j W)
  near_sum W r l next = next.is ∙ sum_same top _ _ (once_is W l)

-- ---- the repetition, round by round
module _ (T B o : List ℕ) (top start D reach : ℕ) (reaches : Reaches T o top reach) (W : ℕ) (here : Going T B o top start D W) (in_reach : W ≤ reach) (in_time : W ≤ D) (r : ℕ) (next : Reckoned 1048577 (sum_below top (λ j. once B o j W)) r) where
  sum_is : r ≡ sum_below top (λ j. refill T B o j W)
  sum_is = near_sum T B o top reach reaches W r in_reach next

  pub near_still : (x : ℕ) → x ≡ W → start + r ≡ W → some x ≡ Settles T B o top start D
  near_still x e stands = ap some e ∙ going_still T B o top start D W here r sum_is in_time stands

  pub near_on : (start + r ≡ W → ⊥) → Going T B o top start D (start + r)
  near_on = going_on T B o top start D W here r sum_is in_time

  pub near_nearer : (start + r ≡ W → ⊥) → D + 1 - (start + r) < D + 1 - W
  near_nearer = going_nearer T B o top start D W here r sum_is in_time

-- ---- the sums go on
module _ (T b o : List ℕ) where
  -- all above h are summed up: the inversion with what is left of their budgets, and how far none of them is replenished twice
  pub record Climbed (h start reach : ℕ) : Type 0 where
    pub start_is : start ≡ inversion + sum_below h (λ j. b ! j)
    pub most : start ≤ 1 + h * 65536
    pub reaches : Reaches T o h reach

  pub climb_begins : (reach : ℕ) → Climbed 0 1 reach
  unfolding sum_below Reaches
  climb_begins reach = record { start_is = refl; most = omega arith; reaches = λ j l. absurd (omega arith) }

  pub climbed_all : (h until start reach : ℕ) → Climbed h start reach → until ≤ h → h ≤ until → Climbed until start reach
  climbed_all h until start reach here l k = subst (λ (m : ℕ). Climbed m start reach) (le_antisymm k l) here

  module _ (h start reach : ℕ) (here : Climbed h start reach) (x : ℕ) (own : x ≡ b ! h) (small : x < 65536) where
    pub climb_small : h < 16 → start + x < 2097152
    climb_small l = let most = here.most in omega arith

    module _ (r : ℕ) (less : r ≤ reach) (nearer : r ≤ o ! h + T ! h) where
      pub climb_reaches : Reaches T o (h + 1) r
      unfolding Reaches
      climb_reaches j l = ⊎_elim before (λ k. last (omega arith)) (below_or_not j h)
        where
          before : j < h → r ≤ o ! j + T ! j
          before k = let farther = here.reaches j k in omega arith

          last : j ≡ h → r ≤ o ! j + T ! j
          last e = rw e nearer

      pub climb_on : Climbed (h + 1) (start + x) r
      climb_on =
          let most = here.most in
          let before = here.start_is in
          let more = sum-one-more h (λ j. b ! j) in
          record { start_is = omega arith; most = omega arith; reaches = climb_reaches }

-- ---- and end in the busy test
pub reaches_counted : (T o : List ℕ) (b h top reach : ℕ) → top ≡ cond (ltb 0 b) h (h + 1) → Reaches T o (h + 1) reach → Reaches T o top reach
unfolding Reaches
reaches_counted T o b h top reach e all-of-them j l = all-of-them j (few (ltb 0 b) e)
  where
    few : (a : Bool) → top ≡ cond a h (h + 1) → j < h + 1
    few true d = omega arith
    few false d = omega arith

module _ (T B b o : List ℕ) (h : ℕ) (d : ℕ) (due : Reckoned 131072 (cond (ltb 0 (b ! h)) (o ! h) (o ! h + T ! h)) d) (start : ℕ) (begins : start ≡ busy_start b h inversion) (top : ℕ) (counts : top ≡ cond (ltb 0 (b ! h)) h (h + 1)) (x : Found ℕ) (ends : span_as x ≡ Settles T B o top start d) where
  passes_as : found (span_as x) ≡ passes T B b o h inversion
  passes_as = ap found (busy_from T B b o h inversion d due start begins top (span_as x) counts ends) ∙ sym (passes-found T B b o h inversion)

  pub passes_found : (r : Bool) → r ≡ is_some x → r ≡ passes T B b o h inversion
  passes_found r e = e ∙ sym (found_as x) ∙ passes_as
