-- What a pick's tick leaves of the budgets.
use Prim.Native.Nat.{ℕ, ◌-◌, ◌<◌}
use mathlib.Core.Path.{◌≡◌, refl}
use mathlib.Core.Bool.{Bool, true, false, cond}
use mathlib.Core.List.{List}
use native.Mathlib.Omega.{arith}
use borrow.Author.Tests.{ne_eqb}
use lib.Dec.{eqb}
use lib.ListN.{length, set, length-set}
use lib.Seq.{get_or-set_same, get_or-set_other}
use Rattle.basis.specs.Words.{◌!◌}
use Rattle.rules.specs.Candidates.{idle}
use Rattle.rules.specs.Tick.{spend}

pub idle_spends : (b : List ℕ) → spend b idle ≡ b
unfolding spend
idle_spends b = refl

pub spends : (b : List ℕ) (pick : ℕ) → pick < idle → spend b pick ≡ set b pick (b ! pick - 1)
unfolding spend
spends b pick l = rw (ne_eqb pick idle (λ e. omega arith))

pub spend-own : (b : List ℕ) (pick : ℕ) → pick < idle → pick < length b → spend b pick ! pick ≡ b ! pick - 1
spend-own b pick few l = rw (spends b pick few) (get_or-set_same b pick (b ! pick - 1) 0 l)

module _ (b : List ℕ) (pick : ℕ) where
  pub spend_other : (h : ℕ) → ¬ (h ≡ pick) → spend b pick ! h ≡ b ! h
  unfolding spend
  spend_other h other = go (eqb pick idle)
    where
      go : (a : Bool) → cond a b (set b pick (b ! pick - 1)) ! h ≡ b ! h
      go true = refl
      go false = get_or-set_other b pick h (b ! pick - 1) 0 other

  pub spend-length : length (spend b pick) ≡ length b
  unfolding spend
  spend-length = go (eqb pick idle)
    where
      go : (a : Bool) → length (cond a b (set b pick (b ! pick - 1))) ≡ length b
      go true = refl
      go false = length-set b pick (b ! pick - 1)
