-- What repeating a function finds: the least number that it doesn't raise, if one lies within the bound.
use Prim.Native.Nat.{ℕ, zero, suc, ◌+◌, ◌-◌, ◌≤◌, ◌<◌}
use mathlib.Core.Path.{◌≡◌, refl, ◌∙◌, ap, sym}
use mathlib.Core.Bool.{Bool, true, false, cond}
use mathlib.Core.Option.{Option, some, none}
use mathlib.Core.Logic.{◌↔◌}
use native.Mathlib.Nat.{le_trans, le_antisymm, le_of_eq}
use native.Mathlib.Omega.{arith}
use borrow.Author.Tests.{ltb-false, le-ltb, eqb-true, eqb-false, eq-eqb, ne_eqb}
use lib.Dec.{eqb, ltb}
use Rattle.basis.specs.Words.{Least, settle}
use Rattle.laws.proofs.Tests.{never, none_is_some, some_is_none}

-- a function that never falls
abbrev pub Rising : (ℕ → ℕ) → Type 0
Rising f = (x y : ℕ) → x ≤ y → f x ≤ f y

-- where x is within the bound, all below it is
abbrev pub Bound : (ℕ → Bool) → Type 0
Bound past = (x y : ℕ) → x ≤ y → past y ≡ false → past x ≡ false

-- what it means that repeating f from x stands still at y
pub record Settled (f : ℕ → ℕ) (past : ℕ → Bool) (x y : ℕ) : Type 0 where
  pub still : f y ≡ y
  pub bounded : past y ≡ false
  pub least : (z : ℕ) → x ≤ z → f z ≤ z → y ≤ z

module _ (f : ℕ → ℕ) (past : ℕ → Bool) (rising : Rising f) where
  settle-some : (rounds x y : ℕ) → settle rounds f past x ≡ some y → Settled f past x y
  unfolding settle
  settle-some zero x y p = none_is_some p
  settle-some (suc rounds) x y p = go (past x) refl (eqb (f x) x) refl p (settle-some rounds (f x) y)
    where
      go : (a : Bool) → past x ≡ a → (t : Bool) → eqb (f x) x ≡ t
          → cond a none (cond t (some x) (settle rounds f past (f x))) ≡ some y
          → (settle rounds f past (f x) ≡ some y → Settled f past (f x) y) → Settled f past x y
      go true e t d q later = none_is_some q
      go false e true d q later =
          let same : x ≡ y = cc in
          let fixed : f x ≡ x = eqb-true (f x) x d in
          record {
            still = sym (ap f same) ∙ fixed ∙ same;
            bounded = sym (ap past same) ∙ e;
            least = λ z h k. omega arith;
          }
      go false e false d q later =
          let s : Settled f past (f x) y = later q in
          record {
            still = s.still;
            bounded = s.bounded;
            least = λ z h k. s.least z (le_trans (rising x z h) k) k;
          }

  -- a number within the bound that f doesn't raise is enough
  settle_finds : Bound past → (rounds x z : ℕ) → x ≤ f x → x ≤ z → f z ≤ z → past z ≡ false → z < x + rounds
      → (y : ℕ) × (settle rounds f past x ≡ some y)
  unfolding settle
  settle_finds bound zero x z up h k w fuel = absurd (omega arith)
  settle_finds bound (suc rounds) x z up h k w fuel = go (past x) refl (eqb (f x) x) refl (settle_finds bound rounds (f x) z)
    where
      go : (a : Bool) → past x ≡ a → (t : Bool) → eqb (f x) x ≡ t
          → (f x ≤ f (f x) → f x ≤ z → f z ≤ z → past z ≡ false → z < f x + rounds → (y : ℕ) × (settle rounds f past (f x) ≡ some y))
          → (y : ℕ) × (cond a none (cond t (some x) (settle rounds f past (f x))) ≡ some y)
      go true e t d later = never e (bound x z h w)
      go false e true d later = (x, refl)
      go false e false d later =
          let moved : x < f x = raised (eqb-false (f x) x d) in
          later (rising x (f x) up) (le_trans (rising x z h) k) k w (omega arith)
        where
          raised : (f x ≡ x → ⊥) → x < f x
          raised differs = omega arith

-- ---- from a start that f never goes below: the least number of all that stands still, if it is within the bound
pub record Start (f : ℕ → ℕ) (past : ℕ → Bool) (D x : ℕ) : Type 0 where
  pub rising : Rising f
  pub bound : Bound past
  -- D is a number that all within the bound are at most
  pub limit : (z : ℕ) → past z ≡ false → z ≤ D
  pub lowest : (z : ℕ) → x ≤ f z

-- the bound may be a number
pub up_to : (f : ℕ → ℕ) (D x : ℕ) → Rising f → ((z : ℕ) → x ≤ f z) → Start f (ltb D) D x
up_to f D x rising lowest =
    record {
      rising = rising;
      bound = λ y z l near. le-ltb D y (le_trans l (ltb-false D z near));
      limit = λ z near. ltb-false D z near;
      lowest = lowest;
    }

module _ {f : ℕ → ℕ} {past : ℕ → Bool} {D x : ℕ} (start : Start f past D x) where
  pub settles_finds : (z : ℕ) → f z ≤ z → past z ≡ false → (y : ℕ) × (settle (suc D) f past x ≡ some y)
  settles_finds z k near =
      let l = start.limit z near in
      settle_finds f past start.rising start.bound (suc D) x z (start.lowest x) (le_trans (start.lowest z) k) k near (omega arith)

  settles_least : (y : ℕ) → settle (suc D) f past x ≡ some y → Least (λ z. f z ≡ z) y × (past y ≡ false)
  settles_least y p =
      let s = settle-some f past start.rising (suc D) x y p in
      ((s.still, λ z e. s.least z (le_trans (start.lowest z) (le_of_eq e)) (le_of_eq e)), s.bounded)

  least_settles : (y : ℕ) → Least (λ z. f z ≡ z) y → past y ≡ false → settle (suc D) f past x ≡ some y
  least_settles y least near =
      let answer = settles_finds y (le_of_eq least.0) near in
      let s = settles_least answer.0 answer.1 in
      answer.1 ∙ ap some (le_antisymm (s.0.1 y least.0) (least.1 answer.0 s.0.0))

  pub settles_exactly : (y : ℕ) → (settle (suc D) f past x ≡ some y) ↔ (Least (λ z. f z ≡ z) y × (past y ≡ false))
  settles_exactly y = (settles_least y, λ s. least_settles y s.0 s.1)

  pub settles_never : (settle (suc D) f past x ≡ none) ↔ ((z : ℕ) → f z ≡ z → past z ≡ false → ⊥)
  settles_never = (λ none_there z e near. some_is_none (sym (settles_finds z (le_of_eq e) near).1 ∙ none_there), λ nowhere. by (settle (suc D) f past x) refl nowhere)
    where
      by : (a : Option ℕ) → settle (suc D) f past x ≡ a → ((z : ℕ) → f z ≡ z → past z ≡ false → ⊥) → settle (suc D) f past x ≡ none
      by none e nowhere = e
      by (some y) e nowhere = let s = settles_least y e in absurd (nowhere y s.0.0 s.1)

-- ---- a loop that repeats f, and has come to x: what is left to repeat gives the same answer
pub record Repeating (f : ℕ → ℕ) (past : ℕ → Bool) (D : ℕ) (answer : Option ℕ) (x : ℕ) : Type 0 where
  pub rounds : ℕ
  pub same : settle rounds f past x ≡ answer
  pub enough : D < x + rounds
  pub rises : x ≤ f x

module _ {f : ℕ → ℕ} {past : ℕ → Bool} {D x : ℕ} (start : Start f past D x) where
  pub repeating_begins : Repeating f past D (settle (suc D) f past x) x
  repeating_begins = record { rounds = suc D; same = refl; enough = omega arith; rises = start.lowest x }

module _ {f : ℕ → ℕ} {past : ℕ → Bool} {D first : ℕ} (start : Start f past D first) (answer : Option ℕ) (x : ℕ) (here : Repeating f past D answer x) where
  pub repeated_past : past x ≡ true → none ≡ answer
  unfolding settle
  repeated_past far = sym (go here.rounds) ∙ here.same
    where
      go : (rounds : ℕ) → settle rounds f past x ≡ none
      go zero = refl
      go (suc rounds) = rw far

  -- the next number, y, is worked out
  module _ (near : past x ≡ false) (y : ℕ) (is : y ≡ f x) where
    pub repeated_still : y ≡ x → some x ≡ answer
    unfolding settle
    repeated_still same = sym (go here.rounds here.enough) ∙ here.same
      where
        go : (rounds : ℕ) → D < x + rounds → settle rounds f past x ≡ some x
        go zero fuel = let l = start.limit x near in absurd (omega arith)
        go (suc rounds) fuel = rw (near, eq-eqb (f x) x (sym is ∙ same))

    module _ (moved : y ≡ x → ⊥) where
      up : x < y
      up = let rises = here.rises in omega arith

      pub repeating_nearer : D + 1 - y < D + 1 - x
      repeating_nearer = let l = start.limit x near in let more = up in omega arith

      pub repeating_on : Repeating f past D answer y
      unfolding settle
      repeating_on = rw is (go here.rounds here.same here.enough)
        where
          settle-more : (rounds : ℕ) → settle (suc rounds) f past x ≡ settle rounds f past (f x)
          settle-more rounds = rw (near, ne_eqb (f x) x (λ e. moved (is ∙ e)))

          go : (rounds : ℕ) → settle rounds f past x ≡ answer → D < x + rounds → Repeating f past D answer (f x)
          go zero e fuel = let l = start.limit x near in absurd (omega arith)
          go (suc rounds) e fuel =
              let more = up in
              record {
                rounds = rounds;
                same = sym (settle-more rounds) ∙ e;
                enough = omega arith;
                rises = start.rising x (f x) here.rises;
              }
