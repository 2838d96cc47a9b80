-- The sums of a round, in 64 bits.
use Prim.Native.Nat.{ℕ, ◌+◌, ◌*◌, ◌≤◌, ◌<◌}
use mathlib.Core.Path.{◌≡◌, sym, ◌∙◌, ap}
use mathlib.Core.Bool.{cond}
use native.Mathlib.Omega.{arith}
use borrow.Author.Tests.{eq-eqb, ne_eqb}
use lib.Dec.{eqb}
use mir.Syntax.{w64}
use mir.Val.{Fits}
use Rattle.basis.specs.Words.{ceil}
use Rattle.basis.specs.Reckoned.{Reckoned}
use Rattle.std.specs.Int.{div_ceil}
use Rattle.laws.proofs.Ceil.{div_ceil_is, ceil_most, ceil-times, ceil_by_zero}

-- ---- a quotient rounded up
module _ (x y : ℕ) where
  pub by_nothing : y ≡ 0 → Reckoned (x + 1) (ceil x y) 0
  by_nothing none_there = record { is = sym (rw none_there (ceil_by_zero x)); small = omega arith }

  pub quotient : (y ≡ 0 → ⊥) → (by r : ℕ) → by ≡ y → r ≡ div_ceil x by → Reckoned (x + 1) (ceil x y) r
  quotient some_there by r same is = record { is = right; small = let most = ceil_most x y in let here = right in omega (arith, most, here) }
    where
      right : r ≡ ceil x y
      right = is ∙ ap (div_ceil x) same ∙ div_ceil_is x y (omega arith)

-- ---- one task above
module _ (p e window : ℕ) where
  pub of_another : (of h : ℕ) → (of ≡ h → ⊥) → Reckoned 4294967296 (cond (eqb of h) (ceil window p * e) 0) 0
  of_another of h other = record { is = sym (rw (ne_eqb of h other)); small = omega arith }

  module _ (near : window < 65536) (cheap : e < 65536) (times : ℕ) (up : Reckoned (window + 1) (ceil window p) times) where
    product : times * e < 4294967296
    product =
        let most : ceil window p * e ≤ 65535 * 65535 = ceil-times window p e 65535 65535 (omega arith) (omega arith) in
        let same : times * e ≡ ceil window p * e = ap (λ t. t * e) up.is in
        omega arith

    pub asked_fits : Fits w64 (times * e)
    asked_fits = let small = product in record { fits = omega arith }

    pub asked_is : (of h : ℕ) → of ≡ h → Reckoned 4294967296 (cond (eqb of h) (ceil window p * e) 0) (times * e)
    asked_is of h same = record { is = rw (eq-eqb of h same) (ap (λ t. t * e) up.is); small = product }

-- ---- a load, served by a budget in each period
module _ (load B away : ℕ) (light : load < 549755813888) (short : away < 65536) (periods : ℕ) (up : Reckoned (load + 1) (ceil load B) periods) where
  waits : periods * away ≤ 549755813887 * 65535
  waits =
      let most : ceil load B * away ≤ 549755813887 * 65535 = ceil-times load B away 549755813887 65535 (omega arith) (omega arith) in
      let same : periods * away ≡ ceil load B * away = ap (λ t. t * away) up.is in
      omega arith

  pub waits_fit : Fits w64 (periods * away)
  waits_fit = let most = waits in record { fits = omega arith }

  pub served_fits : Fits w64 (load + periods * away)
  served_fits = let most = waits in record { fits = omega arith }

  pub served_is : Reckoned 36028797018963968 (load + ceil load B * away) (load + periods * away)
  served_is = let most = waits in record { is = ap (λ t. load + t * away) up.is; small = omega arith }
