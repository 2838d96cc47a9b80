-- One partition's replenishments: what a comparison decides, and what is left to divide.
use Prim.Native.Nat.{ℕ, suc, ◌-◌, ◌*◌, ◌≤◌, ◌<◌}
use mathlib.Core.Path.{◌≡◌, sym, ◌∙◌, ap}
use native.Mathlib.Nat.{zero-mul, one-mul}
use native.Mathlib.Omega.{arith}
use mir.Syntax.{w64}
use mir.Val.{Fits}
use Rattle.basis.specs.Words.{ceil}
use Rattle.basis.specs.Reckoned.{Reckoned}
use Rattle.rules.specs.BusyLength.{arrivals}
use Rattle.std.specs.Int.{div_ceil}
use Rattle.laws.proofs.Ceil.{div_ceil_is, ceil-times, ceil_by_zero, ceil-zero, ceil_step}
use Rattle.laws.proofs.Arrivals.{arrivals-none}

module _ (T B o W : ℕ) where
  -- W is not past the next one
  pub adds_none : W ≤ o → 0 ≡ arrivals o T W * B
  adds_none l = sym (rw (arrivals-none o T W l) (zero-mul B))

  pub none_due : W ≤ o → Reckoned 8589934592 (arrivals o T W * B) 0
  none_due l = record { is = adds_none l; small = omega arith }

  -- it is past the next one, and not past the one after it
  pub adds_one : o < W → W - o ≤ T → B ≡ arrivals o T W * B
  unfolding arrivals
  adds_one l k = let once : arrivals o T W ≡ 1 = once_due in sym (rw once (one-mul B))
    where
      rest : W - o - T ≡ 0
      rest = omega arith

      once_due : arrivals o T W ≡ 1
      once_due = ceil_step (W - o) T (omega arith) (omega arith) ∙ ap suc (ap (λ x. ceil x T) rest ∙ ceil-zero T)

  pub one_due : o < W → W - o ≤ T → B < 65536 → Reckoned 8589934592 (arrivals o T W * B) B
  one_due l k small = record { is = adds_one l k; small = omega arith }

  -- a period of 0 brings none
  pub none_ever : T ≡ 0 → Reckoned 8589934592 (arrivals o T W * B) 0
  unfolding arrivals
  none_ever e = record { is = sym (rw (e, ceil_by_zero (W - o)) (zero-mul B)); small = omega arith }

  module _ (near : W < 131072) (small : B < 65536) (some_there : T ≡ 0 → ⊥) (times : ℕ) (up : times ≡ div_ceil (W - o) T) where
    arrived : times ≡ arrivals o T W
    unfolding arrivals
    arrived = up ∙ div_ceil_is (W - o) T (omega arith)

    product : times * B < 8589934592
    unfolding arrivals
    product =
        let part : ceil (W - o) T * B ≤ 131071 * 65535 = ceil-times (W - o) T B 131071 65535 (omega arith) (omega arith) in
        let same : times * B ≡ ceil (W - o) T * B = ap (λ t. t * B) arrived in
        omega arith

    pub product_fits : Fits w64 (times * B)
    product_fits = let p = product in record { fits = omega arith }

    pub divided : Reckoned 8589934592 (arrivals o T W * B) (times * B)
    divided = record { is = ap (λ t. t * B) arrived; small = product }

-- what refill_of's ends rest on
pub ruleset refilled = (none_due, one_due, none_ever, product_fits, divided)
