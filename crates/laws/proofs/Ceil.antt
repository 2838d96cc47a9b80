-- The quotient rounded up. The first two laws are all that the others, and every rule, need to know of division.
use Prim.Native.Nat.{ℕ, zero, suc, ◌+◌, ◌-◌, ◌*◌, ◌≤◌, ◌<◌}
use mathlib.Core.Path.{◌≡◌}
use native.Mathlib.Nat.{div-lt_iff_lt-mul, div-zero, le_refl, le_trans, le_antisymm, mul-le-mul, zero-mul, le_of_suc-le-suc, le_of_eq, lt_of_mul-lt-mul_right}
use native.Mathlib.Omega.{arith}
use Rattle.std.specs.Int.{div_ceil}
use Rattle.std.proofs.lemmas.Grind.{div_ceil_times}
use Rattle.basis.specs.Words.{ceil}

pub ceil_le : (x T m : ℕ) → 0 < T → x ≤ m * T → ceil x T ≤ m
unfolding ceil
ceil_le x T m pos h = le_of_suc-le-suc ((div-lt_iff_lt-mul {k = T} {x = x + (T - 1)} {y = suc m} pos).1 (omega arith))

pub le_ceil : (x T m : ℕ) → 0 < T → ceil x T ≤ m → x ≤ m * T
unfolding ceil
le_ceil x T m pos h =
    let less : x + (T - 1) < suc m * T = (div-lt_iff_lt-mul {k = T} {x = x + (T - 1)} {y = suc m} pos).0 (omega arith) in
    omega arith

pub ceil_by_zero : (x : ℕ) → ceil x 0 ≡ 0
unfolding ceil
ceil_by_zero x = div-zero (x + (0 - 1))

pub ceil-zero : (T : ℕ) → ceil 0 T ≡ 0
ceil-zero zero = ceil_by_zero 0
ceil-zero (suc T) = le_antisymm (ceil_le 0 (suc T) 0 (omega arith) (omega arith)) (omega arith)

pub ceil_mono : (x y T : ℕ) → x ≤ y → ceil x T ≤ ceil y T
ceil_mono x y zero h = le_of_eq (rw (ceil_by_zero x, ceil_by_zero y))
ceil_mono x y (suc T) h =
    ceil_le x (suc T) (ceil y (suc T)) (omega arith)
    (le_trans h (le_ceil y (suc T) (ceil y (suc T)) (omega arith) (le_refl (ceil y (suc T)))))

-- a quotient is at most what is divided
pub ceil_most : (x T : ℕ) → ceil x T ≤ x
ceil_most x zero = le_trans (le_of_eq (ceil_by_zero x)) (omega arith)
ceil_most x (suc T) = ceil_le x (suc T) x (omega arith) (omega arith)

-- so a product with it comes so far
pub ceil-times : (x T B most-x most-B : ℕ) → x ≤ most-x → B ≤ most-B → ceil x T * B ≤ most-x * most-B
ceil-times x T B most-x most-B l k = mul-le-mul (le_trans (ceil_most x T) l) k

-- what is left after one more whole divisor is taken away
pub ceil_step : (x T : ℕ) → 0 < T → 0 < x → ceil x T ≡ suc (ceil (x - T) T)
ceil_step x T pos h =
    let rest : ℕ = ceil (x - T) T in
    let whole : ℕ = ceil x T in
    let r : x - T ≤ rest * T = le_ceil (x - T) T rest pos (le_refl rest) in
    let up : whole ≤ suc rest = ceil_le x T (suc rest) pos (omega arith) in
    let w : x ≤ whole * T = le_ceil x T whole pos (le_refl whole) in
    le_antisymm up (down whole w)
  where
    down : (m : ℕ) → x ≤ m * T → suc (ceil (x - T) T) ≤ m
    down zero w = let none : zero * T ≡ 0 = zero-mul T in omega arith
    down (suc m) w = let less : ceil (x - T) T ≤ m = ceil_le (x - T) T m pos (omega arith) in omega arith

-- std's quotient rounded up is 01's
pub div_ceil_is : (x T : ℕ) → 0 < T → div_ceil x T ≡ ceil x T
div_ceil_is x T pos = le_antisymm (nearest (div_ceil x T) (ceil x T) times.1 (le_ceil x T (ceil x T) pos (le_refl (ceil x T)))) (ceil_le x T (div_ceil x T) pos times.0)
  where
    times : (x ≤ div_ceil x T * T) × (div_ceil x T * T < x + T)
    times = div_ceil_times x T pos

    nearest : (d c : ℕ) → d * T < x + T → x ≤ c * T → d ≤ c
    nearest d c less enough = let few : d < suc c = lt_of_mul-lt-mul_right T (omega arith) in omega arith
