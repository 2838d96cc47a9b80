-- The digits of a number: how many there are, and that the library's are 01's.
use Prim.Native.Nat.{ℕ, zero, suc, ◌+◌, ◌*◌, ◌/◌, ◌%◌, ◌^◌, ◌≤◌, ◌<◌, max}
use mathlib.Core.Path.{◌≡◌, sym, ◌∙◌, ap}
use mathlib.Core.Bool.{Bool, true, false, cond}
use mathlib.Core.List.{List, [], ◌∷◌, ◌++◌}
use native.Mathlib.Nat.{div-lt_iff_lt-mul, pow-suc}
use native.Mathlib.Omega.{arith}
use borrow.Author.Tests.{lt-ltb, le-ltb}
use lib.Dec.{ltb}
use lib.ListN.{length, length-append}
use Rattle.std.specs.Fmt.{decimal as library_decimal}
use Rattle.std.proofs.lemmas.Fmt.{decimal_by_steps}
use Rattle.file_rules.specs.Printers.{decimal_within, decimal}

-- ---- the digits of a number of 64 bits, by its last one
-- more digits than enough change nothing
enough : (k n : ℕ) → n < 10 ^ suc k → decimal_within (suc k) n ≡ decimal_within (suc (suc k)) n
unfolding decimal_within
enough zero n h = rw (lt-ltb n 10 h)
enough (suc k) n h =
    ap (λ (higher : List ℕ). cond (ltb n 10) [] higher ++ (48 + n % 10) ∷ [])
    (enough k (n / 10) ((div-lt_iff_lt-mul {k = 10} {x = n} {y = 10 ^ suc k} (omega arith)).1 (rw (pow-suc 10 (suc k)) at h)))

pub one_digit : (n : ℕ) → n < 10 → decimal n ≡ (48 + n % 10) ∷ []
unfolding decimal_within
one_digit n h = rw (lt-ltb n 10 h)

pub more_digits : (n : ℕ) → 10 ≤ n → n < 2 ^ 64 → decimal n ≡ decimal (n / 10) ++ (48 + n % 10) ∷ []
unfolding decimal_within
more_digits n h small = rw (le-ltb n 10 h) (ap (λ (higher : List ℕ). higher ++ (48 + n % 10) ∷ []) (enough 18 (n / 10) (omega arith)))

pub digits_most : (k n : ℕ) → length (decimal_within k n) ≤ k
unfolding decimal_within
digits_most zero n = omega arith
digits_most (suc k) n = rw (length-append (cond (ltb n 10) [] (decimal_within k (n / 10))) ((48 + n % 10) ∷ [])) (go (ltb n 10) (digits_most k (n / 10)))
  where
    go : (t : Bool) → length (decimal_within k (n / 10)) ≤ k → length (cond t [] (decimal_within k (n / 10))) + 1 ≤ suc k
    go true most = omega arith
    go false most = omega arith

-- ---- counted by the logarithm
count_by : (k n : ℕ) → 10 ^ k ≤ n → n < 10 * 10 ^ k → n < 2 ^ 64 → k + 1 ≡ length (decimal n)
count_by zero n low high small = sym (ap length (one_digit n high))
count_by (suc k) n low high small =
    let power = pow-suc 10 k in
    let before = count_by k (n / 10) (omega arith) (omega arith) (omega arith) in
    let fewer = ap length (more_digits n (omega arith) small) ∙ length-append (decimal (n / 10)) ((48 + n % 10) ∷ []) in
    omega arith

pub digits_counted : (k n : ℕ) → 10 ^ k ≤ max n 1 → max n 1 < 10 * 10 ^ k → n < 2 ^ 64 → k + 1 ≡ length (decimal n)
unfolding decimal_within
digits_counted k zero low high small = count_by k 1 low high (omega arith)
digits_counted k (suc n) low high small = count_by k (suc n) (omega arith) (omega arith) small

-- ---- written by the library
pub same_digits : (n : ℕ) → n < 2 ^ 64 → library_decimal n ≡ decimal n
same_digits n small = decimal_by_steps (λ (m : ℕ) (ds : List ℕ). m < 2 ^ 64 → ds ≡ decimal m) one more n small small
  where
    one : (m : ℕ) → m < 10 → m < 2 ^ 64 → (48 + m) ∷ [] ≡ decimal m
    one m h s = let same : m ≡ m % 10 = omega arith in ap (λ d. (48 + d) ∷ []) same ∙ sym (one_digit m h)

    more : (m : ℕ) (ds : List ℕ) → 10 ≤ m → (m / 10 < 2 ^ 64 → ds ≡ decimal (m / 10)) → m < 2 ^ 64 → ds ++ ((48 + m % 10) ∷ []) ≡ decimal m
    more m ds h before s = ap (λ (xs : List ℕ). xs ++ (48 + m % 10) ∷ []) (before (omega arith)) ∙ sym (more_digits m h s)
