-- What a test says, and the test that a fact passes. (Those of one comparison are the library's, `borrow.Author.Tests`.)
use Prim.Native.Nat.{ℕ, suc, ◌≤◌, ◌<◌}
use mathlib.Core.Path.{◌≡◌, refl, sym, ◌∙◌}
use mathlib.Core.Bool.{Bool, true, false, ◌&&◌, ◌||◌, true≢false}
use mathlib.Core.Logic.{◌⊎◌, inl, inr, ⊎_elim}
use mathlib.Core.Option.{Option, some, none, some-ne-none, none-ne-some}
use native.Mathlib.Nat.{eq-or-lt_of_le, le_of_suc-le-suc}
use borrow.Author.Tests.{leb-true, le-leb, ltb-true, ltb-false}
use lib.Dec.{leb, ltb}
use Rattle.basis.specs.Words.{within, unless, found}

pub true_or_false : (a : Bool) → (a ≡ true) ⊎ (a ≡ false)
true_or_false true = inl refl
true_or_false false = inr refl

pub both : {a b : Bool} → a ≡ true → b ≡ true → (a && b) ≡ true
both p q = rw (p, q)

pub and_left : (a b : Bool) → (a && b) ≡ true → a ≡ true
and_left true b p = refl
and_left false b p = p

pub and_right : (a b : Bool) → (a && b) ≡ true → b ≡ true
and_right true b p = p
and_right false b p = absurd (true≢false (sym p))

pub off_left : {a : Bool} (b : Bool) → a ≡ false → (a && b) ≡ false
off_left b p = rw p

pub off_right : {a b : Bool} → a ≡ true → b ≡ false → (a && b) ≡ false
off_right p q = rw (p, q)

pub or_left : {a : Bool} (b : Bool) → a ≡ true → (a || b) ≡ true
or_left b p = rw p

pub or_right : (a : Bool) {b : Bool} → b ≡ true → (a || b) ≡ true
or_right true p = refl
or_right false p = p

pub or_cases : (a b : Bool) → (a || b) ≡ true → (a ≡ true) ⊎ (b ≡ true)
or_cases true b p = inl refl
or_cases false b p = inr p

pub never : {A : Type 0} {a : Bool} → a ≡ true → a ≡ false → A
never p q = absurd (true≢false (sym p ∙ q))

pub fails : (a : Bool) → (a ≡ true → ⊥) → a ≡ false
fails true h = absurd (h refl)
fails false h = refl

pub within_low : (low high x : ℕ) → within low high x ≡ true → low ≤ x
within_low low high x p = leb-true low x (and_left _ _ p)

pub within_high : (low high x : ℕ) → within low high x ≡ true → x ≤ high
within_high low high x p = leb-true x high (and_right (leb low x) _ p)

pub is_within : {low high x : ℕ} → low ≤ x → x ≤ high → within low high x ≡ true
is_within {low} {high} {x} p q = both (le-leb low x p) (le-leb x high q)

-- an answer is there
pub found_some : (a : Option ℕ) → found a ≡ true → (x : ℕ) × (a ≡ some x)
found_some (some x) p = (x, refl)
found_some none p = never p refl

pub below_or_not : (i n : ℕ) → (i < n) ⊎ (n ≤ i)
below_or_not i n = ⊎_elim (λ p. inl (ltb-true i n p)) (λ p. inr (ltb-false i n p)) (true_or_false (ltb i n))

-- a number below n + 1 is n or below n
pub below_cases : {A : Type 0} (n i : ℕ) → i < suc n → (i ≡ n → A) → (i < n → A) → A
below_cases n i h last before = ⊎_elim last before (eq-or-lt_of_le (le_of_suc-le-suc h))

-- an answer isn't none
pub some_is_none : {A X : Type 0} {x : X} → some x ≡ none → A
some_is_none {x = x} e = absurd (some-ne-none x e)

pub none_is_some : {A X : Type 0} {x : X} → none ≡ some x → A
none_is_some {x = x} e = absurd (none-ne-some x e)

-- a number that isn't there because the test passes
pub unless-none : (a : Bool) (x : ℕ) → unless a x ≡ none → a ≡ true
unless-none true x e = refl
unless-none false x e = some_is_none e
