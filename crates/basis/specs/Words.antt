-- The words that the rules are written in. Those that compute are all at work in specs/Shown.antt.
-- Tests are the library's `leb` (≤), `ltb` (<) and `eqb` (=), joined by `&&`, `||` and `not`; `cond test x y` is x where the test passes, else y.
use Rattle.std.specs.Prelude.{ℕ, zero, suc, ◌+◌, ◌-◌, ◌/◌, ◌≤◌, ◌<◌, Bool, true, false, cond, ◌&&◌, ◌||◌, List, [], ◌∷◌, ◌++◌, leb, eqb, length, get_or, set, replicate, drop}
use Rattle.std.proofs.Math.Option.{Option, some, none}

infixl 90 ◌!◌
-- what stands at a place of a list, the places counted from 0; past the end of the list 0
abbrev pub ◌!◌ : List ℕ → ℕ → ℕ
xs ! i = get_or xs i 0

-- x is at least `low` and at most `high`
abbrev pub within : ℕ → ℕ → ℕ → Bool
within low high x = leb low x && leb x high

-- the quotient x / y, rounded up
unfoldable pub ceil : ℕ → ℕ → ℕ
ceil x y = (x + (y - 1)) / y

-- f 0 + f 1 + .. + f (n - 1)
unfoldable pub sum_below : ℕ → (ℕ → ℕ) → ℕ
sum_below zero f = 0
sum_below (suc n) f = sum_below n f + f n

-- the sum of a list
unfoldable pub total : List ℕ → ℕ
total [] = 0
total (x ∷ xs) = x + total xs

-- x stands somewhere in the list
unfoldable pub has : List ℕ → ℕ → Bool
has [] x = false
has (y ∷ ys) x = eqb x y || has ys x

-- every number below n passes the test
unfoldable pub all : ℕ → (ℕ → Bool) → Bool
all zero test = true
all (suc n) test = all n test && test n

-- the numbers below n that pass the test, in order
unfoldable pub those : ℕ → (ℕ → Bool) → List ℕ
those zero test = []
those (suc n) test = those n test ++ cond (test n) (n ∷ []) []

-- the first answer, or the second where there is no first
abbrev pub or_else : Option ℕ → Option ℕ → Option ℕ
or_else (some i) other = some i
or_else none other = other

-- x, unless the test passes
abbrev pub unless : Bool → ℕ → Option ℕ
unless test x = cond test none (some x)

-- the first number below n that passes the test
unfoldable pub first : ℕ → (ℕ → Bool) → Option ℕ
first zero test = none
first (suc n) test = or_else (first n test) (cond (test n) (some n) none)

-- there is an answer
abbrev pub found : Option ℕ → Bool
found (some i) = true
found none = false

-- the list with f i at each place i below n
unfoldable pub filled : ℕ → (ℕ → ℕ) → List ℕ → List ℕ
filled zero f xs = xs
filled (suc n) f xs = set (filled n f xs) n (f n)

-- the list in the places of an array, and 0 in the unused places
unfoldable pub padded : ℕ → List ℕ → List ℕ
padded places xs = xs ++ replicate (places - length xs) 0

-- the list at the start of a buffer, whose other entries stay
abbrev pub onto : List ℕ → List ℕ → List ℕ
onto xs buffer = xs ++ drop (length xs) buffer

-- each entry of the list is larger than the one before it: in order, and none twice
abbrev pub Increasing : List ℕ → Type 0
Increasing xs = (i j : ℕ) → i < j → j < length xs → xs ! i < xs ! j

-- x is the least number of which P holds
abbrev pub Least : (ℕ → Type 0) → ℕ → Type 0
Least P x = P x × ((y : ℕ) → P y → x ≤ y)

-- x, f x, f (f x), .. until it stands still: that number. No answer once one is past the bound, or after so many rounds.
unfoldable pub settle : ℕ → (ℕ → ℕ) → (ℕ → Bool) → ℕ → Option ℕ
settle zero f past x = none
settle (suc rounds) f past x =
    let more : Option ℕ = settle rounds f past (f x) in
    cond (past x) none (cond (eqb (f x) x) (some x) more)
