-- Sums over the numbers below n, and of a list.
use Prim.Native.Nat.{ℕ, zero, suc, ◌+◌, ◌≤◌, ◌<◌}
use mathlib.Core.Path.{◌≡◌, refl, ◌∙◌, ap, ap₂, sym, subst}
use mathlib.Core.List.{List, [], ◌∷◌, ◌++◌, map, map-append}
use mathlib.Core.Logic.{⊎_elim}
use mathlib.Core.Bool.{Bool, true, false, cond}
use borrow.Author.Tests.{eqb-true}
use lib.Dec.{eqb}
use native.Mathlib.Nat.{le_refl, add-le-add, le_step, lt-suc_self, zero-add, add-zero, add_assoc}
use native.Mathlib.Numerals.{add-one}
use native.Mathlib.Omega.{arith}
use Rattle.basis.specs.Words.{sum_below, total, has, those}
use Rattle.laws.proofs.Tests.{or_cases, never, below_cases}

pub sum_mono : (n : ℕ) (f g : ℕ → ℕ) → ((j : ℕ) → j < n → f j ≤ g j) → sum_below n f ≤ sum_below n g
unfolding sum_below
sum_mono zero f g h = le_refl 0
sum_mono (suc n) f g h = add-le-add (sum_mono n f g (λ j l. h j (le_step l))) (h n (lt-suc_self n))

-- and one of them smaller: so is the sum
pub sum_less : (n : ℕ) (f g : ℕ → ℕ) → ((j : ℕ) → j < n → f j ≤ g j) → (k : ℕ) → k < n → f k < g k → sum_below n f < sum_below n g
unfolding sum_below
sum_less zero f g each k l less = absurd (omega arith)
sum_less (suc n) f g each k l less = below_cases n k l last (λ m. before (sum_less n f g (λ j i. each j (le_step i)) k m less))
  where
    last : k ≡ n → sum_below n f + f n < sum_below n g + g n
    last e =
        let others = sum_mono n f g (λ j m. each j (le_step m)) in
        let own : f n < g n = subst (λ (i : ℕ). f i < g i) e less in
        omega arith

    before : sum_below n f < sum_below n g → sum_below n f + f n < sum_below n g + g n
    before others = let own = each n (lt-suc_self n) in omega arith

pub sum-one-more : (n : ℕ) (f : ℕ → ℕ) → sum_below (n + 1) f ≡ sum_below n f + f n
unfolding sum_below
sum-one-more n f = rw (add-one n)

pub sum_same : (n : ℕ) (f g : ℕ → ℕ) → ((j : ℕ) → j < n → f j ≡ g j) → sum_below n f ≡ sum_below n g
unfolding sum_below
sum_same zero f g h = refl
sum_same (suc n) f g h = ap₂ ◌+◌ (sum_same n f g (λ j l. h j (le_step l))) (h n (lt-suc_self n))

pub sum_plus : (n : ℕ) (f g : ℕ → ℕ) → sum_below n f + sum_below n g ≡ sum_below n (λ j. f j + g j)
unfolding sum_below
sum_plus zero f g = refl
sum_plus (suc n) f g = let before = sum_plus n f g in omega arith

pub sum-none : (n : ℕ) (f : ℕ → ℕ) → ((j : ℕ) → j < n → f j ≡ 0) → sum_below n f ≡ 0
unfolding sum_below
sum-none zero f h = refl
sum-none (suc n) f h =
    let before = sum-none n f (λ j l. h j (le_step l)) in
    let last = h n (lt-suc_self n) in
    omega arith

-- each part is at most the sum
pub sum-part : (n : ℕ) (f : ℕ → ℕ) (j : ℕ) → j < n → f j ≤ sum_below n f
unfolding sum_below
sum-part zero f j h = omega arith
sum-part (suc n) f j h = below_cases n j h (λ e. same (ap f e)) (λ l. let before = sum-part n f j l in omega arith)
  where
    same : f j ≡ f n → f j ≤ sum_below n f + f n
    same e = omega arith

pub total-append : (xs ys : List ℕ) → total (xs ++ ys) ≡ total xs + total ys
unfolding total
total-append [] ys = sym (zero-add (total ys))
total-append (x ∷ xs) ys = ap (λ t. x + t) (total-append xs ys) ∙ sym (add_assoc x (total xs) (total ys))

-- where each part is at most another, so is the sum
pub total_mono : {A : Type 0} (xs : List A) (f g : A → ℕ) → ((x : A) → f x ≤ g x) → total (map f xs) ≤ total (map g xs)
unfolding total
total_mono [] f g h = le_refl 0
total_mono (x ∷ xs) f g h = add-le-add (h x) (total_mono xs f g h)

-- each entry's value is at most the sum of all
pub total-part : (f : ℕ → ℕ) (xs : List ℕ) (x : ℕ) → has xs x ≡ true → f x ≤ total (map f xs)
unfolding total has
total-part f [] x p = never p refl
total-part f (y ∷ ys) x p =
    ⊎_elim (λ q. same (ap f (eqb-true x y q))) (λ q. let later = total-part f ys x q in omega arith) (or_cases (eqb x y) (has ys x) p)
  where
    same : f x ≡ f y → f x ≤ f y + total (map f ys)
    same e = omega arith

-- the sum over those below n that pass a test
pub total-those : (f : ℕ → ℕ) (n : ℕ) (test : ℕ → Bool) → total (map f (those n test)) ≡ sum_below n (λ i. cond (test i) (f i) 0)
unfolding those sum_below total
total-those f zero test = refl
total-those f (suc n) test =
    ap total (map-append f (those n test) (cond (test n) (n ∷ []) []))
    ∙ total-append (map f (those n test)) _
    ∙ ap₂ ◌+◌ (total-those f n test) (last (test n))
  where
    last : (t : Bool) → total (map f (cond t (n ∷ []) [])) ≡ cond t (f n) 0
    last true = add-zero (f n)
    last false = refl
