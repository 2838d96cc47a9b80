-- The first number below n that passes a test, all of them, those of them, and what a list has.
use Prim.Native.Nat.{ℕ, zero, suc, ◌+◌, ◌≤◌, ◌<◌, zero-le}
use mathlib.Core.Path.{◌≡◌, refl, ◌∙◌, ap, ap₂, sym, subst}
use mathlib.Core.Bool.{Bool, true, false, cond, not, ◌&&◌, ◌||◌}
use mathlib.Core.List.{List, [], ◌∷◌, ◌++◌, append-nil, append_assoc, map, map-append}
use mathlib.Core.Option.{Option, some, none}
use mathlib.Core.Logic.{◌⊎◌, inl, inr, ⊎_elim}
use native.Mathlib.Nat.{le_refl, le_step, le_antisymm, lt-suc_self, le_of_suc-le-suc}
use native.Mathlib.Numerals.{add-one}
use native.Mathlib.Omega.{arith}
use borrow.Author.Tests.{eqb-true, eq-eqb, ne_eqb}
use lib.Dec.{eqb}
use lib.ListN.{length, take, length-append, get_or-append}
use lib.Seq.{get_or-append_seam, take-suc, take_all}
use Rattle.basis.specs.Words.{◌!◌, has, all, those, first, or_else, Increasing}
use Rattle.laws.proofs.Tests.{both, and_left, and_right, or_left, or_right, or_cases, never, below_or_not, below_cases, some_is_none, none_is_some}

-- ---- all
pub all_true : (n : ℕ) (test : ℕ → Bool) → all n test ≡ true → (i : ℕ) → i < n → test i ≡ true
unfolding all
all_true zero test p i h = absurd (omega arith)
all_true (suc n) test p i h =
    below_cases n i h (λ e. ap test e ∙ and_right (all n test) _ p) (all_true n test (and_left _ _ p) i)

pub true-all : (n : ℕ) (test : ℕ → Bool) → ((i : ℕ) → i < n → test i ≡ true) → all n test ≡ true
unfolding all
true-all zero test h = refl
true-all (suc n) test h = both (true-all n test (λ i l. h i (le_step l))) (h n (lt-suc_self n))

pub all_same : (n : ℕ) (p q : ℕ → Bool) → ((i : ℕ) → i < n → p i ≡ q i) → all n p ≡ all n q
unfolding all
all_same zero p q h = refl
all_same (suc n) p q h = ap₂ ◌&&◌ (all_same n p q (λ i l. h i (le_step l))) (h n (lt-suc_self n))

-- ---- first
-- what it means that i is the first
pub record First (n : ℕ) (test : ℕ → Bool) (i : ℕ) : Type 0 where
  pub below : i < n
  pub passed : test i ≡ true
  pub earlier : (j : ℕ) → j < i → test j ≡ false

pub first-none : (n : ℕ) (test : ℕ → Bool) → first n test ≡ none → (i : ℕ) → i < n → test i ≡ false
unfolding first
first-none zero test p i h = absurd (omega arith)
first-none (suc n) test p i h = go (first n test) refl (test n) refl p (first-none n test)
  where
    go : (a : Option ℕ) → first n test ≡ a → (t : Bool) → test n ≡ t → or_else a (cond t (some n) none) ≡ none
        → (first n test ≡ none → (j : ℕ) → j < n → test j ≡ false) → test i ≡ false
    go (some k) e t d q before = some_is_none q
    go none e true d q before = some_is_none q
    go none e false d q before = below_cases n i h (λ same. ap test same ∙ d) (before e i)

pub none_first : (n : ℕ) (test : ℕ → Bool) → ((i : ℕ) → i < n → test i ≡ false) → first n test ≡ none
unfolding first
none_first zero test h = refl
none_first (suc n) test h = rw (none_first n test (λ i l. h i (le_step l)), h n (lt-suc_self n))

pub first_some : (n : ℕ) (test : ℕ → Bool) (i : ℕ) → first n test ≡ some i → First n test i
unfolding first
first_some zero test i p = none_is_some p
first_some (suc n) test i p = go (first n test) refl (test n) refl p (first_some n test i)
  where
    go : (a : Option ℕ) → first n test ≡ a → (t : Bool) → test n ≡ t → or_else a (cond t (some n) none) ≡ some i
        → (first n test ≡ some i → First n test i) → First (suc n) test i
    go (some k) e t d q before =
        let f : First n test i = before (e ∙ q) in
        record { below = le_step f.below; passed = f.passed; earlier = f.earlier }
    go none e true d q before =
        let same : n ≡ i = cc in
        record { below = omega arith; passed = ap test (sym same) ∙ d; earlier = λ j l. first-none n test e j (omega arith) }
    go none e false d q before = none_is_some q

pub some_first : (n : ℕ) (test : ℕ → Bool) (i : ℕ) → First n test i → first n test ≡ some i
unfolding first
some_first zero test i f = absurd (omega arith)
some_first (suc n) test i f =
    below_cases n i f.below last
    (λ l. rw (some_first n test i (record { below = l; passed = f.passed; earlier = f.earlier })))
  where
    last : i ≡ n → or_else (first n test) (cond (test n) (some n) none) ≡ some i
    last e =
        let here : test n ≡ true = sym (ap test e) ∙ f.passed in
        let none_yet : first n test ≡ none = none_first n test (λ j l. f.earlier j (omega arith)) in
        rw (none_yet, here, e)

pub first_same : (n : ℕ) (p q : ℕ → Bool) → ((i : ℕ) → i < n → p i ≡ q i) → first n p ≡ first n q
unfolding first
first_same zero p q h = refl
first_same (suc n) p q h =
    ap₂ (λ (a : Option ℕ) (t : Bool). or_else a (cond t (some n) none))
    (first_same n p q (λ i l. h i (le_step l)))
    (h n (lt-suc_self n))

-- ---- a loop that looks for the first that fails a test, and has come to i
module _ (test : ℕ → Bool) where
  -- none before i fails
  pub PassTo : ℕ → Type 0
  PassTo i = first i (λ j. not (test j)) ≡ none

  pub pass_begins : PassTo 0
  unfolding PassTo first
  pass_begins = refl

  module _ (i : ℕ) (before : PassTo i) where
    pub pass_next : (r : Bool) → r ≡ test i → r ≡ true → PassTo (i + 1)
    unfolding PassTo first
    pass_next r e on = rw (add-one i, before, sym e, on)

    pub fails_here : (n : ℕ) (r : Bool) → i < n → r ≡ test i → r ≡ false → first n (λ j. not (test j)) ≡ some i
    unfolding PassTo
    fails_here n r l e off = some_first n (λ j. not (test j)) i (record { below = l; passed = ap not (sym e ∙ off); earlier = first-none i (λ j. not (test j)) before })

    pub none_fails : (n : ℕ) → n ≤ i → i ≤ n → first n (λ j. not (test j)) ≡ none
    unfolding PassTo
    none_fails n l k = subst (λ (m : ℕ). first m (λ j. not (test j)) ≡ none) (le_antisymm k l) before

-- ---- what a list has
pub has-append : (xs ys : List ℕ) (x : ℕ) → has (xs ++ ys) x ≡ (has xs x || has ys x)
unfolding has
has-append [] ys x = refl
has-append (y ∷ xs) ys x = ap (λ t. eqb x y || t) (has-append xs ys x) ∙ assoc (eqb x y)
  where
    assoc : (a : Bool) → (a || (has xs x || has ys x)) ≡ (a || has xs x || has ys x)
    assoc true = refl
    assoc false = refl

pub has_one : (x y : ℕ) → has (y ∷ []) x ≡ true → x ≡ y
unfolding has
has_one x y p = ⊎_elim (eqb-true x y) (λ q. never q refl) (or_cases (eqb x y) false p)

pub one_has : (x : ℕ) → has (x ∷ []) x ≡ true
unfolding has
one_has x = or_left false (eq-eqb x x refl)

pub has-none : (x : ℕ) → has [] x ≡ false
unfolding has
has-none x = refl

pub has_some : (xs : List ℕ) (x : ℕ) → has xs x ≡ true → 0 < length xs
has_some [] x p = never p (has-none x)
has_some (y ∷ ys) x p = omega arith

pub has_entry : (xs : List ℕ) (i : ℕ) → i < length xs → has xs (xs ! i) ≡ true
unfolding has
has_entry [] i h = absurd (omega arith)
has_entry (x ∷ xs) zero h = or_left _ (eq-eqb x x refl)
has_entry (x ∷ xs) (suc i) h = or_right (eqb (xs ! i) x) (has_entry xs i (le_of_suc-le-suc h))

-- ---- those
pub those_same : (n : ℕ) (p q : ℕ → Bool) → ((i : ℕ) → i < n → p i ≡ q i) → those n p ≡ those n q
unfolding those
those_same zero p q h = refl
those_same (suc n) p q h =
    ap₂ (λ (l : List ℕ) (t : Bool). l ++ cond t (n ∷ []) [])
    (those_same n p q (λ i l. h i (le_step l)))
    (h n (lt-suc_self n))

-- what it means that x is one of those
pub record Among (n : ℕ) (test : ℕ → Bool) (x : ℕ) : Type 0 where
  pub below : x < n
  pub passed : test x ≡ true

pub those-has : (n : ℕ) (test : ℕ → Bool) (x : ℕ) → has (those n test) x ≡ true → Among n test x
unfolding those has
those-has zero test x p = never p refl
those-has (suc n) test x p =
    ⊎_elim
    (λ q. let m = those-has n test x q in record { below = le_step m.below; passed = m.passed })
    (last (test n) refl)
    (or_cases (has (those n test) x) _ (sym (has-append (those n test) _ x) ∙ p))
  where
    last : (t : Bool) → test n ≡ t → has (cond t (n ∷ []) []) x ≡ true → Among (suc n) test x
    last true e q = let same : x ≡ n = has_one x n q in record { below = omega arith; passed = ap test same ∙ e }
    last false e q = never q refl

pub has-those : (n : ℕ) (test : ℕ → Bool) (x : ℕ) → Among n test x → has (those n test) x ≡ true
unfolding those
has-those zero test x m = absurd (omega arith)
has-those (suc n) test x m =
    has-append (those n test) _ x
    ∙ below_cases n x m.below last
    (λ l. or_left _ (has-those n test x (record { below = l; passed = m.passed })))
  where
    last : x ≡ n → (has (those n test) x || has (cond (test n) (n ∷ []) []) x) ≡ true
    last e =
        let here : has (cond (test n) (n ∷ []) []) x ≡ true = rw (sym (ap test e) ∙ m.passed, e) (one_has n) in
        or_right (has (those n test) x) here

pub increasing_more : (xs : List ℕ) (y : ℕ) → Increasing xs → ((i : ℕ) → i < length xs → xs ! i < y) → Increasing (xs ++ y ∷ [])
increasing_more xs y up less i j h k =
    below_cases (length xs) j (omega (arith, length-append xs (y ∷ []))) last before
  where
    last : j ≡ length xs → (xs ++ y ∷ []) ! i < (xs ++ y ∷ []) ! j
    last e = rw (e, get_or-append_seam xs y [] 0, get_or-append xs (y ∷ []) 0 i (omega arith)) (less i (omega arith))

    before : j < length xs → (xs ++ y ∷ []) ! i < (xs ++ y ∷ []) ! j
    before l = rw (get_or-append xs (y ∷ []) 0 i (omega arith), get_or-append xs (y ∷ []) 0 j l) (up i j h l)

pub those_increasing : (n : ℕ) (test : ℕ → Bool) → Increasing (those n test)
unfolding those
those_increasing zero test = λ i j h k. absurd (omega arith)
those_increasing (suc n) test = go (test n) (those_increasing n test)
  where
    go : (t : Bool) → Increasing (those n test) → Increasing (those n test ++ cond t (n ∷ []) [])
    go true up = increasing_more (those n test) n up (λ i l. (those-has n test _ (has_entry (those n test) i l)).below)
    go false up = rw append-nil up

pub map-those_same : {A : Type 0} (n : ℕ) (test : ℕ → Bool) (f g : ℕ → A) → ((i : ℕ) → i < n → test i ≡ true → f i ≡ g i)
    → map f (those n test) ≡ map g (those n test)
unfolding those
map-those_same zero test f g h = refl
map-those_same (suc n) test f g h =
    map-append f (those n test) _
    ∙ ap₂ ◌++◌ (map-those_same n test f g (λ i l. h i (le_step l))) (last (test n) refl)
    ∙ sym (map-append g (those n test) _)
  where
    last : (t : Bool) → test n ≡ t → map f (cond t (n ∷ []) []) ≡ map g (cond t (n ∷ []) [])
    last true on = ap (λ x. x ∷ []) (h n (lt-suc_self n) on)
    last false off = refl

-- one that passes stands after those before it
pub those_split : (i n : ℕ) (test : ℕ → Bool) → i < n → test i ≡ true → (later : List ℕ) × (those n test ≡ those i test ++ i ∷ later)
unfolding those
those_split i zero test l on = absurd (omega arith)
those_split i (suc n) test l on = below_cases n i l here (λ k. further (those_split i n test k on))
  where
    here : i ≡ n → (later : List ℕ) × (those n test ++ cond (test n) (n ∷ []) [] ≡ those i test ++ i ∷ later)
    here e = ([], ap₂ (λ (xs : List ℕ) (t : Bool). xs ++ cond t (n ∷ []) []) (ap (λ k. those k test) (sym e)) (ap test (sym e) ∙ on) ∙ ap (λ k. those i test ++ k ∷ []) (sym e))

    further : (later : List ℕ) × (those n test ≡ those i test ++ i ∷ later) → (later : List ℕ) × (those n test ++ cond (test n) (n ∷ []) [] ≡ those i test ++ i ∷ later)
    further (later, e) = (later ++ cond (test n) (n ∷ []) [], ap (λ (xs : List ℕ). xs ++ cond (test n) (n ∷ []) []) e ∙ append_assoc (those i test) (i ∷ later) _)

-- no more than n numbers below n, and none after the last that passes
pub those-short : (n : ℕ) (test : ℕ → Bool) → length (those n test) ≤ n
unfolding those
those-short zero test = le_refl 0
those-short (suc n) test =
    let before = those-short n test in
    let joined = length-append (those n test) (cond (test n) (n ∷ []) []) in
    let last = at_most_one (test n) in
    omega arith
  where
    at_most_one : (a : Bool) → length (cond a (n ∷ []) []) ≤ 1
    at_most_one true = le_refl 1
    at_most_one false = zero-le

pub those_stop : (c n : ℕ) (test : ℕ → Bool) → c ≤ n → ((j : ℕ) → c ≤ j → j < n → test j ≡ false) → those n test ≡ those c test
unfolding those
those_stop c zero test l off = let same : c ≡ 0 = omega arith in rw same
those_stop c (suc n) test l off = go (below_or_not c (suc n)) (those_stop c n test)
  where
    go : (c < suc n) ⊎ (suc n ≤ c) → (c ≤ n → ((j : ℕ) → c ≤ j → j < n → test j ≡ false) → those n test ≡ those c test)
        → those n test ++ cond (test n) (n ∷ []) [] ≡ those c test
    go (inl k) before = rw (off n (le_of_suc-le-suc k) (lt-suc_self n), append-nil) (before (le_of_suc-le-suc k) (λ j m i. off j m (le_step i)))
    go (inr k) before = let same : c ≡ suc n = le_antisymm l k in rw same

pub those-next : (n : ℕ) (test : ℕ → Bool) → test n ≡ true → those (n + 1) test ≡ those n test ++ n ∷ []
unfolding those
those-next n test on = rw (add-one n, on)

pub those_skip : (n : ℕ) (test : ℕ → Bool) → test n ≡ false → those (n + 1) test ≡ those n test
unfolding those
those_skip n test off = rw (add-one n, off, append-nil)

-- ---- a loop that looks whether a list has x, and has come to i
pub has-take-next : (xs : List ℕ) (i m x y : ℕ) → i < m → m ≤ length xs → has (take i xs) x ≡ false → y ≡ xs ! i → (y ≡ x → ⊥) → has (take (i + 1) xs) x ≡ false
unfolding has
has-take-next xs i m x y l fits before same other =
    ap (λ (ys : List ℕ). has ys x) (ap (λ j. take j xs) (add-one i) ∙ take-suc xs i 0 (omega arith))
    ∙ has-append (take i xs) (xs ! i ∷ []) x
    ∙ rw (before, ne_eqb x (xs ! i) (λ e. other (same ∙ sym e)))

pub has_here : (xs : List ℕ) (i x : ℕ) → i < length xs → xs ! i ≡ x → true ≡ has xs x
has_here xs i x l e = sym (subst (λ (z : ℕ). has xs z ≡ true) e (has_entry xs i l))

pub has_nowhere : (xs : List ℕ) (i x : ℕ) → length xs ≤ i → has (take i xs) x ≡ false → false ≡ has xs x
has_nowhere xs i x l e = sym (subst (λ (ys : List ℕ). has ys x ≡ false) (take_all i xs l) e)
