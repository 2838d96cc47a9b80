-- The sixteen pairs in two parts: what is found inside the table, and what is found beyond it, is what is found of all.
use Prim.Native.Nat.{ℕ, zero, suc, ◌+◌, ◌≤◌, ◌<◌}
use mathlib.Core.Path.{◌≡◌, refl, sym, ◌∙◌, ap, subst}
use mathlib.Core.Bool.{Bool, true, false, not, ◌&&◌, ◌||◌}
use mathlib.Core.List.{List, [], ◌∷◌}
use mathlib.Core.Logic.{⊎_elim}
use mathlib.Core.Option.{Option, some, none}
use native.Mathlib.Nat.{le_refl}
use native.Mathlib.Numerals.{add-one}
use native.Mathlib.Omega.{arith}
use borrow.Author.Tests.{lt-ltb, le-ltb, lt-leb, le-leb, eq-eqb, ne_eqb, eqb-true}
use lib.Dec.{ltb, leb, eqb}
use lib.ListN.{length}
use Rattle.basis.specs.Words.{◌!◌, within, first, or_else}
use Rattle.basis.specs.Reckoned.{Reckoned}
use Rattle.rules.specs.Numbers.{pair_in_range, first_bad_pair}
use Rattle.rules.specs.Refusals.{ground, refusal}
use Rattle.rules.specs.declared.Refusal.{Refusal}
use Rattle.rules.specs.declared.Pairs.{Pairs}
use Rattle.rules.specs.declared.Table.{Table}
use Rattle.rules.specs.declared.Refusal.TheVariants.{BadPair}
use Rattle.laws.proofs.Tests.{below_or_not, off_left}
use Rattle.laws.proofs.Places.{First, first-none, first_some, some_first, first_same, PassTo, pass_begins, pass_next, none_fails}
use Rattle.laws.proofs.Refusals.{state_alone, table_then_state}
use Rattle.pairs.specs.Parts.{paired, first_bad_inside, first_bad_beyond, PairsJudged}
use Rattle.ranges.specs.Promises.{JudgeTableIs}
use Rattle.pairs.specs.Promises.{JudgeStateIs, JudgeIs}
use Rattle.std.specs.declared.result.Result.{Result}
use Rattle.std.specs.declared.result.Result.TheVariants.{Ok, Err}
use Rattle.verdicts.proofs.Verdicts.{says_bad, says_good, judged_early, judged_later, sooner_refused, left_to_later}

-- ---- the first of k that passes a test is the first below m, or else the first from m on
module _ (m k : ℕ) (test below beyond : ℕ → Bool) (fits : m ≤ k) (same-below : (i : ℕ) → i < m → test i ≡ below i)
    (off : (i : ℕ) → i < m → beyond i ≡ false) (same-beyond : (i : ℕ) → m ≤ i → i < k → test i ≡ beyond i) where
  pub first_in_parts : first k test ≡ or_else (first m below) (first k beyond)
  first_in_parts = go (first m below) refl
    where
      go : (a : Option ℕ) → first m below ≡ a → first k test ≡ or_else a (first k beyond)
      go (some i) e =
          let f : First m below i = first_some m below i e in
          some_first k test i
          (record {
            below = let l = f.below in omega arith;
            passed = same-below i f.below ∙ f.passed;
            earlier = λ j l. same-below j (let h = f.below in omega arith) ∙ f.earlier j l;
          })
      go none e =
          first_same k test beyond
          (λ i l. ⊎_elim (λ h. same-below i h ∙ first-none m below e i h ∙ sym (off i h)) (λ h. same-beyond i h l) (below_or_not i m))

-- ---- how many have a pair
pub more_than_pairs : (n m : ℕ) → m < n → m ≡ paired n m
unfolding paired
more_than_pairs n m l = sym (rw (lt-ltb m n l))

pub all-paired : (n m : ℕ) → n ≤ m → n ≡ paired n m
unfolding paired
all-paired n m l = sym (rw (le-ltb m n l))

module _ (n k m : ℕ) (sixteen : k ≡ 16) (is : m ≡ paired n k) where
  record Inside : Type 0 where
    most : m ≤ 16
    within-table : m ≤ n
    whole : (i : ℕ) → i < 16 → m ≤ i → n ≤ i

  counted : Inside
  counted = ⊎_elim many few (below_or_not k n)
    where
      many : k < n → Inside
      many l = let e : m ≡ k = is ∙ sym (more_than_pairs n k l) in record { most = omega arith; within-table = omega arith; whole = λ i h g. omega arith }

      few : n ≤ k → Inside
      few l = let e : m ≡ n = is ∙ sym (all-paired n k l) in record { most = omega arith; within-table = omega arith; whole = λ i h g. omega arith }

  pub paired_few : m ≤ 16
  paired_few = counted.most

-- ---- a pair inside the table, test by test
module _ (T B b o : ℕ) where
  pub too_much_left : B < b → false ≡ (within 0 B b && within 1 T o)
  too_much_left l = sym (rw (le-leb 0 b (omega arith), lt-leb b B l))

  module _ (l : b ≤ B) where
    pub due_at-once : o ≡ 0 → false ≡ (within 0 B b && within 1 T o)
    due_at-once e = sym (rw (le-leb 0 b (omega arith), le-leb b B l, lt-leb 1 o (omega arith)))

    pub due_later : (o ≡ 0 → ⊥) → leb o T ≡ (within 0 B b && within 1 T o)
    due_later other = sym (rw (le-leb 0 b (omega arith), le-leb b B l, le-leb 1 o (omega arith)))

-- ---- a pair beyond it: one that isn't 0, 0, and one that is if its o is
pub some_left : (b o : ℕ) → 0 < b → false ≡ (eqb b 0 && eqb o 0)
some_left b o more = sym (off_left (eqb o 0) (ne_eqb b 0 (λ e. omega arith)))

pub nothing_left : (b o : ℕ) → b ≤ 0 → eqb o 0 ≡ (eqb b 0 && eqb o 0)
nothing_left b o less = sym (rw (eq-eqb b 0 (omega arith)))

-- ---- judging the pairs inside the table
module _ (T B b o : List ℕ) where
  -- the test of one of them
  abbrev pub fine : ℕ → Bool
  fine i = within 0 (B ! i) (b ! i) && within 1 (T ! i) (o ! i)

  pub bad_inside : (n i : ℕ) → first n (λ j. not (fine j)) ≡ some i → PairsJudged (first_bad_inside n T B b o) (Err (BadPair i))
  unfolding first_bad_inside
  bad_inside n i e = says_bad 3 state_alone _ (BadPair i) i refl e

  pub good_inside : (n : ℕ) → first n (λ j. not (fine j)) ≡ none → PairsJudged (first_bad_inside n T B b o) (Ok tt)
  unfolding first_bad_inside
  good_inside n e = says_good 3 state_alone _ e

-- ---- judging the pairs beyond it
module _ (b o : List ℕ) where
  -- the test of one of them
  abbrev pub nothing : ℕ → Bool
  nothing i = eqb (b ! i) 0 && eqb (o ! i) 0

module _ (n : ℕ) (b o : List ℕ) where
  -- the test of any pair, which those inside the table pass
  abbrev pub empty : ℕ → Bool
  empty i = ltb i n || nothing b o i

  pub inside_passes : (i : ℕ) → i < n → not (empty i) ≡ false
  inside_passes i l = rw (lt-ltb i n l)

  pub beyond_same : (i : ℕ) → n ≤ i → not (empty i) ≡ not (nothing b o i)
  beyond_same i l = rw (le-ltb i n l)

  pub beyond_begins : PassTo empty n
  beyond_begins = go n (le_refl n)
    where
      go : (i : ℕ) → i ≤ n → PassTo empty i
      go zero l = pass_begins empty
      go (suc i) l = subst (λ (k : ℕ). PassTo empty k) (add-one i) (pass_next empty i (go i (omega arith)) true (sym (rw (lt-ltb i n l))) refl)

  pub beyond_test : (i : ℕ) (r : Bool) → n ≤ i → r ≡ (eqb (b ! i) 0 && eqb (o ! i) 0) → r ≡ empty i
  beyond_test i r l e = e ∙ sym (rw (le-ltb i n l))

  -- a sum of 0 so far: none so far has anything
  pub nothing_on : (j sum x : ℕ) → (sum ≡ 0 → PassTo empty j) → n ≤ j → Reckoned 131072 (b ! j + o ! j) x → sum + x ≡ 0 → PassTo empty (j + 1)
  nothing_on j sum x before l next e =
      let is = next.is in
      let none_left : b ! j ≡ 0 = omega arith in
      let none_due : o ! j ≡ 0 = omega arith in
      pass_next empty j (before (omega arith)) true (beyond_test j true l (sym (rw (none_left, none_due)))) refl

  pub nothing_there : (j sum : ℕ) → (sum ≡ 0 → PassTo empty j) → 16 ≤ j → j ≤ 16 → eqb sum 0 ≡ true → first_bad_beyond n b o ≡ none
  unfolding first_bad_beyond
  nothing_there j sum all-of-them l k e = none_fails empty j (all-of-them (eqb-true sum 0 e)) 16 l k

  pub good_there : first_bad_beyond n b o ≡ none → PairsJudged (first_bad_beyond n b o) (Ok tt)
  good_there e = says_good 3 state_alone _ e

  pub bad_beyond : (i : ℕ) → first 16 (λ j. not (empty j)) ≡ some i → PairsJudged (first_bad_beyond n b o) (Err (BadPair i))
  unfolding first_bad_beyond
  bad_beyond i e = says_bad 3 state_alone _ (BadPair i) i refl e

  pub good_beyond : first 16 (λ j. not (empty j)) ≡ none → PairsJudged (first_bad_beyond n b o) (Ok tt)
  unfolding first_bad_beyond
  good_beyond e = says_good 3 state_alone _ e

-- ---- judging both
module _ (t : Table) (p : Pairs) (m : ℕ) (sixteen : length p.o ≡ 16) (is : m ≡ paired t.count (length p.o)) where
  bad_in_parts : first_bad_pair t.count t.period t.budget p.b p.o ≡ or_else (first_bad_inside m t.period t.budget p.b p.o) (first_bad_beyond m p.b p.o)
  unfolding first_bad_pair first_bad_inside first_bad_beyond pair_in_range
  bad_in_parts =
      first_in_parts m 16 (λ i. not (pair_in_range t.count t.period t.budget p.b p.o i)) (λ i. not (fine t.period t.budget p.b p.o i)) (λ i. not (empty m p.b p.o i)) (paired_few t.count (length p.o) m sixteen is)
      (λ i l. let k = (counted t.count (length p.o) m sixteen is).within-table in rw (lt-ltb i t.count (omega arith)))
      (λ i l. rw (lt-ltb i m l))
      (λ i l h. rw (le-ltb i t.count ((counted t.count (length p.o) m sixteen is).whole i h l), le-ltb i m l))

  module _ (v : Result Unit Refusal) (first : PairsJudged (first_bad_inside m t.period t.budget p.b p.o) v) where
    pub state-refused : (r : Refusal) → v ≡ Err r → JudgeStateIs t p (Err r)
    state-refused r d = sooner_refused 3 state_alone _ _ v first r d ∙ ap (λ (x : Option ℕ). refusal (ground 3 x ∷ [])) (sym bad_in_parts)

    pub state_later : (next : Result Unit Refusal) → v ≡ Ok tt → PairsJudged (first_bad_beyond m p.b p.o) next → JudgeStateIs t p next
    state_later next d f = f ∙ ap (λ (x : Option ℕ). refusal (ground 3 x ∷ [])) (sym (bad_in_parts ∙ left_to_later 3 state_alone _ _ v first d))

-- ---- the table first
module _ (t : Table) (p : Pairs) (v : Result Unit Refusal) (table : JudgeTableIs t v) where
  pub table_refused : (r : Refusal) → v ≡ Err r → JudgeIs t p (Err r)
  table_refused r d = judged_early (table_then_state _ _) v table r d

  pub pairs_decide : (next : Result Unit Refusal) → v ≡ Ok tt → JudgeStateIs t p next → JudgeIs t p next
  pairs_decide next d f = judged_later (table_then_state _ _) v table next d f
