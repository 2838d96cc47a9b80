-- The nested search: what it has listed so far, how it goes on, and that the first failed test ends it.
use Prim.Native.Nat.{ℕ, ◌+◌, ◌≤◌, ◌<◌}
use mathlib.Core.Path.{◌≡◌, refl, sym, ◌∙◌, ap, ap₂, subst}
use mathlib.Core.Bool.{Bool, true, false, cond, not, ◌&&◌}
use mathlib.Core.List.{List, [], ◌∷◌, ◌++◌, map, map-append, map-id}
use mathlib.Core.Logic.{⊎_elim}
use mathlib.Core.Option.{Option, some, none}
use native.Mathlib.Nat.{le_refl, le_antisymm}
use native.Mathlib.Numerals.{add-one}
use native.Mathlib.Omega.{arith}
use borrow.Author.Tests.{lt-ltb, le-ltb, le-leb, ltb-false, ltb-true}
use lib.Dec.{ltb, leb}
use lib.ListN.{length, replicate, set, length-append, length-map}
use Rattle.basis.specs.Words.{◌!◌, all, those, first, padded}
use Rattle.rules.specs.BusyLength.{active, passes}
use Rattle.rules.specs.Candidates.{may_run, members, idle_listed, candidates, idle, inversion}
use Rattle.laws.proofs.Tests.{both, and_left, and_right, or_right, never, fails, below_or_not}
use Rattle.laws.proofs.Places.{true-all, first_some, first-none, has-those, those-has, has_some, has_entry, those_same, map-those_same, those-short, those_stop, those-next, those_skip}
use Rattle.laws.proofs.Candidates.{first-active_may, failure_ends}
use Rattle.busy.specs.Promises.{ListIs, candidates_of}
use Rattle.laws.proofs.Padded.{padded-next}

-- what small tests amount to
pub waits_idle : (n : ℕ) (b : List ℕ) (c : ℕ) → n ≤ c → true ≡ cond (ltb c n) (active b c) true
waits_idle n b c l = sym (rw (le-ltb c n l))

pub named_partition : (n c : ℕ) → c < n → c ≡ cond (ltb c n) c idle
named_partition n c l = sym (rw (lt-ltb c n l))

pub named_idle : (n c : ℕ) → n ≤ c → 255 ≡ cond (ltb c n) c idle
named_idle n c l = sym (rw (le-ltb c n l))

module _ (n : ℕ) (T B b o : List ℕ) where
  -- place c of the search is a candidate
  abbrev wants : ℕ → Bool
  wants c = cond (ltb c n) (active b c) true

  -- and it is in
  chosen : ℕ → Bool
  chosen c = wants c && may_run T B b o inversion c

  -- its number
  abbrev name : ℕ → ℕ
  name c = cond (ltb c n) c idle

  -- the candidates among the places above c
  pub named : ℕ → List ℕ
  named c = map name (those c chosen)

  chosen_there : (c : ℕ) → c < n → chosen c ≡ (active b c && may_run T B b o inversion c)
  unfolding chosen
  chosen_there c l = ap (λ (a : Bool). cond a (active b c) true && may_run T B b o inversion c) (lt-ltb c n l)

  -- all of them are the candidates
  named_all : candidates n T B b o inversion ≡ named (n + 1)
  unfolding candidates members idle_listed named those chosen
  named_all =
      rw (add-one n)
      (ap₂ (λ (xs ys : List ℕ). xs ++ ys) (sym partitions) (sym (last (may_run T B b o inversion n)))
      ∙ sym (map-append name (those n chosen) _))
    where
      partitions : map name (those n chosen) ≡ those n (λ c. active b c && may_run T B b o inversion c)
      partitions =
          map-those_same n chosen name (λ c. c) (λ c l on. sym (named_partition n c l)) ∙ map-id (those n chosen) ∙ those_same n chosen _ chosen_there

      idle-wants : true ≡ wants n
      idle-wants = waits_idle n b n (le_refl n)

      last : (a : Bool) → map name (cond (wants n && a) (n ∷ []) []) ≡ cond a (idle ∷ []) []
      last true = ap (λ (t : Bool). map name (cond (t && true) (n ∷ []) [])) (sym idle-wants) ∙ ap (λ x. x ∷ []) (sym (named_idle n n (le_refl n)))
      last false = ap (λ (t : Bool). map name (cond (t && false) (n ∷ []) [])) (sym idle-wants)

  named_short : (c : ℕ) → length (named c) ≤ c
  unfolding named
  named_short c = rw (length-map (those c chosen) name) (those-short c chosen)

  pub candidates-short : length (candidates n T B b o inversion) ≤ n + 1
  candidates-short = rw named_all (named_short (n + 1))

  opened : (c : ℕ) → chosen c ≡ true → (wants c && may_run T B b o inversion c) ≡ true
  unfolding chosen
  opened c p = p

  -- ---- who is above a place of the search
  -- nobody listed above c: nobody is active there, since the first active one is always in
  nobody : (c : ℕ) → c ≤ n → length (named c) ≡ 0 → (h : ℕ) → h < c → active b h ≡ false
  unfolding named
  nobody c l e = go (first c (active b)) refl
    where
      go : (a : Option ℕ) → first c (active b) ≡ a → (h : ℕ) → h < c → active b h ≡ false
      go none d h k = first-none c (active b) d h k
      go (some i) d h k =
          let f = first_some c (active b) i d in
          let below = f.below in
          let in_it : chosen i ≡ true = chosen_there i (omega arith) ∙ both f.passed (first-active_may n T B b o inversion i f.earlier) in
          let there = has_some (those c chosen) i (has-those c chosen i (record { below = f.below; passed = in_it })) in
          let long = length-map (those c chosen) name in
          absurd (omega arith)

  -- somebody listed above c: he is active
  somebody : (c : ℕ) → c ≤ n → 0 < length (named c) → (i : ℕ) × (i < c) × (active b i ≡ true)
  unfolding named
  somebody c l some_there =
      let long = length-map (those c chosen) name in
      let one = those-has c chosen (those c chosen ! 0) (has_entry (those c chosen) 0 (omega arith)) in
      let below = one.below in
      let on = sym (chosen_there (those c chosen ! 0) (omega arith)) ∙ one.passed in
      (those c chosen ! 0, one.below, and_left _ _ on)

  -- ---- the search has come to place c
  pub record SoFar (c : ℕ) (list : List ℕ) (count passed : ℕ) : Type 0 where
    pub list_is : list ≡ padded 17 (named c)
    pub count_is : count ≡ length (named c)
    pub passing : (h : ℕ) → h < passed → passes T B b o h inversion ≡ true
    pub within : c ≤ n + 1
    pub behind : passed ≤ c
    pub short : count ≤ c

  pub search_begins : SoFar 0 (replicate 17 0) 0 0
  unfolding padded named those
  search_begins = record { list_is = refl; count_is = refl; passing = λ h l. absurd (omega arith); within = omega arith; behind = le_refl 0; short = le_refl 0 }

  -- all above h pass
  pub Tested : ℕ → Type 0
  Tested h = (k : ℕ) → k < h → passes T B b o k inversion ≡ true

  pub tested_on : (h : ℕ) (r : Bool) → Tested h → r ≡ passes T B b o h inversion → r ≡ true → Tested (h + 1)
  unfolding Tested
  tested_on h r before e on k l = ⊎_elim (before k) (λ m. last (omega arith)) (below_or_not k h)
    where
      last : h ≡ k → passes T B b o k inversion ≡ true
      last same = subst (λ (m : ℕ). passes T B b o m inversion ≡ true) same (sym e ∙ on)

  pub tested-all : (h until : ℕ) → Tested h → until ≤ h → Tested until
  unfolding Tested
  tested-all h until before l k m = before k (omega arith)

  module _ (c : ℕ) (list : List ℕ) (count passed : ℕ) (here : SoFar c list count passed) where
    pub tested-before : Tested passed
    unfolding Tested
    tested-before = here.passing

    -- a place that is no candidate is passed over
    pub search_skips : (r : Bool) → c < n + 1 → r ≡ wants c → r ≡ false → SoFar (c + 1) list count passed
    unfolding named chosen
    search_skips r l e off =
        let no-candidate : chosen c ≡ false = ap (λ (a : Bool). a && may_run T B b o inversion c) (sym e ∙ off) in
        let same : named (c + 1) ≡ named c = ap (map name) (those_skip c chosen no-candidate) in
        let behind = here.behind in
        let short = here.short in
        record {
          list_is = rw same here.list_is;
          count_is = rw same here.count_is;
          passing = here.passing;
          within = omega arith;
          behind = omega arith;
          short = omega arith;
        }

    -- what is listed above c is the whole list
    listing : n ≤ 16 → candidates n T B b o inversion ≡ named c → ListIs (candidates_of n T B b o) (record { list = list; length = count })
    listing few same = record { list = here.list_is ∙ ap (padded 17) whole; length = here.count_is ∙ ap length whole }
      where
        whole : named c ≡ cond (leb n 16) (candidates n T B b o inversion) []
        whole = sym (ap (λ (a : Bool). cond a (candidates n T B b o inversion) []) (le-leb n 16 few) ∙ same)

    -- the tests of the candidate at c have come to h
    module _ (until : ℕ) (asked : until ≡ cond (ltb 0 count) c passed) where
      pub tests_ahead : passed ≤ until
      tests_ahead = let behind = here.behind in go (ltb 0 count) asked behind
        where
          go : (a : Bool) → until ≡ cond a c passed → passed ≤ c → passed ≤ until
          go true e l = omega arith
          go false e l = omega arith

      pub tests_within : until ≤ c
      tests_within = let behind = here.behind in go (ltb 0 count) asked behind
        where
          go : (a : Bool) → until ≡ cond a c passed → passed ≤ c → until ≤ c
          go true e l = omega arith
          go false e l = omega arith

      pub tests_few : n ≤ 16 → c < n + 1 → until ≤ 16
      tests_few few l = let near = tests_within in omega arith

      -- once they are all passed, the candidate is in
      pub search_takes : (r : Bool) (x : ℕ) → n ≤ 16 → c < n + 1 → r ≡ wants c → r ≡ true → Tested until → x ≡ name c
          → SoFar (c + 1) (set list count x) (count + 1) until
      unfolding named chosen Tested may_run
      search_takes r x few l e on tested d =
          let same : named (c + 1) ≡ named c ++ name c ∷ [] = ap (map name) (those-next c chosen in_it) ∙ map-append name (those c chosen) (c ∷ []) in
          let more = length-append (named c) (name c ∷ []) in
          let short = here.short in
          let ahead = tests_within in
          record {
            list_is = placed ∙ sym (ap (padded 17) same);
            count_is = ap (λ m. m + 1) here.count_is ∙ sym more ∙ sym (ap length same);
            passing = tested;
            within = omega arith;
            behind = omega arith;
            short = omega arith;
          }
        where
          may : (a : Bool) → ltb 0 count ≡ a → may_run T B b o inversion c ≡ true
          may true p =
              let all_above : until ≡ c = asked ∙ ap (λ (a : Bool). cond a c passed) p in
              or_right (all c (λ h. not (active b h))) (true-all c _ (λ h k. tested h (omega arith)))
          may false p =
              let empty = ltb-false 0 count p in
              let same = here.count_is in
              first-active_may n T B b o inversion c (nobody c (omega arith) (omega arith))

          in_it : chosen c ≡ true
          in_it = both (sym e ∙ on) (may (ltb 0 count) refl)

          room : length (named c) < 17
          room = let short = here.short in let same = here.count_is in omega arith

          placed : set list count x ≡ padded 17 (named c ++ name c ∷ [])
          placed = (λ i. set (here.list_is i) (here.count_is i) (d i)) ∙ padded-next 17 (named c) (name c) room

      -- the first failed test ends the whole search: nobody further down may run
      pub search_fails : (h : ℕ) (r : Bool) → n ≤ 16 → c < n + 1 → passed ≤ h → h < until → r ≡ passes T B b o h inversion → r ≡ false
          → ListIs (candidates_of n T B b o) (record { list = list; length = count })
      unfolding named
      search_fails h r few l k m e off = listing few (named_all ∙ ap (map name) (those_stop c (n + 1) chosen here.within nobody_else))
        where
          failed : passes T B b o h inversion ≡ false
          failed = sym e ∙ off

          above : (a : Bool) → ltb 0 count ≡ a → 0 < count
          above true p = ltb-true 0 count p
          above false p = let none-asked : until ≡ passed = asked ∙ ap (λ (a : Bool). cond a c passed) p in absurd (omega arith)

          someone : (i : ℕ) × (i < c) × (active b i ≡ true)
          someone = let some_there = above (ltb 0 count) refl in let same = here.count_is in somebody c (omega arith) (omega arith)

          stopped : (j : ℕ) → c ≤ j → may_run T B b o inversion j ≡ true → ⊥
          stopped j p may =
              let near = tests_within in
              never someone.2 (failure_ends n T B b o inversion h j (omega arith) failed may someone.0 (after j p someone.1))
            where
              after : (j : ℕ) → c ≤ j → someone.0 < c → someone.0 < j
              after j p q = omega arith

          nobody_else : (j : ℕ) → c ≤ j → j < n + 1 → chosen j ≡ false
          nobody_else j p q = fails (chosen j) (λ in_it. stopped j p (and_right (wants j) _ (opened j in_it)))

    pub search_ends : n ≤ 16 → n + 1 ≤ c → ListIs (candidates_of n T B b o) (record { list = list; length = count })
    search_ends few l = listing few (named_all ∙ ap named (le_antisymm l here.within))
