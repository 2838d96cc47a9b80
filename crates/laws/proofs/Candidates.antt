-- The candidate list: never empty, by rank with idle last, no member twice, and each partition in it is active.
use Prim.Native.Nat.{ℕ, suc, ◌≤◌, ◌<◌}
use mathlib.Core.Path.{◌≡◌, refl, ◌∙◌, sym, ap}
use mathlib.Core.Bool.{Bool, true, false, cond, not, ◌&&◌, ◌||◌}
use mathlib.Core.List.{List, [], ◌∷◌, ◌++◌, append-nil}
use mathlib.Core.Logic.{◌⊎◌, inl, inr, ⊎_elim}
use mathlib.Core.Option.{Option, some, none}
use native.Mathlib.Omega.{arith}
use borrow.Author.Tests.{not-true}
use lib.ListN.{length}
use Rattle.basis.specs.Words.{◌!◌, has, all, those, first, Increasing}
use Rattle.laws.proofs.Tests.{both, and_left, and_right, off_left, or_left, or_right, or_cases, never}
use Rattle.laws.proofs.Places.{all_true, true-all, first_some, first-none, has-those, those-has, has-append, has-none, has_one, one_has, has_entry, has_some, those_increasing, those_stop, increasing_more}
use Rattle.laws.proofs.BusyLength.{inactive-empty, quiet_passes}
use Rattle.rules.specs.BusyLength.{active, passes}
use Rattle.rules.specs.Candidates.{may_run, members, idle_listed, candidates, idle}

-- With w = 1 the tests alone decide: nothing waits above the first active partition, so all above it pass.
pub tests_decide : (T B b o : List ℕ) (c : ℕ) → ((j : ℕ) → j < c → 1 ≤ o ! j) → may_run T B b o 1 c ≡ all c (λ h. passes T B b o h 1)
unfolding may_run
tests_decide T B b o c later = go (all c (λ h. not (active b h))) refl
  where
    empty : all c (λ h. not (active b h)) ≡ true → (j : ℕ) → j < c → b ! j ≡ 0
    empty off j l = inactive-empty b j (not-true (active b j) (all_true c _ off j l))

    quiet : all c (λ h. not (active b h)) ≡ true → all c (λ h. passes T B b o h 1) ≡ true
    quiet off = true-all c _ (λ h l. quiet_passes T B b o h (λ j k. empty off j (omega arith)) (λ j k. later j (omega arith)))

    go : (a : Bool) → all c (λ h. not (active b h)) ≡ a → (a || all c (λ h. passes T B b o h 1)) ≡ all c (λ h. passes T B b o h 1)
    go true e = sym (quiet e)
    go false e = refl

module _ (n : ℕ) (T B b o : List ℕ) (w : ℕ) where
  -- what it means that a partition is listed
  pub record Listed (c : ℕ) : Type 0 where
    pub there : c < n
    pub on : active b c ≡ true
    pub may : may_run T B b o w c ≡ true

  pub member_listed : (c : ℕ) → has (members n T B b o w) c ≡ true → Listed c
  unfolding members
  member_listed c p =
      let m = those-has n _ c p in
      record { there = m.below; on = and_left _ _ m.passed; may = and_right (active b c) _ m.passed }

  pub listed_member : (c : ℕ) → Listed c → has (members n T B b o w) c ≡ true
  unfolding members
  listed_member c l = has-those n _ c (record { below = l.there; passed = both l.on l.may })

  -- a candidate is a listed partition, or idle where idle is listed
  pub candidate_cases : (c : ℕ) → has (candidates n T B b o w) c ≡ true → Listed c ⊎ ((c ≡ idle) × (idle_listed n T B b o w ≡ true))
  unfolding candidates
  candidate_cases c p =
      ⊎_elim (λ q. inl (member_listed c q)) (last (idle_listed n T B b o w) refl)
      (or_cases (has (members n T B b o w) c) _ (sym (has-append (members n T B b o w) _ c) ∙ p))
    where
      last : (t : Bool) → idle_listed n T B b o w ≡ t → has (cond t (idle ∷ []) []) c ≡ true → Listed c ⊎ ((c ≡ idle) × (idle_listed n T B b o w ≡ true))
      last true e q = inr (has_one c idle q, e)
      last false e q = never q (has-none c)

  pub member_candidate : (c : ℕ) → Listed c → has (candidates n T B b o w) c ≡ true
  unfolding candidates
  member_candidate c l = has-append (members n T B b o w) _ c ∙ or_left _ (listed_member c l)

  pub idle_candidate : idle_listed n T B b o w ≡ true → has (candidates n T B b o w) idle ≡ true
  unfolding candidates
  idle_candidate e =
      has-append (members n T B b o w) _ idle ∙ or_right (has (members n T B b o w) idle) (rw e (one_has idle))

  -- "The first active one is always in."
  pub first-active_may : (c : ℕ) → ((h : ℕ) → h < c → active b h ≡ false) → may_run T B b o w c ≡ true
  unfolding may_run
  first-active_may c off = or_left _ (true-all c _ (λ h l. rw (off h l)))

  -- "With no active partition the list is idle alone."
  pub idle_alone : ((h : ℕ) → h < n → active b h ≡ false) → candidates n T B b o w ≡ idle ∷ []
  unfolding candidates members idle_listed those
  idle_alone off =
      ap (λ (xs : List ℕ). xs ++ cond (may_run T B b o w n) (idle ∷ []) []) nobody ∙ ap (λ (a : Bool). cond a (idle ∷ []) []) (first-active_may n off)
    where
      nobody : those n (λ c. active b c && may_run T B b o w c) ≡ []
      nobody = those_stop 0 n _ (omega arith) (λ j l k. off_left _ (off j k))

  -- "The first failed test ends the whole search": below a partition that fails only the first active one, untested, is in
  pub failure_ends : (h c : ℕ) → h < c → passes T B b o h w ≡ false → may_run T B b o w c ≡ true → (j : ℕ) → j < c → active b j ≡ false
  unfolding may_run
  failure_ends h c l failed may j k =
      ⊎_elim (λ off. not-true (active b j) (all_true c _ off j k)) (λ on. never (all_true c _ on h l) failed)
      (or_cases (all c (λ i. not (active b i))) _ may)

  -- the list holds the first active partition, or idle where there is none
  pub somebody : (c : ℕ) × (has (candidates n T B b o w) c ≡ true)
  unfolding idle_listed
  somebody = go (first n (active b)) refl
    where
      go : (a : Option ℕ) → first n (active b) ≡ a → (c : ℕ) × (has (candidates n T B b o w) c ≡ true)
      go (some c) e =
          let f = first_some n (active b) c e in
          (c, member_candidate c (record { there = f.below; on = f.passed; may = first-active_may c f.earlier }))
      go none e = (idle, idle_candidate (first-active_may n (first-none n (active b) e)))

  -- the list is never empty
  pub never_empty : 0 < length (candidates n T B b o w)
  never_empty = has_some (candidates n T B b o w) somebody.0 somebody.1

  -- each partition in it is there and is active
  pub candidate_active : (c : ℕ) → has (candidates n T B b o w) c ≡ true → ¬ (c ≡ idle) → (c < n) × (active b c ≡ true)
  candidate_active c p other = ⊎_elim (λ l. (l.there, l.on)) (λ e. absurd (other e.0)) (candidate_cases c p)

  module _ (few : n ≤ idle) where
    -- it goes by rank, and has no member twice
    pub by_rank : Increasing (candidates n T B b o w)
    unfolding candidates members
    by_rank = go (idle_listed n T B b o w)
      where
        up : Increasing (members n T B b o w)
        up = those_increasing n _

        go : (t : Bool) → Increasing (members n T B b o w ++ cond t (idle ∷ []) [])
        go true = increasing_more (members n T B b o w) idle up (λ i l. below (members n T B b o w ! i) (has_entry (members n T B b o w) i l))
          where
            below : (c : ℕ) → has (members n T B b o w) c ≡ true → c < idle
            below c p = let there = (member_listed c p).there in omega arith
        go false = rw append-nil up

    -- idle is last
    pub idle_last : (i : ℕ) → i < length (candidates n T B b o w) → candidates n T B b o w ! i ≡ idle → suc i ≡ length (candidates n T B b o w)
    idle_last i l e =
        let nothing-after : ¬ (suc i < length (candidates n T B b o w)) = λ k. after k (by_rank i (suc i) (omega arith) k) in
        omega arith
      where
        most : (c : ℕ) → has (candidates n T B b o w) c ≡ true → c ≤ idle
        most c p = ⊎_elim (λ m. let there = m.there in omega arith) (λ m. let same = m.0 in omega arith) (candidate_cases c p)

        after : suc i < length (candidates n T B b o w) → candidates n T B b o w ! i < candidates n T B b o w ! suc i → ⊥
        after k larger =
            let top = most (candidates n T B b o w ! suc i) (has_entry (candidates n T B b o w) (suc i) k) in
            omega arith
