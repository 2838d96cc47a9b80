-- From the verdicts and the tick to what the calls promise.
use Prim.Native.Nat.{ℕ, ◌≤◌, ◌<◌}
use mathlib.Core.Path.{◌≡◌, refl, sym, ◌∙◌, ap}
use mathlib.Core.Bool.{Bool, true, false, cond, ◌&&◌}
use mathlib.Core.List.{List, [], ◌∷◌}
use mathlib.Core.Option.{Option, some, none}
use native.Mathlib.Omega.{arith}
use borrow.Author.Tests.{lt-ltb, le-ltb, le-leb}
use lib.ListN.{set}
use Rattle.std.specs.declared.option.Option.{Option as Found}
use Rattle.std.specs.declared.option.Option.TheVariants.{Some, None}
use Rattle.std.specs.declared.result.Result.{Result}
use Rattle.std.specs.declared.result.Result.TheVariants.{Ok, Err}
use Rattle.basis.specs.Words.{◌!◌, has, unless}
use Rattle.rules.specs.Numbers.{first_bad_partition}
use Rattle.rules.specs.declared.Pairs.{Pairs}
use Rattle.rules.specs.Admission.{first_unadmitted}
use Rattle.rules.specs.FreshStart.{fresh_start}
use Rattle.rules.specs.BusyLength.{active}
use Rattle.rules.specs.Candidates.{candidates, inversion}
use Rattle.rules.specs.Tick.{tick_allowed}
use Rattle.rules.specs.Release.{release, release_allowed}
use Rattle.rules.specs.Refusals.{Refused, refused_as, Ground, bad_table, not_admitted, refusal, unless_before}
use Rattle.rules.specs.declared.Refusal.{Refusal}
use Rattle.rules.specs.declared.Refusal.TheVariants.{NotAdmitted, NotListed, NotActive}
use Rattle.rules.specs.declared.Table.{Table}
use Rattle.laws.proofs.Refusals.{no_ground, refused-first, refused_then, table_then_admission, admission_alone, five, six, late_last}
use Rattle.verdicts.proofs.Verdicts.{refused_early}
use Rattle.verdicts.proofs.Outcomes.{late_decides, was_refused, was_given}
use Rattle.pairs.proofs.Good.{few_of_state}
use Rattle.ranges.proofs.Good.{few_partitions}
use Rattle.standing.specs.Answers.{test_as}
use Rattle.standing.specs.Promises.{AdmissionIs}
use Rattle.candidates.specs.Promises.{MemberIs}
use Rattle.scheduler.specs.States.{pairs, state_of, may_tick}
use Rattle.scheduler.specs.Promises.{changed_as, made, change, FreshIs, JudgedIs, TickIs, ReleaseIs}
use Rattle.ticks.specs.Promises.{PassTickIs}
use Rattle.scheduler.specs.declared.State.{State}

-- ---- a change that is refused, and one that is made
module _ (gs : List Ground) (s : State) (after : Pairs) where
  unchanged : (q : Refusal) → refusal gs ≡ some (refused_as q) → changed_as s (Err q) ≡ change (refusal gs) (pairs s) after
  unfolding change
  unchanged q e = sym (ap (λ (x : Option Refused). change x (pairs s) after) e)

  changed : (f : State) → refusal gs ≡ none → pairs f ≡ after → changed_as s (Ok f) ≡ change (refusal gs) (pairs s) after
  unfolding change
  changed f e d = ap made d ∙ sym (ap (λ (x : Option Refused). change x (pairs s) after) e)

-- ---- a fresh start
module _ (n : ℕ) (T B phase : List ℕ) where
  by_admission : (a : Option ℕ) → refusal (bad_table n T B phase ∷ []) ≡ none → a ≡ first_unadmitted n T B → refusal (bad_table n T B phase ∷ not_admitted n T B ∷ []) ≡ unless_before 2 a none
  by_admission a e d =
      refused_then (table_then_admission (first_bad_partition n T B phase) (first_unadmitted n T B)) e ∙ admission_alone _ ∙ ap (λ (u : Option ℕ). unless_before 2 u none) (sym d)

  table-fine : refusal (bad_table n T B phase ∷ []) ≡ none → n ≤ 16
  unfolding has
  table-fine e = few_partitions n T B phase (no_ground _ e 1 refl)

module _ (t : Table) (s : State) (x : Result (Found ℕ) Refusal) (admitted : AdmissionIs t x) where
  pub fresh_refused : (q : Refusal) → x ≡ Err q → FreshIs t s (Err q)
  fresh_refused q e = unchanged _ s _ q (refused-first (table_then_admission _ _) (refused_as q) (was_refused _ _ _ (sym (ap test_as e) ∙ admitted)))

  pub fresh_unadmitted : (h : ℕ) → x ≡ Ok (Some h) → FreshIs t s (Err (NotAdmitted h))
  fresh_unadmitted h e =
      let said = was_given _ _ _ (sym (ap test_as e) ∙ admitted) in
      unchanged _ s _ (NotAdmitted h) (by_admission _ _ _ _ (some h) said.0 said.1)

  module _ (passed : x ≡ Ok None) where
    pub fresh_made : (p : Pairs) → p ≡ fresh_start t.count t.period t.budget t.phase → FreshIs t s (Ok (state_of p))
    fresh_made p =
        let said = was_given _ _ _ (sym (ap test_as passed) ∙ admitted) in
        changed _ s _ (state_of p) (by_admission _ _ _ _ none said.0 said.1)

    pub fresh_few : t.count ≤ 16
    fresh_few = table-fine t.count t.period t.budget t.phase (was_given _ _ _ (sym (ap test_as passed) ∙ admitted)).0

-- ---- calls over a state
module _ (t : Table) (s : State) (v : Result Unit Refusal) (judged : JudgedIs t s v) where
  module _ (q : Refusal) (bad : v ≡ Err q) where
    pub tick-refused : (pick : ℕ) → TickIs t s pick (Err q)
    tick-refused pick = unchanged _ s _ q (refused_early (late_last _ _ _ five) v judged q bad)

    pub release-refused : (i : ℕ) → ReleaseIs t s i (Err q)
    release-refused i = unchanged _ s _ q (refused_early (late_last _ _ _ six) v judged q bad)

  module _ (good : v ≡ Ok tt) where
    -- the pick is a member, or not
    allowed : (pick : ℕ) (m : Bool) → MemberIs t (pairs s) pick m → m ≡ may_tick t s pick
    unfolding tick_allowed
    allowed pick m e =
        e ∙ ap (λ (a : Bool). has (cond a (candidates t.count t.period t.budget s.pairs.b s.pairs.o inversion) []) pick) (le-leb t.count 16 (few_of_state _ _ _ _ _ _ v judged good))

    pub tick-unlisted : (pick : ℕ) (m : Bool) → MemberIs t (pairs s) pick m → m ≡ false → TickIs t s pick (Err (NotListed pick))
    tick-unlisted pick m e off =
        unchanged _ s _ (NotListed pick)
        (late_decides _ _ _ five v judged good (some pick) (ap (λ (a : Bool). unless a pick) (sym (allowed pick m e) ∙ off)))

    pub tick-made : (pick : ℕ) (m : Bool) (p : Pairs) → MemberIs t (pairs s) pick m → m ≡ true → PassTickIs t (pairs s) pick p → TickIs t s pick (Ok (state_of p))
    tick-made pick m p e on =
        changed _ s _ (state_of p) (late_decides _ _ _ five v judged good none (ap (λ (a : Bool). unless a pick) (sym (allowed pick m e) ∙ on)))

    -- the index is active, or not
    inactive : (i : ℕ) → release_allowed t.count s.pairs.b i ≡ false → ReleaseIs t s i (Err (NotActive i))
    inactive i e = unchanged _ s _ (NotActive i) (late_decides _ _ _ six v judged good (some i) (ap (λ (a : Bool). unless a i) e))

    pub release_absent : (i : ℕ) → t.count ≤ i → ReleaseIs t s i (Err (NotActive i))
    unfolding release_allowed
    release_absent i l = inactive i (ap (λ (a : Bool). a && active s.pairs.b i) (le-ltb i t.count l))

    there : (i : ℕ) → i < t.count → release_allowed t.count s.pairs.b i ≡ active s.pairs.b i
    unfolding release_allowed
    there i l = ap (λ (a : Bool). a && active s.pairs.b i) (lt-ltb i t.count l)

    pub release-inactive : (i : ℕ) → i < t.count → s.pairs.b ! i ≡ 0 → ReleaseIs t s i (Err (NotActive i))
    unfolding active
    release-inactive i l e = inactive i (there i l ∙ le-ltb 0 (s.pairs.b ! i) (omega arith))

    pub release-made : (i : ℕ) → i < t.count → (s.pairs.b ! i ≡ 0 → ⊥) → ReleaseIs t s i (Ok (state_of (record { b = set s.pairs.b i 0; o = s.pairs.o })))
    unfolding release active
    release-made i l some_left =
        changed _ s _ _ (late_decides _ _ _ six v judged good none (ap (λ (a : Bool). unless a i) (there i l ∙ lt-ltb 0 (s.pairs.b ! i) (omega arith)))) refl

    pub index_small : (i : ℕ) → i < t.count → i < 16
    index_small i l = let most = few_of_state _ _ _ _ _ _ v judged good in omega arith

-- what each call's proof uses
pub ruleset fresh_calls = (fresh_refused, fresh_unadmitted, fresh_few, fresh_made)

pub ruleset tick_calls = (tick-refused, tick-unlisted, tick-made)

pub ruleset release_calls = (release-refused, release_absent, release-inactive, release-made, index_small)
