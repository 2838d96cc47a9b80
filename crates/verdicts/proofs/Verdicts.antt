-- From what is found to a verdict, and on from one: what was refused stays refused, and where there was nothing against it, what comes later decides.
use Prim.Native.Nat.{ℕ, ◌≤◌, ◌<◌}
use mathlib.Core.Path.{◌≡◌, refl, sym, ◌∙◌, ap}
use mathlib.Core.Bool.{Bool}
use mathlib.Core.List.{List, [], ◌∷◌, ◌++◌}
use mathlib.Core.Option.{Option, some, none}
use borrow.Author.Tests.{ltb-true, lt-ltb, le-ltb}
use lib.Dec.{ltb}
use Rattle.basis.specs.Words.{or_else, unless}
use Rattle.rules.specs.Refusals.{refused_as, Ground, ground, refusal, unless_before}
use Rattle.rules.specs.declared.Refusal.{Refusal}
use Rattle.laws.proofs.Tests.{some_is_none, unless-none}
use Rattle.laws.proofs.Refusals.{Alone, InTurn, refused-first, refused_then}
use Rattle.verdicts.specs.Verdicts.{verdict_as}
use Rattle.std.specs.declared.result.Result.{Result}
use Rattle.std.specs.declared.result.Result.TheVariants.{Ok, Err}

-- the verdict is a refusal, or none
pub verdict_refused : (v : Result Unit Refusal) (r : Refusal) → v ≡ Err r → verdict_as v ≡ some (refused_as r)
unfolding verdict_as
verdict_refused v r e = ap verdict_as e

pub verdict_good : (v : Result Unit Refusal) → v ≡ Ok tt → verdict_as v ≡ none
unfolding verdict_as
verdict_good v e = ap verdict_as e

-- a ground by itself: what it finds is the verdict
module _ (k : ℕ) (alone : Alone k) (x : Option ℕ) where
  pub says_bad : (r : Refusal) (i : ℕ) → refused_as r ≡ record { number = k; second = i } → x ≡ some i → verdict_as (Err r) ≡ refusal (ground k x ∷ [])
  says_bad r i named found = verdict_refused (Err r) r refl ∙ ap some named ∙ sym (alone x ∙ ap (λ (y : Option ℕ). unless_before k y none) found)

  pub says_good : x ≡ none → verdict_as (Ok tt) ≡ refusal (ground k x ∷ [])
  says_good nothing = verdict_good (Ok tt) refl ∙ sym (alone x ∙ ap (λ (y : Option ℕ). unless_before k y none) nothing)

-- some grounds are judged by a verdict, the others after it
module _ {gs hs : List Ground} (turn : InTurn gs hs) (v : Result Unit Refusal) (e : verdict_as v ≡ refusal gs) where
  pub refused_early : (r : Refusal) → v ≡ Err r → refusal (gs ++ hs) ≡ some (refused_as r)
  refused_early r d = refused-first turn (refused_as r) (sym e ∙ verdict_refused v r d)

  pub left_to_others : v ≡ Ok tt → refusal (gs ++ hs) ≡ refusal hs
  left_to_others d = refused_then turn (sym e ∙ verdict_good v d)

  pub judged_early : (r : Refusal) → v ≡ Err r → verdict_as (Err r) ≡ refusal (gs ++ hs)
  judged_early r d = verdict_refused (Err r) r refl ∙ sym (refused_early r d)

  pub judged_later : (next : Result Unit Refusal) → v ≡ Ok tt → verdict_as next ≡ refusal hs → verdict_as next ≡ refusal (gs ++ hs)
  judged_later next d f = f ∙ sym (left_to_others d)

-- one ground in two parts: the first part that finds something decides
module _ (k : ℕ) (alone : Alone k) (sooner later : Option ℕ) (v : Result Unit Refusal) (e : verdict_as v ≡ refusal (ground k sooner ∷ [])) where
  pub sooner_refused : (r : Refusal) → v ≡ Err r → verdict_as (Err r) ≡ refusal (ground k (or_else sooner later) ∷ [])
  sooner_refused r d = verdict_refused (Err r) r refl ∙ go sooner (sym (sym e ∙ verdict_refused v r d))
    where
      go : (x : Option ℕ) → some (refused_as r) ≡ refusal (ground k x ∷ []) → some (refused_as r) ≡ refusal (ground k (or_else x later) ∷ [])
      go (some i) same = same
      go none same = some_is_none (same ∙ alone none)

  pub left_to_later : v ≡ Ok tt → or_else sooner later ≡ later
  left_to_later d = go sooner (sym e ∙ verdict_good v d)
    where
      go : (x : Option ℕ) → refusal (ground k x ∷ []) ≡ none → or_else x later ≡ later
      go (some i) same = some_is_none (sym (alone (some i)) ∙ same)
      go none same = refl

-- what is asked for and isn't there comes after the fields, and has their number
module _ (k : ℕ) (alone : Alone k) (n h : ℕ) (fields : Option ℕ) (v : Result Unit Refusal) (e : verdict_as v ≡ refusal (ground k fields ∷ [])) where
  pub judged_fields : (r : Refusal) → v ≡ Err r → verdict_as (Err r) ≡ refusal (ground k (or_else fields (unless (ltb h n) h)) ∷ [])
  judged_fields = sooner_refused k alone fields _ v e

  module _ (d : v ≡ Ok tt) where
    pub judged_absent : (r : Refusal) → refused_as r ≡ record { number = k; second = h } → n ≤ h
        → verdict_as (Err r) ≡ refusal (ground k (or_else fields (unless (ltb h n) h)) ∷ [])
    judged_absent r named l = says_bad k alone _ r h named (left_to_later k alone fields _ v e d ∙ ap (λ (t : Bool). unless t h) (le-ltb h n l))

    pub judged_there : h < n → verdict_as (Ok tt) ≡ refusal (ground k (or_else fields (unless (ltb h n) h)) ∷ [])
    judged_there l = says_good k alone _ (left_to_later k alone fields _ v e d ∙ ap (λ (t : Bool). unless t h) (lt-ltb h n l))

-- and back: where such a verdict is good, the fields are, and what is asked for is there
module _ (k : ℕ) (alone : Alone k) (n h : ℕ) (fields : Option ℕ) (v : Result Unit Refusal) (e : verdict_as v ≡ refusal (ground k (or_else fields (unless (ltb h n) h)) ∷ [])) where
  pub asked_good : v ≡ Ok tt → (fields ≡ none) × (h < n)
  asked_good d = go fields (sym (alone _) ∙ sym e ∙ verdict_good v d)
    where
      nothing : (x : Option ℕ) → unless_before k x none ≡ none → x ≡ none
      nothing (some i) same = some_is_none same
      nothing none same = refl

      go : (x : Option ℕ) → unless_before k (or_else x (unless (ltb h n) h)) none ≡ none → (x ≡ none) × (h < n)
      go (some i) same = some_is_none same
      go none same = (refl, ltb-true h n (unless-none (ltb h n) h (nothing (unless (ltb h n) h) same)))
