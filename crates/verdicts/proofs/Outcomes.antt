-- From a verdict to what a call says.
use Prim.Native.Nat.{ℕ}
use mathlib.Core.Path.{◌≡◌, refl, sym, ◌∙◌, ap}
use mathlib.Core.List.{List, [], ◌∷◌, ◌++◌}
use mathlib.Core.Option.{Option, some, none}
use native.Mathlib.Omega.{arith}
use Rattle.rules.specs.Refusals.{Refused, refused_as, Ground, ground, refusal, unless_before}
use Rattle.rules.specs.declared.Refusal.{Refusal}
use Rattle.laws.proofs.Refusals.{InTurn, Late, late_last, late_alone}
use Rattle.verdicts.specs.Outcome.{Outcome, refused, gives, unless_refused}
use Rattle.verdicts.specs.Verdicts.{verdict_as}
use Rattle.std.specs.declared.result.Result.{Result}
use Rattle.std.specs.declared.result.Result.TheVariants.{Ok, Err}
use Rattle.verdicts.proofs.Verdicts.{verdict_refused, verdict_good, refused_early, left_to_others}

module _ {A : Type 0} (x : A) (gs : List Ground) where
  -- a refusal is handed on
  pub hands_on : (v : Result Unit Refusal) (r : Refusal) → verdict_as v ≡ refusal gs → v ≡ Err r → refused (refused_as r) ≡ unless_refused (refusal gs) x
  unfolding unless_refused
  hands_on v r e d = rw (sym e ∙ verdict_refused v r d)

  -- and where there is none, the answer is given
  pub not_refused : (v : Result Unit Refusal) → verdict_as v ≡ refusal gs → v ≡ Ok tt → unless_refused (refusal gs) x ≡ gives x
  unfolding unless_refused
  not_refused v e d = rw (sym e ∙ verdict_good v d)

  pub answers : (answer : Outcome A) (v : Result Unit Refusal) → verdict_as v ≡ refusal gs → v ≡ Ok tt → answer ≡ gives x → answer ≡ unless_refused (refusal gs) x
  answers answer v e d same = same ∙ sym (not_refused v e d)

-- two verdicts, one after the other
module _ {A : Type 0} (answer : A) {gs hs : List Ground} (turn : InTurn gs hs) (v : Result Unit Refusal) (e : verdict_as v ≡ refusal gs) where
  pub hands_on_first : (r : Refusal) → v ≡ Err r → refused (refused_as r) ≡ unless_refused (refusal (gs ++ hs)) answer
  unfolding unless_refused
  hands_on_first r d = rw (refused_early turn v e r d)

  module _ (d : v ≡ Ok tt) (s : Result Unit Refusal) (f : verdict_as s ≡ refusal hs) where
    pub hands_on_second : (r : Refusal) → s ≡ Err r → refused (refused_as r) ≡ unless_refused (refusal (gs ++ hs)) answer
    unfolding unless_refused
    hands_on_second r g = rw (left_to_others turn v e d, sym f ∙ verdict_refused s r g)

    pub answers_second : (said : Outcome A) → s ≡ Ok tt → said ≡ gives answer → said ≡ unless_refused (refusal (gs ++ hs)) answer
    unfolding unless_refused
    answers_second said g same = same ∙ sym (rw (left_to_others turn v e d, sym f ∙ verdict_good s g))

-- a verdict, and then a ground of a later number
module _ (x y z : Option ℕ) {k : ℕ} (late : Late k) (v : Result Unit Refusal) (e : verdict_as v ≡ refusal (ground 1 x ∷ ground 3 y ∷ [])) (d : v ≡ Ok tt) where
  pub late_decides : (found : Option ℕ) → z ≡ found → refusal (ground 1 x ∷ ground 3 y ∷ ground k z ∷ []) ≡ unless_before k found none
  late_decides found f = left_to_others (late_last x y z late) v e d ∙ late_alone late z ∙ ap (λ (u : Option ℕ). unless_before k u none) f

-- a refusal is one refusal, an answer is one answer, and neither is the other
pub refused_as_lem : {A : Type 0} {x y : Refused} → ◌≡◌ {A = Outcome A} (refused x) (refused y) → x ≡ y
refused_as_lem e = cc

pub given_as : {A : Type 0} {x y : A} → gives x ≡ gives y → x ≡ y
given_as e = cc

pub never_both : {A C : Type 0} {x : A} {r : Refused} → gives x ≡ refused r → C
never_both {A} {C} {x} {r} e = absurd (differ e)
  where
    said : Outcome A → ℕ
    said (gives y) = 0
    said (refused q) = 1

    differ : gives x ≡ refused r → ⊥
    differ p = let z : ◌≡◌ {A = ℕ} 0 1 = ap said p in omega arith

-- back from what a call says
module _ {A : Type 0} (x : A) where
  pub was_refused : (r : Option Refused) (q : Refused) → refused q ≡ unless_refused r x → r ≡ some q
  unfolding unless_refused
  was_refused none q e = cc
  was_refused (some p) q e = cc

  pub was_given : (r : Option Refused) (y : A) → gives y ≡ unless_refused r x → (r ≡ none) × (y ≡ x)
  unfolding unless_refused
  was_given none y e = (refl, cc)
  was_given (some p) y e = (cc, cc)
