-- From a pass to the first that fails, to admission and to one partition's R.
use Prim.Native.Nat.{ℕ, ◌≤◌, ◌<◌}
use mathlib.Core.Path.{◌≡◌, sym, ◌∙◌, ap}
use mathlib.Core.Bool.{Bool, cond, not, ◌&&◌}
use mathlib.Core.List.{List, [], ◌∷◌}
use mathlib.Core.Option.{Option, none}
use native.Mathlib.Omega.{arith}
use borrow.Author.Tests.{lt-ltb}
use lib.Dec.{ltb}
use Rattle.basis.specs.Words.{first, found}
use Rattle.rules.specs.Numbers.{TableInRange}
use Rattle.rules.specs.Admission.{response_within, first_unadmitted}
use Rattle.rules.specs.BusyLength.{busy_length, passes}
use Rattle.rules.specs.StandingTest.{first_failing}
use Rattle.rules.specs.Refusals.{Ground, bad_table, bad_table_or_index, bad_state, refusal, refused_as}
use Rattle.laws.proofs.Places.{first_same}
use Rattle.laws.proofs.Numbers.{table-good}
use Rattle.laws.proofs.Admission.{admission_is_busy}
use Rattle.laws.proofs.Refusals.{table_then_state}
use Rattle.verdicts.specs.Outcome.{gives, refused, unless_refused}
use Rattle.verdicts.specs.Verdicts.{verdict_as}
use Rattle.std.specs.declared.option.Option.{Option as Found}
use Rattle.std.specs.declared.result.Result.{Result}
use Rattle.std.specs.declared.result.Result.TheVariants.{Ok, Err}
use Rattle.rules.specs.declared.Pairs.{Pairs}
use Rattle.rules.specs.declared.Refusal.{Refusal}
use Rattle.pairs.proofs.Good.{few_of_state}
use Rattle.verdicts.proofs.Outcomes.{hands_on, not_refused, hands_on_first, hands_on_second, answers_second}
use Rattle.ranges.proofs.Good.{few_of_table, table_in_range, indexed_table, indexed_there, few_partitions}
use Rattle.laws.proofs.BusyLength.{passes-found}
use Rattle.busy.specs.Spans.{span_as}

-- ---- the first that fails
module _ (n : ℕ) (T B b o : List ℕ) where
  -- who passes, as `passes` tells it
  abbrev pub told : ℕ → Bool
  told h = ltb h 16 && passes T B b o h 0

  pub failing : (x : Option ℕ) → n ≤ 16 → first n (λ h. not (told h)) ≡ x → x ≡ first_failing n T B b o
  unfolding first_failing
  failing x few e = sym e ∙ first_same n _ _ (λ h l. ap (λ (a : Bool). not (a && passes T B b o h 0)) (lt-ltb h 16 (omega arith)))

  pub stands : (gs : List Ground) (v : Result Unit Refusal) (x : Option ℕ) → verdict_as v ≡ refusal gs → v ≡ Ok tt → x ≡ first_failing n T B b o
      → gives x ≡ unless_refused (refusal gs) (first_failing n T B b o)
  stands gs v x e d same = ap gives same ∙ sym (not_refused (first_failing n T B b o) gs v e d)

module _ (n : ℕ) (T B phase : List ℕ) where
  -- full budgets, each replenished in a whole period
  abbrev full : Pairs
  full = record { b = B; o = T }

  -- ---- admission is the standing test of full budgets
  in_range_response : TableInRange n T B phase → (h : ℕ) → h < n → busy_length T B B T h 0 ≡ response_within T B h
  in_range_response t h l =
      let table = table-good n T B phase t in
      admission_is_busy T B h (table.each h l).budget (λ j k. (table.each j (omega arith)).period)

  admission_stands : TableInRange n T B phase → first_failing n T B B T ≡ first_unadmitted n T B
  unfolding first_failing first_unadmitted
  admission_stands t = first_same n _ _ (λ h l. ap not (passes-found T B B T h 0 ∙ ap found (in_range_response t h l)))

  pub admits : (x : Option ℕ) (v : Result Unit Refusal) → verdict_as v ≡ refusal (bad_table n T B phase ∷ []) → v ≡ Ok tt → (p : Pairs) → p ≡ full → x ≡ first_failing n T B p.b p.o
      → gives x ≡ unless_refused (refusal (bad_table n T B phase ∷ [])) (first_unadmitted n T B)
  admits x v e d p whole same =
      ap gives (same ∙ ap (λ (q : Pairs). first_failing n T B q.b q.o) whole ∙ admission_stands (table_in_range n T B phase v e d)) ∙ sym (not_refused (first_unadmitted n T B) _ v e d)

  -- ---- the busy test hands on what is against the table, and then what is against the pairs
  module _ (h : ℕ) (b o : List ℕ) (w : ℕ) (v : Result Unit Refusal) (e : verdict_as v ≡ refusal (bad_table_or_index n T B phase h ∷ [])) where
    pub busy_refused : (r : Refusal) → v ≡ Err r
        → refused (refused_as r) ≡ unless_refused (refusal (bad_table_or_index n T B phase h ∷ bad_state n T B b o ∷ [])) (busy_length T B b o h w)
    busy_refused = hands_on_first _ (table_then_state _ _) v e

    pub busy_refused_pairs : (s : Result Unit Refusal) (r : Refusal) → v ≡ Ok tt → verdict_as s ≡ refusal (bad_state n T B b o ∷ []) → s ≡ Err r
        → refused (refused_as r) ≡ unless_refused (refusal (bad_table_or_index n T B phase h ∷ bad_state n T B b o ∷ [])) (busy_length T B b o h w)
    busy_refused_pairs s r d f = hands_on_second _ (table_then_state _ _) v e d s f r

  -- ---- and R is that test's length
  module _ (h : ℕ) (v : Result Unit Refusal) (e : verdict_as v ≡ refusal (bad_table_or_index n T B phase h ∷ [])) (d : v ≡ Ok tt) where
    spanned : (b o : List ℕ) (w : ℕ) (x : Found ℕ) → span_as x ≡ cond (ltb h 16) (busy_length T B b o h w) none → span_as x ≡ busy_length T B b o h w
    spanned b o w x length = length ∙ ap (λ (a : Bool). cond a (busy_length T B b o h w) none) (lt-ltb h 16 index_small)
      where
        index_small : h < 16
        index_small =
            let few = few_partitions n T B phase (indexed_table n T B phase h v e d) in
            let here = indexed_there n T B phase h v e d in
            omega arith

    module _ (x : Found ℕ) where
      pub responds : (p : Pairs) → p ≡ full → span_as x ≡ cond (ltb h 16) (busy_length T B p.b p.o h 0) none → gives (span_as x) ≡ unless_refused (refusal (bad_table_or_index n T B phase h ∷ [])) (response_within T B h)
      responds p whole length =
          ap gives (spanned p.b p.o 0 x length ∙ ap (λ (q : Pairs). busy_length T B q.b q.o h 0) whole ∙ in_range_response (indexed_table n T B phase h v e d) h (indexed_there n T B phase h v e d))
          ∙ sym (not_refused (response_within T B h) _ v e d)

      pub tested_busy : (b o : List ℕ) (w : ℕ) (s : Result Unit Refusal) → verdict_as s ≡ refusal (bad_state n T B b o ∷ []) → s ≡ Ok tt → span_as x ≡ cond (ltb h 16) (busy_length T B b o h w) none
          → gives (span_as x) ≡ unless_refused (refusal (bad_table_or_index n T B phase h ∷ bad_state n T B b o ∷ [])) (busy_length T B b o h w)
      tested_busy b o w s f g length =
          answers_second (busy_length T B b o h w) (table_then_state _ _) v e d s f (gives (span_as x)) g (ap gives (spanned b o w x length))

-- what the calls rest on
pub ruleset standing = (hands_on, few_of_state, stands)

pub ruleset admission = (hands_on, few_of_table, admits)

pub ruleset response = (hands_on, responds)
