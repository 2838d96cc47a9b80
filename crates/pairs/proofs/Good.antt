-- What a good verdict says of a table and a state.
use Prim.Native.Nat.{ℕ, ◌≤◌}
use mathlib.Core.Path.{◌≡◌, refl, sym, ◌∙◌}
use mathlib.Core.List.{List, [], ◌∷◌}
use Rattle.basis.specs.Words.{has}
use Rattle.rules.specs.Refusals.{bad_table, bad_state, refusal}
use Rattle.laws.proofs.Refusals.{no_ground}
use Rattle.rules.specs.declared.Refusal.{Refusal}
use Rattle.verdicts.specs.Verdicts.{verdict_as}
use Rattle.std.specs.declared.result.Result.{Result}
use Rattle.std.specs.declared.result.Result.TheVariants.{Ok}
use Rattle.verdicts.proofs.Verdicts.{verdict_good}
use Rattle.ranges.proofs.Good.{few_partitions}

module _ (n : ℕ) (T B phase b o : List ℕ) where
  pub few_of_state : (v : Result Unit Refusal) → verdict_as v ≡ refusal (bad_table n T B phase ∷ bad_state n T B b o ∷ []) → v ≡ Ok tt → n ≤ 16
  unfolding has
  few_of_state v e d = few_partitions n T B phase (no_ground _ (sym e ∙ verdict_good v d) 1 refl)
