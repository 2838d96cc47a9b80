-- What a good verdict says of a table.
use Prim.Native.Nat.{ℕ, ◌≤◌, ◌<◌}
use mathlib.Core.Path.{◌≡◌, refl, sym, ◌∙◌}
use mathlib.Core.List.{List, [], ◌∷◌}
use Rattle.basis.specs.Words.{has}
use Rattle.rules.specs.Numbers.{first_bad_partition, TableInRange}
use Rattle.rules.specs.Refusals.{bad_table, bad_table_or_index, refusal}
use Rattle.laws.proofs.Refusals.{no_ground, table_alone}
use Rattle.laws.proofs.Numbers.{table-good}
use Rattle.verdicts.specs.Verdicts.{verdict_as}
use Rattle.std.specs.declared.result.Result.{Result}
use Rattle.std.specs.declared.result.Result.TheVariants.{Ok}
use Rattle.rules.specs.declared.Refusal.{Refusal}
use Rattle.verdicts.proofs.Verdicts.{verdict_good, asked_good}

pub few_partitions : (n : ℕ) (T B phase : List ℕ) → TableInRange n T B phase → n ≤ 16
few_partitions n T B phase t = (table-good n T B phase t).not_many

module _ (n : ℕ) (T B phase : List ℕ) where
  pub table_in_range : (v : Result Unit Refusal) → verdict_as v ≡ refusal (bad_table n T B phase ∷ []) → v ≡ Ok tt → TableInRange n T B phase
  unfolding has
  table_in_range v e d = no_ground _ (sym e ∙ verdict_good v d) 1 refl

  pub few_of_table : (v : Result Unit Refusal) → verdict_as v ≡ refusal (bad_table n T B phase ∷ []) → v ≡ Ok tt → n ≤ 16
  few_of_table v e d = few_partitions n T B phase (table_in_range v e d)

  module _ (h : ℕ) (v : Result Unit Refusal) (e : verdict_as v ≡ refusal (bad_table_or_index n T B phase h ∷ [])) (d : v ≡ Ok tt) where
    pub indexed_table : TableInRange n T B phase
    indexed_table = (asked_good 1 table_alone n h (first_bad_partition n T B phase) v e d).0

    pub indexed_there : h < n
    indexed_there = (asked_good 1 table_alone n h (first_bad_partition n T B phase) v e d).1
