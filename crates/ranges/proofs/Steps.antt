-- What the tests of this crate's functions amount to, in the shape in which the proofs ask it.
use Prim.Native.Nat.{ℕ, ◌≤◌, ◌<◌}
use mathlib.Core.Path.{◌≡◌, refl, sym, ◌∙◌, ap}
use mathlib.Core.Bool.{Bool, true, false, not, ◌&&◌}
use mathlib.Core.Option.{some, none}
use borrow.Author.Tests.{le-leb, lt-leb, lt-ltb, le-ltb, eq-eqb, ne_eqb}
use lib.Dec.{leb}
use Rattle.basis.specs.Words.{◌!◌, within, first}
use Rattle.rules.specs.Numbers.{partition_in_range, first_bad_partition}
use Rattle.rules.specs.declared.Refusal.{Refusal}
use Rattle.rules.specs.declared.Refusal.TheVariants.{BadPartition}
use Rattle.ranges.specs.Promises.{JudgeTableIs, JudgeIndexIs}
use Rattle.std.specs.declared.result.Result.{Result}
use Rattle.std.specs.declared.result.Result.TheVariants.{Ok, Err}
use Rattle.rules.specs.declared.Table.{Table}
use Rattle.laws.proofs.Tests.{off_left}
use Rattle.laws.proofs.Refusals.{table_alone}
use Rattle.verdicts.proofs.Verdicts.{says_bad, says_good, judged_fields, judged_absent, judged_there}

pub too_low : (low high x : ℕ) → x < low → false ≡ within low high x
too_low low high x l = sym (rw (lt-leb low x l))

pub high_enough : (low high x : ℕ) → low ≤ x → leb x high ≡ within low high x
high_enough low high x l = rw (le-leb low x l)

-- a test that was left at once, and one that was passed
pub fell : (p r : Bool) → r ≡ p → r ≡ false → p ≡ false
fell p r e off = sym e ∙ off

pub held : (p r : Bool) → r ≡ p → r ≡ true → p ≡ true
held p r e on = sym e ∙ on

-- tests one after the other: where one fails that decides, and where all before it pass the last one does
pub fails_at : (p q : Bool) → p ≡ false → false ≡ (p && q)
fails_at p q off = sym (off_left q off)

pub last_decides : (p q r : Bool) → p ≡ true → r ≡ q → r ≡ (p && q)
last_decides p q r on e = e ∙ ap (λ (a : Bool). a && q) (sym on)

-- ---- judging a table, entry by entry
module _ (t : Table) where
  -- the test of one of its partitions
  abbrev pub partition : ℕ → Bool
  partition i = partition_in_range (t.period ! i) (t.budget ! i) (t.phase ! i)

  pub none_there : t.count ≡ 0 → JudgeTableIs t (Err (BadPartition 0))
  unfolding first_bad_partition
  none_there e = says_bad 1 table_alone _ (BadPartition 0) 0 refl (rw (eq-eqb t.count 0 e))

  module _ (some_there : t.count ≡ 0 → ⊥) where
    pub too_many_lem : 16 < t.count → JudgeTableIs t (Err (BadPartition 16))
    unfolding first_bad_partition
    too_many_lem l = says_bad 1 table_alone _ (BadPartition 16) 16 refl (rw (ne_eqb t.count 0 some_there, lt-ltb 16 t.count l))

    module _ (not_many : t.count ≤ 16) where
      by_fields : first_bad_partition t.count t.period t.budget t.phase ≡ first t.count (λ i. not (partition i))
      unfolding first_bad_partition
      by_fields = rw (ne_eqb t.count 0 some_there, le-ltb 16 t.count not_many)

      pub bad_table_lem : (i : ℕ) → first t.count (λ j. not (partition j)) ≡ some i → JudgeTableIs t (Err (BadPartition i))
      bad_table_lem i e = says_bad 1 table_alone _ (BadPartition i) i refl (by_fields ∙ e)

      pub good-table : first t.count (λ j. not (partition j)) ≡ none → JudgeTableIs t (Ok tt)
      good-table e = says_good 1 table_alone _ (by_fields ∙ e)

-- ---- a partition that isn't there
module _ (t : Table) (h : ℕ) (v : Result Unit Refusal) (e : JudgeTableIs t v) where
  pub table-refused : (r : Refusal) → v ≡ Err r → JudgeIndexIs t h (Err r)
  table-refused = judged_fields 1 table_alone t.count h (first_bad_partition t.count t.period t.budget t.phase) v e

  pub partition_absent : v ≡ Ok tt → t.count ≤ h → JudgeIndexIs t h (Err (BadPartition h))
  partition_absent d = judged_absent 1 table_alone t.count h (first_bad_partition t.count t.period t.budget t.phase) v e d (BadPartition h) refl

  pub partition_there : v ≡ Ok tt → h < t.count → JudgeIndexIs t h (Ok tt)
  partition_there = judged_there 1 table_alone t.count h (first_bad_partition t.count t.period t.budget t.phase) v e
