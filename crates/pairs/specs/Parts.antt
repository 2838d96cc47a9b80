-- The pairs of a state in two parts, as the code judges them: those inside the table, and those beyond it.
use Rattle.std.specs.Prelude.{ℕ, ◌≡◌, cond, not, ◌&&◌, ◌||◌, List, [], ◌∷◌, ltb, eqb}
use Rattle.std.proofs.Math.Option.{Option}
use Rattle.basis.specs.Words.{◌!◌, within, first}
use Rattle.rules.specs.Numbers.{most_partitions}
use Rattle.rules.specs.Refusals.{ground, refusal}
use Rattle.rules.specs.declared.Refusal.{Refusal}
use Rattle.verdicts.specs.Verdicts.{verdict_as}
use Rattle.std.specs.declared.result.Result.{Result}

-- how many of n partitions have one of m pairs
unfoldable pub paired : ℕ → ℕ → ℕ
paired n m = cond (ltb m n) m n

-- the first of the first n pairs that isn't within its partition's numbers
unfoldable pub first_bad_inside : ℕ → List ℕ → List ℕ → List ℕ → List ℕ → Option ℕ
first_bad_inside n T B b o = first n (λ i. not (within 0 (B ! i) (b ! i) && within 1 (T ! i) (o ! i)))

-- the first of the pairs from n on that isn't 0, 0
unfoldable pub first_bad_beyond : ℕ → List ℕ → List ℕ → Option ℕ
first_bad_beyond n b o = first most_partitions (λ i. not (ltb i n || (eqb (b ! i) 0 && eqb (o ! i) 0)))

-- refusal 3 with the bad pair that was found, or none
abbrev pub PairsJudged : Option ℕ → Result Unit Refusal → Type 0
PairsJudged bad r = verdict_as r ≡ refusal (ground 3 bad ∷ [])
