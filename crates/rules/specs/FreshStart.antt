-- 01, "Fresh start".
use Rattle.std.specs.Prelude.{ℕ, cond, List, eqb, replicate}
use Rattle.basis.specs.Words.{◌!◌, filled}
use Rattle.rules.specs.Numbers.{most_partitions}
use Rattle.rules.specs.declared.Pairs.{Pairs}

-- 16 places, all 0
abbrev pub zeros : List ℕ
zeros = replicate most_partitions 0

-- "Phase 0: b = B, .. Otherwise b = 0"
unfoldable pub fresh_b : List ℕ → List ℕ → ℕ → ℕ
fresh_b B phase i = cond (eqb (phase ! i) 0) (B ! i) 0

-- "Phase 0: .. o = T. Otherwise .. o = phase."
unfoldable pub fresh_o : List ℕ → List ℕ → ℕ → ℕ
fresh_o T phase i = cond (eqb (phase ! i) 0) (T ! i) (phase ! i)

-- the fresh start of n partitions; "Pairs beyond the table are 0, 0."
unfoldable pub fresh_start : ℕ → List ℕ → List ℕ → List ℕ → Pairs
fresh_start n T B phase = record { b = filled n (fresh_b B phase) zeros; o = filled n (fresh_o T phase) zeros }
