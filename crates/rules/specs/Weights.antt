-- 01, "Weights".
use Rattle.std.specs.Prelude.{ℕ, ◌-◌, ◌*◌, ◌/◌, cond, List, [], ◌∷◌, ◌++◌, map}
use Rattle.basis.specs.Words.{◌!◌, total}
use Rattle.rules.specs.Candidates.{members, idle_listed}

-- "A partition weighs floor(65,536·b/o)."
unfoldable pub weight : List ℕ → List ℕ → ℕ → ℕ
weight b o i = 65536 * (b ! i) / (o ! i)

-- "Idle weighs 65,536 minus the others' sum, or 0 where that would be negative": the minus stops at 0
unfoldable pub idle_weight : ℕ → ℕ
idle_weight others = 65536 - others

module _ (n : ℕ) (T B b o : List ℕ) (w : ℕ) where
  -- the listed partitions' weights, in the list's order
  unfoldable pub member_weights : List ℕ
  member_weights = map (weight b o) (members n T B b o w)

  -- the weights, beside the candidates
  unfoldable pub weights : List ℕ
  weights = member_weights ++ cond (idle_listed n T B b o w) (idle_weight (total member_weights) ∷ []) []
