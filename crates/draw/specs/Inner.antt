-- What the inner functions give.
use Rattle.std.specs.Prelude.{ℕ, ◌+◌, ◌≤◌, ◌<◌, ◌≡◌, cond, List, [], ◌∷◌, ◌⊎◌, eqb, length}
use Rattle.basis.specs.Words.{◌!◌, total, onto}
use Rattle.rules.specs.Candidates.{idle}
use Rattle.rules.specs.Weights.{weight, idle_weight}

-- what a candidate weighs, where those before it weigh `sum`
unfoldable pub weight_of : List ℕ → List ℕ → ℕ → ℕ → ℕ
weight_of b o sum c = cond (eqb c idle) (idle_weight sum) (weight b o c)

-- the weights of a list, from the front
unfoldable pub weighed : List ℕ → List ℕ → ℕ → List ℕ → List ℕ
weighed b o sum [] = []
weighed b o sum (c ∷ cs) =
    let rest : List ℕ = weighed b o (sum + weight_of b o sum c) cs in
    weight_of b o sum c ∷ rest

-- the list is of indices and idle, in no more than an array's places
pub record Usable (list : List ℕ) : Type 0 where
  pub few : length list ≤ 17
  pub each : (i : ℕ) → i < length list → (list ! i < 16) ⊎ (list ! i ≡ idle)

-- the lent places after the weighing, and the sum of all weights
pub record Scales : Type 0 where
  pub weights : List ℕ
  pub sum : ℕ

-- the weights of these candidates, in the first of the places that held `before`; and their sum
pub record ScalesAre (b o cs before : List ℕ) (r : Scales) : Type 0 where
  pub weights : r.weights ≡ onto (weighed b o 0 cs) before
  pub sum : r.sum ≡ total (weighed b o 0 cs)
