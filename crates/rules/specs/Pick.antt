-- 01, "Pick", and one decision.
use Rattle.std.specs.Prelude.{ℕ, ◌+◌, ◌%◌, cond, List, [], ◌∷◌, ltb}
use Rattle.basis.specs.Words.{total}
use Rattle.rules.specs.Candidates.{candidates, idle, inversion}
use Rattle.rules.specs.Weights.{weights}

module _ (n : ℕ) (T B b o : List ℕ) where
  -- "S is the sum of the weights."
  unfoldable pub S : ℕ
  S = total (weights n T B b o inversion)

-- "Take the remainder of the word by S."
unfoldable pub position : ℕ → ℕ → ℕ
position word S = word % S

-- "The pick is the first candidate whose running sum of weights exceeds it." (A list that ends before that gives idle; no list of 01's does.)
unfoldable pub first_exceeding : ℕ → ℕ → List ℕ → List ℕ → ℕ
first_exceeding at running [] xs = idle
first_exceeding at running (c ∷ cs) [] = idle
first_exceeding at running (c ∷ cs) (x ∷ xs) =
    let later : ℕ = first_exceeding at (running + x) cs xs in
    cond (ltb at (running + x)) c later

module _ (n : ℕ) (T B b o : List ℕ) where
  -- "One word is used per decision, even for a list of one."
  unfoldable pub decision : ℕ → ℕ
  decision word =
      first_exceeding (position word (S n T B b o)) 0 (candidates n T B b o inversion) (weights n T B b o inversion)
