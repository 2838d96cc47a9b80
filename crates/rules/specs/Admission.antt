-- 01, "Admission (fixed-rank response test ..)".
use Rattle.std.specs.Prelude.{ℕ, suc, ◌+◌, ◌*◌, ◌≤◌, ◌<◌, Bool, not, ◌&&◌, List, ◌≡◌, leb, eqb}
use Rattle.std.proofs.Math.Option.{Option}
use Rattle.basis.specs.Words.{◌!◌, ceil, sum_below, first, found, Least}

module _ (T B : List ℕ) where
  -- "B_h + the sum over j above h of ceil(W/T_j)·B_j"
  unfoldable pub demand : ℕ → ℕ → ℕ
  demand h W = B ! h + sum_below h (λ j. ceil W (T ! j) * B ! j)

  -- "For partition h, R is the least W ≥ 1 with W = B_h + the sum ..": over all W
  unfoldable pub IsR : ℕ → ℕ → Type 0
  IsR h = Least (λ W. (1 ≤ W) × (W ≡ demand h W))

  -- "W ≥ 1 with W = B_h + the sum ..", as a test
  unfoldable pub at_rest : ℕ → ℕ → Bool
  at_rest h W = leb 1 W && eqb W (demand h W)

  -- the R of h, if there is one up to T_h: looking at 1, 2, .. T_h decides it
  unfoldable pub response_within : ℕ → Option ℕ
  response_within h = first (suc (T ! h)) (at_rest h)

module _ (n : ℕ) (T B : List ℕ) where
  -- "The table is admitted when R exists and R ≤ T_h for every h."
  unfoldable pub Admitted : Type 0
  Admitted = (h : ℕ) → h < n → (R : ℕ) × IsR T B h R × (R ≤ T ! h)

  -- "first failing partition"
  unfoldable pub first_unadmitted : Option ℕ
  first_unadmitted = first n (λ h. not (found (response_within T B h)))
