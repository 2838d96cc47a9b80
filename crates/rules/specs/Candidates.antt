-- 01, "Candidates (000, algorithms 1 and 2)".
use Rattle.std.specs.Prelude.{ℕ, Bool, cond, not, ◌&&◌, ◌||◌, List, [], ◌∷◌, ◌++◌}
use Rattle.basis.specs.Words.{all, those}
use Rattle.rules.specs.BusyLength.{active, passes}

-- "As a number, idle is 255 everywhere."
abbrev pub idle : ℕ
idle = 255

-- "the inversion size w is 1"
abbrev pub inversion : ℕ
inversion = 1

-- "The first active one is always in.": no partition above it is active. (Nor is one above idle, where "the list is idle alone".)
-- "Another, or idle, is in when every partition above it passes with w .., inactive ones too.": so the first failed test ends the whole search.
unfoldable pub may_run : List ℕ → List ℕ → List ℕ → List ℕ → ℕ → ℕ → Bool
may_run T B b o w c = all c (λ h. not (active b h)) || all c (λ h. passes T B b o h w)

module _ (n : ℕ) (T B b o : List ℕ) (w : ℕ) where
  -- "Active partitions by rank"
  unfoldable pub members : List ℕ
  members = those n (λ c. active b c && may_run T B b o w c)

  -- idle stands below all n partitions
  unfoldable pub idle_listed : Bool
  idle_listed = may_run T B b o w n

  -- "Active partitions by rank, then idle."
  unfoldable pub candidates : List ℕ
  candidates = members ++ cond idle_listed (idle ∷ []) []
