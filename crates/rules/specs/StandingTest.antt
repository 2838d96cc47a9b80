-- 01, "Standing test".
use Rattle.std.specs.Prelude.{ℕ, not, List, ◌≡◌}
use Rattle.std.proofs.Math.Option.{Option, none}
use Rattle.basis.specs.Words.{first}
use Rattle.rules.specs.BusyLength.{passes}

-- "Every h passes with w = 0. A failure names the first such h."
unfoldable pub first_failing : ℕ → List ℕ → List ℕ → List ℕ → List ℕ → Option ℕ
first_failing n T B b o = first n (λ h. not (passes T B b o h 0))

-- the state b, o passes the standing test
abbrev pub Stands : ℕ → List ℕ → List ℕ → List ℕ → List ℕ → Type 0
Stands n T B b o = first_failing n T B b o ≡ none
