-- Tables of sums worked by hand: a row has what the definitions give, and what was worked out.
use Rattle.std.specs.Prelude.{ℕ, Bool, cond, List, [], ◌∷◌, map, ◌≡◌}
use Rattle.std.proofs.Math.Option.{Option, some, none}

pub record Row : Type 0 where
  pub gives : List ℕ
  pub says : List ℕ

infix 3 ◌is◌
abbrev pub ◌is◌ : List ℕ → List ℕ → Row
gives is says = record { gives = gives; says = says }

-- the rows hold, all of them
abbrev pub Hold : List Row → Type 0
Hold rows = map (λ (row : Row). row.gives) rows ≡ map (λ (row : Row). row.says) rows

-- values as a row has them: a number, an answer that may be none, a test as 1 or 0
abbrev pub number : ℕ → List ℕ
number x = x ∷ []

abbrev pub answer : Option ℕ → List ℕ
answer none = []
answer (some x) = x ∷ []

abbrev pub test : Bool → List ℕ
test passed = cond passed 1 0 ∷ []
