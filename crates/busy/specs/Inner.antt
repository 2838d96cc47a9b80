-- What the inner functions give.
use Rattle.std.specs.Prelude.{ℕ, suc, ◌+◌, ◌≤◌, ◌<◌, cond, List, ltb}
use Rattle.std.proofs.Math.Option.{Option}
use Rattle.basis.specs.Words.{◌!◌, sum_below, settle}
use Rattle.rules.specs.BusyLength.{refill}
use Rattle.laws.proofs.Settle.{Repeating}

-- a start, and the refills of the first `top` partitions: what the repetition adds up in each round
unfoldable pub filling : List ℕ → List ℕ → List ℕ → ℕ → ℕ → ℕ → ℕ
filling T B o top start W = start + sum_below top (λ j. refill T B o j W)

module _ (T B o : List ℕ) (top start D : ℕ) where
  -- what the repetition answers
  abbrev pub Settles : Option ℕ
  Settles = settle (suc D) (filling T B o top start) (ltb D) start

  -- it has come to W
  unfoldable pub Going : ℕ → Type 0
  Going W = Repeating (filling T B o top start) (ltb D) D Settles W

-- what the first replenishment of j adds, where it is before W
unfoldable pub once : List ℕ → List ℕ → ℕ → ℕ → ℕ
once B o j W = cond (ltb (o ! j) W) (B ! j) 0

-- up to `reach` none of the first `top` partitions is replenished twice
unfoldable pub Reaches : List ℕ → List ℕ → ℕ → ℕ → Type 0
Reaches T o top reach = (j : ℕ) → j < top → reach ≤ o ! j + T ! j
