-- 01, "Tick": two steps, so that what is left just before a replenishment can be spoken of.
use Rattle.std.specs.Prelude.{ℕ, ◌-◌, Bool, cond, List, eqb, set}
use Rattle.basis.specs.Words.{◌!◌, filled, has}
use Rattle.rules.specs.declared.Pairs.{Pairs}
use Rattle.rules.specs.Candidates.{candidates, idle, inversion}

-- "A picked partition loses one of b.": idle is no partition
unfoldable pub spend : List ℕ → ℕ → List ℕ
spend b pick = cond (eqb pick idle) b (set b pick (b ! pick - 1))

-- "every o falls by 1; where it reaches 0"
unfoldable pub replenishes : List ℕ → ℕ → Bool
replenishes o i = eqb (o ! i - 1) 0

-- "where it reaches 0, b becomes B"; "What was left is lost."
unfoldable pub next_b : List ℕ → List ℕ → List ℕ → ℕ → ℕ
next_b B b o i = cond (replenishes o i) (B ! i) (b ! i)

-- "every o falls by 1; where it reaches 0, .. o becomes T"
unfoldable pub next_o : List ℕ → List ℕ → ℕ → ℕ
next_o T o i = cond (replenishes o i) (T ! i) (o ! i - 1)

-- time passes, for each of n partitions
unfoldable pub pass_time : ℕ → List ℕ → List ℕ → List ℕ → List ℕ → Pairs
pass_time n T B b o = record { b = filled n (next_b B b o) b; o = filled n (next_o T o) o }

module _ (n : ℕ) (T B b o : List ℕ) where
  -- "A picked partition loses one of b. Then every o falls by 1"
  unfoldable pub tick : ℕ → Pairs
  tick pick = pass_time n T B (spend b pick) o

  -- "tick for a pick not in the list" is refused
  unfoldable pub tick_allowed : ℕ → Bool
  tick_allowed pick = has (candidates n T B b o inversion) pick
