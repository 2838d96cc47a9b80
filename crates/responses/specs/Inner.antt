-- What the inner functions take.
use Rattle.std.specs.Prelude.{ℕ, ◌≤◌, ◌<◌, List}
use Rattle.basis.specs.Words.{◌!◌}
use Rattle.rules.specs.Numbers.{most_partitions, most_tasks}

-- task i is there, and so is its partition, with a budget that is within its period
pub record Ready (T B partition : List ℕ) (i : ℕ) : Type 0 where
  pub task : i < most_tasks
  pub home : partition ! i < most_partitions
  pub affordable : B ! (partition ! i) ≤ T ! (partition ! i)
