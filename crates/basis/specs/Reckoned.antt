-- What a function gives that reckons in a fixed width.
use Rattle.std.specs.Prelude.{ℕ, ◌<◌, ◌≡◌}

-- r is x, and below a limit that no sum of a few such numbers takes past 64 bits
pub record Reckoned (limit x r : ℕ) : Type 0 where
  pub is : r ≡ x
  pub small : r < limit
