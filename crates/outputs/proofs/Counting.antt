-- A line taken off what is still to be written.
use Prim.Native.Nat.{ℕ, ◌+◌}
use mathlib.Core.Path.{◌≡◌, ◌∙◌, ap}
use mathlib.Core.List.{List, ◌++◌}
use native.Mathlib.Omega.{arith}
use lib.ListN.{length, length-append}

pub split_off : (sent n total : ℕ) (bytes rest whole : List ℕ) → n ≡ length bytes → whole ≡ bytes ++ rest → sent + length whole ≡ total → sent + n + length rest ≡ total
split_off sent n total bytes rest whole count g sum = let all = ap length g ∙ length-append bytes rest in omega (arith, sum, all, count)
