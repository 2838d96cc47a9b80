-- 01, "Release".
use Rattle.std.specs.Prelude.{ℕ, Bool, ◌&&◌, List, ltb, set}
use Rattle.rules.specs.declared.Pairs.{Pairs}
use Rattle.rules.specs.BusyLength.{active}

-- "An active partition's b becomes 0. A release hands back the whole state with one number changed."
unfoldable pub release : List ℕ → List ℕ → ℕ → Pairs
release b o i = record { b = set b i 0; o = o }

-- "release of an index not active" is refused, and so is that of one that isn't there
unfoldable pub release_allowed : ℕ → List ℕ → ℕ → Bool
release_allowed n b i = ltb i n && active b i
