-- What each public function of this crate promises of its answer r.
use Rattle.std.specs.Prelude.{ℕ, ◌≡◌, List}
use Rattle.file_rules.specs.MeterFile.{two, four}

-- the numbers of two and of four bytes
abbrev pub TwoIs : List ℕ → ℕ → ℕ → Type 0
TwoIs part at r = r ≡ two part at

abbrev pub FourIs : List ℕ → ℕ → ℕ → Type 0
FourIs part at r = r ≡ four part at
