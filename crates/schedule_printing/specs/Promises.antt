-- What each public function of this crate promises of its answer r: how many bytes the whole output has.
use Rattle.std.specs.Prelude.{ℕ, ◌≡◌, List, length}
use Rattle.file_rules.specs.Printers.{schedule_output}

abbrev pub PrintScheduleIs : List ℕ → ℕ → Type 0
PrintScheduleIs file r = r ≡ length (schedule_output file)
