-- What each public function of this crate promises of its answer r: how many bytes the line has.
use Rattle.std.specs.Prelude.{ℕ, ◌≡◌, length}
use Rattle.rules.specs.Refusals.{refused_as}
use Rattle.file_rules.specs.Printers.{refused_line}
use Rattle.rules.specs.declared.Refusal.{Refusal}

abbrev pub PrintRefusalIs : Refusal → ℕ → Type 0
PrintRefusalIs why r = r ≡ length (refused_line (refused_as why))
