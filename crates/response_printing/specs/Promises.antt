-- What the functions of this crate promise: which bytes the buffer holds, and how many bytes the whole output has.
use Rattle.std.specs.Prelude.{ℕ, ◌≤◌, ◌≡◌, List, length, take}
use Rattle.rules.specs.declared.Table.{Table}
use Rattle.rules.specs.declared.Tasks.{Tasks}
use Rattle.file_rules.specs.Printers.{response_output}
use Rattle.response_lines.specs.declared.Cursor.TheVariants.{Header}
use Rattle.outputs.specs.ResponseMoments.{rows_to_write}

-- the first r bytes of the buffer, which is `last` after the call, are all the rows
abbrev pub RowsAre : Table → Tasks → List ℕ → ℕ → Type 0
RowsAre t k last r = (r ≤ length last) × (take r last ≡ rows_to_write t k Header)

-- r is how many bytes the whole output has
abbrev pub PrintResponseIs : List ℕ → ℕ → Type 0
PrintResponseIs file r = r ≡ length (response_output file)
