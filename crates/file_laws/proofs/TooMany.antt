-- Files with more records than a table has places. They stand apart from the other files worked by hand, since they take longer than all of those.
use Prim.Native.Nat.{ℕ, zero, suc}
use mathlib.Core.Path.{refl}
use mathlib.Core.List.{List, [], ◌∷◌, ◌++◌}
use Rattle.basis.specs.Words.{has, first, padded}
use Rattle.basis.specs.Rows.{Row, ◌is◌, Hold}
use Rattle.rules.specs.Numbers.{first_bad_partition, first_bad_task, partition_in_range}
use Rattle.rules.specs.Refusals.{refusal}
use Rattle.file_rules.specs.MeterFile.{form, is_record, read_from, reading, of_kind, table_of, tasks_of, refusal_of}
use Rattle.file_rules.specs.Printers.{ascii, decimal_within, unless_refused_file, schedule_output, response_output}
use Rattle.file_rules.specs.FileCase.{partition, task, one}

-- a record so many times
abbrev times : ℕ → List ℕ → List ℕ
times zero bytes = []
times (suc n) bytes = bytes ++ times n bytes

-- seventeen partitions, whatever their fields; 65 tasks
abbrev pub too_many : List Row
too_many =
    (schedule_output (times 17 (partition 4 5 0)) is ascii "refused 1 at 16\n")
    ∷ (response_output (one ++ times 65 (task 1 9 1)) is ascii "refused 9 at 64\n")
    ∷ []

pub too_many_hold : Hold too_many
unfolding has first padded first_bad_partition first_bad_task partition_in_range refusal form is_record read_from reading of_kind table_of tasks_of refusal_of decimal_within unless_refused_file schedule_output response_output
too_many_hold = refl
