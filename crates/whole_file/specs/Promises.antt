-- What the public function of this crate promises of its answer r.
use Rattle.std.specs.Prelude.{ℕ, ◌≡◌, List, length, replicate}
use Rattle.std.proofs.Math.Option.{Option, some, none}
use Rattle.std.specs.declared.result.Result.{Result}
use Rattle.std.specs.declared.result.Result.TheVariants.{Ok, Err}
use Rattle.rules.specs.Numbers.{most_partitions, most_tasks}
use Rattle.rules.specs.Refusals.{Refused, refused_as}
use Rattle.rules.specs.declared.Refusal.{Refusal}
use Rattle.file_rules.specs.MeterFile.{table_of, tasks_of, events_in, beginning, refusal_of}
use Rattle.rules.specs.declared.Table.{Table}
use Rattle.rules.specs.declared.Tasks.{Tasks}
use Rattle.whole_file.specs.declared.MeterFile.{MeterFile}

-- no partitions and no tasks, all places 0
abbrev pub no_table : Table
no_table = record { count = 0; period = replicate most_partitions 0; budget = replicate most_partitions 0; phase = replicate most_partitions 0 }

abbrev pub no_tasks : Tasks
no_tasks = record { count = 0; partition = replicate most_tasks 0; gap = replicate most_tasks 0; cost = replicate most_tasks 0 }

-- what a file holds, and why it is refused, if it is
pub record Judged : Type 0 where
  pub table : Table
  pub tasks : Tasks
  pub events : ℕ
  pub refused : Option Refused

-- refused, and all 0
abbrev pub refused_file : Refused → Judged
refused_file why = record { table = no_table; tasks = no_tasks; events = 0; refused = some why }

abbrev pub judged_as : Result MeterFile Refusal → Judged
judged_as (Ok r) = record { table = r.table; tasks = r.tasks; events = r.events; refused = none }
judged_as (Err why) = refused_file (refused_as why)

unfoldable pub judging : Option Refused → List ℕ → Judged
judging none file = record { table = table_of file; tasks = tasks_of file; events = beginning (events_in file) (length file); refused = none }
judging (some r) file = refused_file r

-- a whole file: refusals 8, 1, 9 and 2
abbrev pub JudgeFileIs : List ℕ → Result MeterFile Refusal → Type 0
JudgeFileIs file r = judged_as r ≡ judging (refusal_of file) file
