-- What the inner functions give: the tables with one record more, what all records hold, and what is against it.
use Rattle.std.specs.Prelude.{ℕ, ◌+◌, cond, List, [], ◌∷◌, ◌≡◌, eqb, set}
use Rattle.std.specs.declared.result.Result.{Result}
use Rattle.rules.specs.Records.{tables_bad}
use Rattle.rules.specs.Refusals.{malformed, refusal}
use Rattle.rules.specs.declared.Refusal.{Refusal}
use Rattle.file_rules.specs.MeterFile.{two, meter_kinds, reading}
use Rattle.rules.specs.declared.Table.{Table}
use Rattle.rules.specs.declared.Tasks.{Tasks}
use Rattle.verdicts.specs.Verdicts.{verdict_as}
use Rattle.whole_file.specs.Promises.{no_table, no_tasks, judged_as, judging}
use Rattle.whole_file.specs.declared.MeterFile.{MeterFile}

abbrev pub empty : MeterFile
empty = record { table = no_table; tasks = no_tasks; events = 0 }

-- one partition more: past the last place a number is put nowhere
abbrev pub with_partition : Table → List ℕ → Table
with_partition t part =
    record {
      count = t.count + 1;
      period = set t.period t.count (two part 0);
      budget = set t.budget t.count (two part 2);
      phase = set t.phase t.count (two part 4);
    }

-- one task more
abbrev pub with_task : Tasks → List ℕ → Tasks
with_task k part =
    record {
      count = k.count + 1;
      partition = set k.partition k.count (two part 0);
      gap = set k.gap k.count (two part 2);
      cost = set k.cost k.count (two part 4);
    }

-- one record more
abbrev pub with_record : MeterFile → ℕ → List ℕ → ℕ → MeterFile
with_record held kind part next =
    cond (eqb kind 1) (record { table = with_partition held.table part; tasks = held.tasks; events = next })
    (cond (eqb kind 2) (record { table = held.table; tasks = with_task held.tasks part; events = next })
    held)

-- all records of a file: refusal 8
abbrev pub LoadIs : List ℕ → Result MeterFile Refusal → Type 0
LoadIs file r = judged_as r ≡ judging (refusal (malformed (reading meter_kinds file).fault ∷ [])) file

-- the tables: refusals 1, 9 and 2
abbrev pub JudgeHeldIs : Table → Tasks → Result Unit Refusal → Type 0
JudgeHeldIs t k r = verdict_as r ≡ refusal (tables_bad t k)
