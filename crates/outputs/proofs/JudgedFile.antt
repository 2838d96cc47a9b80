-- What a judged file says of the file: why it is refused, or that its table and tasks are those of the file, and sound.
use Prim.Native.Nat.{ℕ}
use mathlib.Core.Path.{◌≡◌, refl, sym, ◌∙◌, ap}
use mathlib.Core.List.{List}
use mathlib.Core.Option.{Option, some, none}
use lib.ListN.{length}
use Rattle.std.specs.declared.result.Result.TheVariants.{Ok, Err}
use Rattle.basis.specs.Words.{has}
use Rattle.rules.specs.Numbers.{TableInRange, TasksInRange}
use Rattle.rules.specs.Refusals.{Refused, refused_as}
use Rattle.rules.specs.Admission.{first_unadmitted}
use Rattle.file_rules.specs.MeterFile.{meter_kinds, reading, beginning, table_of, tasks_of, events_in, refusal_of}
use Rattle.file_rules.specs.Printers.{refused_line, unless_refused_file, schedule_output, response_output}
use Rattle.rules.specs.declared.Refusal.{Refusal}
use Rattle.laws.proofs.Refusals.{no_ground}
use Rattle.whole_file.specs.Promises.{Judged, judged_as, judging, JudgeFileIs}
use Rattle.whole_file.specs.declared.MeterFile.{MeterFile}

-- a refused file
module _ (file : List ℕ) (q : Refusal) (judged : JudgeFileIs file (Err q)) where
  pub why : refusal_of file ≡ some (refused_as q)
  unfolding judging
  why = go (refusal_of file) (ap (λ (x : Judged). x.refused) judged)
    where
      go : (o : Option Refused) → some (refused_as q) ≡ (judging o file).refused → o ≡ some (refused_as q)
      go none h = cc
      go (some r) h = sym h

  pub output_refused : (output : List ℕ) → unless_refused_file (refusal_of file) output ≡ refused_line (refused_as q)
  unfolding unless_refused_file
  output_refused output = ap (λ (o : Option Refused). unless_refused_file o output) why

  -- both printers write the line of its refusal
  pub refused_outputs : (refused_line (refused_as q) ≡ schedule_output file) × (refused_line (refused_as q) ≡ response_output file)
  unfolding schedule_output response_output unless_refused_file
  refused_outputs = (rw why refl, rw why refl)

-- and one that isn't
module _ (file : List ℕ) (m : MeterFile) (judged : JudgeFileIs file (Ok m)) where
  pub fine : refusal_of file ≡ none
  unfolding judging
  fine = go (refusal_of file) (ap (λ (x : Judged). x.refused) judged)
    where
      go : (o : Option Refused) → none ≡ (judging o file).refused → o ≡ none
      go none h = refl
      go (some r) h = cc

  pub output_good : (output : List ℕ) → unless_refused_file (refusal_of file) output ≡ output
  unfolding unless_refused_file
  output_good output = ap (λ (o : Option Refused). unless_refused_file o output) fine

  -- what it holds
  pub holds : judged_as (Ok m) ≡ record { table = table_of file; tasks = tasks_of file; events = beginning (events_in file) (length file); refused = none }
  unfolding judging
  holds = judged ∙ ap (λ (o : Option Refused). judging o file) fine

  pub table_is : m.table ≡ table_of file
  table_is = ap (λ (x : Judged). x.table) holds

  pub events_are : m.events ≡ beginning (events_in file) (length file)
  events_are = ap (λ (x : Judged). x.events) holds

  -- none of 8, 1, 9 and 2 is against it
  pub whole : (reading meter_kinds file).fault ≡ none
  unfolding refusal_of has
  whole = no_ground _ fine 8 refl

  pub in_range : TableInRange (table_of file).count (table_of file).period (table_of file).budget (table_of file).phase
  unfolding refusal_of has
  in_range = no_ground _ fine 1 refl

  pub tasks_in_range : TasksInRange (table_of file).count (tasks_of file).count (tasks_of file).partition (tasks_of file).gap (tasks_of file).cost
  unfolding refusal_of has
  tasks_in_range = no_ground _ fine 9 refl

  pub admitted : first_unadmitted (table_of file).count (table_of file).period (table_of file).budget ≡ none
  unfolding refusal_of has
  admitted = no_ground _ fine 2 refl
