-- From the verdicts on the records and on the tables to what the call says.
use Prim.Native.Nat.{ℕ}
use mathlib.Core.Path.{◌≡◌, refl, sym, ◌∙◌, ap}
use mathlib.Core.List.{List, [], ◌∷◌}
use mathlib.Core.Option.{Option, some, none}
use Rattle.rules.specs.Records.{unadmitted, tables_bad}
use Rattle.rules.specs.Refusals.{Refused, refused_as, malformed, refusal}
use Rattle.file_rules.specs.MeterFile.{meter_kinds, reading, refusal_of}
use Rattle.rules.specs.declared.Refusal.{Refusal}
use Rattle.rules.specs.declared.Refusal.TheVariants.{NotAdmitted}
use Rattle.rules.specs.declared.Table.{Table}
use Rattle.rules.specs.declared.Tasks.{Tasks}
use Rattle.laws.proofs.Tests.{none_is_some}
use Rattle.laws.proofs.Refusals.{file_first, table-first, tasks_then_admission, admission_alone, refused-first, refused_then}
use Rattle.std.specs.declared.option.Option.{Option as Found}
use Rattle.std.specs.declared.option.Option.TheVariants.{Some, None}
use Rattle.std.specs.declared.result.Result.{Result}
use Rattle.std.specs.declared.result.Result.TheVariants.{Ok, Err}
use Rattle.verdicts.specs.Verdicts.{verdict_as}
use Rattle.ranges.specs.Promises.{JudgeTableIs}
use Rattle.verdicts.proofs.Verdicts.{verdict_refused, verdict_good, says_bad, says_good, judged_early, judged_later}
use Rattle.verdicts.proofs.Outcomes.{was_refused, was_given}
use Rattle.tasks.specs.Promises.{JudgeTasksIs}
use Rattle.standing.specs.Answers.{test_as}
use Rattle.standing.specs.Promises.{AdmissionIs}
use Rattle.whole_file.specs.Inner.{LoadIs, JudgeHeldIs}
use Rattle.whole_file.specs.Promises.{Judged, judged_as, judging, JudgeFileIs}
use Rattle.whole_file.specs.declared.MeterFile.{MeterFile}

-- ---- the tables: 1, then 9, then 2
module _ (t : Table) (k : Tasks) (v : Result Unit Refusal) (e : JudgeTableIs t v) where
  pub held_table_bad : (q : Refusal) → v ≡ Err q → JudgeHeldIs t k (Err q)
  held_table_bad = judged_early (table-first _ _ _) v e

  module _ (good : v ≡ Ok tt) (w : Result Unit Refusal) (f : JudgeTasksIs t.count k w) where
    pub held_tasks_bad : (q : Refusal) → w ≡ Err q → JudgeHeldIs t k (Err q)
    held_tasks_bad q d = judged_later (table-first _ _ _) v e (Err q) good (judged_early (tasks_then_admission _ _) w f q d)

    module _ (fine : w ≡ Ok tt) (r : Result (Found ℕ) Refusal) (g : AdmissionIs t r) where
      last : (u : Result Unit Refusal) → verdict_as u ≡ refusal (unadmitted t ∷ []) → JudgeHeldIs t k u
      last u h = judged_later (table-first _ _ _) v e u good (judged_later (tasks_then_admission _ _) w f u fine h)

      pub held_refused : (q : Refusal) → r ≡ Err q → JudgeHeldIs t k (Err q)
      held_refused q d = none_is_some (sym (verdict_good v good) ∙ e ∙ was_refused _ _ (refused_as q) (sym (ap test_as d) ∙ g))

      pub held_fails : (h : ℕ) → r ≡ Ok (Some h) → JudgeHeldIs t k (Err (NotAdmitted h))
      held_fails h d = last (Err (NotAdmitted h)) (says_bad 2 admission_alone _ (NotAdmitted h) h refl (sym (was_given _ _ _ (sym (ap test_as d) ∙ g)).1))

      pub held_passes : r ≡ Ok None → JudgeHeldIs t k (Ok tt)
      held_passes d = last (Ok tt) (says_good 2 admission_alone _ (sym (was_given _ _ _ (sym (ap test_as d) ∙ g)).1))

-- ---- the file: 8 before them
module _ (file : List ℕ) where
  why : (o : Option Refused) → (judging o file).refused ≡ o
  unfolding judging
  why none = refl
  why (some r) = refl

  handed_back : (q : Refusal) → refusal_of file ≡ some (refused_as q) → JudgeFileIs file (Err q)
  unfolding judging
  handed_back q e = ap (λ (x : Option Refused). judging x file) (sym e)

  module _ (r : Result MeterFile Refusal) (loaded : LoadIs file r) where
    fault : Option Refused
    fault = refusal (malformed (reading meter_kinds file).fault ∷ [])

    found : fault ≡ (judged_as r).refused
    unfolding fault
    found = sym (ap (λ (j : Judged). j.refused) loaded ∙ why fault)

    pub file_malformed : (q : Refusal) → r ≡ Err q → JudgeFileIs file (Err q)
    unfolding refusal_of fault
    file_malformed q d = handed_back q (refused-first (file_first _ _ _ _) (refused_as q) (found ∙ ap (λ (x : Result MeterFile Refusal). (judged_as x).refused) d))

    module _ (held : MeterFile) (good : r ≡ Ok held) (v : Result Unit Refusal) (judged : JudgeHeldIs held.table held.tasks v) where
      whole : judged_as (Ok held) ≡ judging none file
      unfolding fault
      whole = sym (ap judged_as good) ∙ loaded ∙ ap (λ (x : Option Refused). judging x file) (found ∙ ap (λ (x : Result MeterFile Refusal). (judged_as x).refused) good)

      against : verdict_as v ≡ refusal_of file
      unfolding refusal_of fault judging
      against =
          judged
          ∙ (λ i. tables (whole i).table (whole i).tasks)
          ∙ sym (refused_then (file_first _ _ _ _) (found ∙ ap (λ (x : Result MeterFile Refusal). (judged_as x).refused) good))
        where
          tables : Table → Tasks → Option Refused
          tables t k = refusal (tables_bad t k)

      pub file_refused : (q : Refusal) → v ≡ Err q → JudgeFileIs file (Err q)
      file_refused q d = handed_back q (sym against ∙ verdict_refused v q d)

      pub file_good : v ≡ Ok tt → JudgeFileIs file (Ok held)
      file_good d = whole ∙ ap (λ (x : Option Refused). judging x file) (sym (verdict_good v d) ∙ against)
