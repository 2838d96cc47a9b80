-- Any two results that a promise allows are equal: answer, state and lent memory. A theorem for each public function, over the promise that its `ensures` cites.
use Prim.Native.Nat.{ℕ}
use mathlib.Core.Path.{◌≡◌, sym, ◌∙◌, ap}
use mathlib.Core.Bool.{Bool}
use mathlib.Core.List.{List}
use Rattle.std.specs.declared.option.Option.{Option as Found}
use Rattle.std.specs.declared.result.Result.{Result}
use Rattle.rules.specs.declared.Pairs.{Pairs}
use Rattle.rules.specs.declared.Refusal.{Refusal}
use Rattle.rules.specs.declared.Table.{Table}
use Rattle.rules.specs.declared.Tasks.{Tasks}
use Rattle.laws.proofs.Refusals.{refused_injective}
use Rattle.verdicts.specs.Promises.{NumbersAre}
use Rattle.verdicts.specs.declared.Numbered.{Numbered}
use Rattle.ranges.specs.Promises.{JudgeTableIs, JudgeIndexIs}
use Rattle.pairs.specs.Promises.{PairedIs, JudgeStateIs, JudgeIs}
use Rattle.tasks.specs.Promises.{JudgeTasksIs, JudgeTaskIs}
use Rattle.busy.specs.Promises.{Found as Searched, BusyLengthIs, PassesIs, SearchIs}
use Rattle.standing.specs.Promises.{AdmissionIs, ResponseIs, BusyTestIs, StandingIs}
use Rattle.candidates.specs.Promises.{MemberIs, CandidatesIs}
use Rattle.candidates.specs.declared.Listed.{Listed}
use Rattle.draw.specs.Promises.{ChooseIs, WeightsAre, DecideIs}
use Rattle.draw.specs.declared.Weighed.{Weighed}
use Rattle.ticks.specs.Promises.{PassTickIs}
use Rattle.scheduler.specs.Promises.{FreshIs, JudgedIs, TickIs, ReleaseIs}
use Rattle.scheduler.specs.declared.State.{State}
use Rattle.runs.specs.Promises.{StepIs, RunIs}
use Rattle.runs.specs.declared.Stepped.{Stepped}
use Rattle.responses.specs.Promises.{TaskResponseIs}
use Rattle.little_endian.specs.Promises.{TwoIs, FourIs}
use Rattle.meter.specs.Forms.{number_of, KindIs}
use Rattle.meter.specs.Promises.{ReadRecordIs, PayloadIs, WhyRefusedIs}
use Rattle.meter.specs.declared.Kind.{Kind}
use Rattle.meter.specs.declared.NoKind.{NoKind}
use Rattle.meter.specs.declared.Record.{Record}
use Rattle.meter.proofs.Records.{kind_one}
use Rattle.whole_file.specs.Promises.{JudgeFileIs}
use Rattle.whole_file.specs.declared.MeterFile.{MeterFile}
use Rattle.lines.specs.Promises.{Writing, LineLengthIs, WriteLineIs, Printing as Putting, PutLineIs}
use Rattle.lines.specs.declared.Line.{Line}
use Rattle.lines.specs.declared.Made.{Made}
use Rattle.replay.specs.Promises.{ReplayIs}
use Rattle.replay.specs.declared.Replayed.{Replayed}
use Rattle.schedule_lines.specs.Promises.{ScheduleLineIs}
use Rattle.schedule_lines.specs.declared.Cursor.{Cursor}
use Rattle.schedule_lines.specs.declared.Printed.{Printed}
use Rattle.response_lines.specs.Promises.{ResponseLineIs}
use Rattle.response_lines.specs.declared.Cursor.{Cursor as RowCursor}
use Rattle.refusal_printing.specs.Promises.{PrintRefusalIs}
use Rattle.schedule_printing.specs.Promises.{PrintScheduleIs}
use Rattle.response_printing.specs.Promises.{PrintResponseIs}
use Rattle.answers.proofs.Injective.{option_injective, same_injective, optional_injective, verdict_injective, listed_injective, weighed_injective, changed_injective, stepped_injective, ran_injective, record_injective, made_injective, judged_injective, replayed_injective, printed_injective}

-- ---- the theorems, crate by crate
pub numbers_one : (why : Refusal) (r s : Numbered) → NumbersAre why r → NumbersAre why s → r ≡ s
numbers_one why r s p q = λ i. record { number = (p.0 ∙ sym q.0) i; second = (p.1 ∙ sym q.1) i }

pub paired-one : (n : ℕ) (o : List ℕ) (r s : ℕ) → PairedIs n o r → PairedIs n o s → r ≡ s
paired-one n o r s p q = p ∙ sym q

module _ (t : Table) (now : Pairs) where
  pub judge_table-one : (r s : Result Unit Refusal) → JudgeTableIs t r → JudgeTableIs t s → r ≡ s
  judge_table-one r s p q = verdict_injective r s (p ∙ sym q)

  pub judge_index_one : (h : ℕ) (r s : Result Unit Refusal) → JudgeIndexIs t h r → JudgeIndexIs t h s → r ≡ s
  judge_index_one h r s p q = verdict_injective r s (p ∙ sym q)

  pub judge_state-one : (r s : Result Unit Refusal) → JudgeStateIs t now r → JudgeStateIs t now s → r ≡ s
  judge_state-one r s p q = verdict_injective r s (p ∙ sym q)

  pub judge_one : (r s : Result Unit Refusal) → JudgeIs t now r → JudgeIs t now s → r ≡ s
  judge_one r s p q = verdict_injective r s (p ∙ sym q)

  pub busy_length-one : (h w : ℕ) (r s : Found ℕ) → BusyLengthIs t now h w r → BusyLengthIs t now h w s → r ≡ s
  busy_length-one h w r s p q = option_injective r s (p ∙ sym q)

  pub passes-one : (h w : ℕ) (r s : Bool) → PassesIs t now h w r → PassesIs t now h w s → r ≡ s
  passes-one h w r s p q = p ∙ sym q

  pub search_one : (r s : Searched) → SearchIs t now r → SearchIs t now s → r ≡ s
  search_one r s p q = λ i. record { list = (p.list ∙ sym q.list) i; length = (p.length ∙ sym q.length) i }

  pub member_one : (pick : ℕ) (r s : Bool) → MemberIs t now pick r → MemberIs t now pick s → r ≡ s
  member_one pick r s p q = p ∙ sym q

  pub choose_one : (word r s : ℕ) → ChooseIs t now word r → ChooseIs t now word s → r ≡ s
  choose_one word r s p q = p ∙ sym q

  -- the lent pairs: each budget, and each o
  pub pass_tick-one : (pick : ℕ) (r s : Pairs) → PassTickIs t now pick r → PassTickIs t now pick s → r ≡ s
  pass_tick-one pick r s p q = p ∙ sym q

module _ (n : ℕ) (k : Tasks) where
  pub judge_tasks_one : (r s : Result Unit Refusal) → JudgeTasksIs n k r → JudgeTasksIs n k s → r ≡ s
  judge_tasks_one r s p q = verdict_injective r s (p ∙ sym q)

  pub judge_task-one : (i : ℕ) (r s : Result Unit Refusal) → JudgeTaskIs n k i r → JudgeTaskIs n k i s → r ≡ s
  judge_task-one i r s p q = verdict_injective r s (p ∙ sym q)

module _ (t : Table) (now : Pairs) where
  pub admission_one : (r s : Result (Found ℕ) Refusal) → AdmissionIs t r → AdmissionIs t s → r ≡ s
  admission_one r s p q = optional_injective r s (p ∙ sym q)

  pub response_one : (h : ℕ) (r s : Result (Found ℕ) Refusal) → ResponseIs t h r → ResponseIs t h s → r ≡ s
  response_one h r s p q = optional_injective r s (p ∙ sym q)

  pub busy_test-one : (h w : ℕ) (r s : Result (Found ℕ) Refusal) → BusyTestIs t now h w r → BusyTestIs t now h w s → r ≡ s
  busy_test-one h w r s p q = optional_injective r s (p ∙ sym q)

  pub standing_one : (r s : Result (Found ℕ) Refusal) → StandingIs t now r → StandingIs t now s → r ≡ s
  standing_one r s p q = optional_injective r s (p ∙ sym q)

  pub candidates-one : (r s : Result Listed Refusal) → CandidatesIs t now r → CandidatesIs t now s → r ≡ s
  candidates-one r s p q = listed_injective r s (p ∙ sym q)

  pub weights-one : (r s : Result Weighed Refusal) → WeightsAre t now r → WeightsAre t now s → r ≡ s
  weights-one r s p q = weighed_injective r s (p ∙ sym q)

  pub decide_one : (words : List ℕ) (r s : Result ℕ Refusal) → DecideIs t now words r → DecideIs t now words s → r ≡ s
  decide_one words r s p q = same_injective r s (p ∙ sym q)

module _ (t : Table) (now : State) where
  pub fresh_one : (r s : Result State Refusal) → FreshIs t now r → FreshIs t now s → r ≡ s
  fresh_one r s p q = changed_injective now r s (p ∙ sym q)

  pub judged_one : (r s : Result Unit Refusal) → JudgedIs t now r → JudgedIs t now s → r ≡ s
  judged_one r s p q = verdict_injective r s (p ∙ sym q)

  pub tick-one : (pick : ℕ) (r s : Result State Refusal) → TickIs t now pick r → TickIs t now pick s → r ≡ s
  tick-one pick r s p q = changed_injective now r s (p ∙ sym q)

  pub release-one : (i : ℕ) (r s : Result State Refusal) → ReleaseIs t now i r → ReleaseIs t now i s → r ≡ s
  release-one i r s p q = changed_injective now r s (p ∙ sym q)

  pub step_one : (word : ℕ) (r s : Result Stepped Refusal) → StepIs t now word r → StepIs t now word s → r ≡ s
  step_one word r s p q = stepped_injective now r s (p ∙ sym q)

  -- the state and the verdict, and the buffer
  pub run-one : (words buffer : List ℕ) (r s : Result State Refusal) (x y : List ℕ) → RunIs t now words buffer r x → RunIs t now words buffer s y → (r ≡ s) × (x ≡ y)
  run-one words buffer r s x y p q = ran_injective now r s x y (p ∙ sym q)

pub task_response_one : (t : Table) (k : Tasks) (i : ℕ) (r s : Result ℕ Refusal) → TaskResponseIs t k i r → TaskResponseIs t k i s → r ≡ s
task_response_one t k i r s p q = same_injective r s (p ∙ sym q)

pub two_one : (part : List ℕ) (at r s : ℕ) → TwoIs part at r → TwoIs part at s → r ≡ s
two_one part at r s p q = p ∙ sym q

pub four_one : (part : List ℕ) (at r s : ℕ) → FourIs part at r → FourIs part at s → r ≡ s
four_one part at r s p q = p ∙ sym q

-- the kind that has a number, and the number of a kind
pub kind_of_number_one : (number : ℕ) (r s : Result Kind NoKind) → KindIs number r → KindIs number s → r ≡ s
kind_of_number_one = kind_one

pub number_of_kind_one : (kind : Kind) (r s : ℕ) → r ≡ number_of kind → s ≡ number_of kind → r ≡ s
number_of_kind_one kind r s p q = p ∙ sym q

module _ (kinds : List ℕ) (before : ℕ) (file : List ℕ) (at : ℕ) where
  pub read_record_one : (r s : Result Record Refusal) → ReadRecordIs kinds before file at r → ReadRecordIs kinds before file at s → r ≡ s
  read_record_one r s p q = record_injective r s (p ∙ sym q)

  -- the bytes of the part that is handed back
  pub payload-one : (r s : List ℕ) → PayloadIs kinds before file at r → PayloadIs kinds before file at s → r ≡ s
  payload-one r s p q = p ∙ sym q

pub why_refused_one : (answer : Result ℕ Refusal) (r s : Refusal) → WhyRefusedIs answer r → WhyRefusedIs answer s → r ≡ s
why_refused_one answer r s p q = refused_injective r s (p ∙ sym q)

pub judge_file_one : (file : List ℕ) (r s : Result MeterFile Refusal) → JudgeFileIs file r → JudgeFileIs file s → r ≡ s
judge_file_one file r s p q = judged_injective r s (p ∙ sym q)

pub line-length-one : (l : Line) (r s : ℕ) → LineLengthIs l r → LineLengthIs l s → r ≡ s
line-length-one l r s p q = p ∙ sym q

-- the answer, and the buffer
pub write_line_one : (l : Line) (buffer : List ℕ) (r s : Result ℕ Refusal) (x y : List ℕ) → WriteLineIs l buffer r x → WriteLineIs l buffer s y → (r ≡ s) × (x ≡ y)
write_line_one l buffer r s x y p q = (same_injective r s (ap (λ (z : Writing). z.says) (p ∙ sym q)), ap (λ (z : Writing). z.buffer) (p ∙ sym q))

-- the line and what comes next, and the buffer
pub put_line_one : {C : Type 0} (l : Line) (next : Found C) (buffer : List ℕ) (r s : Result (Made C) Refusal) (x y : List ℕ)
    → PutLineIs l next buffer r x → PutLineIs l next buffer s y → (r ≡ s) × (x ≡ y)
put_line_one {C} l next buffer r s x y p q = (made_injective r s (ap (λ (z : Putting C). z.says) (p ∙ sym q)), ap (λ (z : Putting C). z.buffer) (p ∙ sym q))

module _ (t : Table) (now : State) (file : List ℕ) where
  -- the state, what happened, and the next offset
  pub replay_one : (at : ℕ) (r s : Result Replayed Refusal) → ReplayIs t now file at r → ReplayIs t now file at s → r ≡ s
  replay_one at r s p q = replayed_injective now at r s (p ∙ sym q)

  -- the state and what was made, and the buffer
  pub schedule_line-one : (c : Cursor) (buffer : List ℕ) (r s : Result Printed Refusal) (x y : List ℕ) → ScheduleLineIs t now file c buffer r x → ScheduleLineIs t now file c buffer s y → (r ≡ s) × (x ≡ y)
  schedule_line-one c buffer r s x y p q = printed_injective now r s x y (p ∙ sym q)

-- the row and what comes next, and the buffer
pub response_line_one : (t : Table) (k : Tasks) (c : RowCursor) (buffer : List ℕ) (r s : Result (Made RowCursor) Refusal) (x y : List ℕ)
    → ResponseLineIs t k c buffer r x → ResponseLineIs t k c buffer s y → (r ≡ s) × (x ≡ y)
response_line_one t k c buffer r s x y p q =
    (made_injective r s (ap (λ (z : Putting RowCursor). z.says) (p ∙ sym q)), ap (λ (z : Putting RowCursor). z.buffer) (p ∙ sym q))

pub print_refusal_one : (why : Refusal) (r s : ℕ) → PrintRefusalIs why r → PrintRefusalIs why s → r ≡ s
print_refusal_one why r s p q = p ∙ sym q

pub print_schedule_one : (file : List ℕ) (r s : ℕ) → PrintScheduleIs file r → PrintScheduleIs file s → r ≡ s
print_schedule_one file r s p q = p ∙ sym q

pub print_response_one : (file : List ℕ) (r s : ℕ) → PrintResponseIs file r → PrintResponseIs file s → r ≡ s
print_response_one file r s p q = p ∙ sym q
