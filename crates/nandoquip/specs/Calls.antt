-- What each call with states by value promises of its answer r, and of lent memory: what the core's call says, in numbers.
use Rattle.std.specs.Prelude.{ℕ, ◌≡◌, List}
use Rattle.rules.specs.declared.Table.{Table}
use Rattle.rules.specs.declared.Tasks.{Tasks}
use Rattle.standing.specs.Promises.{admission_says, response_says, busy_test_says, standing_says}
use Rattle.candidates.specs.Promises.{candidates_say}
use Rattle.draw.specs.Promises.{weights_say, decide_says}
use Rattle.scheduler.specs.Promises.{Change, fresh_says}
use Rattle.scheduler.specs.declared.State.{State}
use Rattle.runs.specs.Promises.{Runs, run_says}
use Rattle.responses.specs.Promises.{task_response_says}
use Rattle.numbers.specs.Answers.{test_numbers, length_numbers, response_numbers, pick_numbers, change_numbers, list_numbers, weight_numbers}
use Rattle.numbers.specs.declared.Picked.{Picked}
use Rattle.numbers.specs.declared.Tested.{Tested}
use Rattle.numbers.specs.declared.Lasting.{Lasting}
use Rattle.numbers.specs.declared.Responded.{Responded}
use Rattle.numbers.specs.declared.After.{After}
use Rattle.numbers.specs.declared.ListNumbers.{ListNumbers}
use Rattle.numbers.specs.declared.WeightNumbers.{WeightNumbers}

-- ---- over a table alone
-- admission: refusal 1
abbrev pub AdmissionInNumbers : Table → Tested → Type 0
AdmissionInNumbers t r = r ≡ test_numbers (admission_says t)

-- R of partition h: refusal 1
abbrev pub PartitionResponseInNumbers : Table → ℕ → Lasting → Type 0
PartitionResponseInNumbers t h r = r ≡ length_numbers (response_says t h)

-- the response of task i: refusals 1 and 9
abbrev pub TaskResponseInNumbers : Table → Tasks → ℕ → Responded → Type 0
TaskResponseInNumbers t k i r = r ≡ response_numbers (task_response_says t k i)

-- ---- over a table and a state
-- what a run says of the state after it
abbrev pub ran_change : Runs → Change
ran_change r = record { after = r.after; refused = r.refused }

module _ (t : Table) (s : State) where
  -- fresh start: refusals 1 and 2
  abbrev pub FreshInNumbers : After → Type 0
  FreshInNumbers r = r ≡ change_numbers (fresh_says t s)

  -- the standing test: refusals 1 and 3
  abbrev pub StandingInNumbers : Tested → Type 0
  StandingInNumbers r = r ≡ test_numbers (standing_says t s.pairs.b s.pairs.o)

  -- the busy length of partition h with inversion w: refusals 1 and 3
  abbrev pub BusyLengthInNumbers : ℕ → ℕ → Lasting → Type 0
  BusyLengthInNumbers h w r = r ≡ length_numbers (busy_test_says t s.pairs.b s.pairs.o h w)

  -- the candidates: refusals 1 and 3
  abbrev pub CandidatesInNumbers : ListNumbers → Type 0
  CandidatesInNumbers r = r ≡ list_numbers (candidates_say t s.pairs)

  -- the weights beside them: refusals 1 and 3
  abbrev pub WeightsInNumbers : WeightNumbers → Type 0
  WeightsInNumbers r = r ≡ weight_numbers (weights_say t s.pairs)

  -- one decision, by the first of the words: refusals 1, 3 and 4
  abbrev pub DecideInNumbers : List ℕ → Picked → Type 0
  DecideInNumbers words r = r ≡ pick_numbers (decide_says t s.pairs words)

  -- a run over the words into the buffer, which is `last` after it: refusals 1, 3 and 7
  pub record RunInNumbers (words buffer : List ℕ) (r : After) (last : List ℕ) : Type 0 where
    pub answer : r ≡ change_numbers (ran_change (run_says t s words buffer))
    pub lent : last ≡ (run_says t s words buffer).buffer
