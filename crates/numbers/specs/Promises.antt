-- What each public function of this crate promises of its answer r: what the call says, in numbers.
use Rattle.std.specs.Prelude.{ℕ, ◌≡◌}
use Rattle.std.proofs.Math.Option.{some}
use Rattle.std.specs.declared.option.Option.{Option as Found}
use Rattle.std.specs.declared.result.Result.{Result}
use Rattle.rules.specs.Refusals.{refused_as}
use Rattle.rules.specs.declared.Refusal.{Refusal}
use Rattle.rules.specs.declared.Table.{Table}
use Rattle.verdicts.specs.Verdicts.{verdict_as}
use Rattle.standing.specs.Answers.{test_as, length_as}
use Rattle.candidates.specs.Promises.{listed_as}
use Rattle.candidates.specs.declared.Listed.{Listed}
use Rattle.draw.specs.Promises.{weighed_as, decision_as}
use Rattle.draw.specs.declared.Weighed.{Weighed}
use Rattle.scheduler.specs.Promises.{changed_as, tick_says, release_says}
use Rattle.scheduler.specs.declared.State.{State}
use Rattle.runs.specs.Promises.{step_says}
use Rattle.responses.specs.Answers.{response_as}
use Rattle.numbers.specs.Answers.{refusal_numbers, test_numbers, length_numbers, response_numbers, pick_numbers, change_numbers, list_numbers, weight_numbers, turn_numbers}
use Rattle.numbers.specs.declared.RefusalNumbers.{RefusalNumbers}
use Rattle.numbers.specs.declared.Picked.{Picked}
use Rattle.numbers.specs.declared.Tested.{Tested}
use Rattle.numbers.specs.declared.Lasting.{Lasting}
use Rattle.numbers.specs.declared.Responded.{Responded}
use Rattle.numbers.specs.declared.After.{After}
use Rattle.numbers.specs.declared.ListNumbers.{ListNumbers}
use Rattle.numbers.specs.declared.WeightNumbers.{WeightNumbers}
use Rattle.numbers.specs.declared.Turned.{Turned}

-- ---- a refusal in numbers, and that of a verdict
abbrev pub RefusalNumbersAre : Refusal → RefusalNumbers → Type 0
RefusalNumbersAre why r = r ≡ refusal_numbers (some (refused_as why))

abbrev pub VerdictNumbersAre : Result Unit Refusal → RefusalNumbers → Type 0
VerdictNumbersAre verdict r = r ≡ refusal_numbers (verdict_as verdict)

-- ---- an answer in numbers
abbrev pub TestNumbersAre : Result (Found ℕ) Refusal → Tested → Type 0
TestNumbersAre test r = r ≡ test_numbers (test_as test)

abbrev pub LengthNumbersAre : Result (Found ℕ) Refusal → Lasting → Type 0
LengthNumbersAre length r = r ≡ length_numbers (length_as length)

abbrev pub ResponseNumbersAre : Result ℕ Refusal → Responded → Type 0
ResponseNumbersAre response r = r ≡ response_numbers (response_as response)

abbrev pub PickNumbersAre : Result ℕ Refusal → Picked → Type 0
PickNumbersAre decision r = r ≡ pick_numbers (decision_as decision)

abbrev pub ChangeNumbersAre : State → Result State Refusal → After → Type 0
ChangeNumbersAre given changed r = r ≡ change_numbers (changed_as given changed)

abbrev pub ListNumbersAre : Result Listed Refusal → ListNumbers → Type 0
ListNumbersAre listed r = r ≡ list_numbers (listed_as listed)

abbrev pub WeightNumbersAre : Result Weighed Refusal → WeightNumbers → Type 0
WeightNumbersAre weighed r = r ≡ weight_numbers (weighed_as weighed)

-- ---- a list, and a list with its weights, beside any verdict: what they hold is told as it is
abbrev pub ListBesideIs : Listed → Result Unit Refusal → ListNumbers → Type 0
ListBesideIs listed verdict r = r ≡ list_numbers (record { list = listed.list; length = listed.length; refused = verdict_as verdict })

abbrev pub WeightsBesideAre : Weighed → Result Unit Refusal → WeightNumbers → Type 0
WeightsBesideAre weighed verdict r =
    r ≡ weight_numbers (record { list = weighed.list; weights = weighed.weights; length = weighed.length; refused = verdict_as verdict })

-- ---- a call whose answer is in numbers
-- one decision and its tick
abbrev pub TurnIs : Table → State → ℕ → Turned → Type 0
TurnIs t s word r = r ≡ turn_numbers (step_says t s word)

-- a tick for a given pick
abbrev pub TurnForIs : Table → State → ℕ → After → Type 0
TurnForIs t s pick r = r ≡ change_numbers (tick_says t s pick)

-- a release
abbrev pub ReleasedIs : Table → State → ℕ → After → Type 0
ReleasedIs t s i r = r ≡ change_numbers (release_says t s i)
