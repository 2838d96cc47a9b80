-- Any two results in numbers that a promise allows are equal: answer, state and lent memory. A theorem for each public function of numbers and nandoquip.
use Prim.Native.Nat.{ℕ}
use mathlib.Core.Path.{◌≡◌, sym, ◌∙◌, ap}
use mathlib.Core.List.{List}
use Rattle.std.specs.declared.option.Option.{Option as Found}
use Rattle.std.specs.declared.result.Result.{Result}
use Rattle.rules.specs.declared.Part.{Part}
use Rattle.rules.specs.declared.Refusal.{Refusal}
use Rattle.rules.specs.declared.Table.{Table}
use Rattle.rules.specs.declared.Tasks.{Tasks}
use Rattle.candidates.specs.declared.Listed.{Listed}
use Rattle.draw.specs.declared.Weighed.{Weighed}
use Rattle.scheduler.specs.declared.State.{State}
use Rattle.numbers.specs.Promises.{RefusalNumbersAre, VerdictNumbersAre, TestNumbersAre, LengthNumbersAre, ResponseNumbersAre, PickNumbersAre, ChangeNumbersAre, ListNumbersAre, WeightNumbersAre, ListBesideIs, WeightsBesideAre, TurnIs, TurnForIs, ReleasedIs}
use Rattle.numbers.specs.declared.RefusalNumbers.{RefusalNumbers}
use Rattle.numbers.specs.declared.Picked.{Picked}
use Rattle.numbers.specs.declared.Tested.{Tested}
use Rattle.numbers.specs.declared.Lasting.{Lasting}
use Rattle.numbers.specs.declared.Responded.{Responded}
use Rattle.numbers.specs.declared.After.{After}
use Rattle.numbers.specs.declared.ListNumbers.{ListNumbers}
use Rattle.numbers.specs.declared.WeightNumbers.{WeightNumbers}
use Rattle.numbers.specs.declared.Turned.{Turned}
use Rattle.nandoquip.specs.Hook.{TableOfIs, HookTickIs, HookTickForIs, HookReleaseIs}
use Rattle.nandoquip.specs.Calls.{FreshInNumbers, AdmissionInNumbers, PartitionResponseInNumbers, StandingInNumbers, BusyLengthInNumbers, CandidatesInNumbers, WeightsInNumbers, DecideInNumbers, RunInNumbers, TaskResponseInNumbers}

-- ---- numbers
pub refusal_numbers_one : (why : Refusal) (r s : RefusalNumbers) → RefusalNumbersAre why r → RefusalNumbersAre why s → r ≡ s
refusal_numbers_one why r s p q = p ∙ sym q

pub verdict_numbers_one : (verdict : Result Unit Refusal) (r s : RefusalNumbers) → VerdictNumbersAre verdict r → VerdictNumbersAre verdict s → r ≡ s
verdict_numbers_one verdict r s p q = p ∙ sym q

pub test_numbers_one : (test : Result (Found ℕ) Refusal) (r s : Tested) → TestNumbersAre test r → TestNumbersAre test s → r ≡ s
test_numbers_one test r s p q = p ∙ sym q

pub length_numbers_one : (length : Result (Found ℕ) Refusal) (r s : Lasting) → LengthNumbersAre length r → LengthNumbersAre length s → r ≡ s
length_numbers_one length r s p q = p ∙ sym q

pub response_numbers_one : (response : Result ℕ Refusal) (r s : Responded) → ResponseNumbersAre response r → ResponseNumbersAre response s → r ≡ s
response_numbers_one response r s p q = p ∙ sym q

pub pick_numbers_one : (decision : Result ℕ Refusal) (r s : Picked) → PickNumbersAre decision r → PickNumbersAre decision s → r ≡ s
pick_numbers_one decision r s p q = p ∙ sym q

pub change_numbers_one : (given : State) (changed : Result State Refusal) (r s : After) → ChangeNumbersAre given changed r → ChangeNumbersAre given changed s → r ≡ s
change_numbers_one given changed r s p q = p ∙ sym q

pub list_numbers_one : (listed : Result Listed Refusal) (r s : ListNumbers) → ListNumbersAre listed r → ListNumbersAre listed s → r ≡ s
list_numbers_one listed r s p q = p ∙ sym q

pub weight_numbers_one : (weighed : Result Weighed Refusal) (r s : WeightNumbers) → WeightNumbersAre weighed r → WeightNumbersAre weighed s → r ≡ s
weight_numbers_one weighed r s p q = p ∙ sym q

pub list_beside_one : (listed : Listed) (verdict : Result Unit Refusal) (r s : ListNumbers) → ListBesideIs listed verdict r → ListBesideIs listed verdict s → r ≡ s
list_beside_one listed verdict r s p q = p ∙ sym q

pub weights_beside_one : (weighed : Weighed) (verdict : Result Unit Refusal) (r s : WeightNumbers) → WeightsBesideAre weighed verdict r → WeightsBesideAre weighed verdict s → r ≡ s
weights_beside_one weighed verdict r s p q = p ∙ sym q

module _ (t : Table) (now : State) where
  pub turn_one : (word : ℕ) (r s : Turned) → TurnIs t now word r → TurnIs t now word s → r ≡ s
  turn_one word r s p q = p ∙ sym q

  pub turn_for_one : (pick : ℕ) (r s : After) → TurnForIs t now pick r → TurnForIs t now pick s → r ≡ s
  turn_for_one pick r s p q = p ∙ sym q

  pub released_one : (i : ℕ) (r s : After) → ReleasedIs t now i r → ReleasedIs t now i s → r ≡ s
  released_one i r s p q = p ∙ sym q

-- ---- nandoquip, by value
module _ (t : Table) where
  pub nandoquip_admission_one : (r s : Tested) → AdmissionInNumbers t r → AdmissionInNumbers t s → r ≡ s
  nandoquip_admission_one r s p q = p ∙ sym q

  pub nandoquip_partition_response_one : (h : ℕ) (r s : Lasting) → PartitionResponseInNumbers t h r → PartitionResponseInNumbers t h s → r ≡ s
  nandoquip_partition_response_one h r s p q = p ∙ sym q

  pub nandoquip_task_response-one : (k : Tasks) (i : ℕ) (r s : Responded) → TaskResponseInNumbers t k i r → TaskResponseInNumbers t k i s → r ≡ s
  nandoquip_task_response-one k i r s p q = p ∙ sym q

module _ (t : Table) (now : State) where
  pub nandoquip_fresh_one : (r s : After) → FreshInNumbers t now r → FreshInNumbers t now s → r ≡ s
  nandoquip_fresh_one r s p q = p ∙ sym q

  pub nandoquip_standing_one : (r s : Tested) → StandingInNumbers t now r → StandingInNumbers t now s → r ≡ s
  nandoquip_standing_one r s p q = p ∙ sym q

  pub nandoquip_busy_length-one : (h w : ℕ) (r s : Lasting) → BusyLengthInNumbers t now h w r → BusyLengthInNumbers t now h w s → r ≡ s
  nandoquip_busy_length-one h w r s p q = p ∙ sym q

  pub nandoquip_candidates-one : (r s : ListNumbers) → CandidatesInNumbers t now r → CandidatesInNumbers t now s → r ≡ s
  nandoquip_candidates-one r s p q = p ∙ sym q

  pub nandoquip_weights-one : (r s : WeightNumbers) → WeightsInNumbers t now r → WeightsInNumbers t now s → r ≡ s
  nandoquip_weights-one r s p q = p ∙ sym q

  pub nandoquip_decide_one : (words : List ℕ) (r s : Picked) → DecideInNumbers t now words r → DecideInNumbers t now words s → r ≡ s
  nandoquip_decide_one words r s p q = p ∙ sym q

  -- the answer with its state, and the buffer
  pub nandoquip_run-one : (words buffer : List ℕ) (r s : After) (x y : List ℕ) → RunInNumbers t now words buffer r x → RunInNumbers t now words buffer s y → (r ≡ s) × (x ≡ y)
  nandoquip_run-one words buffer r s x y p q = (p.answer ∙ sym q.answer, p.lent ∙ sym q.lent)

-- ---- the hook: the answer, and the state where it stands
module _ (parts : List Part) where
  pub nandoquip_table_of-one : (r s : Table) → TableOfIs parts r → TableOfIs parts s → r ≡ s
  nandoquip_table_of-one r s p q = p ∙ sym q

  module _ (before after last : State) where
    pub nandoquip_tick-one : (word : ℕ) (r s : Picked) → HookTickIs parts before word r after → HookTickIs parts before word s last → (r ≡ s) × (after ≡ last)
    nandoquip_tick-one word r s p q = (ap (λ (x : Turned). x.picked) (p ∙ sym q), ap (λ (x : Turned). x.state) (p ∙ sym q))

    pub nandoquip_tick_for_one : (pick : ℕ) (r s : RefusalNumbers) → HookTickForIs parts before pick r after → HookTickForIs parts before pick s last → (r ≡ s) × (after ≡ last)
    nandoquip_tick_for_one pick r s p q = (ap (λ (x : After). x.refusal) (p ∙ sym q), ap (λ (x : After). x.state) (p ∙ sym q))

    pub nandoquip_release-one : (index : ℕ) (r s : RefusalNumbers) → HookReleaseIs parts before index r after → HookReleaseIs parts before index s last → (r ≡ s) × (after ≡ last)
    nandoquip_release-one index r s p q = (ap (λ (x : After). x.refusal) (p ∙ sym q), ap (λ (x : After). x.state) (p ∙ sym q))
