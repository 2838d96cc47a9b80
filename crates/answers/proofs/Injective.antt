-- No two results of the code are read as the same.
use Prim.Native.Nat.{ℕ}
use mathlib.Core.Path.{◌≡◌, refl, sym, ◌∙◌, ap}
use mathlib.Core.List.{List}
use mathlib.Core.Option.{Option, some, none}
use Rattle.std.specs.declared.option.Option.{Option as Found}
use Rattle.std.specs.declared.option.Option.TheVariants.{Some, None}
use Rattle.std.specs.declared.result.Result.{Result}
use Rattle.std.specs.declared.result.Result.TheVariants.{Ok, Err}
use Rattle.basis.specs.Options.{option_as}
use Rattle.rules.specs.declared.Refusal.{Refusal}
use Rattle.laws.proofs.Tests.{none_is_some, some_is_none}
use Rattle.laws.proofs.Refusals.{refused_injective}
use Rattle.rules.specs.Refusals.{Refused, refused_as}
use Rattle.verdicts.specs.Outcome.{Outcome, gives, refused, outcome_as}
use Rattle.verdicts.specs.Verdicts.{verdict_as}
use Rattle.verdicts.proofs.Outcomes.{given_as}
use Rattle.meter.specs.Forms.{Found as Read, found_as, read_as}
use Rattle.meter.specs.declared.Record.{Record}
use Rattle.meter.proofs.Records.{number_injective}
use Rattle.whole_file.specs.Promises.{Judged, judged_as}
use Rattle.whole_file.specs.declared.MeterFile.{MeterFile}
use Rattle.replay.specs.Promises.{event_as, Replaying, replayed_as}
use Rattle.replay.specs.declared.Event.{Event}
use Rattle.replay.specs.declared.Event.TheVariants as event
use Rattle.replay.specs.declared.Replayed.{Replayed}
use Rattle.schedule_lines.specs.Promises.{Printing, printed_as}
use Rattle.schedule_lines.specs.declared.Printed.{Printed}
use Rattle.lines.specs.Lines.{OneLine, made_as}
use Rattle.lines.specs.declared.Made.{Made}
use Rattle.candidates.specs.Promises.{Listing, listed_as}
use Rattle.candidates.specs.declared.Listed.{Listed}
use Rattle.draw.specs.Promises.{Weighing, weighed_as}
use Rattle.draw.specs.declared.Weighed.{Weighed}
use Rattle.scheduler.specs.Promises.{Change, changed_as}
use Rattle.scheduler.specs.declared.State.{State}
use Rattle.runs.specs.Promises.{Step, stepped_as, Runs, ran_as}
use Rattle.runs.specs.declared.Stepped.{Stepped}

-- ---- an Option, and a Result
taken : {A : Type 0} {x y : A} → some x ≡ some y → x ≡ y
taken e = cc

pub option_injective : {A : Type 0} (r s : Found A) → option_as r ≡ option_as s → r ≡ s
option_injective (Some x) (Some y) e = ap Some (taken e)
option_injective (Some x) None e = some_is_none e
option_injective None (Some y) e = none_is_some e
option_injective None None e = refl

-- what a definition reads of a Result is one Result, where it reads its refusal as it is and its answer as one answer
module _ {A V : Type 0} (view : Result A Refusal → V) (why : V → Option Refused)
    (made : (x : A) → why (view (Ok x)) ≡ none) (kept : (p : Refusal) → why (view (Err p)) ≡ some (refused_as p))
    (one : (x y : A) → view (Ok x) ≡ view (Ok y) → x ≡ y) where
  pub result_injective : (r s : Result A Refusal) → view r ≡ view s → r ≡ s
  result_injective (Ok x) (Ok y) e = ap Ok (one x y e)
  result_injective (Ok x) (Err q) e = none_is_some (sym (made x) ∙ ap why e ∙ kept q)
  result_injective (Err p) (Ok y) e = some_is_none (sym (kept p) ∙ ap why e ∙ made y)
  result_injective (Err p) (Err q) e = ap Err (refused_injective p q (taken (sym (kept p) ∙ ap why e ∙ kept q)))

-- and so it is beside lent memory
module _ {A V W : Type 0} (view : Result A Refusal → W → V) (lent : V → W) (stays : (r : Result A Refusal) (w : W) → lent (view r w) ≡ w)
    (one : (w : W) (r s : Result A Refusal) → view r w ≡ view s w → r ≡ s) where
  pub lent_injective : (r s : Result A Refusal) (w z : W) → view r w ≡ view s z → (r ≡ s) × (w ≡ z)
  lent_injective r s w z e =
      let same : w ≡ z = sym (stays r w) ∙ ap lent e ∙ stays s z in
      (one w r s (e ∙ ap (view s) (sym same)), same)

-- why, of what a call says
abbrev why_refused : {A : Type 0} → Outcome A → Option Refused
why_refused (gives x) = none
why_refused (refused r) = some r

pub outcome_injective : {A B : Type 0} (f : A → B) → ((x y : A) → f x ≡ f y → x ≡ y) → (r s : Result A Refusal) → outcome_as f r ≡ outcome_as f s → r ≡ s
outcome_injective f one = result_injective (outcome_as f) why_refused (λ x. refl) (λ p. refl) (λ x y e. one x y (given_as e))

-- an answer that the definitions have as it is
pub same_injective : {A : Type 0} (r s : Result A Refusal) → outcome_as (λ (x : A). x) r ≡ outcome_as (λ (x : A). x) s → r ≡ s
same_injective = outcome_injective (λ x. x) (λ x y e. e)

-- an Option in a Result
pub optional_injective : {A : Type 0} (r s : Result (Found A) Refusal) → outcome_as option_as r ≡ outcome_as option_as s → r ≡ s
optional_injective = outcome_injective option_as option_injective

pub verdict_injective : (r s : Result Unit Refusal) → verdict_as r ≡ verdict_as s → r ≡ s
unfolding verdict_as
verdict_injective = result_injective verdict_as (λ w. w) (λ x. refl) (λ p. refl) (λ x y e. refl)

pub listed_injective : (r s : Result Listed Refusal) → listed_as r ≡ listed_as s → r ≡ s
listed_injective = result_injective listed_as (λ (z : Listing). z.refused) (λ x. refl) (λ p. refl) (λ x y e. λ i. record { list = (e i).list; length = (e i).length })

pub weighed_injective : (r s : Result Weighed Refusal) → weighed_as r ≡ weighed_as s → r ≡ s
weighed_injective = result_injective weighed_as (λ (z : Weighing). z.refused) (λ x. refl) (λ p. refl)
    (λ x y e. λ i. record { list = (e i).list; weights = (e i).weights; length = (e i).length })

-- beside the state that was given
module _ (given : State) where
  pub changed_injective : (r s : Result State Refusal) → changed_as given r ≡ changed_as given s → r ≡ s
  changed_injective = result_injective (changed_as given) (λ (z : Change). z.refused) (λ x. refl) (λ p. refl) (λ x y e. λ i. record { pairs = (e i).after })

  pub stepped_injective : (r s : Result Stepped Refusal) → stepped_as given r ≡ stepped_as given s → r ≡ s
  stepped_injective = result_injective (stepped_as given) (λ (z : Step). why_refused z.says) (λ x. refl) (λ p. refl)
      (λ x y e. let pick : x.pick ≡ y.pick = given_as (ap (λ (z : Step). z.says) e) in λ i. record { state = record { pairs = (e i).after }; pick = pick i })

  pub ran_injective : (r s : Result State Refusal) (x y : List ℕ) → ran_as given r x ≡ ran_as given s y → (r ≡ s) × (x ≡ y)
  ran_injective = lent_injective (ran_as given) (λ (z : Runs). z.buffer) stays
      (λ w. result_injective (λ r. ran_as given r w) (λ (z : Runs). z.refused) (λ x. refl) (λ p. refl) (λ x y e. λ i. record { pairs = (e i).after }))
    where
      stays : (r : Result State Refusal) (w : List ℕ) → (ran_as given r w).buffer ≡ w
      stays (Ok x) w = refl
      stays (Err p) w = refl

-- ---- files
pub record_injective : (r s : Result Record Refusal) → read_as r ≡ read_as s → r ≡ s
record_injective = outcome_injective found_as (λ x y e. let kind : x.kind ≡ y.kind = number_injective x.kind y.kind (ap (λ (z : Read). z.kind) e) in λ i. record { kind = kind i; next = (e i).next })

pub judged_injective : (r s : Result MeterFile Refusal) → judged_as r ≡ judged_as s → r ≡ s
judged_injective = result_injective judged_as (λ (z : Judged). z.refused) (λ x. refl) (λ p. refl)
    (λ x y e. λ i. record { table = (e i).table; tasks = (e i).tasks; events = (e i).events })

pub event_injective : (x y : Event) → event_as x ≡ event_as y → x ≡ y
event_injective (event.Ticked x) (event.Ticked y) e = cc
event_injective (event.Ticked x) (event.Released y) e = cc
event_injective (event.Released x) (event.Ticked y) e = cc
event_injective (event.Released x) (event.Released y) e = cc

pub replayed_injective : (given : State) (at : ℕ) (r s : Result Replayed Refusal) → replayed_as given at r ≡ replayed_as given at s → r ≡ s
replayed_injective given at = result_injective (replayed_as given at) (λ (z : Replaying). why_refused z.says) (λ x. refl) (λ p. refl)
    (λ x y e. let happened : x.event ≡ y.event = event_injective x.event y.event (given_as (ap (λ (z : Replaying). z.says) e)) in
    λ i. record { state = record { pairs = (e i).after }; event = happened i; next = (e i).next })

-- ---- lines
made_one : {C : Type 0} (x y : Made C) → made_as (Ok x) ≡ made_as (Ok y) → x ≡ y
made_one {C} x y e = ap (λ (z : OneLine C). record { length = z.length; next = z.next }) (given_as e)

pub made_injective : {C : Type 0} (r s : Result (Made C) Refusal) → made_as r ≡ made_as s → r ≡ s
made_injective {C} = result_injective (made_as {C = C}) why_refused (λ x. refl) (λ p. refl) made_one

pub printed_injective : (given : State) (r s : Result Printed Refusal) (x y : List ℕ) → printed_as given r x ≡ printed_as given s y → (r ≡ s) × (x ≡ y)
printed_injective given = lent_injective (printed_as given) (λ (z : Printing). z.buffer) stays
    (λ w. result_injective (λ r. printed_as given r w) (λ (z : Printing). why_refused z.says) (λ x. refl) (λ p. refl)
    (λ x y e. let made : x.made ≡ y.made = made_one x.made y.made (ap (λ (z : Printing). z.says) e) in λ i. record { state = record { pairs = (e i).after }; made = made i }))
  where
    stays : (r : Result Printed Refusal) (w : List ℕ) → (printed_as given r w).buffer ≡ w
    stays (Ok x) w = refl
    stays (Err p) w = refl
