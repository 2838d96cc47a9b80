-- From the verdicts, the pick and the tick to what a step and a run promise.
use Prim.Native.Nat.{ℕ, ◌≤◌, ◌<◌}
use mathlib.Core.Path.{◌≡◌, sym, ◌∙◌, ap}
use mathlib.Core.Bool.{Bool}
use mathlib.Core.List.{List}
use mathlib.Core.Option.{Option, some, none}
use borrow.Author.Tests.{le-leb, lt-leb}
use lib.ListN.{length}
use Rattle.std.specs.declared.result.Result.{Result}
use Rattle.std.specs.declared.result.Result.TheVariants.{Ok, Err}
use Rattle.basis.specs.Words.{onto, unless}
use Rattle.rules.specs.declared.Pairs.{Pairs}
use Rattle.rules.specs.Run.{Ran}
use Rattle.rules.specs.Refusals.{Refused, refused_as, Ground, refusal}
use Rattle.rules.specs.declared.Refusal.{Refusal}
use Rattle.rules.specs.declared.Refusal.TheVariants.{ShortBuffer}
use Rattle.rules.specs.declared.Table.{Table}
use Rattle.verdicts.specs.Outcome.{gives}
use Rattle.laws.proofs.Refusals.{seven, late_last}
use Rattle.verdicts.proofs.Verdicts.{verdict_refused, verdict_good, refused_early}
use Rattle.verdicts.proofs.Outcomes.{late_decides}
use Rattle.pairs.proofs.Good.{few_of_state}
use Rattle.draw.proofs.Calls.{chosen}
use Rattle.scheduler.specs.States.{pairs, state_of, tick_of}
use Rattle.scheduler.specs.Promises.{JudgedIs}
use Rattle.scheduler.specs.declared.State.{State}
use Rattle.runs.specs.Promises.{Step, stepped_as, stepped, ran_as, runs, StepIs, RunIs, DrawnIs, Filled}

-- ---- a step or a run that is refused, and one that is made
module _ (gs : List Ground) (s : State) (after : Pairs) (pick : ℕ) where
  no_step : (q : Refusal) → refusal gs ≡ some (refused_as q) → stepped_as s (Err q) ≡ stepped (refusal gs) (pairs s) after pick
  unfolding stepped
  no_step q e = sym (ap (λ (x : Option Refused). stepped x (pairs s) after pick) e)

  a_step : refusal gs ≡ none → ◌≡◌ {A = Step} (record { after = after; says = gives pick }) (stepped (refusal gs) (pairs s) after pick)
  unfolding stepped
  a_step e = sym (ap (λ (x : Option Refused). stepped x (pairs s) after pick) e)

module _ (gs : List Ground) (s : State) (buffer : List ℕ) (ran : Ran) where
  no_run : (q : Refusal) → refusal gs ≡ some (refused_as q) → ran_as s (Err q) buffer ≡ runs (refusal gs) (pairs s) buffer ran
  unfolding runs
  no_run q e = sym (ap (λ (x : Option Refused). runs x (pairs s) buffer ran) e)

  a_run : (f : State) (last : List ℕ) → refusal gs ≡ none → pairs f ≡ ran.after → last ≡ onto ran.picks buffer → ran_as s (Ok f) last ≡ runs (refusal gs) (pairs s) buffer ran
  unfolding runs
  a_run f last e d g = (λ i. record { after = d i; refused = none; buffer = g i }) ∙ sym (ap (λ (x : Option Refused). runs x (pairs s) buffer ran) e)

-- ---- the calls
module _ (t : Table) (s : State) (v : Result Unit Refusal) (judged : JudgedIs t s v) where
  pub step_refused : (word : ℕ) (q : Refusal) → v ≡ Err q → StepIs t s word (Err q)
  step_refused word q d = no_step _ s _ _ q (sym judged ∙ verdict_refused v q d)

  pub run-refused : (words buffer : List ℕ) (q : Refusal) → v ≡ Err q → RunIs t s words buffer (Err q) buffer
  run-refused words buffer q d = no_run _ s buffer _ q (refused_early (late_last _ _ _ seven) v judged q d)

  module _ (good : v ≡ Ok tt) where
    pub step_made : (word pick : ℕ) (p : Pairs) → DrawnIs t (pairs s) word pick p → StepIs t s word (Ok (record { state = state_of p; pick = pick }))
    step_made word pick p drawn =
        ap (λ (q : Pairs). record { after = q; says = gives pick }) drawn.passed
        ∙ ap (λ r. record { after = tick_of t s r; says = gives r }) (chosen t.count t.period t.budget s.pairs.b s.pairs.o word pick (few_of_state _ _ _ _ _ _ v judged good) drawn.choice)
        ∙ a_step _ s _ _ (sym judged ∙ verdict_good v good)

    pub run_short : (words buffer : List ℕ) → length buffer < length words → RunIs t s words buffer (Err (ShortBuffer (length words))) buffer
    run_short words buffer l =
        no_run _ s buffer _ (ShortBuffer (length words))
        (late_decides _ _ _ seven v judged good (some (length words)) (ap (λ (a : Bool). unless a (length words)) (lt-leb (length words) (length buffer) l)))

    pub run_fits : t.count ≤ 16
    run_fits = few_of_state _ _ _ _ _ _ v judged good

    pub run-made : (words buffer : List ℕ) (f : State) (last : List ℕ) → length words ≤ length buffer → Filled t s words buffer f last → RunIs t s words buffer (Ok f) last
    run-made words buffer f last l filled =
        a_run _ s buffer _ f last
        (late_decides _ _ _ seven v judged good none (ap (λ (a : Bool). unless a (length words)) (le-leb (length words) (length buffer) l)))
        filled.after filled.picks

-- what each call's proof uses
pub ruleset step_calls = (step_refused, step_made)

pub ruleset run_calls = (run-refused, run_short, run_fits, run-made)
