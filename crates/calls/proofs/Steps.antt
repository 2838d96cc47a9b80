-- A step is a decision and then its tick: what `step` gives is what `decide` over its one word and `tick` for that pick give.
use Prim.Native.Nat.{ℕ}
use mathlib.Core.Path.{◌≡◌, refl, sym, ◌∙◌, ap}
use mathlib.Core.Bool.{Bool}
use mathlib.Core.List.{[], ◌∷◌}
use mathlib.Core.Option.{Option, some, none}
use lib.ListN.{length}
use Rattle.std.specs.declared.result.Result.{Result}
use Rattle.std.specs.declared.result.Result.TheVariants.{Ok, Err}
use Rattle.rules.specs.Records.{table_bad}
use Rattle.scheduler.specs.States.{state_bad, decision_of, tick_of, unlisted}
use Rattle.basis.specs.Words.{has, unless}
use Rattle.rules.specs.Numbers.{TableInRange, StateInRange}
use Rattle.rules.specs.declared.Pairs.{Pairs}
use Rattle.rules.specs.Refusals.{Refused, ground, refusal}
use Rattle.rules.specs.declared.Refusal.{Refusal}
use Rattle.rules.specs.declared.Table.{Table}
use Rattle.laws.proofs.Tests.{some_is_none}
use Rattle.laws.proofs.Refusals.{no_ground, Late, four, late_last, late_alone, refused-first, refused_then}
use Rattle.laws.proofs.Pick.{decision-allowed}
use Rattle.verdicts.specs.Outcome.{unless_refused}
use Rattle.verdicts.proofs.Outcomes.{never_both}
use Rattle.draw.specs.Promises.{decision_as, DecideIs}
use Rattle.scheduler.specs.Promises.{TickIs}
use Rattle.runs.specs.Promises.{Step, stepped_as, stepped, StepIs}
use Rattle.scheduler.specs.declared.State.{State}
use Rattle.runs.specs.declared.Stepped.{Stepped}
use Rattle.answers.proofs.Injective.{same_injective}
use Rattle.calls.proofs.Each.{change_not_refused}

-- a third ground that does not apply changes nothing
no_third : (x y : Option ℕ) {k : ℕ} → Late k → refusal (ground 1 x ∷ ground 3 y ∷ ground k none ∷ []) ≡ refusal (ground 1 x ∷ ground 3 y ∷ [])
no_third x y {k} late = go (refusal (ground 1 x ∷ ground 3 y ∷ [])) refl
  where
    go : (r : Option Refused) → refusal (ground 1 x ∷ ground 3 y ∷ []) ≡ r → refusal (ground 1 x ∷ ground 3 y ∷ ground k none ∷ []) ≡ r
    go none e = refused_then (late_last x y none late) e ∙ late_alone late none
    go (some r) e = refused-first (late_last x y none late) r e

-- a tick for what a word picks is not refused
pub decision-ticks : (t : Table) (s : State) (word : ℕ) → TableInRange t.count t.period t.budget t.phase → StateInRange t.count t.period t.budget s.pairs.b s.pairs.o
    → refusal (table_bad t ∷ state_bad t s ∷ unlisted t s (decision_of t s word) ∷ []) ≡ none
unfolding refusal
decision-ticks t s word good here =
    ap (λ (a : Bool). refusal (table_bad t ∷ state_bad t s ∷ ground 5 (unless a (decision_of t s word)) ∷ []))
    (decision-allowed t.count t.period t.budget t.phase s.pairs.b s.pairs.o good here word)
    ∙ rw (good, here.pairs)

-- a step that is not refused
step_not_refused : (s : State) (r : Result Stepped Refusal) (refused : Option Refused) (before end : Pairs) (pick : ℕ) → stepped_as s r ≡ stepped refused before end pick → refused ≡ none
    → (x : Stepped) × (r ≡ Ok x) × (x.state.pairs ≡ end)
unfolding stepped
step_not_refused s (Ok x) none before end pick e d = (x, refl, ap (λ (z : Step). z.after) e)
step_not_refused s (Err q) none before end pick e d = never_both (sym (ap (λ (z : Step). z.says) e))
step_not_refused s r (some why) before end pick e d = some_is_none d

-- the decision of a step
abbrev pub decision_in : Result Stepped Refusal → Result ℕ Refusal
decision_in (Ok r) = Ok r.pick
decision_in (Err q) = Err q

module _ (t : Table) (s : State) (word : ℕ) (r : Result Stepped Refusal) (made : StepIs t s word r) where
  abbrev picked : ℕ
  picked = decision_of t s word

  abbrev next : Pairs
  next = tick_of t s picked

  -- what a step says is what a decision over its word says
  said : (x : Option Refused) → (stepped x s.pairs next picked).says ≡ unless_refused x picked
  unfolding stepped unless_refused
  said none = refl
  said (some q) = refl

  says : (r : Result Stepped Refusal) → decision_as (decision_in r) ≡ (stepped_as s r).says
  says (Ok x) = refl
  says (Err q) = refl

  pub step_decides : (d : Result ℕ Refusal) → DecideIs t s.pairs (word ∷ []) d → decision_in r ≡ d
  step_decides d decided =
      same_injective (decision_in r) d
      (says r ∙ ap (λ (x : Step). x.says) made ∙ said (refusal (table_bad t ∷ state_bad t s ∷ [])) ∙ ap (λ (x : Option Refused). unless_refused x picked) (sym (no_third _ _ four)) ∙ sym decided)

  -- where it isn't refused, the tick for its pick isn't either, and gives the same state
  module _ (bs : length s.pairs.b ≡ 16) (os : length s.pairs.o ≡ 16) (fine : refusal (table_bad t ∷ state_bad t s ∷ []) ≡ none) where
    ticks : refusal (table_bad t ∷ state_bad t s ∷ unlisted t s picked ∷ []) ≡ none
    unfolding has
    ticks = decision-ticks t s word (no_ground _ fine 1 refl) (record { budgets = bs; offsets = os; pairs = no_ground _ fine 3 refl })

    pub step_ticks : (k : Result State Refusal) → TickIs t s picked k → (x : Stepped) × (r ≡ Ok x) × (k ≡ Ok x.state)
    step_ticks k ticked =
        let step = step_not_refused s r _ _ next picked made fine in
        let tick = change_not_refused s k _ _ next ticked ticks in
        let same : tick.0 ≡ step.0.state = λ i. record { pairs = (tick.2 ∙ sym step.2) i } in
        (step.0, step.1, tick.1 ∙ ap Ok same)
