-- What each public function of this crate says, and promises of its answer r to a state s, and of lent memory.
use Rattle.std.specs.Prelude.{ℕ, ◌≡◌, List, [], ◌∷◌, length}
use Rattle.std.proofs.Math.Option.{Option, some, none}
use Rattle.std.specs.declared.result.Result.{Result}
use Rattle.std.specs.declared.result.Result.TheVariants.{Ok, Err}
use Rattle.rules.specs.Records.{table_bad}
use Rattle.scheduler.specs.States.{state_bad, pairs, decision_of, tick_of}
use Rattle.basis.specs.Words.{onto}
use Rattle.rules.specs.declared.Pairs.{Pairs}
use Rattle.rules.specs.Run.{Ran, run}
use Rattle.rules.specs.Refusals.{Refused, refused_as, short_buffer, refusal}
use Rattle.rules.specs.declared.Refusal.{Refusal}
use Rattle.rules.specs.declared.Table.{Table}
use Rattle.verdicts.specs.Outcome.{Outcome, refused, gives}
use Rattle.draw.specs.Promises.{ChooseIs}
use Rattle.ticks.specs.Promises.{PassTickIs}
use Rattle.scheduler.specs.declared.State.{State}
use Rattle.runs.specs.declared.Stepped.{Stepped}

-- ---- answers
-- a state after a step, and its pick or refusal
pub record Step : Type 0 where
  pub after : Pairs
  pub says : Outcome ℕ

-- after a refusal the state is the one that was given
abbrev pub stepped_as : State → Result Stepped Refusal → Step
stepped_as s (Ok r) = record { after = pairs r.state; says = gives r.pick }
stepped_as s (Err r) = record { after = pairs s; says = refused (refused_as r) }

unfoldable pub stepped : Option Refused → Pairs → Pairs → ℕ → Step
stepped none before after pick = record { after = after; says = gives pick }
stepped (some r) before after pick = record { after = before; says = refused r }

-- a state after a run, its refusal, and the buffer
pub record Runs : Type 0 where
  pub after : Pairs
  pub refused : Option Refused
  pub buffer : List ℕ

abbrev pub ran_as : State → Result State Refusal → List ℕ → Runs
ran_as s (Ok after) buffer = record { after = pairs after; refused = none; buffer = buffer }
ran_as s (Err r) buffer = record { after = pairs s; refused = some (refused_as r); buffer = buffer }

-- "picks go to a lent byte buffer"; "Bytes past the last pick stay."; "Nothing is written to lent memory on a refusal"
unfoldable pub runs : Option Refused → Pairs → List ℕ → Ran → Runs
runs none before buffer ran = record { after = ran.after; refused = none; buffer = onto ran.picks buffer }
runs (some r) before buffer ran = record { after = before; refused = some r; buffer = buffer }

-- ---- promises
module _ (t : Table) (s : State) where
  -- one decision and its tick: refusals 1 and 3
  abbrev pub step_says : ℕ → Step
  step_says word =
      stepped (refusal (table_bad t ∷ state_bad t s ∷ [])) (pairs s)
      (tick_of t s (decision_of t s word))
      (decision_of t s word)

  abbrev pub StepIs : ℕ → Result Stepped Refusal → Type 0
  StepIs word r = stepped_as s r ≡ step_says word

  -- a run over the words into the buffer, which is `last` after it: refusals 1, 3 and 7
  abbrev pub run_says : List ℕ → List ℕ → Runs
  run_says words buffer =
      runs (refusal (table_bad t ∷ state_bad t s ∷ short_buffer (length words) (length buffer) ∷ [])) (pairs s) buffer
      (run t.count t.period t.budget (pairs s) words)

  abbrev pub RunIs : List ℕ → List ℕ → Result State Refusal → List ℕ → Type 0
  RunIs words buffer r last = ran_as s r last ≡ run_says words buffer

-- what a decision and its tick on lent pairs p give: the pick r, and the pairs `after` it
pub record DrawnIs (t : Table) (p : Pairs) (word r : ℕ) (after : Pairs) : Type 0 where
  pub choice : ChooseIs t p word r
  pub passed : PassTickIs t p r after

-- what the loop of a run gives
pub record Filled (t : Table) (s : State) (words buffer : List ℕ) (r : State) (last : List ℕ) : Type 0 where
  pub after : pairs r ≡ (run t.count t.period t.budget (pairs s) words).after
  pub picks : last ≡ onto (run t.count t.period t.budget (pairs s) words).picks buffer
