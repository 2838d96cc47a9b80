-- What each public function of this crate says, and promises of its answer r to a state s.
use Rattle.std.specs.Prelude.{ℕ, ◌≡◌, [], ◌∷◌}
use Rattle.std.proofs.Math.Option.{Option, some, none}
use Rattle.std.specs.declared.result.Result.{Result}
use Rattle.std.specs.declared.result.Result.TheVariants.{Ok, Err}
use Rattle.rules.specs.Release.{release}
use Rattle.rules.specs.Records.{table_bad, unadmitted}
use Rattle.rules.specs.declared.Pairs.{Pairs}
use Rattle.rules.specs.FreshStart.{fresh_start}
use Rattle.rules.specs.Refusals.{Refused, refused_as, refusal}
use Rattle.rules.specs.declared.Refusal.{Refusal}
use Rattle.rules.specs.declared.Table.{Table}
use Rattle.verdicts.specs.Verdicts.{verdict_as}
use Rattle.scheduler.specs.States.{pairs, tick_of, unlisted, inactive_now, state_bad}
use Rattle.scheduler.specs.declared.State.{State}

-- ---- answers
-- a state after a call, and its refusal, if it was refused
pub record Change : Type 0 where
  pub after : Pairs
  pub refused : Option Refused

-- a change that is made, and one that is refused
abbrev pub made : Pairs → Change
made after = record { after = after; refused = none }

abbrev pub kept : Pairs → Refused → Change
kept before r = record { after = before; refused = some r }

-- after a refusal the state is the one that was given
abbrev pub changed_as : State → Result State Refusal → Change
changed_as s (Ok after) = made (pairs after)
changed_as s (Err r) = kept (pairs s) (refused_as r)

-- "Nothing is written to lent memory on a refusal and the state stays."
unfoldable pub change : Option Refused → Pairs → Pairs → Change
change none before after = made after
change (some r) before after = kept before r

-- ---- promises
-- fresh start, whatever the old state: refusals 1 and 2
abbrev pub fresh_says : Table → State → Change
fresh_says t s =
    change (refusal (table_bad t ∷ unadmitted t ∷ []))
    (pairs s) (fresh_start t.count t.period t.budget t.phase)

abbrev pub FreshIs : Table → State → Result State Refusal → Type 0
FreshIs t s r = changed_as s r ≡ fresh_says t s

module _ (t : Table) (s : State) where
  -- why the state is refused over the table, if it is: 1 and 3
  abbrev pub JudgedIs : Result Unit Refusal → Type 0
  JudgedIs r = verdict_as r ≡ refusal (table_bad t ∷ state_bad t s ∷ [])

  -- a tick for a given pick: refusals 1, 3 and 5
  abbrev pub tick_says : ℕ → Change
  tick_says pick =
      change (refusal (table_bad t ∷ state_bad t s ∷ unlisted t s pick ∷ []))
      (pairs s) (tick_of t s pick)

  abbrev pub TickIs : ℕ → Result State Refusal → Type 0
  TickIs pick r = changed_as s r ≡ tick_says pick

  -- a release: refusals 1, 3 and 6
  abbrev pub release_says : ℕ → Change
  release_says i = change (refusal (table_bad t ∷ state_bad t s ∷ inactive_now t s i ∷ [])) (pairs s) (release s.pairs.b s.pairs.o i)

  abbrev pub ReleaseIs : ℕ → Result State Refusal → Type 0
  ReleaseIs i r = changed_as s r ≡ release_says i
