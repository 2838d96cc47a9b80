-- What the public function of this crate promises of its answer r and the state after it.
use Rattle.std.specs.Prelude.{ℕ, ◌≡◌, List, [], ◌∷◌}
use Rattle.std.proofs.Math.Option.{Option, some, none}
use Rattle.rules.specs.Records.{table_bad}
use Rattle.scheduler.specs.States.{state_bad, pairs}
use Rattle.rules.specs.declared.Pairs.{Pairs}
use Rattle.rules.specs.Refusals.{Refused, refused_as, Ground, ground, malformed, refusal}
use Rattle.file_rules.specs.MeterFile.{kind_at, next_at, meter_kinds, malformed_at}
use Rattle.file_rules.specs.Events as rule
use Rattle.rules.specs.declared.Refusal.{Refusal}
use Rattle.rules.specs.declared.Table.{Table}
use Rattle.std.specs.declared.result.Result.{Result}
use Rattle.std.specs.declared.result.Result.TheVariants.{Ok, Err}
use Rattle.verdicts.specs.Outcome.{Outcome, refused, gives}
use Rattle.scheduler.specs.declared.State.{State}
use Rattle.replay.specs.declared.Event.{Event}
use Rattle.replay.specs.declared.Event.TheVariants as event
use Rattle.replay.specs.declared.Replayed.{Replayed}

-- ---- answers
abbrev pub event_as : Event → rule.Event
event_as (event.Ticked pick) = rule.ticked pick
event_as (event.Released index) = rule.released index

-- a state after a record, what happened, and where the next record begins
pub record Replaying : Type 0 where
  pub after : Pairs
  pub says : Outcome rule.Event
  pub next : ℕ

-- after a refusal the state and the offset are those that were given
abbrev pub replayed_as : State → ℕ → Result Replayed Refusal → Replaying
replayed_as s at (Ok r) = record { after = pairs r.state; says = gives (event_as r.event); next = r.next }
replayed_as s at (Err r) = record { after = pairs s; says = refused (refused_as r); next = at }

-- "Nothing is written to lent memory on a refusal and the state stays."
unfoldable pub replaying : Option Refused → Table → Pairs → ℕ → ℕ → rule.Event → Replaying
replaying none t s at next e = record { after = rule.after t s e; says = gives e; next = next }
replaying (some r) t s at next e = record { after = s; says = refused r; next = at }

-- ---- promises
module _ (t : Table) (s : State) where
  -- the grounds of an event: refusals 1, 3 and 6
  abbrev pub against_event : rule.Event → List Ground
  against_event e = table_bad t ∷ state_bad t s ∷ ground 6 (rule.inactive t (pairs s) e) ∷ []

  -- an event at an offset, done
  abbrev pub DoneIs : ℕ → ℕ → rule.Event → Result Replayed Refusal → Type 0
  DoneIs at next e r = replayed_as s at r ≡ replaying (refusal (against_event e)) t (pairs s) at next e

  -- the record at an offset, which stands among words and releases: refusals 8, 1, 3 and 6
  abbrev pub ReplayIs : List ℕ → ℕ → Result Replayed Refusal → Type 0
  ReplayIs file at r =
      let e : rule.Event = rule.event_at t (pairs s) file (kind_at file at) at in
      replayed_as s at r ≡ replaying (refusal (malformed (malformed_at meter_kinds 3 file at) ∷ against_event e)) t (pairs s) at (next_at file at) e
