-- The code keeps the guarantee. The statements are in specs/CodeKeeps.antt.
use mathlib.Core.Path.{◌≡◌, refl, sym, ◌∙◌, ap, subst}
use mathlib.Core.List.{List, [], ◌∷◌, ◌++◌, append_assoc}
use mathlib.Core.Option.{none}
use Rattle.std.specs.declared.result.Result.TheVariants.{Ok}
use Rattle.rules.specs.Records.{table_bad, unadmitted}
use Rattle.basis.specs.Words.{has}
use Rattle.rules.specs.declared.Pairs.{Pairs}
use Rattle.rules.specs.FreshStart.{fresh_start}
use Rattle.rules.specs.Refusals.{refusal}
use Rattle.rules.specs.declared.Table.{Table}
use Rattle.laws.proofs.Refusals.{no_ground}
use Rattle.laws.proofs.Admission.{admitted_exactly}
use Rattle.guarantee.specs.Histories.{Event, tick_to, ToTheNext}
use Rattle.guarantee.specs.Guarantee.{Guarantee}
use Rattle.guarantee.proofs.Histories.{after-append, allowed-before, allowed_both}
use Rattle.guarantee.proofs.Guaranteed.{guaranteed}
use Rattle.scheduler.specs.Promises.{FreshIs}
use Rattle.scheduler.specs.declared.State.{State}
use Rattle.calls.specs.Calls.{Call, AllPromised, leaves, events, leaves_after, history}
use Rattle.calls.specs.CodeKeeps.{Admits, ours, StandsIn, FollowsFrom, reached, Exactly, CodeKeeps, KeepsFirst, StandingCodeKeeps, FreshCodeKeeps}
use Rattle.calls.proofs.Each.{Leads, nothing_happens, change-made, call_happens}

module _ (t : Table) (admits : Admits t) where
  kept : Guarantee t.count t.period t.budget t.phase
  kept = guaranteed t.count t.period t.budget t.phase admits

  -- one call after another
  all_happen : (s : State) (calls : List Call) → StandsIn t s.pairs → AllPromised t s calls
      → Leads t.count t.period t.budget s.pairs (history calls) (leaves_after s calls).pairs
  unfolding AllPromised leaves_after history
  all_happen s [] here p = nothing_happens t.count t.period t.budget s.pairs
  all_happen s (c ∷ calls) here p =
      let one = call_happens t s admits.in_range here.in_range c p.0 in
      let stands : StandsIn t (leaves s c).pairs = subst (StandsIn t) one.to (kept.keeps_standing s.pairs (events c) here one.follows) in
      let rest = all_happen (leaves s c) calls stands p.1 in
      record {
        follows = allowed_both (ours t) s.pairs (events c) (history calls) one.follows (subst (λ (z : Pairs). FollowsFrom t z (history calls)) (sym one.to) rest.follows);
        to = after-append (ours t) s.pairs (events c) (history calls) ∙ ap (λ (z : Pairs). reached t z (history calls)) one.to ∙ rest.to;
      }

  module _ (s : State) (calls : List Call) (here : StandsIn t s.pairs) (p : AllPromised t s calls) where
    all_of_it : Leads t.count t.period t.budget s.pairs (history calls) (leaves_after s calls).pairs
    all_of_it = all_happen s calls here p

    -- what the history begins with was allowed too
    begins : (first rest : List Event) → history calls ≡ first ++ rest → FollowsFrom t s.pairs first
    begins first rest e = allowed-before (ours t) s.pairs first rest (subst (FollowsFrom t s.pairs) e all_of_it.follows)

    keeps : CodeKeeps t s calls
    keeps =
        record {
          follows = all_of_it.follows;
          leads = all_of_it.to;
          stands = subst (StandsIn t) all_of_it.to (kept.keeps_standing s.pairs (history calls) here all_of_it.follows);
          nothing_left = λ before rest pick h e. kept.nothing_left s.pairs before pick h here (begins (before ++ tick_to pick ∷ []) rest (e ∙ sym (append_assoc before (tick_to pick ∷ []) rest)));
          whole_period = λ before period rest h e. kept.whole_period s.pairs before period h here (begins (before ++ period) rest e);
        }

pub standing_code_keeps : StandingCodeKeeps
standing_code_keeps t s calls admits here p = keeps t admits s calls here p

-- ---- a fresh start that isn't refused
module _ (t : Table) (old start : State) (fresh : FreshIs t old (Ok start)) where
  started : (refusal (table_bad t ∷ unadmitted t ∷ []) ≡ none)
      × (start.pairs ≡ fresh_start t.count t.period t.budget t.phase)
  started = change-made old start _ old.pairs _ fresh

  admits : Admits t
  unfolding has
  admits =
      record {
        in_range = no_ground _ started.0 1 refl;
        admitted = (admitted_exactly t.period t.budget t.count).0 (no_ground _ started.0 2 refl);
      }

  stands : StandsIn t start.pairs
  stands = subst (StandsIn t) (sym started.1) (kept t admits).fresh_stands

  keeps_first : (calls : List Call) → AllPromised t start calls → KeepsFirst t start calls
  keeps_first calls p period rest h e l whole =
      subst (λ (s : Pairs). FollowsFrom t s period → ToTheNext (ours t) h s period → Exactly t h s period) (sym started.1)
      (λ follows. (kept t admits).first-period period h follows l whole)
      (begins t admits start calls stands p period rest e)

pub fresh_code_keeps : FreshCodeKeeps
fresh_code_keeps t old start calls fresh p =
    (standing_code_keeps t start calls (admits t old start fresh) (stands t old start fresh) p, keeps_first t old start fresh calls p)
