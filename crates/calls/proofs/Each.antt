-- Each call makes a history of the guarantee: of no event where it is refused.
use Prim.Native.Nat.{ℕ}
use mathlib.Core.Path.{◌≡◌, refl, sym, ◌∙◌, ap}
use mathlib.Core.Bool.{true}
use mathlib.Core.List.{List, [], ◌∷◌, map}
use mathlib.Core.Option.{Option, some, none}
use lib.ListN.{length, take, drop}
use lib.Seq.{take-append_seam}
use Rattle.std.specs.Result.{result_unwrap_or}
use Rattle.std.specs.declared.result.Result.{Result}
use Rattle.std.specs.declared.result.Result.TheVariants.{Ok, Err}
use Rattle.basis.specs.Words.{has}
use Rattle.rules.specs.Numbers.{TableInRange, StateInRange}
use Rattle.rules.specs.declared.Pairs.{Pairs}
use Rattle.rules.specs.Pick.{decision}
use Rattle.rules.specs.Tick.{tick, tick_allowed}
use Rattle.rules.specs.Release.{release, release_allowed}
use Rattle.rules.specs.Run.{Ran, run}
use Rattle.rules.specs.Refusals.{Refused}
use Rattle.rules.specs.declared.Refusal.{Refusal}
use Rattle.rules.specs.declared.Table.{Table}
use Rattle.laws.proofs.Tests.{some_is_none, none_is_some, unless-none}
use Rattle.laws.proofs.Refusals.{no_ground}
use Rattle.laws.proofs.Keeps.{tick_in_range}
use Rattle.laws.proofs.Pick.{decision-allowed}
use Rattle.laws.proofs.Run.{run_length}
use Rattle.guarantee.specs.Histories.{Event, tick_to, release_of, scheduler, allowed, next, all_allowed, after}
use Rattle.guarantee.specs.Guarantee.{Follows, state_after}
use Rattle.guarantee.proofs.Histories.{allowed_all}
use Rattle.scheduler.specs.States.{decision_of, tick_of}
use Rattle.scheduler.specs.Promises.{Change, change, changed_as}
use Rattle.scheduler.specs.declared.State.{State}
use Rattle.runs.specs.Promises.{Step, stepped_as, stepped as step, Runs, runs, ran_as}
use Rattle.runs.specs.declared.Stepped.{Stepped}
use Rattle.verdicts.proofs.Outcomes.{given_as, never_both}
use Rattle.calls.specs.Calls.{Call, decided, stepped, ran, ticked, released, Promised, leaves, stepped_to, if_made, picked, events}

-- ---- over the rules: one event, and a run
module _ (n : ℕ) (T B : List ℕ) where
  -- from s these events follow, and lead to `end`
  pub record Leads (s : Pairs) (happened : List Event) (end : Pairs) : Type 0 where
    pub follows : Follows n T B s happened
    pub to : state_after n T B s happened ≡ end

  pub nothing_happens : (s : Pairs) → Leads s [] s
  unfolding all_allowed after
  nothing_happens s = record { follows = refl; to = refl }

  tick_leads : (s : Pairs) (pick : ℕ) → tick_allowed n T B s.b s.o pick ≡ true → Leads s (tick_to pick ∷ []) (tick n T B s.b s.o pick)
  unfolding all_allowed after allowed next tick_allowed
  tick_leads s pick p = record { follows = allowed_all (scheduler n T B) s (tick_to pick) [] p refl; to = refl }

  release_leads : (s : Pairs) (i : ℕ) → release_allowed n s.b i ≡ true → Leads s (release_of i ∷ []) (release s.b s.o i)
  unfolding all_allowed after allowed next
  release_leads s i p = record { follows = allowed_all (scheduler n T B) s (release_of i) [] p refl; to = refl }

  run_leads : (phase : List ℕ) → TableInRange n T B phase → (s : Pairs) (words : List ℕ) → StateInRange n T B s.b s.o
      → Leads s (map tick_to (run n T B s words).picks) (run n T B s words).after
  unfolding run allowed next after tick_allowed
  run_leads phase t s [] here = nothing_happens s
  run_leads phase t s (word ∷ words) here =
      let pick : ℕ = decision n T B s.b s.o word in
      let rest = run_leads phase t (tick n T B s.b s.o pick) words (tick_in_range n T B phase t s.b s.o pick here) in
      record {
        follows = allowed_all (scheduler n T B) s (tick_to pick) _ (decision-allowed n T B phase s.b s.o t here word) rest.follows;
        to = rest.to;
      }

-- ---- over the code
-- a change that is made, and one that is not refused
module _ (s : State) where
  pub change-made : (after : State) (refused : Option Refused) (before end : Pairs) → changed_as s (Ok after) ≡ change refused before end
      → (refused ≡ none) × (after.pairs ≡ end)
  unfolding change
  change-made after none before end e = (refl, ap (λ (x : Change). x.after) e)
  change-made after (some why) before end e = none_is_some (ap (λ (x : Change). x.refused) e)

  pub change_not_refused : (r : Result State Refusal) (refused : Option Refused) (before end : Pairs) → changed_as s r ≡ change refused before end → refused ≡ none
      → (after : State) × (r ≡ Ok after) × (after.pairs ≡ end)
  unfolding change
  change_not_refused (Ok after) refused before end e d = (after, refl, (change-made after refused before end e).1)
  change_not_refused (Err q) none before end e d = some_is_none (ap (λ (x : Change). x.refused) e)
  change_not_refused (Err q) (some why) before end e d = some_is_none d

module _ (t : Table) (s : State) where
  abbrev Happens : List Event → State → Type 0
  Happens happened end = Leads t.count t.period t.budget s.pairs happened end.pairs

  -- a change that is refused leaves all as it was; one that is made is what the rule says
  changes : (r : Result State Refusal) (refused : Option Refused) (end : Pairs) (made : List Event) → changed_as s r ≡ change refused s.pairs end
      → (refused ≡ none → Leads t.count t.period t.budget s.pairs made end)
      → Happens (if_made r made) (result_unwrap_or r s)
  changes (Ok after) refused end made e leads =
      let done = change-made s after refused s.pairs end e in
      let whole = leads done.0 in
      record { follows = whole.follows; to = whole.to ∙ sym done.1 }
  changes (Err q) refused end made e leads = nothing_happens t.count t.period t.budget s.pairs

  -- a step is a change beside a pick
  steps : (r : Result Stepped Refusal) (refused : Option Refused) (end : Pairs) (pick : ℕ) → stepped_as s r ≡ step refused s.pairs end pick
      → (refused ≡ none → Leads t.count t.period t.budget s.pairs (tick_to pick ∷ []) end)
      → Happens (picked r) (stepped_to s r)
  unfolding step
  steps (Ok x) none end pick e leads =
      let whole = leads refl in
      let same : x.pick ≡ pick = given_as (ap (λ (z : Step). z.says) e) in
      rw same (record { follows = whole.follows; to = whole.to ∙ sym (ap (λ (z : Step). z.after) e) })
  steps (Ok x) (some why) end pick e leads = never_both (ap (λ (z : Step). z.says) e)
  steps (Err q) refused end pick e leads = nothing_happens t.count t.period t.budget s.pairs

  -- and so is a run, beside its buffer
  run_changes : (r : Result State Refusal) (last buffer : List ℕ) (refused : Option Refused) (whole : Ran) → ran_as s r last ≡ runs refused s.pairs buffer whole
      → changed_as s r ≡ change refused s.pairs whole.after
  unfolding runs change
  run_changes (Ok x) last buffer none whole e = λ i. record { after = (e i).after; refused = (e i).refused }
  run_changes (Ok x) last buffer (some why) whole e = λ i. record { after = (e i).after; refused = (e i).refused }
  run_changes (Err q) last buffer none whole e = λ i. record { after = (e i).after; refused = (e i).refused }
  run_changes (Err q) last buffer (some why) whole e = λ i. record { after = (e i).after; refused = (e i).refused }

  run_fills : (r : Result State Refusal) (last buffer : List ℕ) (refused : Option Refused) (whole : Ran) → ran_as s r last ≡ runs refused s.pairs buffer whole
      → refused ≡ none → take (length whole.picks) last ≡ whole.picks
  unfolding runs
  run_fills (Ok x) last buffer none whole e made =
      ap (λ (z : Runs). take (length whole.picks) z.buffer) e ∙ take-append_seam whole.picks (drop (length whole.picks) buffer)
  run_fills (Err q) last buffer none whole e made = some_is_none (ap (λ (z : Runs). z.refused) e)
  run_fills r last buffer (some why) whole e made = some_is_none made

  module _ (table : TableInRange t.count t.period t.budget t.phase) (here : StateInRange t.count t.period t.budget s.pairs.b s.pairs.o) where
    decision_leads : (word : ℕ) → let pick : ℕ = decision_of t s word in
        Leads t.count t.period t.budget s.pairs (tick_to pick ∷ []) (tick_of t s pick)
    decision_leads word =
        tick_leads t.count t.period t.budget s.pairs (decision_of t s word)
        (decision-allowed t.count t.period t.budget t.phase s.pairs.b s.pairs.o table here word)

    pub call_happens : (c : Call) → Promised t s c → Happens (events c) (leaves s c)
    unfolding Promised events leaves has
    call_happens (decided words r) p = nothing_happens t.count t.period t.budget s.pairs
    call_happens (stepped word r) p = steps r _ _ _ p (λ e. decision_leads word)
    call_happens (ran words buffer r last) p =
        let whole : Ran = run t.count t.period t.budget s.pairs words in
        changes r _ whole.after _ (run_changes r last buffer _ whole p)
        (λ e. let filled : take (length words) last ≡ whole.picks = ap (λ k. take k last) (sym (run_length t.count t.period t.budget s.pairs words)) ∙ run_fills r last buffer _ whole p e in
        rw filled (run_leads t.count t.period t.budget t.phase table s.pairs words here))
    call_happens (ticked pick r) p =
        changes r _ _ _ p (λ e. tick_leads t.count t.period t.budget s.pairs pick (unless-none _ pick (no_ground _ e 5 refl)))
    call_happens (released i r) p =
        changes r _ _ _ p (λ e. release_leads t.count t.period t.budget s.pairs i (unless-none _ i (no_ground _ e 6 refl)))
