-- From a step or a release to an event, and from the record to what the call says.
use Prim.Native.Nat.{ℕ, ◌+◌, ◌-◌, ◌≤◌}
use mathlib.Core.Path.{◌≡◌, refl, sym, ◌∙◌, ap, subst}
use mathlib.Core.List.{List, [], ◌∷◌}
use mathlib.Core.Option.{Option, some, none}
use native.Mathlib.Omega.{arith}
use borrow.Author.Tests.{eq-eqb, ne_eqb}
use Rattle.rules.specs.Records.{table_bad}
use Rattle.rules.specs.Release.{release}
use Rattle.scheduler.specs.States.{state_bad, pairs, decision_of, tick_of}
use Rattle.rules.specs.Refusals.{Refused, refused_as, Ground, malformed, refusal}
use Rattle.file_rules.specs.MeterFile.{two, four, length_at, kind_at, payload_at, next_at, meter_kinds, form, malformed_at}
use Rattle.file_rules.specs.Events as rule
use Rattle.rules.specs.declared.Refusal.{Refusal}
use Rattle.rules.specs.declared.Table.{Table}
use Rattle.laws.proofs.Refusals.{nothing_last, record_first, refused-first, refused_then, file_alone}
use Rattle.file_laws.proofs.MeterFile.{payload_is, Whole, record_whole, form_long}
use Rattle.file_laws.proofs.Records.{field_at, four-at}
use Rattle.verdicts.specs.Outcome.{gives, unless_refused}
use Rattle.verdicts.proofs.Outcomes.{was_refused, was_given}
use Rattle.std.specs.declared.result.Result.{Result}
use Rattle.std.specs.declared.result.Result.TheVariants.{Ok, Err}
use Rattle.scheduler.specs.Promises.{Change, changed_as, change, ReleaseIs}
use Rattle.scheduler.specs.declared.State.{State}
use Rattle.meter.specs.Forms.{number_of}
use Rattle.little_endian.specs.Promises.{TwoIs, FourIs}
use Rattle.meter.specs.Promises.{ReadRecordIs, PayloadIs}
use Rattle.meter.specs.declared.Kind.{Kind}
use Rattle.meter.specs.declared.Kind.TheVariants.{Partition, Task, Word, Release}
use Rattle.meter.specs.declared.Record.{Record}
use Rattle.meter.proofs.Records.{Told, told_refused, told_record}
use Rattle.runs.specs.Promises.{Step, stepped_as, stepped, StepIs}
use Rattle.runs.specs.declared.Stepped.{Stepped}
use Rattle.replay.specs.Promises.{Replaying, replayed_as, replaying, against_event, DoneIs, ReplayIs}
use Rattle.replay.specs.declared.Event.TheVariants as event
use Rattle.replay.specs.declared.Replayed.{Replayed}

-- 3 is the number of words alone
a_word : (kind : Kind) → number_of kind ≡ 3 → kind ≡ Word
a_word Word e = refl
a_word Partition e = cc
a_word Task e = cc
a_word Release e = cc

module _ (t : Table) (s : State) where
  -- an event that is refused, and one that is done
  undone : (gs : List Ground) (at next : ℕ) (e : rule.Event) (q : Refusal) → refusal gs ≡ some (refused_as q) → replayed_as s at (Err q) ≡ replaying (refusal gs) t (pairs s) at next e
  unfolding replaying
  undone gs at next e q d = ap (λ (x : Option Refused). replaying x t (pairs s) at next e) (sym d)

  done : (gs : List Ground) (at next : ℕ) (e : rule.Event) → refusal gs ≡ none
      → ◌≡◌ {A = Replaying} (record { after = rule.after t (pairs s) e; says = gives e; next = next }) (replaying (refusal gs) t (pairs s) at next e)
  unfolding replaying
  done gs at next e d = ap (λ (x : Option Refused). replaying x t (pairs s) at next e) (sym d)

  -- ---- a word
  module _ (word next : ℕ) (x : Result Stepped Refusal) (made : StepIs t s word x) where
    pick : ℕ
    pick = decision_of t s word

    fault : Option Refused
    fault = refusal (table_bad t ∷ state_bad t s ∷ [])

    same : refusal (against_event t s (rule.ticked pick)) ≡ fault
    unfolding fault
    same = nothing_last (table_bad t ∷ state_bad t s ∷ []) 6

    says : (o : Option Refused) → (stepped o (pairs s) (tick_of t s pick) pick).says ≡ unless_refused o pick
    unfolding stepped unless_refused
    says none = refl
    says (some r) = refl

    pub word_done : (y : Stepped) → x ≡ Ok y → (at : ℕ) → DoneIs t s at next (rule.ticked (decision_of t s word)) (Ok (record { state = y.state; event = event.Ticked y.pick; next = next }))
    unfolding pick fault stepped
    word_done y d at =
        (λ i. record { after = (whole i).after; says = gives (rule.ticked (given.1 i)); next = next })
        ∙ done (against_event t s (rule.ticked pick)) at next (rule.ticked pick) (same ∙ given.0)
      where
        step : stepped_as s (Ok y) ≡ stepped fault (pairs s) (tick_of t s pick) pick
        step = sym (ap (stepped_as s) d) ∙ made

        given : (fault ≡ none) × (y.pick ≡ pick)
        given = was_given pick fault y.pick (ap (λ (z : Step). z.says) step ∙ says fault)

        whole : stepped_as s (Ok y) ≡ stepped none (pairs s) (tick_of t s pick) pick
        whole = step ∙ ap (λ (o : Option Refused). stepped o (pairs s) (tick_of t s pick) pick) given.0

    pub word_refused : (q : Refusal) → x ≡ Err q → (at : ℕ) → DoneIs t s at next (rule.ticked (decision_of t s word)) (Err q)
    unfolding pick fault
    word_refused q d at =
        undone (against_event t s (rule.ticked pick)) at next (rule.ticked pick) q
        (same ∙ was_refused pick fault (refused_as q) (ap (λ (z : Step). z.says) (sym (ap (stepped_as s) d) ∙ made) ∙ says fault))

  -- ---- a release
  module _ (index next : ℕ) (x : Result State Refusal) (made : ReleaseIs t s index x) where
    fault_then : Option Refused
    fault_then = refusal (against_event t s (rule.released index))

    found : fault_then ≡ (changed_as s x).refused
    unfolding fault_then change
    found = sym (ap (λ (z : Change). z.refused) made ∙ why fault_then)
      where
        why : (o : Option Refused) → (change o (pairs s) (release s.pairs.b s.pairs.o index)).refused ≡ o
        why none = refl
        why (some r) = refl

    pub release_done : (y : State) → x ≡ Ok y → (at : ℕ) → DoneIs t s at next (rule.released index) (Ok (record { state = y; event = event.Released index; next = next }))
    unfolding fault_then change
    release_done y d at =
        (λ i. record { after = (whole i).after; says = gives (rule.released index); next = next })
        ∙ done (against_event t s (rule.released index)) at next (rule.released index) none_found
      where
        none_found : fault_then ≡ none
        none_found = found ∙ ap (λ (z : Result State Refusal). (changed_as s z).refused) d

        whole : changed_as s (Ok y) ≡ change none (pairs s) (release s.pairs.b s.pairs.o index)
        whole = sym (ap (changed_as s) d) ∙ made ∙ ap (λ (o : Option Refused). change o (pairs s) (release s.pairs.b s.pairs.o index)) none_found

    pub release_refused : (q : Refusal) → x ≡ Err q → (at : ℕ) → DoneIs t s at next (rule.released index) (Err q)
    unfolding fault_then
    release_refused q d at =
        undone (against_event t s (rule.released index)) at next (rule.released index) q
        (found ∙ ap (λ (z : Result State Refusal). (changed_as s z).refused) d)

  -- ---- the record
  module _ (file : List ℕ) (at : ℕ) (answer : Result Record Refusal) (read_is : ReadRecordIs meter_kinds 3 file at answer) where
    pub record_refused : (q : Refusal) → answer ≡ Err q → ReplayIs t s file at (Err q)
    record_refused q d =
        undone _ at (next_at file at) (rule.event_at t (pairs s) file (kind_at file at) at) q
        (refused-first (record_first _ _ _ _) (refused_as q) (told_refused meter_kinds 3 file at answer read_is q d))

    module _ (x : Record) (d : answer ≡ Ok x) (part : List ℕ) (part-is : PayloadIs meter_kinds 3 file at part) where
      told : Told meter_kinds 3 file at (number_of x.kind) x.next
      told = told_record meter_kinds 3 file at answer read_is x d

      whole : Whole meter_kinds 3 file at
      whole = record_whole meter_kinds 3 file at told.record_is

      from_file : part ≡ payload_at file at
      from_file = part-is ∙ sym (payload_is meter_kinds 3 file at told.sound)

      -- what was done is what the record says
      says_so : (e : rule.Event) → e ≡ rule.event_at t (pairs s) file (kind_at file at) at → (r : Result Replayed Refusal) → DoneIs t s at x.next e r → ReplayIs t s file at r
      says_so e same r f =
          f
          ∙ (λ i. replaying (refusal (against_event t s (same i))) t (pairs s) at (told.next_is i) (same i))
          ∙ ap (λ (o : Option Refused). replaying o t (pairs s) at (next_at file at) (rule.event_at t (pairs s) file (kind_at file at) at)) (sym (refused_then (record_first _ _ _ _) sound))
        where
          sound : refusal (malformed (malformed_at meter_kinds 3 file at) ∷ []) ≡ none
          sound = ap (λ (m : Option ℕ). refusal (malformed m ∷ [])) told.sound ∙ file_alone none

      pub word_replayed : x.kind ≡ Word → (word : ℕ) → FourIs part 0 word → (r : Result Replayed Refusal)
          → ((a : ℕ) → DoneIs t s a x.next (rule.ticked (decision_of t s word)) r) → ReplayIs t s file at r
      unfolding rule.event_at form
      word_replayed k word w r f = says_so _ (ap (λ y. rule.ticked (decision_of t s y)) same ∙ sym (rw (eq-eqb (kind_at file at) 3 is))) r (f at)
        where
          is : kind_at file at ≡ 3
          is = sym told.kind_is ∙ ap number_of k

          long : length_at file at ≡ 6
          long = whole.long ∙ ap (λ (y : ℕ). (form y).length) is

          same : word ≡ four file (at + 4)
          same = w ∙ ap (λ (xs : List ℕ). four xs 0) from_file ∙ four-at file at (length_at file at - 2) (omega (arith, long))

      pub release_replayed : (x.kind ≡ Word → ⊥) → (index : ℕ) → TwoIs part 0 index → (r : Result Replayed Refusal) → ((a : ℕ) → DoneIs t s a x.next (rule.released index) r) → ReplayIs t s file at r
      unfolding rule.event_at
      release_replayed k index w r f = says_so _ (ap rule.released same ∙ sym (rw (ne_eqb (kind_at file at) 3 (λ e. k (a_word x.kind (told.kind_is ∙ e)))))) r (f at)
        where
          least : 4 ≤ length_at file at
          least = subst (λ (y : ℕ). 4 ≤ y) (sym whole.long) (form_long (kind_at file at) whole.known)

          same : index ≡ two file (at + 4)
          same = w ∙ ap (λ (xs : List ℕ). two xs 0) from_file ∙ field_at file at (length_at file at - 2) 0 4 refl (omega (arith, least))
