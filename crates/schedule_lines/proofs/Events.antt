-- The line of a record: from what was replayed to what the call says.
use Prim.Native.Nat.{ℕ, ◌≤◌, ◌<◌}
use mathlib.Core.Path.{◌≡◌, refl, sym, ◌∙◌, ap, subst}
use mathlib.Core.Bool.{Bool, true, false, cond}
use mathlib.Core.List.{List, [], ◌∷◌}
use mathlib.Core.Option.{Option, some, none}
use borrow.Author.Tests.{eqb-true, le-leb, lt-leb}
use lib.Dec.{leb, eqb}
use lib.ListN.{length}
use Rattle.std.specs.declared.option.Option.{Option as Found}
use Rattle.std.specs.declared.option.Option.TheVariants.{Some}
use Rattle.std.specs.declared.result.Result.{Result}
use Rattle.std.specs.declared.result.Result.TheVariants.{Ok, Err}
use Rattle.basis.specs.Words.{unless}
use Rattle.rules.specs.Refusals.{Refused, refused_as, malformed, short_buffer, refusal}
use Rattle.file_rules.specs.MeterFile.{kind_at, next_at, meter_kinds, malformed_at}
use Rattle.rules.specs.Release.{release_allowed}
use Rattle.file_rules.specs.Events as rule
use Rattle.file_rules.specs.Printers.{event_line, release_line}
use Rattle.rules.specs.declared.Refusal.{Refusal}
use Rattle.rules.specs.declared.Refusal.TheVariants.{ShortBuffer, NotActive}
use Rattle.rules.specs.declared.Table.{Table}
use Rattle.laws.proofs.Tests.{none_is_some}
use Rattle.laws.proofs.Refusals.{seven_or, seven_first, seven_among, seven_alone, six_from}
use Rattle.verdicts.specs.Outcome.{refused}
use Rattle.verdicts.proofs.Outcomes.{refused_as_lem, given_as, never_both}
use Rattle.scheduler.specs.declared.State.{State}
use Rattle.lines.specs.Lines.{bytes_of}
use Rattle.lines.specs.Promises.{LineLengthIs, PutLineIs}
use Rattle.lines.specs.declared.Line.{Line}
use Rattle.lines.specs.declared.Line.TheVariants as line
use Rattle.lines.specs.declared.Made.{Made}
use Rattle.replay.specs.Promises.{event_as, Replaying, replayed_as, replaying, against_event, ReplayIs}
use Rattle.replay.specs.declared.Replayed.{Replayed}
use Rattle.schedule_lines.specs.Coming.{Coming, ticks_on, event_coming}
use Rattle.schedule_lines.specs.Promises.{against, printing, EventIs, with_seven, RefusedIs, ToldIs}
use Rattle.schedule_lines.specs.declared.Cursor.{Cursor}
use Rattle.schedule_lines.specs.declared.Cursor.TheVariants as cursor
use Rattle.schedule_lines.proofs.Puts.{line_made, line_refused}

-- ---- a refused event: 7 before 6
module _ (ticks : ℕ) (why : Refusal) (room : ℕ) where
  module _ (index : ℕ) (is : why ≡ NotActive index) (needed : ℕ) (counts : LineLengthIs (line.Release ticks index) needed) where
    pub seven_here : room < needed → RefusedIs ticks why room (ShortBuffer needed)
    unfolding bytes_of
    seven_here l = rw (is, lt-leb (length (release_line ticks index)) room (subst (λ (n : ℕ). room < n) counts l)) (ap (λ n. record { number = 7; second = n }) counts)

    pub six_here : needed ≤ room → RefusedIs ticks why room (NotActive index)
    unfolding bytes_of
    six_here l = rw (is, le-leb (length (release_line ticks index)) room (subst (λ (n : ℕ). n ≤ room) counts l)) refl

-- ---- what was replayed
module _ (t : Table) (s : State) (file : List ℕ) (at ticks : ℕ) (buffer : List ℕ) (r : Result Replayed Refusal) (played : ReplayIs t s file at r) where
  abbrev e : rule.Event
  e = rule.event_at t s.pairs file (kind_at file at) at

  abbrev first : Option Refused
  first = refusal (malformed (malformed_at meter_kinds 3 file at) ∷ against_event t s e)

  abbrev c : Coming
  c = event_coming file t s.pairs at ticks

  -- an event that was done
  module _ (done : Replayed) (d : r ≡ Ok done) where
    record Done : Type 0 where
      fine : first ≡ none
      is : event_as done.event ≡ e
      after : done.state.pairs ≡ rule.after t s.pairs e
      next : done.next ≡ next_at file at

    was_done : Done
    unfolding replaying
    was_done = go first refl (ap (replayed_as s at) (sym d) ∙ played)
      where
        go : (o : Option Refused) → first ≡ o → replayed_as s at (Ok done) ≡ replaying o t s.pairs at (next_at file at) e → Done
        go none f h =
            record {
              fine = f;
              is = given_as (ap (λ (x : Replaying). x.says) h);
              after = ap (λ (x : Replaying). x.after) h;
              next = ap (λ (x : Replaying). x.next) h;
            }
        go (some q) f h = never_both (ap (λ (x : Replaying). x.says) h)

    fine : refusal (against t s c buffer) ≡ refusal (short_buffer (length c.line) (length buffer) ∷ [])
    fine = seven_alone _ _ _ _ _ was_done.fine

    -- its line is put, and the ticks after it are counted
    module _ (l : Line) (count : ℕ) (told : ToldIs done.event ticks (l, count)) where
      its : bytes_of l ≡ c.line
      its = told.0 ∙ ap (event_line ticks) was_done.is

      module _ (m : Result (Made Cursor) Refusal) (last : List ℕ) (f : PutLineIs l (Some (cursor.Record done.next count)) buffer m last) where
        as_it_comes : PutLineIs l c.next buffer m last
        as_it_comes =
            let on : count ≡ ticks_on ticks e = told.1 ∙ ap (ticks_on ticks) was_done.is in
            subst (λ (next : Found Cursor). PutLineIs l next buffer m last) (λ i. Some (cursor.Record (was_done.next i) (on i))) f

        pub event_made : (made : Made Cursor) → m ≡ Ok made → EventIs t s file at ticks buffer (Ok (record { state = done.state; made = made })) last
        event_made = line_made t s c buffer fine l its m last as_it_comes done.state was_done.after

        pub event_short : (q : Refusal) → m ≡ Err q → EventIs t s file at ticks buffer (Err q) last
        event_short = line_refused t s c buffer fine l its m last as_it_comes

  -- an event that was refused
  pub event_refused : (q : Refusal) → r ≡ Err q → (x : Refusal) → RefusedIs ticks q (length buffer) x → EventIs t s file at ticks buffer (Err x) buffer
  unfolding printing replaying
  event_refused q d x f =
      (λ i. record { after = s.pairs; says = refused ((f ∙ sym agreed) i); buffer = buffer })
      ∙ ap (λ (o : Option Refused). printing o s.pairs c buffer) (sym (seven_among _ _ _ _ _ (refused_as q) why))
    where
      why : first ≡ some (refused_as q)
      why = was_refused first refl (ap (replayed_as s at) (sym d) ∙ played)
        where
          was_refused : (o : Option Refused) → first ≡ o → replayed_as s at (Err q) ≡ replaying o t s.pairs at (next_at file at) e → first ≡ some (refused_as q)
          was_refused none g h = never_both (sym (ap (λ (z : Replaying). z.says) h))
          was_refused (some p) g h = g ∙ ap some (sym (refused_as_lem (ap (λ (z : Replaying). z.says) h)))

      -- a refusal 6 is that of the release, and so the lines are the same
      same_release : (x : rule.Event) → rule.inactive t s.pairs x ≡ some (refused_as q).second → event_line ticks x ≡ release_line ticks (refused_as q).second
      same_release (rule.ticked p) g = none_is_some g
      same_release (rule.released i) g = ap (release_line ticks) (go (release_allowed t.count s.pairs.b i) g)
        where
          go : (a : Bool) → unless a i ≡ some (refused_as q).second → i ≡ (refused_as q).second
          go true h = none_is_some h
          go false h = cc

      agreed : seven_first (unless (leb (length (event_line ticks e)) (length buffer)) (length (event_line ticks e))) (refused_as q) ≡ with_seven ticks (length buffer) (refused_as q)
      agreed = go (eqb (refused_as q).number 6) refl
        where
          either : (n : ℕ) (a : Bool) → seven_or (unless a n) (refused_as q) ≡ cond a (refused_as q) (record { number = 7; second = n })
          either n true = refl
          either n false = refl

          go : (b : Bool) → eqb (refused_as q).number 6 ≡ b
              → cond b (seven_or (unless (leb (length (event_line ticks e)) (length buffer)) (length (event_line ticks e))) (refused_as q)) (refused_as q)
              ≡ cond b (cond (leb (length (release_line ticks (refused_as q).second)) (length buffer)) (refused_as q) (record { number = 7; second = length (release_line ticks (refused_as q).second) })) (refused_as q)
          go true g =
              ap (λ (bytes : List ℕ). seven_or (unless (leb (length bytes) (length buffer)) (length bytes)) (refused_as q)) (same_release e (six_from _ _ _ none _ (refused_as q) why (eqb-true _ _ g)))
              ∙ either (length (release_line ticks (refused_as q).second)) (leb (length (release_line ticks (refused_as q).second)) (length buffer))
          go false g = refl
