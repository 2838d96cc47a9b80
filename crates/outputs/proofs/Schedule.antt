-- The lines of the schedule printer's calls, joined, are the whole output: of every file, refused ones too.
use Prim.Native.Nat.{ℕ, zero, suc, ◌+◌, ◌*◌, ◌≤◌, ◌<◌}
use mathlib.Core.Path.{◌≡◌, refl, sym, ◌∙◌, ap, subst}
use mathlib.Core.Bool.{Bool, true, false, cond}
use mathlib.Core.List.{List, [], ◌∷◌, ◌++◌, append-nil}
use mathlib.Core.Logic.{⊎_elim}
use mathlib.Core.Option.{Option, some, none}
use native.Mathlib.Nat.{le_refl, lt_irrefl}
use native.Mathlib.Omega.{arith}
use borrow.Author.Tests.{le-leb, eqb-true, eqb-false, ne_eqb}
use lib.Dec.{leb, eqb}
use lib.ListN.{length, length-append}
use Rattle.std.specs.Result.{IsOk}
use Rattle.std.specs.declared.option.Option.{Option as Found}
use Rattle.std.specs.declared.option.Option.TheVariants.{Some, None}
use Rattle.std.specs.declared.result.Result.{Result}
use Rattle.std.specs.declared.result.Result.TheVariants.{Ok, Err}
use Rattle.rules.specs.Records.{table_bad, unadmitted}
use Rattle.basis.specs.Words.{unless, onto}
use Rattle.rules.specs.Numbers.{TableInRange, StateInRange}
use Rattle.rules.specs.declared.Pairs.{Pairs}
use Rattle.rules.specs.Refusals.{Refused, refused_as, ground, unless_before, bad_table, not_admitted, refusal}
use Rattle.file_rules.specs.MeterFile.{most_bytes, kind_at, next_at, meter_kinds, form, is_record, Record, Reading, and_then, read_from, reading, is_event, events_of, beginning, table_of, events_in, over_limit, malformed_at}
use Rattle.file_rules.specs.Events.{Event, ticked, released, event_at, after, inactive, ticks_after}
use Rattle.file_rules.specs.Printers.{schedule_header, end_line, event_line, refused_line, unless_inactive, schedule_from, schedule_output, fresh_of}
use Rattle.rules.specs.declared.Refusal.{Refusal}
use Rattle.rules.specs.declared.Refusal.TheVariants.{NotActive}
use Rattle.rules.specs.declared.Table.{Table}
use Rattle.laws.proofs.Tests.{some_is_none, below_or_not}
use Rattle.file_laws.proofs.MeterFile.{a_record, next_further, Whole, record_whole, Kind, partition, task, word, release, known_kind}
use Rattle.file_laws.proofs.Records.{reading_small, reading_large, read_on, read_stops, read_ends, before_same, rounds_same, EventsFrom, events-from}
use Rattle.laws.proofs.Keeps.{fresh_in_range, release_in_range, tick_in_range}
use Rattle.verdicts.specs.Outcome.{refused, gives}
use Rattle.verdicts.proofs.Outcomes.{refused_as_lem, given_as, never_both}
use Rattle.scheduler.specs.Promises.{Change, changed_as, made, change, FreshIs}
use Rattle.scheduler.specs.declared.State.{State}
use Rattle.whole_file.specs.Promises.{Judged, JudgeFileIs}
use Rattle.whole_file.specs.declared.MeterFile.{MeterFile}
use Rattle.lines.specs.Lines.{bytes_of, longest_line}
use Rattle.lines.specs.declared.Line.TheVariants as line
use Rattle.lines.proofs.Longest.{no_longer}
use Rattle.schedule_lines.specs.Coming.{Coming, counted_on, ticks_on, plain, event_coming, coming}
use Rattle.schedule_lines.specs.Promises.{Printing, printed_as, printing, OneLineIs}
use Rattle.schedule_lines.specs.declared.Cursor.{Cursor}
use Rattle.schedule_lines.specs.declared.Cursor.TheVariants as cursor
use Rattle.schedule_lines.specs.declared.Printed.{Printed}
use Rattle.outputs.specs.ScheduleMoments.{from, Moment, still, to_write, At, left}
use Rattle.outputs.specs.After.{lines_after, HoldsAfter, left_after}
use Rattle.outputs.specs.ScheduleCalls.{Call, Lines, goes_on, ends, stops, SchedulePrinted}
use Rattle.outputs.specs.ScheduleCalls as calls
use Rattle.outputs.proofs.LineInBuffer.{has_room, refused_written}
use Rattle.outputs.proofs.LineMade.{LineMade, line_last, line_then}
use Rattle.outputs.proofs.JudgedFile.{refused_outputs, output_good, holds, table_is, events_are, whole, in_range, admitted}

-- a kind that may come after an event is an event's
event_there : (k : ℕ) → 0 < (form k).place → (form 3).place ≤ (form k).place → is_event k ≡ true
unfolding form
event_there k l = go k (known_kind k l)
  where
    go : (j : ℕ) → Kind j → (form 3).place ≤ (form j).place → is_event j ≡ true
    go j partition h = absurd (lt_irrefl 1 (omega (arith, h)))
    go j task h = absurd (lt_irrefl 1 (omega (arith, h)))
    go j word h = refl
    go j release h = refl

module _ (file : List ℕ) (t : Table) where
  module _ (s : Pairs) (at ticks : ℕ) (now : Moment file t s at ticks) where
    -- at the end
    pub still_ends : at ≡ length file → still file t s at ticks ≡ end_line ticks
    unfolding still from schedule_from
    still_ends e = ap (λ (x : Reading). schedule_from t file s ticks x.records) (read_ends meter_kinds file (length file) 3 at (rw e (le_refl (length file))))

    -- at a record
    module _ (l : at < length file) where
      abbrev event : Event
      event = event_at t s file (kind_at file at) at

      is_record_lem : is_record meter_kinds 3 file at ≡ true
      unfolding from form
      is_record_lem = go (is_record meter_kinds 3 file at) refl
        where
          go : (a : Bool) → is_record meter_kinds 3 file at ≡ a → a ≡ true
          go true e = refl
          go false e =
              some_is_none
              (sym (ap (λ (x : Reading). x.fault) (rounds_same meter_kinds file (length file) (suc (length file)) 3 at (omega arith) (omega arith) ∙ read_stops meter_kinds file (length file) 3 at l e))
              ∙ now.sound)

      pub far : at + 6 ≤ next_at file at
      far = (next_further meter_kinds 3 file at is_record_lem).0

      -- the record, and the events after it
      from_on : from file t at ≡ and_then (record { kind = kind_at file at; at = at }) (from file t (next_at file at))
      unfolding from form
      from_on =
          rounds_same meter_kinds file (length file) (suc (length file)) 3 at (omega arith) (omega arith)
          ∙ read_on meter_kinds file (length file) 3 at l is_record_lem
          ∙ ap (and_then (record { kind = kind_at file at; at = at })) (before_same meter_kinds file (length file) (kind_at file at) 3 (next_at file at) same_place)
        where
          same_place : (form (kind_at file at)).place ≡ (form 3).place
          same_place = eqb-true (form (kind_at file at)).place 3 (event_there (kind_at file at) whole.known whole.ordered)
            where
              whole : Whole meter_kinds 3 file at
              whole = record_whole meter_kinds 3 file at is_record_lem

      pub still_goes_on : still file t s at ticks ≡ unless_inactive (inactive t s event) (event_line ticks event ++ still file t (after t s event) (next_at file at) (ticks_after ticks event))
      unfolding still schedule_from
      still_goes_on = ap (λ (x : Reading). schedule_from t file s ticks x.records) from_on

      pub next_moment : Moment file t (after t s event) (next_at file at) (ticks_after ticks event)
      next_moment =
          record {
            small = now.small;
            table = now.table;
            state = in_range event;
            inside = (next_further meter_kinds 3 file at is_record_lem).1;
            sound = sym (ap (λ (x : Reading). x.fault) from_on) ∙ now.sound;
            few = counted event;
          }
        where
          in_range : (e : Event) → StateInRange t.count t.period t.budget (after t s e).b (after t s e).o
          in_range (ticked pick) = tick_in_range t.count t.period t.budget t.phase now.table s.b s.o pick now.state
          in_range (released index) = release_in_range t.count t.period t.budget t.phase now.table s.b s.o now.state index

          counted : (e : Event) → ticks_after ticks e ≤ next_at file at
          counted (ticked pick) = let few : ticks ≤ at = now.few in omega (arith, few, far)
          counted (released index) = let few : ticks ≤ at = now.few in omega (arith, few, far)

      pub not_malformed_here : malformed_at meter_kinds 3 file at ≡ none
      not_malformed_here = a_record meter_kinds 3 file at now.small is_record_lem

      pub ticks_on_lem : ticks_on ticks event ≡ ticks_after ticks event
      unfolding counted_on
      ticks_on_lem = go event
        where
          go : (e : Event) → ticks_on ticks e ≡ ticks_after ticks e
          go (ticked pick) = rw (ne_eqb ticks 18446744073709551615 (λ d. large d))
            where
              large : ticks ≡ 18446744073709551615 → ⊥
              large d = let few : ticks ≤ at = now.few in let small : length file ≤ most_bytes = now.small in omega (arith, few, small, d, l)
          go (released index) = refl

-- ---- where the file, the table, the state and the buffer are sound, only 6 can refuse
six_alone : (x y z u v : Option ℕ) → x ≡ none → y ≡ none → z ≡ none → u ≡ none
    → refusal (ground 8 x ∷ ground 1 y ∷ ground 3 z ∷ ground 7 u ∷ ground 6 v ∷ []) ≡ unless_before 6 v none
unfolding refusal
six_alone x y z u v a b c d = rw (a, b, c, d)

-- an event that is allowed has its line, and one that isn't its refusal
unless-none : {v : Option ℕ} (output : List ℕ) → v ≡ none → unless_inactive v output ≡ output
unfolding unless_inactive
unless-none output e = ap (λ (x : Option ℕ). unless_inactive x output) e

unless-some : {v : Option ℕ} (output : List ℕ) (i : ℕ) → v ≡ some i → unless_inactive v output ≡ refused_line (record { number = 6; second = i })
unfolding unless_inactive
unless-some output i e = ap (λ (x : Option ℕ). unless_inactive x output) e

-- neither 1 nor 2
two_none : (x y : Option ℕ) → x ≡ none → y ≡ none → refusal (ground 1 x ∷ ground 2 y ∷ []) ≡ none
unfolding refusal
two_none x y a b = rw (a, b)

-- any line fits into 64 bytes
event-short : (ticks : ℕ) (e : Event) → length (event_line ticks e) ≤ longest_line
unfolding bytes_of
event-short ticks (ticked pick) = no_longer (line.Tick ticks pick)
event-short ticks (released index) = no_longer (line.Release ticks index)

-- what a call made that gives a line, and one that is refused
is_made : {x : Pairs} {n : ℕ} {next : Found Cursor} {bytes : List ℕ} (given : State) (r : Result Printed Refusal) (last : List ℕ)
    → printed_as given r last ≡ record { after = x; says = gives (record { length = n; next = next }); buffer = bytes }
    → (r ≡ Ok (record { state = record { pairs = x }; made = record { length = n; next = next } })) × (last ≡ bytes)
is_made given (Ok p) last e =
    let says = given_as (ap (λ (x : Printing). x.says) e) in
    (λ i. Ok (record { state = record { pairs = (e i).after }; made = record { length = (says i).length; next = (says i).next } }), ap (λ (x : Printing). x.buffer) e)
is_made given (Err q) last e = never_both (sym (ap (λ (x : Printing). x.says) e))

is_refused : {x : Pairs} {why : Refused} {bytes : List ℕ} (given : State) (r : Result Printed Refusal) (last : List ℕ)
    → printed_as given r last ≡ record { after = x; says = refused why; buffer = bytes } → (q : Refusal) × (r ≡ Err q) × (refused_as q ≡ why)
is_refused given (Ok p) last e = never_both (ap (λ (x : Printing). x.says) e)
is_refused given (Err q) last e = (q, refl, refused_as_lem (ap (λ (x : Printing). x.says) e))

module _ (file : List ℕ) (t : Table) where
  module _ (s : State) (c : Cursor) (call : Call file t s c) where
    -- what a call does that gives a line
    abbrev pub ScheduleMade : Printed → Type 0
    ScheduleMade p = LineMade (to_write file t p.state.pairs) (At file t p.state.pairs) (left file t) (to_write file t s.pairs c) (left file t c) call.buffer call.last p.made

    -- a line, or refusal 6, after which there is no more
    pub data Went : Type 0 where
      on : (p : Printed) → call.answer ≡ Ok p → ScheduleMade p → Went
      out : (q : Refusal) (i : ℕ) → refused_as q ≡ record { number = 6; second = i } → call.answer ≡ Err q → to_write file t s.pairs c ≡ refused_line (refused_as q) → Went

    -- one line, where what comes is known and nothing but 6 is against it
    module _ (d : Coming) (same : coming file t s.pairs c ≡ d) (fault : d.fault ≡ none) (short : length d.line ≤ longest_line)
        (table : TableInRange t.count t.period t.budget t.phase) (state : StateInRange t.count t.period t.budget s.pairs.b s.pairs.o) where
      said : printed_as s call.answer call.last ≡ printing (unless_before 6 d.inactive none) s.pairs d call.buffer
      said =
          subst (λ (x : Coming). OneLineIs t s x call.buffer call.answer call.last) same call.is
          ∙ ap (λ (o : Option Refused). printing o s.pairs d call.buffer)
          (six_alone _ _ _ _ d.inactive fault table state.pairs (has_room d.line call.buffer short call.room))

      one : d.inactive ≡ none → to_write file t s.pairs c ≡ d.line ++ lines_after (to_write file t d.after) d.next → HoldsAfter (At file t d.after) d.next → left_after (left file t) d.next < left file t c → Went
      unfolding printing
      one e all at nearer =
          on (record { state = record { pairs = d.after }; made = record { length = length d.line; next = d.next } }) (is_made s call.answer call.last made).0
          (record { bytes = d.line; short = short; count = refl; there = (is_made s call.answer call.last made).1; all = all; at = at; nearer = nearer })
        where
          made : printed_as s call.answer call.last ≡ record { after = d.after; says = gives (record { length = length d.line; next = d.next }); buffer = onto d.line call.buffer }
          made = said ∙ ap (λ (x : Option ℕ). printing (unless_before 6 x none) s.pairs d call.buffer) e

      none_made : (i : ℕ) → d.inactive ≡ some i → to_write file t s.pairs c ≡ refused_line (record { number = 6; second = i }) → Went
      unfolding printing
      none_made i e all =
          let q = is_refused s call.answer call.last (said ∙ ap (λ (x : Option ℕ). printing (unless_before 6 x none) s.pairs d call.buffer) e) in
          out q.0 i q.2 q.1 (all ∙ sym (ap refused_line q.2))

  -- the header
  went_header : (s : State) (events : ℕ) (call : Call file t s (cursor.Header events)) → Moment file t s.pairs events 0 → Went s (cursor.Header events) call
  unfolding coming to_write At left lines_after HoldsAfter left_after
  went_header s events call now =
      one s (cursor.Header events) call (plain file s.pairs schedule_header (Some (cursor.Record events 0))) refl limit (omega arith) now.table now.state refl
      refl now (omega arith)
    where
      limit : over_limit file ≡ none
      limit = ap (λ (a : Bool). unless a most_bytes) (le-leb (length file) most_bytes now.small)

  -- a record, or the end
  went_record : (s : State) (at ticks : ℕ) (call : Call file t s (cursor.Record at ticks)) → Moment file t s.pairs at ticks → Went s (cursor.Record at ticks) call
  unfolding coming to_write At left bytes_of lines_after HoldsAfter left_after
  went_record s at ticks call now = go (eqb at (length file)) refl
    where
      limit : over_limit file ≡ none
      limit = ap (λ (a : Bool). unless a most_bytes) (le-leb (length file) most_bytes now.small)

      go : (a : Bool) → eqb at (length file) ≡ a → Went s (cursor.Record at ticks) call
      go true e =
          let last : at ≡ length file = eqb-true at (length file) e in
          one s (cursor.Record at ticks) call (plain file s.pairs (end_line ticks) None) (rw e) limit (no_longer (line.End ticks)) now.table now.state refl
          (still_ends file t s.pairs at ticks now last ∙ sym (append-nil (end_line ticks))) tt (omega (arith, last))
      go false e = played (inactive t s.pairs event_here) refl
        where
          inside : at < length file
          inside = let least : at ≤ length file = now.inside in let other : at ≡ length file → ⊥ = eqb-false at (length file) e in omega (arith, least, other)

          event_here : Event
          event_here = event_at t s.pairs file (kind_at file at) at

          here : coming file t s.pairs (cursor.Record at ticks) ≡ event_coming file t s.pairs at ticks
          here = rw e

          sound : malformed_at meter_kinds 3 file at ≡ none
          sound = not_malformed_here file t s.pairs at ticks now inside

          goes : still file t s.pairs at ticks ≡ unless_inactive (inactive t s.pairs event_here) (event_line ticks event_here ++ still file t (after t s.pairs event_here) (next_at file at) (ticks_after ticks event_here))
          goes = still_goes_on file t s.pairs at ticks now inside

          same_ticks : ticks_after ticks event_here ≡ ticks_on ticks event_here
          same_ticks = sym (ticks_on_lem file t s.pairs at ticks now inside)

          played : (v : Option ℕ) → inactive t s.pairs event_here ≡ v → Went s (cursor.Record at ticks) call
          played none f =
              let further : at + 6 ≤ next_at file at = far file t s.pairs at ticks now inside in
              one s (cursor.Record at ticks) call (event_coming file t s.pairs at ticks) here sound (event-short ticks event_here) now.table now.state f
              (goes ∙ unless-none _ f ∙ ap (λ (k : ℕ). event_line ticks event_here ++ still file t (after t s.pairs event_here) (next_at file at) k) same_ticks)
              (subst (λ (k : ℕ). Moment file t (after t s.pairs event_here) (next_at file at) k) same_ticks (next_moment file t s.pairs at ticks now inside))
              (omega (arith, further, inside))
          played (some i) f =
              none_made s (cursor.Record at ticks) call (event_coming file t s.pairs at ticks) here sound (event-short ticks event_here) now.table now.state i f
              (goes ∙ unless-some _ i f)

  pub went : (s : State) (c : Cursor) (call : Call file t s c) → At file t s.pairs c → Went s c call
  unfolding At
  went s (cursor.Header events) call now = went_header s events call now
  went s (cursor.Record at ticks) call now = went_record s at ticks call now

  -- at a cursor it isn't the end
  pub some_left : (s : Pairs) (c : Cursor) → At file t s c → 0 < left file t c
  unfolding At left
  some_left s (cursor.Header events) now = omega arith
  some_left s (cursor.Record at ticks) now = let inside : at ≤ length file = now.inside in omega (arith, inside)

  -- what the answer of a call makes
  module _ (s : State) (c : Cursor) (call : Call file t s c) (now : At file t s.pairs c) where
    pub line_made : (p : Printed) → call.answer ≡ Ok p → ScheduleMade s c call p
    line_made p e = go (went s c call now)
      where
        go : Went s c call → ScheduleMade s c call p
        go (on made d m) = let same : made ≡ p = cc in subst (ScheduleMade s c call) same m
        go (out q i six d f) = cc

    pub line_refused : (q : Refusal) → call.answer ≡ Err q → to_write file t s.pairs c ≡ refused_line (refused_as q)
    line_refused q e = go (went s c call now)
      where
        go : Went s c call → to_write file t s.pairs c ≡ refused_line (refused_as q)
        go (on made d m) = cc
        go (out why i six d f) = let same : why ≡ q = cc in f ∙ ap (λ (x : Refusal). refused_line (refused_as x)) same

  -- the calls from a cursor on write what is still to be written there
  joined : {s : State} {c : Cursor} {output : List ℕ} → Lines file t s c output → At file t s.pairs c → output ≡ to_write file t s.pairs c
  joined (goes_on {s} {c} {rest} call p then e goes later) now = line_then _ _ _ _ _ call.buffer call.last p.made (line_made s c call now p e) then goes rest (λ a. joined later a)
  joined (ends {s} {c} call p e goes) now = line_last _ _ _ _ _ call.buffer call.last p.made (line_made s c call now p e) goes
  joined (stops {s} {c} {output} call q e written) now = refused_written q output written ∙ sym (line_refused s c call now q e)

-- ---- how much there can be to write
schedule_short : (file : List ℕ) (t : Table) (s : Pairs) (ticks : ℕ) (rs : List Record) → length (schedule_from t file s ticks rs) ≤ 64 * (length rs + 1)
unfolding schedule_from unless_inactive bytes_of
schedule_short file t s ticks [] = no_longer (line.End ticks)
schedule_short file t s ticks (r ∷ rs) =
    go (inactive t s (event_at t s file r.kind r.at)) (schedule_short file t (after t s (event_at t s file r.kind r.at)) (ticks_after ticks (event_at t s file r.kind r.at)) rs)
  where
    go : (v : Option ℕ) → length (schedule_from t file (after t s (event_at t s file r.kind r.at)) (ticks_after ticks (event_at t s file r.kind r.at)) rs) ≤ 64 * (length rs + 1)
        → length (unless_inactive v (event_line ticks (event_at t s file r.kind r.at) ++ schedule_from t file (after t s (event_at t s file r.kind r.at)) (ticks_after ticks (event_at t s file r.kind r.at)) rs)) ≤ 64 * (suc (length rs) + 1)
    go none h =
        let short = event-short ticks (event_at t s file r.kind r.at) in
        let joined_length = length-append (event_line ticks (event_at t s file r.kind r.at)) (schedule_from t file (after t s (event_at t s file r.kind r.at)) (ticks_after ticks (event_at t s file r.kind r.at)) rs) in
        omega (arith, short, h, joined_length)
    go (some i) h = let short : length (refused_line (record { number = 6; second = i })) ≤ 64 = no_longer (line.Refused (NotActive i)) in omega (arith, short)

records_few : (kinds file : List ℕ) (rounds before at : ℕ) → length (read_from kinds file rounds before at).records ≤ rounds
unfolding read_from
records_few kinds file zero before at = le_refl 0
records_few kinds file (suc rounds) before at = go (leb (length file) at) (is_record kinds before file at) (records_few kinds file rounds (kind_at file at) (next_at file at))
  where
    rest : Reading
    rest = read_from kinds file rounds (kind_at file at) (next_at file at)

    chosen : Bool → Bool → Reading
    chosen a b = cond a (record { records = []; fault = none }) (cond b (and_then (record { kind = kind_at file at; at = at }) rest) (record { records = []; fault = some at }))

    go : (a b : Bool) → length rest.records ≤ rounds → length (chosen a b).records ≤ suc rounds
    go true b h = omega arith
    go false true h = omega arith
    go false false h = omega arith

pub little_to_write : (file : List ℕ) (t : Table) (s : Pairs) (c : Cursor) → At file t s c → length (to_write file t s c) ≤ 4194432
unfolding At to_write still from
little_to_write file t s (cursor.Header events) now =
    let few = records_few meter_kinds file (length file) 3 events in
    let short = schedule_short file t s 0 (read_from meter_kinds file (length file) 3 events).records in
    let small : length file ≤ most_bytes = now.small in
    let all = length-append schedule_header (schedule_from t file s 0 (read_from meter_kinds file (length file) 3 events).records) in
    omega (arith, few, short, small, all)
little_to_write file t s (cursor.Record at ticks) now =
    let few = records_few meter_kinds file (length file) 3 at in
    let short = schedule_short file t s ticks (read_from meter_kinds file (length file) 3 at).records in
    let small : length file ≤ most_bytes = now.small in
    omega (arith, few, short, small)

-- ---- the theorem
module _ (file : List ℕ) (m : MeterFile) (judged : JudgeFileIs file (Ok m)) where
  small : length file ≤ most_bytes
  small = ⊎_elim (λ l. some_is_none (sym (ap (λ (x : Reading). x.fault) (reading_large meter_kinds file l)) ∙ whole file m judged)) (λ l. l) (below_or_not most_bytes (length file))

  events : EventsFrom meter_kinds file (events_in file)
  unfolding events_in
  events =
      subst (λ (x : Reading). EventsFrom meter_kinds file (events_of x.records)) (sym read_all)
      (events-from meter_kinds file (length file) 0 0 (omega arith) (ap (λ (x : Reading). x.fault) (sym read_all) ∙ whole file m judged))
    where
      read_all : reading meter_kinds file ≡ read_from meter_kinds file (length file) 0 0
      read_all = reading_small meter_kinds file small

  -- the moment of the header, with the table and the state of the definitions
  pub first_moment : Moment file (table_of file) (fresh_of (table_of file)) (beginning (events_in file) (length file)) 0
  unfolding from
  first_moment =
      record {
        small = small;
        table = in_range file m judged;
        state = fresh_in_range (table_of file).count (table_of file).period (table_of file).budget (table_of file).phase (in_range file m judged);
        inside = events.inside;
        sound = ap (λ (x : Reading). x.fault) events.read;
        few = omega arith;
      }

  -- and with those of the calls
  fresh_change : (old : State) (r : Result State Refusal) → FreshIs m.table old r → changed_as old r ≡ made (fresh_of (table_of file))
  unfolding change
  fresh_change old r fresh =
      fresh
      ∙ ap (λ (t : Table). change (refusal (table_bad t ∷ unadmitted t ∷ [])) old.pairs (fresh_of t)) (table_is file m judged)
      ∙ ap (λ (o : Option Refused). change o old.pairs (fresh_of (table_of file))) none-against
    where
      none-against : refusal (bad_table (table_of file).count (table_of file).period (table_of file).budget (table_of file).phase ∷ not_admitted (table_of file).count (table_of file).period (table_of file).budget ∷ []) ≡ none
      none-against = two_none _ _ (in_range file m judged) (admitted file m judged)

  -- a fresh start isn't refused
  pub fresh_given : (old : State) (r : Result State Refusal) → FreshIs m.table old r → IsOk r
  fresh_given old (Ok start) fresh = refl
  fresh_given old (Err q) fresh = let differ : some (refused_as q) ≡ none = ap (λ (x : Change). x.refused) (fresh_change old (Err q) fresh) in cc

  module _ (old start : State) (fresh : FreshIs m.table old (Ok start)) where
    pub begins : start.pairs ≡ fresh_of (table_of file)
    begins = ap (λ (x : Change). x.after) (fresh_change old (Ok start) fresh)

    pub start_moment : Moment file m.table start.pairs m.events 0
    start_moment =
        subst (λ (x : Judged). Moment file x.table start.pairs x.events 0) (sym (holds file m judged))
        (subst (λ (p : Pairs). Moment file (table_of file) p (beginning (events_in file) (length file)) 0) (sym begins) first_moment)

    pub start-at : At file m.table start.pairs (cursor.Header m.events)
    unfolding At
    start-at = start_moment

    -- all that is to be written
    pub all-to_write : to_write file m.table start.pairs (cursor.Header m.events) ≡ schedule_header ++ schedule_from (table_of file) file (fresh_of (table_of file)) 0 (events_in file)
    unfolding to_write still from
    all-to_write =
        (λ i. schedule_header ++ schedule_from (table_is file m judged i) file (begins i) 0 (read_from meter_kinds file (length file) 3 (events_are file m judged i)).records)
        ∙ ap (λ (x : Reading). schedule_header ++ schedule_from (table_of file) file (fresh_of (table_of file)) 0 x.records) events.read

    -- is what the calls write
    pub all_written : {output : List ℕ} → Lines file m.table start (cursor.Header m.events) output
        → output ≡ schedule_header ++ schedule_from (table_of file) file (fresh_of (table_of file)) 0 (events_in file)
    all_written lines = joined file m.table lines start-at ∙ all-to_write

pub schedule_printed : (file : List ℕ) {output : List ℕ} → SchedulePrinted file output → output ≡ schedule_output file
unfolding schedule_output
schedule_printed file (calls.refused {output} q judged written) = refused_written q output written ∙ (refused_outputs file q judged).0
schedule_printed file (calls.printed {output} m judged old start fresh lines) = all_written file m judged old start fresh lines ∙ sym (output_good file m judged _)
