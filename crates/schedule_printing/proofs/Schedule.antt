-- The pages of a schedule: what a page holds and what is to come make all that was to be written; and the pages, counted.
use Prim.Native.Nat.{ℕ, ◌+◌, ◌-◌, ◌≤◌, ◌<◌}
use mathlib.Core.Path.{◌≡◌, refl, sym, ◌∙◌, ap, subst}
use mathlib.Core.List.{List, [], ◌++◌, append_assoc, append-nil}
use native.Mathlib.Nat.{le_refl, zero-add}
use native.Mathlib.Omega.{arith}
use lib.ListN.{length, take}
use lib.Seq.{length-take-le}
use Rattle.std.specs.declared.option.Option.{Option}
use Rattle.std.specs.declared.option.Option.TheVariants.{Some, None}
use Rattle.std.specs.declared.result.Result.{Result}
use Rattle.std.specs.declared.result.Result.TheVariants.{Ok, Err}
use Rattle.std.specs.Io.KnownBytes.{Appends}
use Rattle.std.proofs.KnownBytes.{Appends-nil, Appends-trans}
use Rattle.sending.specs.Writing.{AppendsPart}
use Rattle.sending.proofs.Parts.{part_behind}
use borrow.Rule.Slice.PartMut.{take_put}
use Rattle.rules.specs.Refusals.{refused_as}
use Rattle.file_rules.specs.Printers.{refused_line, schedule_output}
use Rattle.rules.specs.declared.Refusal.{Refusal}
use Rattle.rules.specs.declared.Table.{Table}
use Rattle.scheduler.specs.Promises.{FreshIs}
use Rattle.scheduler.specs.declared.State.{State}
use Rattle.schedule_lines.specs.Promises.{ScheduleLineIs}
use Rattle.schedule_lines.specs.declared.Cursor.{Cursor}
use Rattle.schedule_lines.specs.declared.Cursor.TheVariants as cursor
use Rattle.schedule_lines.specs.declared.Printed.{Printed}
use Rattle.whole_file.specs.Promises.{JudgeFileIs}
use Rattle.whole_file.specs.declared.MeterFile.{MeterFile}
use Rattle.schedule_printing.specs.Pages.{to_come, Onward, PageIs}
use Rattle.schedule_printing.specs.declared.Page.{Page}
use Rattle.outputs.proofs.JudgedFile.{output_good}
use Rattle.outputs.proofs.Counting.{split_off}
use Rattle.outputs.proofs.LineInBuffer.{part_from, put_from, room_from}
use Rattle.outputs.proofs.LineMade.{line_put}
use Rattle.outputs.specs.ScheduleCalls.{Call}
use Rattle.outputs.specs.ScheduleMoments.{Moment, to_write, At, left}
use Rattle.outputs.specs.After.{lines_after, HoldsAfter, left_after}
use Rattle.outputs.proofs.Schedule.{ScheduleMade, line_made, line_refused, some_left, little_to_write, all-to_write}

-- ---- a page, line by line
module _ (file : List ℕ) (t : Table) (start : State) (from : Cursor) where
  -- after some lines: where more are to come, it is nearer to the end than the page began, if there is a line
  unfoldable pub Going : State → Option Cursor → ℕ → Type 0
  Going state (Some c) used = At file t state.pairs c × (left file t c ≤ left file t from) × (0 < used → left file t c < left file t from)
  Going state None used = Unit {0}

  pub record Filling (state : State) (next : Option Cursor) (used : ℕ) (buffer : List ℕ) : Type 0 where
    pub long : length buffer ≡ 4096
    pub held : used ≤ 4096
    pub going : Going state next used
    pub bytes : take used buffer ++ lines_after (to_write file t state.pairs) next ≡ to_write file t start.pairs from

  pub page_begins : (buffer : List ℕ) → length buffer ≡ 4096 → At file t start.pairs from → Filling start (Some from) 0 buffer
  unfolding Going lines_after
  page_begins buffer long at = record { long = long; held = omega arith; going = (at, le_refl _, λ l. absurd (omega (arith, l))); bytes = refl }

  module _ (state : State) (next : Option Cursor) (used : ℕ) (buffer : List ℕ) (here : Filling state next used buffer) where
    -- there is no other line, or it might not fit
    pub page_ends : ((c : Cursor) → next ≡ Some c → 4032 < used) → PageIs file t start from (record { used = used; state = state; rest = Ok next }) buffer
    unfolding Going Onward to_come lines_after
    page_ends full = go next full here.going here.bytes
      where
        go : (x : Option Cursor) → ((c : Cursor) → x ≡ Some c → 4032 < used) → Going state x used → take used buffer ++ lines_after (to_write file t state.pairs) x ≡ to_write file t start.pairs from
            → PageIs file t start from (record { used = used; state = state; rest = Ok x }) buffer
        go (Some c) many g bytes = record { within = rw here.long here.held; bytes = bytes; onward = (g.0, g.2 (let l = many c refl in omega (arith, l))) }
        go None many g bytes = record { within = rw here.long here.held; bytes = bytes; onward = tt }

    -- one line, lent the buffer from a place on: that what is held ends there is asked only where the bytes matter
    module _ (c : Cursor) (goes : next ≡ Some c) (room : used ≤ 4032) (at : ℕ) (r : Result Printed Refusal) (last : List ℕ)
        (is : ScheduleLineIs t state file c (part_from at buffer) r last) (near : at ≤ used) where
      now : At file t state.pairs c × (left file t c ≤ left file t from) × (0 < used → left file t c < left file t from)
      unfolding Going
      now = subst (λ (x : Option Cursor). Going state x used) goes here.going

      all : take used buffer ++ to_write file t state.pairs c ≡ to_write file t start.pairs from
      unfolding lines_after
      all = ap (λ (x : Option Cursor). take used buffer ++ lines_after (to_write file t state.pairs) x) (sym goes) ∙ here.bytes

      call : Call file t state c
      call = let long = here.long in record { buffer = part_from at buffer; room = room_from at used buffer near (omega (arith, long, room)); answer = r; last = last; is = is }

      inside : used ≤ length buffer
      inside = let long = here.long in omega (arith, long, room)

      -- a line is short, and one more of the page
      module _ (p : Printed) (e : r ≡ Ok p) where
        line : ScheduleMade file t state c call p
        unfolding call
        line = line_made file t state c call now.0 p e

        pub short : p.made.length ≤ 64
        short = let count = line.count in let few = line.short in omega (arith, count, few)

        pub filled : at ≡ used → length (put_from at buffer last) ≡ length buffer → Filling p.state p.made.next (used + p.made.length) (put_from at buffer last)
        unfolding call Going HoldsAfter left_after
        filled there same_long =
            let few = short in
            record {
              long = same_long ∙ here.long;
              held = omega (arith, few, room);
              going = go p.made.next line.at line.nearer;
              bytes = line_put _ _ _ _ _ at used buffer last p.made line there inside ∙ all;
            }
          where
            go : (x : Option Cursor) → HoldsAfter (At file t p.state.pairs) x → left_after (left file t) x < left file t c → Going p.state x (used + p.made.length)
            go (Some after) at l = let least = now.1 in (at, omega (arith, least, l), λ some. omega (arith, least, l))
            go None at l = tt

        pub line_nearer : left_after (left file t) p.made.next < left_after (left file t) next
        unfolding left_after
        line_nearer = subst (λ (x : Option Cursor). left_after (left file t) p.made.next < left_after (left file t) x) (sym goes) line.nearer

      -- a refusal: the lines before it, and then its own
      pub page_refused : (q : Refusal) → r ≡ Err q → at ≡ used → length (put_from at buffer last) ≡ length buffer → PageIs file t start from (record { used = used; state = state; rest = Err q }) (put_from at buffer last)
      unfolding Onward to_come call
      page_refused q e there same_long =
          record {
            within = rw same_long inside;
            bytes =
                ap (λ (x : ℕ). take used (put_from x buffer last) ++ refused_line (refused_as q)) there
                ∙ ap (λ (xs : List ℕ). xs ++ refused_line (refused_as q)) (take_put used (length buffer - used) buffer last inside)
                ∙ ap (λ (xs : List ℕ). take used buffer ++ xs) (sym (line_refused file t state c call now.0 q e))
                ∙ all;
            onward = tt;
          }

-- ---- page by page
-- what is to come after a page that isn't refused
come : (file : List ℕ) (t : Table) (state : State) (next : Option Cursor) → to_come file t state (Ok next) ≡ lines_after (to_write file t state.pairs) next
unfolding to_come
come file t state next = refl

module _ (file : List ℕ) (t : Table) (total : ℕ) where
  pub record Sending (state : State) (next : Option Cursor) (sent : ℕ) (buffer : List ℕ) : Type 0 where
    pub long : length buffer ≡ 4096
    pub at : HoldsAfter (At file t state.pairs) next
    pub sum : sent + length (lines_after (to_write file t state.pairs) next) ≡ total

  module _ (state : State) (next : Option Cursor) (sent : ℕ) (buffer : List ℕ) (here : Sending state next sent buffer) where
    pub all_sent : next ≡ None → sent ≡ total
    unfolding lines_after
    all_sent e = let sum : sent + 0 ≡ total = subst (λ (x : Option Cursor). sent + length (lines_after (to_write file t state.pairs) x) ≡ total) e here.sum in omega (arith, sum)

    module _ (c : Cursor) (goes : next ≡ Some c) where
      pub page-begins : (length buffer ≡ 4096) × At file t state.pairs c
      unfolding HoldsAfter
      page-begins = (here.long, subst (HoldsAfter (At file t state.pairs)) goes here.at)

      -- a page is sent
      module _ (r : Page) (last : List ℕ) (is : PageIs file t state c r last) where
        with_page : (x : Result (Option Cursor) Refusal) → r.rest ≡ x → sent + r.used + length (to_come file t r.state x) ≡ total
        unfolding lines_after
        with_page x e =
            subst (λ (y : Result (Option Cursor) Refusal). sent + r.used + length (to_come file t r.state y) ≡ total) e
            (split_off sent r.used total (take r.used last) (to_come file t r.state r.rest) _ (sym (length-take-le r.used last is.within)) (sym is.bytes)
            (subst (λ (y : Option Cursor). sent + length (lines_after (to_write file t state.pairs) y) ≡ total) goes here.sum))

        pub fits : sent + r.used ≤ total
        fits = let sum = with_page r.rest refl in omega (arith, sum)

        pub refusal-left : (q : Refusal) → r.rest ≡ Err q → sent + r.used + length (refused_line (refused_as q)) ≡ total
        unfolding to_come
        refusal-left q e = with_page (Err q) e

        module _ (after : Option Cursor) (e : r.rest ≡ Ok after) where
          onward : Onward file t c r.state (Ok after)
          onward = subst (λ (x : Result (Option Cursor) Refusal). Onward file t c r.state x) e is.onward

          pub sends_on : length last ≡ length buffer → Sending r.state after (sent + r.used) last
          unfolding Onward HoldsAfter
          sends_on size =
              record {
                long = size ∙ here.long;
                at = go after onward;
                sum = subst (λ (xs : List ℕ). sent + r.used + length xs ≡ total) (come file t r.state after) (with_page (Ok after) e);
              }
            where
              go : (x : Option Cursor) → Onward file t c r.state (Ok x) → HoldsAfter (At file t r.state.pairs) x
              go (Some d) o = o.0
              go None o = tt

          pub nearer : left_after (left file t) after < left_after (left file t) next
          unfolding Onward left_after
          nearer = subst (λ (x : Option Cursor). left_after (left file t) after < left_after (left file t) x) (sym goes) (go after onward)
            where
              go : (x : Option Cursor) → Onward file t c r.state (Ok x) → left_after (left file t) x < left file t c
              go (Some d) o = o.1
              go None o = some_left file t state.pairs c page-begins.1

pub sending_begins : (file : List ℕ) (t : Table) (start : State) (events : ℕ) (buffer : List ℕ) → length buffer ≡ 4096 → Moment file t start.pairs events 0
    → Sending file t (length (to_write file t start.pairs (cursor.Header events))) start (Some (cursor.Header events)) 0 buffer
    × (length (to_write file t start.pairs (cursor.Header events)) ≤ 4194432)
unfolding At HoldsAfter lines_after
sending_begins file t start events buffer long now = (record { long = long; at = now; sum = zero-add _ }, little_to_write file t start.pairs (cursor.Header events) now)

-- ---- the whole output
pub schedule_bytes : (file : List ℕ) (m : MeterFile) → JudgeFileIs file (Ok m) → (old start : State) → FreshIs m.table old (Ok start)
    → to_write file m.table start.pairs (cursor.Header m.events) ≡ schedule_output file
unfolding schedule_output
schedule_bytes file m judged old start fresh = all-to_write file m judged old start fresh ∙ sym (output_good file m judged _)

-- ---- what a writer holds of it
-- a writer that held the one now holds the other, grown by bytes that the rest makes whole
abbrev pub Grown : Option (List ℕ) → Option (List ℕ) → List ℕ → List ℕ → Type 0
Grown old new rest whole = (sent : List ℕ) × Appends old new sent × (sent ++ rest ≡ whole)

-- one more part of what is still to be written
pub grown_on : (old new after : Option (List ℕ)) (part rest more whole : List ℕ) → Grown old new more whole → Appends new after part → part ++ rest ≡ more → Grown old after rest whole
grown_on old new after part rest more whole g a e =
    (g.0 ++ part, Appends-trans old new after g.0 part g.1 a, append_assoc g.0 part rest ∙ ap (λ (xs : List ℕ). g.0 ++ xs) e ∙ g.2)

-- nothing is still to be written
pub grown_ends : (old new : Option (List ℕ)) (whole : List ℕ) → Grown old new [] whole → Appends old new whole
grown_ends old new whole g = subst (Appends old new) (sym (append-nil g.0) ∙ g.2) g.1

-- a first part of the next part, where a write failed
pub grown_part : (old new after : Option (List ℕ)) (part rest more whole : List ℕ) → Grown old new more whole → AppendsPart new after part → part ++ rest ≡ more → AppendsPart old after whole
grown_part old new after part rest more whole g a e =
    part_behind old new after g.0 part rest whole (append_assoc g.0 part rest ∙ ap (λ (xs : List ℕ). g.0 ++ xs) e ∙ g.2) g.1 a

pub all_to_come : (file : List ℕ) (t : Table) (start : State) (c : Cursor) (held : Option (List ℕ)) → Grown held held (lines_after (to_write file t start.pairs) (Some c)) (to_write file t start.pairs c)
unfolding lines_after
all_to_come file t start c held = ([], Appends-nil held, refl)

module _ (file : List ℕ) (t : Table) (state : State) (next : Option Cursor) (old new : Option (List ℕ)) (whole : List ℕ) (g : Grown old new (lines_after (to_write file t state.pairs) next) whole) where
  pub nothing_left : next ≡ None → Appends old new whole
  unfolding lines_after
  nothing_left e = grown_ends old new whole (subst (λ (x : Option Cursor). Grown old new (lines_after (to_write file t state.pairs) x) whole) e g)

  module _ (c : Cursor) (goes : next ≡ Some c) (r : Page) (out : List ℕ) (is : PageIs file t state c r out) (after : Option (List ℕ)) where
    here : Grown old new (to_write file t state.pairs c) whole
    unfolding lines_after
    here = subst (λ (x : Option Cursor). Grown old new (lines_after (to_write file t state.pairs) x) whole) goes g

    -- a page was cut short
    pub page_cut : AppendsPart new after (take r.used out) → AppendsPart old after whole
    page_cut a = grown_part old new after (take r.used out) _ _ whole here a is.bytes

    module _ (sent : Appends new after (take r.used out)) where
      page_sent : (x : Result (Option Cursor) Refusal) → r.rest ≡ x → Grown old after (to_come file t r.state x) whole
      page_sent x e = subst (λ (y : Result (Option Cursor) Refusal). Grown old after (to_come file t r.state y) whole) e (grown_on old new after (take r.used out) _ _ whole here sent is.bytes)

      pub lines_left : (then : Option Cursor) → r.rest ≡ Ok then → Grown old after (lines_after (to_write file t r.state.pairs) then) whole
      lines_left then e = subst (λ (xs : List ℕ). Grown old after xs whole) (come file t r.state then) (page_sent (Ok then) e)

      module _ (q : Refusal) (last : Option (List ℕ)) (e : r.rest ≡ Err q) where
        left_over : Grown old after (refused_line (refused_as q)) whole
        unfolding to_come
        left_over = page_sent (Err q) e

        pub refusal_sent : Appends after last (refused_line (refused_as q)) → Appends old last whole
        refusal_sent a = grown_ends old last whole (grown_on old after last (refused_line (refused_as q)) [] _ whole left_over a (append-nil _))

        -- the line of a refusal was cut short
        pub refusal_cut : AppendsPart after last (refused_line (refused_as q)) → AppendsPart old last whole
        refusal_cut a = grown_part old after last (refused_line (refused_as q)) [] _ whole left_over a (append-nil _)
