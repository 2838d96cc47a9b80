-- A line that is put into the buffer, and what is against it.
use Prim.Native.Nat.{ℕ, ◌≤◌, ◌<◌}
use mathlib.Core.Path.{◌≡◌, refl, sym, ◌∙◌, ap}
use mathlib.Core.List.{List, [], ◌∷◌}
use mathlib.Core.Option.{Option, some, none}
use borrow.Author.Tests.{le-leb, lt-leb}
use lib.ListN.{length}
use Rattle.std.specs.declared.option.Option.{Option as Found}
use Rattle.std.specs.declared.result.Result.{Result}
use Rattle.std.specs.declared.result.Result.TheVariants.{Ok, Err}
use Rattle.basis.specs.Words.{onto}
use Rattle.rules.specs.Refusals.{Refused, refused_as, short_buffer, refusal}
use Rattle.file_rules.specs.MeterFile.{most_bytes, over_limit}
use Rattle.rules.specs.declared.Refusal.{Refusal}
use Rattle.rules.specs.declared.Refusal.TheVariants.{BadRecord}
use Rattle.rules.specs.declared.Table.{Table}
use Rattle.laws.proofs.Refusals.{nothing_last, line_first, size_first, file_alone, refused-first, refused_then}
use Rattle.verdicts.specs.Outcome.{gives}
use Rattle.verdicts.proofs.Outcomes.{never_both}
use Rattle.verdicts.proofs.Verdicts.{verdict_refused, refused_early, left_to_others}
use Rattle.scheduler.specs.Promises.{JudgedIs}
use Rattle.scheduler.specs.declared.State.{State}
use Rattle.lines.specs.Lines.{bytes_of}
use Rattle.lines.specs.Promises as line
use Rattle.lines.specs.declared.Line.{Line}
use Rattle.lines.specs.declared.Made.{Made}
use Rattle.schedule_lines.specs.Coming.{Coming, plain}
use Rattle.schedule_lines.specs.Promises.{printed_as, printing, against, OneLineIs, SizeJudgedIs, PlainIs}
use Rattle.schedule_lines.specs.declared.Cursor.{Cursor}

-- ---- a line that comes, against which there is 7 at most, as it is put
module _ (t : Table) (s : State) (c : Coming) (buffer : List ℕ) (fine : refusal (against t s c buffer) ≡ refusal (short_buffer (length c.line) (length buffer) ∷ [])) where
  module _ (l : Line) (its : bytes_of l ≡ c.line) (m : Result (Made Cursor) Refusal) (last : List ℕ) (e : line.PutLineIs l c.next buffer m last) where
    abbrev short : Option Refused
    short = refusal (short_buffer (length (bytes_of l)) (length buffer) ∷ [])

    said : short ≡ refusal (against t s c buffer)
    said = ap (λ (bytes : List ℕ). refusal (short_buffer (length bytes) (length buffer) ∷ [])) its ∙ sym fine

    pub line_made : (after : State) → after.pairs ≡ c.after → (made : Made Cursor) → m ≡ Ok made → OneLineIs t s c buffer (Ok (record { state = after; made = made })) last
    unfolding line.printing printing
    line_made after then made d = go short (ap (λ (x : Result (Made Cursor) Refusal). line.printed_as x last) (sym d) ∙ e) ∙ ap (λ (o : Option Refused). printing o s.pairs c buffer) said
      where
        go : (o : Option Refused) → line.printed_as (Ok made) last ≡ line.printing o (bytes_of l) c.next buffer
            → printed_as s (Ok (record { state = after; made = made })) last ≡ printing o s.pairs c buffer
        go none h =
            λ i.
            record {
              after = then i;
              says = (ap (λ (w : line.Printing Cursor). w.says) h ∙ ap (λ (bytes : List ℕ). gives (record { length = length bytes; next = c.next })) its) i;
              buffer = (ap (λ (w : line.Printing Cursor). w.buffer) h ∙ ap (λ (bytes : List ℕ). onto bytes buffer) its) i;
            }
        go (some r) h = never_both (ap (λ (w : line.Printing Cursor). w.says) h)

    pub line_refused : (q : Refusal) → m ≡ Err q → OneLineIs t s c buffer (Err q) last
    unfolding line.printing printing
    line_refused q d = go short (ap (λ (x : Result (Made Cursor) Refusal). line.printed_as x last) (sym d) ∙ e) ∙ ap (λ (o : Option Refused). printing o s.pairs c buffer) said
      where
        go : (o : Option Refused) → line.printed_as (Err q) last ≡ line.printing o (bytes_of l) c.next buffer → printed_as s (Err q) last ≡ printing o s.pairs c buffer
        go none h = never_both (sym (ap (λ (w : line.Printing Cursor). w.says) h))
        go (some r) h = λ i. record { after = s.pairs; says = (h i).says; buffer = (h i).buffer }

module _ (t : Table) (s : State) (file : List ℕ) where
  -- ---- 8 for the size, 1 and 3
  pub too_large : most_bytes < length file → SizeJudgedIs t s file (Err (BadRecord most_bytes))
  too_large l =
      verdict_refused (Err (BadRecord most_bytes)) (BadRecord most_bytes) refl
      ∙ sym (refused-first (size_first _ _ _) (refused_as (BadRecord most_bytes)) (file_alone (over_limit file) ∙ rw (lt-leb (length file) most_bytes l)))

  pub judged_on : length file ≤ most_bytes → (v : Result Unit Refusal) → JudgedIs t s v → SizeJudgedIs t s file v
  judged_on l v e = e ∙ sym (refused_then (size_first _ _ _) (file_alone (over_limit file) ∙ rw (le-leb (length file) most_bytes l)))

  -- ---- a line that no record makes
  module _ (l : Line) (next : Found Cursor) (buffer : List ℕ) (v : Result Unit Refusal) (e : SizeJudgedIs t s file v) where
    pub plain_refused : (q : Refusal) → v ≡ Err q → PlainIs t s file l next buffer (Err q) buffer
    unfolding printing
    plain_refused q d = ap (λ (o : Option Refused). printing o s.pairs (plain file s.pairs (bytes_of l) next) buffer) (sym (refused_early (line_first _ _ _ _ _) v e q d))

    module _ (d : v ≡ Ok tt) (m : Result (Made Cursor) Refusal) (last : List ℕ) (f : line.PutLineIs l next buffer m last) where
      fine : refusal (against t s (plain file s.pairs (bytes_of l) next) buffer) ≡ refusal (short_buffer (length (bytes_of l)) (length buffer) ∷ [])
      fine = left_to_others (line_first _ _ _ _ _) v e d ∙ nothing_last (short_buffer (length (bytes_of l)) (length buffer) ∷ []) 6

      pub plain_short : (q : Refusal) → m ≡ Err q → PlainIs t s file l next buffer (Err q) last
      plain_short = line_refused t s (plain file s.pairs (bytes_of l) next) buffer fine l refl m last f

      pub plain_made : (made : Made Cursor) → m ≡ Ok made → PlainIs t s file l next buffer (Ok (record { state = s; made = made })) last
      plain_made = line_made t s (plain file s.pairs (bytes_of l) next) buffer fine l refl m last f s refl
