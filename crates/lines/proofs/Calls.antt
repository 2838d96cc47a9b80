-- From the fields to what the calls promise.
use Prim.Native.Nat.{ℕ, ◌≤◌, ◌<◌}
use mathlib.Core.Path.{◌≡◌, refl, sym, ◌∙◌, ap, ap₂}
use mathlib.Core.Bool.{Bool, true, false}
use mathlib.Core.List.{List, [], ◌∷◌}
use mathlib.Core.Option.{Option, some, none}
use native.Mathlib.Nat.{zero-add, le_trans}
use borrow.Author.Tests.{le-leb, lt-leb}
use lib.Dec.{leb}
use lib.ListN.{length}
use Rattle.basis.specs.Words.{unless, onto}
use Rattle.std.specs.declared.option.Option.{Option as Found}
use Rattle.std.specs.declared.result.Result.{Result}
use Rattle.std.specs.declared.result.Result.TheVariants.{Ok, Err}
use Rattle.rules.specs.Refusals.{Refused, refused_as, short_buffer, refusal, unless_before}
use Rattle.rules.specs.declared.Refusal.{Refusal}
use Rattle.rules.specs.declared.Refusal.TheVariants.{ShortBuffer}
use Rattle.laws.proofs.Refusals.{seven, late_alone}
use Rattle.verdicts.specs.Outcome.{refused, gives}
use Rattle.verdicts.proofs.Outcomes.{refused_as_lem, given_as, never_both}
use Rattle.lines.specs.Lines.{bytes_of, longest_line, written_as}
use Rattle.lines.specs.Fields.{line_of, Put}
use Rattle.lines.specs.Promises.{LineLengthIs, Writing, wrote_as, writing, WriteLineIs, printed_as, printing, PutLineIs}
use Rattle.lines.specs.declared.Fields.{Fields}
use Rattle.lines.specs.declared.Line.{Line}
use Rattle.lines.specs.declared.Made.{Made}
use Rattle.lines.proofs.Puts.{sets-onto}
use Rattle.lines.proofs.Longest.{no_longer}

-- ---- a buffer that is too short, and one that is not
module _ (bytes buffer : List ℕ) where
  judged : (t : Bool) → leb (length bytes) (length buffer) ≡ t → refusal (short_buffer (length bytes) (length buffer) ∷ []) ≡ unless_before 7 (unless t (length bytes)) none
  judged t e = late_alone seven (unless (leb (length bytes) (length buffer)) (length bytes)) ∙ ap (λ (a : Bool). unless_before 7 (unless a (length bytes)) none) e

  is_short : length buffer < length bytes
      → writing (refusal (short_buffer (length bytes) (length buffer) ∷ [])) bytes buffer ≡ wrote_as (Err (ShortBuffer (length bytes))) buffer
  unfolding writing
  is_short l = ap (λ (r : Option Refused). writing r bytes buffer) (judged false (lt-leb (length bytes) (length buffer) l))

  pub has_room : length bytes ≤ length buffer
      → writing (refusal (short_buffer (length bytes) (length buffer) ∷ [])) bytes buffer ≡ wrote_as (Ok (length bytes)) (onto bytes buffer)
  unfolding writing
  has_room l = ap (λ (r : Option Refused). writing r bytes buffer) (judged true (le-leb (length bytes) (length buffer) l))

-- ---- the calls
module _ (l : Line) (f : Fields) (same : line_of f ≡ bytes_of l) (needed : ℕ) (counted : needed ≡ length (line_of f)) where
  pub length_is : LineLengthIs l needed
  length_is = counted ∙ ap length same

  module _ (buffer : List ℕ) where
    pub write_short : length buffer < needed → WriteLineIs l buffer (Err (ShortBuffer needed)) buffer
    write_short short = ap (λ n. wrote_as (Err (ShortBuffer n)) buffer) length_is ∙ sym (is_short (bytes_of l) buffer (rw (sym length_is) short))

    module _ (room : needed ≤ length buffer) where
      write_room : length (line_of f) ≤ length buffer
      write_room = rw (sym counted) room

      pub write_made : (r : ℕ) (last : List ℕ) → Put 0 (line_of f) buffer last r → WriteLineIs l buffer (Ok r) last
      write_made r last put =
          ap₂ (λ (n : ℕ) (b : List ℕ). wrote_as (Ok n) b)
          (put.next ∙ zero-add (length (line_of f)) ∙ ap length same)
          (put.buffer ∙ sets-onto (line_of f) buffer write_room ∙ ap (λ (bytes : List ℕ). onto bytes buffer) same)
          ∙ sym (has_room (bytes_of l) buffer (rw (sym length_is) room))

-- ---- what the answer of `write_line` says to its caller
module _ (l : Line) (buffer : List ℕ) (w : Result ℕ Refusal) (last : List ℕ) (e : WriteLineIs l buffer w last) where
  abbrev short : Option Refused
  short = refusal (short_buffer (length (bytes_of l)) (length buffer) ∷ [])

  pub was_written : (n : ℕ) → w ≡ Ok n → (short ≡ none) × (n ≡ length (bytes_of l)) × (last ≡ onto (bytes_of l) buffer)
  unfolding writing
  was_written n d = go short refl e
    where
      go : (o : Option Refused) → short ≡ o → wrote_as w last ≡ writing o (bytes_of l) buffer → (short ≡ none) × (n ≡ length (bytes_of l)) × (last ≡ onto (bytes_of l) buffer)
      go none f h = (f, given_as (sym (ap written_as d) ∙ ap (λ (x : Writing). x.says) h), ap (λ (x : Writing). x.buffer) h)
      go (some r) f h = never_both (sym (ap written_as d) ∙ ap (λ (x : Writing). x.says) h)

  pub was_short : (q : Refusal) → w ≡ Err q → (short ≡ some (refused_as q)) × (last ≡ buffer)
  unfolding writing
  was_short q d = go short refl e
    where
      go : (o : Option Refused) → short ≡ o → wrote_as w last ≡ writing o (bytes_of l) buffer → (short ≡ some (refused_as q)) × (last ≡ buffer)
      go none f h = never_both (sym (ap (λ (x : Writing). x.says) h) ∙ ap written_as d)
      go (some r) f h = (f ∙ ap some (sym (refused_as_lem (sym (ap written_as d) ∙ ap (λ (x : Writing). x.says) h))), ap (λ (x : Writing). x.buffer) h)

  -- ---- and what `put_line` says, which calls it
  module _ {C : Type 0} (next : Found C) where
    said : (o : Option Refused) → short ≡ o → (r : Result (Made C) Refusal) → printed_as r last ≡ printing o (bytes_of l) next buffer → PutLineIs l next buffer r last
    said o f r h = h ∙ ap (λ (x : Option Refused). printing x (bytes_of l) next buffer) (sym f)

    pub put_made : (n : ℕ) → w ≡ Ok n → PutLineIs l next buffer (Ok (record { length = n; next = next })) last
    unfolding printing
    put_made n d = let f = was_written n d in said none f.0 (Ok (record { length = n; next = next })) (λ i. record { says = gives (record { length = f.1 i; next = next }); buffer = f.2 i })

    pub put_refused : (q : Refusal) → w ≡ Err q → PutLineIs l next buffer (Err q) last
    unfolding printing
    put_refused q d = let f = was_short q d in said (some (refused_as q)) f.0 (Err q) (λ i. record { says = refused (refused_as q); buffer = f.1 i })

-- ---- a buffer of 64 bytes is never too short
is_given : (r : Result ℕ Refusal) (n : ℕ) → written_as r ≡ gives n → r ≡ Ok n
is_given (Ok m) n e = cc
is_given (Err q) n e = cc

pub always_written : (l : Line) (buffer : List ℕ) (r : Result ℕ Refusal) (last : List ℕ) → longest_line ≤ length buffer → WriteLineIs l buffer r last
    → (r ≡ Ok (length (bytes_of l))) × (last ≡ onto (bytes_of l) buffer)
always_written l buffer r last room e =
    let same = e ∙ has_room (bytes_of l) buffer (le_trans (no_longer l) room) in
    (is_given r (length (bytes_of l)) (ap (λ (w : Writing). w.says) same), ap (λ (w : Writing). w.buffer) same)
