-- A line that a call makes, of either printer: it is at the start of the call's buffer, and what was to be written is that line and what is after it.
use Prim.Native.Nat.{ℕ, ◌+◌, ◌≤◌, ◌<◌}
use mathlib.Core.Path.{◌≡◌, sym, ◌∙◌, ap, subst}
use mathlib.Core.List.{List, ◌++◌, append_assoc, append-nil}
use lib.ListN.{length, take}
use Rattle.std.specs.declared.option.Option.{Option as Found}
use Rattle.std.specs.declared.option.Option.TheVariants.{Some, None}
use Rattle.basis.specs.Words.{onto}
use Rattle.lines.specs.Lines.{longest_line}
use Rattle.lines.specs.declared.Made.{Made}
use Rattle.outputs.specs.After.{lines_after, HoldsAfter, left_after}
use Rattle.outputs.proofs.LineInBuffer.{taken, part_from, put_from, line_added}

-- what is to be written at a cursor, what holds there, and how far it is from the end; and what was to be written at the call's, and how far that was
module _ {C : Type 0} (lines : C → List ℕ) (Holds : C → Type 0) (left : C → ℕ) (whole : List ℕ) (far : ℕ) where
  pub record LineMade (buffer last : List ℕ) (made : Made C) : Type 0 where
    pub bytes : List ℕ
    pub short : length bytes ≤ longest_line
    pub count : made.length ≡ length bytes
    pub there : last ≡ onto bytes buffer
    pub all : whole ≡ bytes ++ lines_after lines made.next
    pub at : HoldsAfter Holds made.next
    pub nearer : left_after left made.next < far

  module _ (buffer last : List ℕ) (made : Made C) (m : LineMade buffer last made) where
    -- it is the last one, or lines come after it
    pub line_last : made.next ≡ None → take made.length last ≡ whole
    unfolding lines_after
    line_last e =
        taken made.length m.bytes buffer last m.count m.there
        ∙ sym (append-nil m.bytes)
        ∙ ap (λ (o : Found C). m.bytes ++ lines_after lines o) (sym e)
        ∙ sym m.all

    pub line_then : (c : C) → made.next ≡ Some c → (rest : List ℕ) → (Holds c → rest ≡ lines c) → take made.length last ++ rest ≡ whole
    unfolding lines_after HoldsAfter
    line_then c e rest same =
        (λ i. taken made.length m.bytes buffer last m.count m.there i ++ same (subst (HoldsAfter Holds) e m.at) i)
        ∙ ap (λ (o : Found C). m.bytes ++ lines_after lines o) (sym e)
        ∙ sym m.all

  -- it comes behind what the buffer holds
  pub line_put : (start used : ℕ) (buffer last : List ℕ) (made : Made C) → LineMade (part_from start buffer) last made → start ≡ used → used ≤ length buffer
      → take (used + made.length) (put_from start buffer last) ++ lines_after lines made.next ≡ take used buffer ++ whole
  line_put start used buffer last made m here held =
      ap (λ (x : List ℕ). x ++ lines_after lines made.next) (line_added start used made.length m.bytes buffer last here held m.count m.there)
      ∙ append_assoc (take used buffer) m.bytes (lines_after lines made.next)
      ∙ ap (λ (x : List ℕ). take used buffer ++ x) (sym m.all)
