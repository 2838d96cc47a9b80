-- A line in the buffer of its call: there is room for any, and what is taken out again is the line; after other lines, and that of a refusal too.
use Prim.Native.Nat.{ℕ, ◌+◌, ◌-◌, ◌≤◌}
use mathlib.Core.Path.{◌≡◌, ◌∙◌, ap, sym}
use mathlib.Core.Bool.{Bool}
use mathlib.Core.List.{List, ◌++◌, append_assoc}
use mathlib.Core.Option.{none}
use native.Mathlib.Nat.{le_trans}
use native.Mathlib.Omega.{arith}
use borrow.Author.Tests.{le-leb}
use lib.Dec.{leb}
use lib.ListN.{length, take, drop, length-append, length-drop}
use lib.Seq.{take-append_seam, take_at, length-take-le}
use Rattle.std.proofs.lemmas.List.{take_rest}
use Rattle.std.specs.declared.result.Result.TheVariants.{Ok}
use Rattle.basis.specs.Words.{unless, onto}
use Rattle.rules.specs.Refusals.{refused_as}
use Rattle.file_rules.specs.Printers.{refused_line}
use Rattle.rules.specs.declared.Refusal.{Refusal}
use Rattle.lines.specs.Lines.{bytes_of, longest_line}
use Rattle.lines.specs.declared.Line.TheVariants as line
use Rattle.lines.proofs.Calls.{always_written}
use Rattle.outputs.specs.RefusalCall.{RefusedWith}

-- 7 isn't against a line in a buffer that holds any
pub has_room : (bytes buffer : List ℕ) → length bytes ≤ longest_line → longest_line ≤ length buffer → unless (leb (length bytes) (length buffer)) (length bytes) ≡ none
has_room bytes buffer short room = ap (λ (a : Bool). unless a (length bytes)) (le-leb (length bytes) (length buffer) (le_trans short room))

-- a line at the start of a buffer
pub taken : (n : ℕ) (bytes buffer last : List ℕ) → n ≡ length bytes → last ≡ onto bytes buffer → take n last ≡ bytes
taken n bytes buffer last e f = (λ i. take (e i) (f i)) ∙ take-append_seam bytes (drop (length bytes) buffer)

-- a line behind what a buffer holds before it
pub behind : (used n : ℕ) (bytes buffer part last after : List ℕ) → used ≤ length buffer → n ≡ length bytes → last ≡ onto bytes part → take (used + n) (take used buffer ++ (last ++ after)) ≡ take used buffer ++ bytes
behind used n bytes buffer part last after inside e f =
    ap (λ (xs : List ℕ). take (used + n) (take used buffer ++ (xs ++ after))) f
    ∙ ap (λ (xs : List ℕ). take (used + n) (take used buffer ++ xs)) (append_assoc bytes (drop (length bytes) part) after)
    ∙ ap (take (used + n)) (sym (append_assoc (take used buffer) bytes (drop (length bytes) part ++ after)))
    ∙ take_at (take used buffer ++ bytes) (drop (length bytes) part ++ after) (used + n) (length-append (take used buffer) bytes ∙ (λ i. length-take-le used buffer inside i + sym e i))

-- the part of a buffer from a place on, and the buffer with what a call made of that part
abbrev pub part_from : ℕ → List ℕ → List ℕ
part_from at buffer = take (length buffer - at) (drop at buffer)

abbrev pub put_from : ℕ → List ℕ → List ℕ → List ℕ
put_from at buffer part = take at buffer ++ (part ++ drop (length buffer - at) (drop at buffer))

-- there is room for any line from there, if there is from a place after it
pub room_from : (at used : ℕ) (buffer : List ℕ) → at ≤ used → used + longest_line ≤ length buffer → longest_line ≤ length (part_from at buffer)
room_from at used buffer near room = let rest = ap length (take_rest buffer at) ∙ length-drop at buffer in omega (arith, rest, near, room)

-- a line that is put where what the buffer holds ends comes after it
pub line_added : (at used n : ℕ) (bytes buffer last : List ℕ) → at ≡ used → used ≤ length buffer → n ≡ length bytes → last ≡ onto bytes (part_from at buffer)
    → take (used + n) (put_from at buffer last) ≡ take used buffer ++ bytes
line_added at used n bytes buffer last there held count f =
    ap (λ (x : ℕ). take (used + n) (put_from x buffer last)) there ∙ behind used n bytes buffer (part_from at buffer) last _ held count f

-- the line of a refusal
pub refused_written : (q : Refusal) (output : List ℕ) → RefusedWith q output → output ≡ refused_line (refused_as q)
unfolding bytes_of
refused_written q output w =
    let said = always_written (line.Refused q) w.buffer (Ok w.count) w.last w.room w.call in
    let ok = said.0 in
    let count : w.count ≡ length (refused_line (refused_as q)) = cc in
    w.bytes ∙ taken w.count (refused_line (refused_as q)) w.buffer w.last count said.1
