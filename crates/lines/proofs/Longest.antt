-- No line is longer than 64 bytes.
use Prim.Native.Nat.{ℕ, ◌+◌, ◌≤◌}
use mathlib.Core.Path.{◌≡◌, ◌∙◌}
use mathlib.Core.Bool.{Bool, true, false, cond}
use mathlib.Core.List.{List, [], ◌∷◌}
use native.Mathlib.Omega.{arith}
use lib.Dec.{eqb}
use lib.ListN.{length, length-append}
use Rattle.rules.specs.Candidates.{idle}
use Rattle.file_rules.specs.Printers.{ascii, decimal, pick_text, response_text, line}
use Rattle.rules.specs.Refusals.{refused_as}
use Rattle.lines.specs.Lines.{bytes_of, longest_line}
use Rattle.lines.specs.declared.Line.{Line}
use Rattle.lines.specs.declared.Line.TheVariants as line
use Rattle.lines.proofs.Decimals.{digits_most}

-- the bytes of fields, and one after each
abbrev spread : List (List ℕ) → ℕ
spread [] = 0
spread (field ∷ fields) = length field + 1 + spread fields

spread_line : (field : List ℕ) (fields : List (List ℕ)) → length (line field fields) ≡ length field + 1 + spread fields
spread_line field [] = length-append field (10 ∷ []) ∙ omega arith
spread_line field (next ∷ more) = length-append field (32 ∷ line next more) ∙ (let l = spread_line next more in omega arith)

shorter : (test : Bool) (x y : List ℕ) → length x ≤ 20 → length y ≤ 20 → length (cond test x y) ≤ 20
shorter true x y p q = p
shorter false x y p q = q

pub no_longer : (l : Line) → length (bytes_of l) ≤ longest_line
unfolding bytes_of
no_longer line.ScheduleHeader = omega arith
no_longer line.ResponseHeader = omega arith
no_longer (line.Tick ticks pick) =
    let a = digits_most 20 ticks in
    let b = shorter (eqb pick idle) (ascii "idle") (decimal pick) (omega arith) (digits_most 20 pick) in
    let l = spread_line (decimal ticks) (pick_text pick ∷ []) in
    omega arith
no_longer (line.Release ticks index) =
    let a = digits_most 20 ticks in
    let b = digits_most 20 index in
    let l = spread_line (decimal ticks) (ascii "release" ∷ decimal index ∷ []) in
    omega arith
no_longer (line.Response partition rank ticks) =
    let a = digits_most 20 partition in
    let b = digits_most 20 rank in
    let c = shorter (eqb ticks 0) (ascii "late") (decimal ticks) (omega arith) (digits_most 20 ticks) in
    let l = spread_line (decimal partition) (decimal rank ∷ response_text ticks ∷ []) in
    omega arith
no_longer (line.End count) =
    let a = digits_most 20 count in
    let l = spread_line (ascii "end") (decimal count ∷ []) in
    omega arith
no_longer (line.Refused r) =
    let a = digits_most 20 (refused_as r).number in
    let b = digits_most 20 (refused_as r).second in
    let l = spread_line (ascii "refused") (decimal (refused_as r).number ∷ ascii "at" ∷ decimal (refused_as r).second ∷ []) in
    omega arith
