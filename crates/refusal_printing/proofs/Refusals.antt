-- The line of a refusal in a buffer of 64 bytes or more: it is written, and counted.
use Prim.Native.Nat.{ℕ, ◌≤◌}
use mathlib.Core.Path.{◌≡◌, sym, ◌∙◌, ap}
use mathlib.Core.List.{List}
use native.Mathlib.Omega.{arith}
use lib.ListN.{length, take, drop, length-append}
use lib.Seq.{take_at}
use Rattle.std.specs.declared.result.Result.{Result}
use Rattle.std.specs.declared.result.Result.TheVariants.{Ok}
use Rattle.rules.specs.Refusals.{refused_as}
use Rattle.file_rules.specs.Printers.{refused_line}
use Rattle.rules.specs.declared.Refusal.{Refusal}
use Rattle.lines.specs.Lines.{bytes_of, longest_line}
use Rattle.lines.specs.Promises.{WriteLineIs}
use Rattle.lines.specs.declared.Line.TheVariants as line
use Rattle.lines.proofs.Calls.{always_written}

-- the first n bytes are the line
pub record Written (q : Refusal) (n : ℕ) (last : List ℕ) : Type 0 where
  pub count : n ≡ length (refused_line (refused_as q))
  pub within : n ≤ length last
  pub bytes : take n last ≡ refused_line (refused_as q)

pub written : (q : Refusal) (buffer : List ℕ) (r : Result ℕ Refusal) (last : List ℕ) → longest_line ≤ length buffer → WriteLineIs (line.Refused q) buffer r last → (n : ℕ) → r ≡ Ok n → Written q n last
unfolding bytes_of
written q buffer r last room is n e =
    let said = always_written (line.Refused q) buffer r last room is in
    let ok = said.0 in
    let count : n ≡ length (refused_line (refused_as q)) = cc in
    let whole = ap length said.1 ∙ length-append (refused_line (refused_as q)) (drop (length (refused_line (refused_as q))) buffer) in
    record {
      count = count;
      within = omega (arith, whole, count);
      bytes = ap (take n) said.1 ∙ take_at (refused_line (refused_as q)) (drop (length (refused_line (refused_as q))) buffer) n (sym count);
    }
