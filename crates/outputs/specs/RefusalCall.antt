-- The call that prints a refusal, after which there is no more: the line of a refused file, and of a run that is refused.
use Rattle.std.specs.Prelude.{ℕ, ◌≤◌, ◌≡◌, List, length, take}
use Rattle.rules.specs.declared.Refusal.{Refusal}
use Rattle.lines.specs.Lines.{longest_line}
use Rattle.lines.specs.Promises.{WriteLineIs}
use Rattle.lines.specs.declared.Line.TheVariants as line
use Rattle.std.specs.declared.result.Result.TheVariants.{Ok}

-- the line of a refusal, by the call that prints refusals, into a buffer that holds any line
pub record RefusedWith (q : Refusal) (output : List ℕ) : Type 0 where
  pub buffer : List ℕ
  pub room : longest_line ≤ length buffer
  pub count : ℕ
  pub last : List ℕ
  pub call : WriteLineIs (line.Refused q) buffer (Ok count) last
  pub bytes : output ≡ take count last
