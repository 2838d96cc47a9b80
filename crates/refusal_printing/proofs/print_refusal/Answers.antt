use lib.ListN.{replicate}
use mathlib.Core.Path.{sym, subst, ap}
use native.Mathlib.Nat.{le_refl}
use lib.Seq.{length-take-le}
use Rattle.std.specs.Result.{is_ok}
use Rattle.lines.proofs.Calls.{always_written}
use Rattle.refusal_printing.proofs.Refusals.{written}
use Rattle.std.specs.Io.KnownBytes.{Appends}
use Rattle.sending.specs.Writing.{AppendsPart}
use Rattle.sending.proofs.Parts.{on_err}
use Rattle.refusal_printing.proofs.print_refusal.Goals as goal

pub unwrap-length-requires : goal.unwrap-length-requires
unwrap-length-requires g c = ap is_ok (always_written _ (replicate 64 0) _ _ (le_refl 64) c.write_line.ensures).0

pub slice_bounds-line-end : goal.slice_bounds-line-end
slice_bounds-line-end g c = (written _ (replicate 64 0) _ _ (le_refl 64) c.write_line.ensures _ c.unwrap-length.ensures).within

pub slice_bounds-write_whole-end : goal.slice_bounds-write_whole-end
slice_bounds-write_whole-end g c = sym (length-take-le _ _ (written _ (replicate 64 0) _ _ (le_refl 64) c.write_line.ensures _ c.unwrap-length.ensures).within)

pub returns-clause-count : goal.returns-clause-count
returns-clause-count g c = (written _ (replicate 64 0) _ _ (le_refl 64) c.write_line.ensures _ c.unwrap-length.ensures).count

pub returns-clause-bytes : goal.returns-clause-bytes
returns-clause-bytes g c = subst (Appends _ _) (written _ (replicate 64 0) _ _ (le_refl 64) c.write_line.ensures _ c.unwrap-length.ensures).bytes c.in_ok-write_whole.ensures.ok

pub returns-in_err-write_whole-clause-err : goal.returns-in_err-write_whole-clause-err
returns-in_err-write_whole-clause-err g c = on_err c.from_residual.result (subst (AppendsPart _ _) (written _ (replicate 64 0) _ _ (le_refl 64) c.write_line.ensures _ c.unwrap-length.ensures).bytes c.in_err-write_whole.ensures.err)
