use mathlib.Core.Path.{refl, subst}
use Rattle.std.specs.Io.KnownBytes.{Appends}
use Rattle.sending.specs.Writing.{AppendsPart}
use Rattle.sending.proofs.Parts.{on_err}
use Rattle.outputs.proofs.JudgedFile.{refused_outputs}
use Rattle.outputs.proofs.Response.{first_rows}
use Rattle.response_printing.proofs.Response.{response_held, held_bytes}
use Rattle.response_printing.proofs.print_response.Goals as goal

pub rows_into-used-requires : goal.rows_into-used-requires
rows_into-used-requires g c = (refl, first_rows _ _ c.in-Ok.ensures)

pub returns-in-Err-clause-count : goal.returns-in-Err-clause-count
returns-in-Err-clause-count g c = rw (← (refused_outputs c.args.file.now c.in-Err.why c.in-Err.ensures).1) c.print_refusal.ensures.count

pub returns-in-Err-clause-bytes : goal.returns-in-Err-clause-bytes
returns-in-Err-clause-bytes g c = rw (← (refused_outputs c.args.file.now c.in-Err.why c.in-Err.ensures).1) c.print_refusal.ensures.bytes

pub returns-in-Err-clause-err : goal.returns-in-Err-clause-err
returns-in-Err-clause-err g c = rw (← (refused_outputs c.args.file.now c.in-Err.why c.in-Err.ensures).1) c.print_refusal.ensures.err

pub returns-clause-count : goal.returns-clause-count
returns-clause-count g c = response_held _ _ c.in-Ok.ensures _ _ c.rows_into-used.ensures

pub returns-clause-bytes : goal.returns-clause-bytes
returns-clause-bytes g c = subst (Appends _ _) (held_bytes _ _ c.in-Ok.ensures _ _ c.rows_into-used.ensures) c.in_ok-write_whole.ensures.ok

pub returns-in_err-write_whole-clause-err : goal.returns-in_err-write_whole-clause-err
returns-in_err-write_whole-clause-err g c = on_err c.from_residual.result (subst (AppendsPart _ _) (held_bytes _ _ c.in-Ok.ensures _ _ c.rows_into-used.ensures) c.in_err-write_whole.ensures.err)
