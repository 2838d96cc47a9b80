use mathlib.Core.Path.{subst}
use Rattle.scheduler.specs.Promises.{FreshIs}
use Rattle.outputs.proofs.JudgedFile.{refused_outputs}
use Rattle.outputs.proofs.Schedule.{fresh_given, start_moment}
use Rattle.schedule_printing.proofs.Schedule.{schedule_bytes}
use Rattle.schedule_printing.proofs.print_schedule.Goals as goal

pub unwrap-start-requires : goal.unwrap-start-requires
unwrap-start-requires g c = fresh_given _ _ c.in-Ok.ensures _ _ c.fresh.ensures

pub print_pages-requires : goal.print_pages-requires
print_pages-requires g c = start_moment _ _ c.in-Ok.ensures _ _ (subst (FreshIs _ _) c.unwrap-start.ensures c.fresh.ensures)

pub returns-in-Err-clause-count : goal.returns-in-Err-clause-count
returns-in-Err-clause-count g c = rw (← (refused_outputs c.args.file.now c.in-Err.why c.in-Err.ensures).0) c.print_refusal.ensures.count

pub returns-in-Err-clause-bytes : goal.returns-in-Err-clause-bytes
returns-in-Err-clause-bytes g c = rw (← (refused_outputs c.args.file.now c.in-Err.why c.in-Err.ensures).0) c.print_refusal.ensures.bytes

pub returns-in-Err-clause-err : goal.returns-in-Err-clause-err
returns-in-Err-clause-err g c = rw (← (refused_outputs c.args.file.now c.in-Err.why c.in-Err.ensures).0) c.print_refusal.ensures.err

pub returns-clause-count : goal.returns-clause-count
returns-clause-count g c = rw (← schedule_bytes c.args.file.now c.in-Ok.held c.in-Ok.ensures _ c.unwrap-start.result (subst (FreshIs _ _) c.unwrap-start.ensures c.fresh.ensures)) c.print_pages.ensures.count

pub returns-clause-bytes : goal.returns-clause-bytes
returns-clause-bytes g c = rw (← schedule_bytes c.args.file.now c.in-Ok.held c.in-Ok.ensures _ c.unwrap-start.result (subst (FreshIs _ _) c.unwrap-start.ensures c.fresh.ensures)) c.print_pages.ensures.bytes

pub returns-clause-err : goal.returns-clause-err
returns-clause-err g c = rw (← schedule_bytes c.args.file.now c.in-Ok.held c.in-Ok.ensures _ c.unwrap-start.result (subst (FreshIs _ _) c.unwrap-start.ensures c.fresh.ensures)) c.print_pages.ensures.err
