use Prim.Native.Nat.{◌+◌}
use mathlib.Core.Path.{refl, ap, ◌∙◌}
use native.Mathlib.Omega.{arith}
use borrow.Author.Rules.{rules}
use Rattle.schedule_printing.proofs.Schedule.{sending_begins, all_to_come, page-begins, all_sent, refusal-left, sends_on, nearer, lines_left, nothing_left, refusal_sent, page_cut, refusal_cut}
use Rattle.sending.proofs.Parts.{on_err}
use Rattle.schedule_printing.proofs.print_pages.Goals as goal

pub loop-next-init : goal.loop-next-init
loop-next-init g c =
    let begun = sending_begins c.args.file.now _ _ _ _ refl c.requires in
    (begun.0, begun.1, all_to_come c.args.file.now _ _ _ _)

pub fill_page-page-requires : goal.fill_page-page-requires
fill_page-page-requires g c = page-begins c.args.file.now _ _ _ _ _ _ c.loop-next.invariant.0 _ c.in-Some.is

pub loop-next-smaller : goal.loop-next-smaller
loop-next-smaller g c = nearer c.args.file.now _ _ _ _ _ _ c.loop-next.invariant.0 _ c.in-Some.is _ _ c.fill_page-page.ensures _ c.in-Ok.is

pub loop-next-preserved : goal.loop-next-preserved
loop-next-preserved g c =
    (sends_on c.args.file.now _ _ _ _ _ _ c.loop-next.invariant.0 _ c.in-Some.is _ _ c.fill_page-page.ensures _ c.in-Ok.is (search rules), c.loop-next.invariant.1, lines_left c.args.file.now _ _ _ _ _ _ c.loop-next.invariant.2 _ c.in-Some.is _ _ c.fill_page-page.ensures _ c.in_ok-write_whole.ensures.ok _ c.in-Ok.is)

pub returns-clause-count : goal.returns-clause-count
returns-clause-count g c = all_sent c.args.file.now _ _ _ _ _ _ c.loop-next.invariant.0 c.in_default.is

pub returns-clause-bytes : goal.returns-clause-bytes
returns-clause-bytes g c = nothing_left c.args.file.now _ _ _ _ _ _ c.loop-next.invariant.2 c.in_default.is

pub overflow_add-result : goal.overflow_add-result
overflow_add-result g c = omega (arith, refusal-left c.args.file.now _ _ _ _ _ _ c.loop-next.invariant.0 _ c.in-Some.is _ _ c.fill_page-page.ensures _ c.in-Err.is, c.in_ok-print_refusal-in-Err.ensures.count, c.loop-next.invariant.1)

pub returns-in-Err-clause-count : goal.returns-in-Err-clause-count
returns-in-Err-clause-count g c = ap (λ x. c.loop-next.sent + c.fill_page-page.result.used + x) c.in_ok-print_refusal-in-Err.ensures.count ∙ refusal-left c.args.file.now _ _ _ _ _ _ c.loop-next.invariant.0 _ c.in-Some.is _ _ c.fill_page-page.ensures _ c.in-Err.is

pub returns-in-Err-clause-bytes : goal.returns-in-Err-clause-bytes
returns-in-Err-clause-bytes g c = refusal_sent c.args.file.now _ _ _ _ _ _ c.loop-next.invariant.2 _ c.in-Some.is _ _ c.fill_page-page.ensures _ c.in_ok-write_whole.ensures.ok _ _ c.in-Err.is c.in_ok-print_refusal-in-Err.ensures.bytes

pub returns-in_err-write_whole-clause-err : goal.returns-in_err-write_whole-clause-err
returns-in_err-write_whole-clause-err g c = on_err c.from_residual.result (page_cut c.args.file.now _ _ _ _ _ _ c.loop-next.invariant.2 _ c.in-Some.is _ _ c.fill_page-page.ensures _ c.in_err-write_whole.ensures.err)

pub returns-in_err-print_refusal-in-Err-clause-err :
    goal.returns-in_err-print_refusal-in-Err-clause-err
returns-in_err-print_refusal-in-Err-clause-err g c = on_err c.from_residual-in_err-print_refusal-in-Err.result (refusal_cut c.args.file.now _ _ _ _ _ _ c.loop-next.invariant.2 _ c.in-Some.is _ _ c.fill_page-page.ensures _ c.in_ok-write_whole.ensures.ok _ _ c.in-Err.is c.in_err-print_refusal-in-Err.ensures.err)
