use Rattle.std.proofs.Common.{rules, arith}
use Rattle.draw.proofs.Running.{run-exceeds, run_on, run_ends}
use Rattle.std.proofs.lemmas.Slice.Zip.{zip_turn, zip_end}
use lib.ListN.{length-append}
use Rattle.draw.proofs.pick_at.Goals as goal

pub returns-then-at-running : goal.returns-then-at-running
returns-then-at-running c =
    let turn = zip_turn c.args.list.now c.args.weights.now c.loop-c.yielded c.into_iter-c-iterator.result c.loop-c.c-iterator c.next.new.self _ (search rules) (search rules) c.loop-c.yielded_by _ c.in-Some.is c.next.ensures.steps in
    run-exceeds _ _ _ _ _ c.loop-c.invariant _ _ turn (omega arith)

pub loop-c-preserved : goal.loop-c-preserved
loop-c-preserved c =
    let turn = zip_turn c.args.list.now c.args.weights.now c.loop-c.yielded c.into_iter-c-iterator.result c.loop-c.c-iterator c.next.new.self _ (search rules) (search rules) c.loop-c.yielded_by _ c.in-Some.is c.next.ensures.steps in
    run_on _ _ _ _ _ c.loop-c.invariant _ _ turn c.fits-weights _ c.from-running.ensures c.if-at-running.false _ (length-append c.loop-c.yielded _)

pub returns : goal.returns
returns c =
    let last = zip_end c.args.list.now c.args.weights.now c.loop-c.yielded c.into_iter-c-iterator.result c.loop-c.c-iterator c.next.new.self _ (search rules) (search rules) c.loop-c.yielded_by c.in-None.is c.next.ensures.steps in
    run_ends _ _ _ _ _ c.loop-c.invariant (omega arith)
