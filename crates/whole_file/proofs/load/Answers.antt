use Rattle.std.proofs.Common.{rules, Err, ◌≡◌}
use Rattle.meter.proofs.Records.{told_record}
use Rattle.whole_file.proofs.Loading.{few_partitions_yet, few_tasks_yet, load_refused, load_ends}
use Rattle.whole_file.proofs.load.Goals as goal

pub returns-in_err-found : goal.returns-in_err-found
returns-in_err-found c =
    let e : c.from_residual.result ≡ Err c.in_err-found.field-0.0 = search rules in
    rw e (load_refused _ _ _ _ c.loop-at.invariant c.loop-at-test.true _ c.read_record.ensures _ c.in_err-found.was)

pub with_record-requires : goal.with_record-requires
with_record-requires c =
    let t = told_record _ _ _ _ _ c.read_record.ensures _ c.in_ok-found.was in
    (few_partitions_yet _ _ _ _ c.loop-at.invariant c.loop-at-test.true _ _ t, few_tasks_yet _ _ _ _ c.loop-at.invariant c.loop-at-test.true _ _ t)

pub returns : goal.returns
returns c = search (rules, load_ends)
