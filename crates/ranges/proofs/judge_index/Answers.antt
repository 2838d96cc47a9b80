use Rattle.std.proofs.Common.{rules}
use Rattle.ranges.proofs.Steps.{table-refused, partition_absent}
use Rattle.ranges.proofs.judge_index.Goals as goal

pub returns-in_err-judge_table : goal.returns-in_err-judge_table
returns-in_err-judge_table c = search (rules, table-refused)

pub returns-then-t-h : goal.returns-then-t-h
returns-then-t-h c = search (rules, partition_absent)
