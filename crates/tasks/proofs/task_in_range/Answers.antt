use Rattle.std.proofs.Common.{rules}
use Rattle.tasks.proofs.Judged.{no_partition, no_gap, no_cost, cost_decides}
use Rattle.tasks.proofs.task_in_range.Goals as goal

pub returns-then-n-from : goal.returns-then-n-from
returns-then-n-from c = search (rules, no_partition)

pub returns-then-gap-eq0 : goal.returns-then-gap-eq0
returns-then-gap-eq0 c = search (rules, no_gap)

pub returns-then-cost-eq0 : goal.returns-then-cost-eq0
returns-then-cost-eq0 c = search (rules, no_cost)

pub returns : goal.returns
returns c = search (rules, cost_decides)
