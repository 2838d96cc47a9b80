use Rattle.std.proofs.Common.{rules}
use Rattle.tasks.proofs.Judged.{tasks_refused, task_absent, task_there}
use Rattle.tasks.proofs.judge_task.Goals as goal

pub returns-in_err-judge_tasks : goal.returns-in_err-judge_tasks
returns-in_err-judge_tasks c = search (rules, tasks_refused)

pub returns-then-k-i : goal.returns-then-k-i
returns-then-k-i c = search (rules, task_absent)

pub returns : goal.returns
returns c = search (rules, task_there)
