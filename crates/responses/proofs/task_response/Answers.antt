use Rattle.responses.proofs.Calls.{ready}
use Rattle.responses.proofs.task_response.Goals as goal

pub response_of-requires : goal.response_of-requires
response_of-requires c = ready _ _ _ _ c.judge_table.ensures c.in_ok-judge_table.was _ c.judge_task.ensures c.in_ok-judge_task.was
