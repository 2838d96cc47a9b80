use Rattle.response_lines.proofs.Rows.{row_put}
use Rattle.response_lines.proofs.row_line.Goals as goal

pub returns : goal.returns
returns c = row_put _ _ _ _ c.task_response.ensures _ c.in_ok-ticks.was _ c.rank_of-rank.ensures _ _ _ c.put_line.ensures
