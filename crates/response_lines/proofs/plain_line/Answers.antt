use Rattle.response_lines.proofs.Puts.{plain_put}
use Rattle.response_lines.proofs.plain_line.Goals as goal

pub returns : goal.returns
returns c = plain_put _ _ _ _ _ _ c.judged.ensures c.in_ok-judged.was _ _ c.put_line.ensures
