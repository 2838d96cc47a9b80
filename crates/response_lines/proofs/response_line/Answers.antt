use Rattle.response_lines.proofs.Calls.{header_comes, end_comes, row_comes}
use Rattle.response_lines.proofs.response_line.Goals as goal

pub returns-then-i-tasks : goal.returns-then-i-tasks
returns-then-i-tasks c = end_comes _ _ _ c.args.buf.now c.plain_line-then-i-tasks.result _ _ c.in-Task.is c.if-i-tasks.true c.plain_line-then-i-tasks.ensures

pub returns-in-Header : goal.returns-in-Header
returns-in-Header c = header_comes _ _ _ c.args.buf.now c.plain_line.result _ c.in-Header.is c.plain_line.ensures

pub returns-else-i-tasks : goal.returns-else-i-tasks
returns-else-i-tasks c = row_comes _ _ _ c.args.buf.now c.row_line.result _ _ c.in-Task.is c.if-i-tasks.false c.row_line.ensures
