use Rattle.schedule_lines.proofs.Calls.{header_line, last_line, record_line}
use Rattle.schedule_lines.proofs.schedule_line.Goals as goal

pub returns-then-at-file : goal.returns-then-at-file
returns-then-at-file c = last_line c.args.file.now _ _ _ c.args.buf.now c.plain_line-then-at-file.result _ _ _ c.in-Record.is c.if-at-file.true c.plain_line-then-at-file.ensures

pub returns-in-Header : goal.returns-in-Header
returns-in-Header c = header_line c.args.file.now _ _ _ c.args.buf.now c.plain_line.result _ _ c.in-Header.is c.plain_line.ensures

pub returns-else-at-file : goal.returns-else-at-file
returns-else-at-file c = record_line c.args.file.now _ _ _ c.args.buf.now c.event_line.result _ _ _ c.in-Record.is c.if-at-file.false c.event_line.ensures
