use Rattle.std.proofs.Common.{rules}
use Rattle.schedule_lines.proofs.Puts.{plain_short, plain_made}
use Rattle.schedule_lines.proofs.plain_line.Goals as goal

pub returns-in_err-made : goal.returns-in_err-made
returns-in_err-made c = search (rules, plain_short _ _ c.args.file.now _ _ _ _ c.judged.ensures c.in_ok-judged.was _ _ c.put_line.ensures)

pub returns : goal.returns
returns c = plain_made _ _ c.args.file.now _ _ _ _ c.judged.ensures c.in_ok-judged.was _ _ c.put_line.ensures _ c.in_ok-made.was
