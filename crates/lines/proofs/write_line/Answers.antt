use Rattle.lines.proofs.Calls.{write_short, write_made}
use Rattle.lines.proofs.write_line.Goals as goal

pub returns-then-buf-needed : goal.returns-then-buf-needed
returns-then-buf-needed c = write_short _ _ c.fields_of-f.ensures _ c.fields_length-needed.ensures _ c.if-buf-needed.true

pub returns : goal.returns
returns c = write_made _ _ c.fields_of-f.ensures _ c.fields_length-needed.ensures _ c.if-buf-needed.false _ _ c.put_fields.ensures
