use Rattle.schedule_lines.proofs.Events.{seven_here, six_here}
use Rattle.schedule_lines.proofs.refused_event.Goals as goal

pub returns-then-room-needed : goal.returns-then-room-needed
returns-then-room-needed c = seven_here _ _ _ _ c.in-NotActive.is _ c.line_length-needed.ensures c.if-room-needed.true

pub returns-else-room-needed : goal.returns-else-room-needed
returns-else-room-needed c = six_here _ _ _ _ c.in-NotActive.is _ c.line_length-needed.ensures c.if-room-needed.false
