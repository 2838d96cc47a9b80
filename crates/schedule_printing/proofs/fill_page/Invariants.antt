use Rattle.outputs.specs.ScheduleMoments.{left}
use Rattle.outputs.specs.After.{left_after}
use Rattle.schedule_printing.proofs.Schedule.{Filling}
use Rattle.schedule_printing.proofs.fill_page.Given as goal

abbrev pub invariant-loop-used : goal.invariant-loop-used
invariant-loop-used l = Filling l.file l.t l.fn.start l.fn.from l.state l.next l.used l.out

abbrev pub decreases-loop-used : goal.decreases-loop-used
decreases-loop-used l = left_after (left l.file l.t) l.next
