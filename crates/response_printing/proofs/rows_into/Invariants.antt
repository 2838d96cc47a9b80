use Rattle.outputs.specs.ResponseMoments.{rows_left}
use Rattle.outputs.specs.After.{left_after}
use Rattle.response_printing.proofs.Response.{Rows}
use Rattle.response_printing.proofs.rows_into.Given as goal

abbrev pub invariant-loop-next : goal.invariant-loop-next
invariant-loop-next l = Rows l.t l.tasks l.next l.used l.out

abbrev pub decreases-loop-next : goal.decreases-loop-next
decreases-loop-next l = left_after (rows_left l.tasks) l.next
