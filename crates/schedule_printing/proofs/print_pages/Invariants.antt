use Prim.Native.Nat.{◌≤◌}
use lib.ListN.{length}
use Rattle.schedule_lines.specs.declared.Cursor.TheVariants.{Header}
use Rattle.outputs.specs.ScheduleMoments.{to_write, left}
use Rattle.outputs.specs.After.{lines_after, left_after}
use Rattle.schedule_printing.proofs.Schedule.{Sending, Grown}
use Rattle.schedule_printing.proofs.print_pages.Given as goal

abbrev pub invariant-loop-next : goal.invariant-loop-next
invariant-loop-next g l =
    Sending l.file l.t (length (to_write l.file l.t l.fn.start.pairs (Header l.events))) l.state l.next l.sent l.out
    × (length (to_write l.file l.t l.fn.start.pairs (Header l.events)) ≤ 4194432)
    × Grown (g.W.Write.contents l.initial.to) (g.W.Write.contents l.to) (lines_after (to_write l.file l.t l.state.pairs) l.next) (to_write l.file l.t l.fn.start.pairs (Header l.events))

abbrev pub decreases-loop-next : goal.decreases-loop-next
decreases-loop-next g l = left_after (left l.file l.t) l.next
