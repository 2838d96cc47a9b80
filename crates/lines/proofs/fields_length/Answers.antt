use Rattle.lines.proofs.Parts.{count_skips, count_goes_on}
use Rattle.lines.proofs.fields_length.Goals as goal
use Rattle.lines.proofs.fields_length.Goals.{in-Some, in_default}

pub loop-later-preserved : goal.loop-later-preserved
loop-later-preserved c = elim c.match-later.branch [
  | in-Some w ↦ rw w.length-is (count_goes_on _ _ _ c.loop-later.invariant _ w.in-Some.is _ w.field_length.ensures)
  | in_default w ↦ rw w.length-is (count_skips _ _ _ c.loop-later.invariant w.in_default.is)
]
