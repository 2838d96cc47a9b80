use native.Mathlib.Omega.{arith}
use Rattle.lines.proofs.Parts.{place_there, put_skips, put_goes_on, put_ends}
use Rattle.lines.proofs.put_fields.Goals as goal
use Rattle.lines.proofs.put_fields.Goals.{in-Some, in_default}

pub overflow_add-at : goal.overflow_add-at
overflow_add-at c = omega (arith, place_there _ _ c.requires _ _ _ c.loop-later.invariant)

pub loop-later-preserved : goal.loop-later-preserved
loop-later-preserved c = elim c.match-later.branch [
  | in-Some w ↦ rw (w.at-is, w.buf-is) (put_goes_on _ _ c.requires _ _ _ c.loop-later.invariant _ w.in-Some.is _ _ w.put_field-at-in-Some.ensures)
  | in_default w ↦ rw (w.at-is, w.buf-is) (put_skips _ _ c.requires _ _ _ c.loop-later.invariant w.in_default.is)
]

pub overflow_add-result : goal.overflow_add-result
overflow_add-result c = omega (arith, place_there _ _ c.requires _ _ _ c.loop-later.invariant)

pub returns : goal.returns
returns c = put_ends _ _ c.requires _ _ _ c.loop-later.invariant (omega arith)
