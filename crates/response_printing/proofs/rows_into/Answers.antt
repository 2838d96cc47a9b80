use borrow.Author.Rules.{rules}
use mathlib.Core.Path.{refl}
use native.Mathlib.Omega.{arith}
use Rattle.response_printing.proofs.Response.{rows_begin, rows_end, given, fits, added, nearer}
use Rattle.response_printing.proofs.rows_into.Goals as goal

pub loop-next-init : goal.loop-next-init
loop-next-init c = rows_begin _ _ _ c.requires.0 c.requires.1

pub unwrap-made-requires : goal.unwrap-made-requires
unwrap-made-requires c = given _ _ _ _ _ c.loop-next.invariant _ c.in-Some.is _ _ _ c.response_line.ensures (omega arith)

pub overflow_add-used : goal.overflow_add-used
overflow_add-used c = omega (arith, fits _ _ _ _ _ c.loop-next.invariant _ c.in-Some.is _ _ _ c.response_line.ensures (omega arith) _ c.unwrap-made.ensures)

pub loop-next-smaller : goal.loop-next-smaller
loop-next-smaller c = nearer _ _ _ _ _ c.loop-next.invariant _ c.in-Some.is _ _ _ c.response_line.ensures (omega arith) _ c.unwrap-made.ensures

pub loop-next-preserved : goal.loop-next-preserved
loop-next-preserved c = added _ _ _ _ _ c.loop-next.invariant _ c.in-Some.is _ _ _ c.response_line.ensures (omega arith) _ c.unwrap-made.ensures refl (search rules)

pub returns : goal.returns
returns c = rows_end _ _ _ _ _ c.loop-next.invariant c.in_default.is
