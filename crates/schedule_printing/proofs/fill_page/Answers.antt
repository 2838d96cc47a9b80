use borrow.Author.Rules.{rules}
use mathlib.Core.Path.{refl}
use native.Mathlib.Omega.{arith}
use Rattle.schedule_printing.proofs.Schedule.{page_begins, page_ends, short, filled, line_nearer, page_refused}
use Rattle.schedule_printing.proofs.fill_page.Goals as goal

pub loop-used-init : goal.loop-used-init
loop-used-init c = page_begins _ _ _ _ _ c.requires.0 c.requires.1

pub overflow_add-used : goal.overflow_add-used
overflow_add-used c = omega (arith, short _ _ _ _ _ _ _ _ c.loop-used.invariant _ c.in-Some.is c.loop-used-test.true _ _ _ c.schedule_line.ensures (omega arith) _ c.in-Ok.is)

pub loop-used-smaller : goal.loop-used-smaller
loop-used-smaller c = line_nearer _ _ _ _ _ _ _ _ c.loop-used.invariant _ c.in-Some.is c.loop-used-test.true _ _ _ c.schedule_line.ensures (omega arith) _ c.in-Ok.is

pub loop-used-preserved : goal.loop-used-preserved
loop-used-preserved c = filled _ _ _ _ _ _ _ _ c.loop-used.invariant _ c.in-Some.is c.loop-used-test.true _ _ _ c.schedule_line.ensures (omega arith) _ c.in-Ok.is refl (search rules)

pub returns-in-Err : goal.returns-in-Err
returns-in-Err c = page_refused _ _ _ _ _ _ _ _ c.loop-used.invariant _ c.in-Some.is c.loop-used-test.true _ _ _ c.schedule_line.ensures (omega arith) _ c.in-Err.is refl (search rules)

pub returns-in_default : goal.returns-in_default
returns-in_default c = page_ends _ _ _ _ _ _ _ _ c.loop-used.invariant (λ x e. let none = c.in_default.is in cc)

pub returns-after-loop-used : goal.returns-after-loop-used
returns-after-loop-used c = page_ends _ _ _ _ _ _ _ _ c.loop-used.invariant (λ x e. omega arith)
