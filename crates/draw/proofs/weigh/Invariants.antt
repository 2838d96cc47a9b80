use Rattle.draw.proofs.Weighing.{WeighedTo}
use Rattle.draw.proofs.weigh.Given as goal

abbrev pub invariant-loop-i : goal.invariant-loop-i
invariant-loop-i l = WeighedTo l.p.b l.p.o l.list l.initial.weights l.i l.weights l.sum
