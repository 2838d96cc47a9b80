use lib.ListN.{length}
use Rattle.draw.proofs.Running.{RunTo}
use Rattle.draw.proofs.pick_at.Given as goal

abbrev pub invariant-loop-c : goal.invariant-loop-c
invariant-loop-c l = RunTo l.list l.weights l.at (length l.yielded) l.running
