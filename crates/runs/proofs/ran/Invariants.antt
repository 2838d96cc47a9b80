use Rattle.runs.proofs.Looped.{RanTo}
use Rattle.runs.proofs.ran.Given as goal

abbrev pub invariant-loop-i : goal.invariant-loop-i
invariant-loop-i l = RanTo l.t l.initial.state l.words l.initial.picks l.i l.state.pairs l.picks
