use Rattle.lines.proofs.Parts.{LengthTo}
use Rattle.lines.proofs.fields_length.Given as goal

abbrev pub invariant-loop-later : goal.invariant-loop-later
invariant-loop-later l = LengthTo l.fn.f l.later-index l.length
