use Rattle.lines.proofs.Parts.{PutTo}
use Rattle.lines.proofs.put_fields.Given as goal

abbrev pub invariant-loop-later : goal.invariant-loop-later
invariant-loop-later l = PutTo l.fn.f l.fn.buf l.later-index l.at l.buf
