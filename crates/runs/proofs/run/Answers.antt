use Rattle.runs.proofs.Calls.{run-made}
use Rattle.runs.proofs.run.Goals as goal

pub returns : goal.returns
returns c = run-made _ _ _ c.judged.ensures c.in_ok-judged.was _ _ _ _ c.if-picks-words.false c.ran.ensures
