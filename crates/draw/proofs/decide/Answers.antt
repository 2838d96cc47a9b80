use Rattle.std.proofs.Common.{rules}
use Rattle.draw.proofs.Calls.{decision-refused, decision_wordless, decision-made}
use Rattle.draw.proofs.decide.Goals as goal

pub returns-in_err-judge : goal.returns-in_err-judge
returns-in_err-judge c = search (rules, decision-refused)

pub returns-in_err-word : goal.returns-in_err-word
returns-in_err-word c = search (rules, decision_wordless)

pub returns : goal.returns
returns c = decision-made _ _ _ c.judge.ensures _ _ _ c.in_ok-judge.was (search rules) (search rules) c.choose.ensures
