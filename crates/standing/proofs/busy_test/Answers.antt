use Rattle.std.proofs.Common.{rules}
use Rattle.standing.proofs.Tests.{busy_refused, busy_refused_pairs, tested_busy}
use Rattle.standing.proofs.busy_test.Goals as goal

pub returns-in_err-judge_index : goal.returns-in_err-judge_index
returns-in_err-judge_index c = search (rules, busy_refused)

pub returns-in_err-judge_state : goal.returns-in_err-judge_state
returns-in_err-judge_state c = search (rules, busy_refused_pairs)

pub returns : goal.returns
returns c = search (rules, tested_busy)
