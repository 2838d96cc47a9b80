use Rattle.std.proofs.Common.{rules}
use Rattle.pairs.proofs.Parts.{table_refused, pairs_decide}
use Rattle.pairs.proofs.judge.Goals as goal

pub returns-in_err-judge_table : goal.returns-in_err-judge_table
returns-in_err-judge_table c = search (rules, table_refused)

pub returns : goal.returns
returns c = search (rules, pairs_decide)
