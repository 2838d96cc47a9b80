use Rattle.std.proofs.Common.{rules}
use Rattle.pairs.proofs.Parts.{paired_few, state-refused, state_later}
use Rattle.pairs.proofs.judge_state.Goals as goal

pub judge_inside-requires : goal.judge_inside-requires
judge_inside-requires c = search (rules, paired_few)

pub returns-in_err-judge_inside : goal.returns-in_err-judge_inside
returns-in_err-judge_inside c = search (rules, state-refused)

pub judge_beyond-requires : goal.judge_beyond-requires
judge_beyond-requires c = search (rules, paired_few)

pub returns : goal.returns
returns c = search (rules, state_later)
