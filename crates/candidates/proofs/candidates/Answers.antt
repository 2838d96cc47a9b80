use Rattle.std.proofs.Common.{rules}
use Rattle.candidates.proofs.Calls.{list_refused, list_given}
use Rattle.candidates.proofs.candidates.Goals as goal

pub returns-in_err-judge : goal.returns-in_err-judge
returns-in_err-judge c = search (rules, list_refused)

pub returns : goal.returns
returns c = list_given _ _ _ c.judge.ensures c.in_ok-judge.was _ c.search-length.ensures
