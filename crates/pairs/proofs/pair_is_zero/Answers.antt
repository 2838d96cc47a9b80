use borrow.Author.Rules.{rules}
use Rattle.pairs.proofs.Parts.{some_left, nothing_left}
use Rattle.pairs.proofs.pair_is_zero.Goals as goal

pub returns-then-b-gt0 : goal.returns-then-b-gt0
returns-then-b-gt0 c = search (rules, some_left)

pub returns : goal.returns
returns c = search (rules, nothing_left)
