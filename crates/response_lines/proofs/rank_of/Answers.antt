use mathlib.Core.Path.{◌∙◌}
use native.Mathlib.Omega.{arith}
use lib.Dec.{eqb}
use Rattle.std.proofs.Common.{rules, tests}
use Rattle.std.proofs.lemmas.Iterator.{YieldsList-from_slice}
use Rattle.std.proofs.lemmas.Iterator.Consumers.{YieldsList-from_filter, count_from_yields_List}
use Rattle.basis.specs.Words.{◌!◌}
use Rattle.rules.specs.TaskResponse.{rank_of}
use Rattle.response_lines.proofs.Rows.{counted}
use Rattle.response_lines.proofs.rank_of.Goals as goal

pub returns : goal.returns
unfolding rank_of
returns c =
    count_from_yields_List c.filter.result _ c.count.ensures.ran
    (YieldsList-from_filter _ (λ p. eqb p (c.args.partition.now ! c.args.i)) (YieldsList-from_slice _ cc) c.filter.ensures.closure (λ x r q k. search (rules, tests)))
    ∙ counted c.args.partition.now (c.args.partition.now ! c.args.i) c.args.i (omega arith)
