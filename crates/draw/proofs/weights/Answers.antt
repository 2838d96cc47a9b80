use Rattle.std.proofs.Common.{rules, sym}
use lib.Seq.{length-take-le}
use Rattle.busy.proofs.Listed.{found_fits}
use Rattle.draw.proofs.Calls.{usable, weights-refused, weights_given}
use Rattle.draw.proofs.weights.Goals as goal

pub returns-in_err-judge : goal.returns-in_err-judge
returns-in_err-judge c = search (rules, weights-refused)

pub slice_bounds-list-end : goal.slice_bounds-list-end
slice_bounds-list-end c = search (rules, found_fits)

pub slice_bounds-weigh-end : goal.slice_bounds-weigh-end
slice_bounds-weigh-end c = sym (length-take-le _ _ (search (rules, found_fits)))

pub weigh-requires : goal.weigh-requires
weigh-requires c = search (rules, usable)

pub returns : goal.returns
returns c = weights_given _ _ _ c.search-length.ensures _ c.weigh.ensures _ c.judge.ensures c.in_ok-judge.was
