use Rattle.std.proofs.Common.{rules, sym}
use lib.Seq.{length-take-le}
use Rattle.busy.proofs.Listed.{found_fits}
use Rattle.draw.proofs.Calls.{usable, draws_idle, draws}
use Rattle.draw.proofs.choose.Goals as goal

pub slice_bounds-list-end : goal.slice_bounds-list-end
slice_bounds-list-end c = search (rules, found_fits)

pub slice_bounds-list-end-2 : goal.slice_bounds-list-end-2
slice_bounds-list-end-2 c = sym (length-take-le _ _ (search (rules, found_fits)))

pub weigh-sum-requires : goal.weigh-sum-requires
weigh-sum-requires c = search (rules, usable)

pub returns-then-sum-eq0 : goal.returns-then-sum-eq0
returns-then-sum-eq0 c = search (rules, draws_idle)

pub returns : goal.returns
returns c = search (rules, draws)
