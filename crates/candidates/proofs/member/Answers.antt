use Rattle.std.proofs.Common.{rules, sym}
use lib.Seq.{length-take-le}
use Rattle.busy.proofs.Listed.{found_fits}
use Rattle.candidates.proofs.Calls.{member_is}
use Rattle.candidates.proofs.member.Goals as goal

pub slice_bounds-list-end : goal.slice_bounds-list-end
slice_bounds-list-end c = search (rules, found_fits)

pub slice_bounds-holds-end : goal.slice_bounds-holds-end
slice_bounds-holds-end c = sym (length-take-le _ _ (search (rules, found_fits)))

pub returns : goal.returns
returns c = search (rules, member_is)
