use Rattle.basis.specs.Words.{◌!◌}
use Rattle.busy.proofs.Repetition.{counted_few}
use Rattle.busy.proofs.Near.{reaches_counted, passes_found}
use Rattle.busy.proofs.search.passes_from.Goals as goal

pub settled_near-requires : goal.settled_near-requires
settled_near-requires c = (counted_few (c.args.p.now.b ! c.args.h) _ _ c.requires.0 c.counted.ensures, c.requires.2, c.due-deadline.ensures.small, reaches_counted _ _ (c.args.p.now.b ! c.args.h) _ _ _ c.counted.ensures c.requires.3)

pub returns : goal.returns
returns c = passes_found _ _ _ _ _ _ c.due-deadline.ensures _ c.requires.1 _ c.counted.ensures _ c.settled_near.ensures _ c.is_some.ensures
