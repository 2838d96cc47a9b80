use Rattle.std.proofs.Common.{rules, sym, ◌∙◌}
use Rattle.laws.proofs.Places.{has_here, has-take-next}
use Rattle.candidates.proofs.holds.Goals as goal

pub returns-then-from-pick : goal.returns-then-from-pick
returns-then-from-pick c = has_here _ _ _ c.loop-x-test.true (sym c.from.ensures ∙ c.if-from-pick.true)

pub loop-x-preserved : goal.loop-x-preserved
loop-x-preserved c = search (rules, has-take-next)
