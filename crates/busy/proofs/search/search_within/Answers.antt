use native.Mathlib.Omega.{arith}
use borrow.Author.Rules.{rules}
use Rattle.rules.specs.BusyLength.{busy_start}
use Rattle.busy.proofs.Near.{climb_begins, climbed_all, climb_small, climb_reaches, climb_on}
use Rattle.busy.proofs.Nested.{search_begins, search_skips, tests_ahead, tests_few, tested-before, tested_on, tested-all, search_takes, search_fails, search_ends}
use Rattle.busy.proofs.search.search_within.Goals as goal

pub search-init : goal.search-init
search-init c = search (rules, search_begins, climb_begins)

pub search-preserved-then-not-waits : goal.search-preserved-then-not-waits
search-preserved-then-not-waits c = search (rules, search_skips)

pub loop-h-init : goal.loop-h-init
loop-h-init c = search (rules, tests_ahead, tests_few, tested-before)

pub passes_from-requires : goal.passes_from-requires
unfolding busy_start
passes_from-requires c = search (rules, climb_small, climb_reaches)

pub loop-h-preserved : goal.loop-h-preserved
loop-h-preserved c = (omega arith, omega arith, omega arith, search (rules, tested_on), climb_on _ _ _ _ _ _ c.loop-h.invariant.4 _ c.from-start.ensures (omega arith) _ c.nearer-reach.ensures.0 c.nearer-reach.ensures.1)

pub search-preserved : goal.search-preserved
search-preserved c = search (rules, search_takes, tested-all, climbed_all)

pub returns-after-search : goal.returns-after-search
returns-after-search c = search (rules, search_ends)

pub returns-then-not-passes_from : goal.returns-then-not-passes_from
returns-then-not-passes_from c = search (rules, search_fails)
