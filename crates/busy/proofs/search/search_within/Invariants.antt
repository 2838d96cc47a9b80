use Prim.Native.Nat.{◌+◌, ◌-◌, ◌≤◌}
use Rattle.busy.proofs.Near.{Climbed}
use Rattle.busy.proofs.Nested.{SoFar, Tested}
use Rattle.busy.proofs.search.search_within.Given as goal

abbrev pub invariant-loop-h : goal.invariant-loop-h
invariant-loop-h l = (l.passed ≤ l.h) × (l.h ≤ l.until) × (l.until ≤ 16) × Tested l.t.count l.t.period l.t.budget l.p.b l.p.o l.h × Climbed l.t.period l.p.b l.p.o l.h l.start l.reach

abbrev pub decreases-loop-h : goal.decreases-loop-h
decreases-loop-h l = l.until - l.h

abbrev pub invariant-search : goal.invariant-search
invariant-search l = SoFar l.t.count l.t.period l.t.budget l.p.b l.p.o l.c l.list l.length l.passed × Climbed l.t.period l.p.b l.p.o l.passed l.start l.reach

abbrev pub decreases-search : goal.decreases-search
decreases-search l = l.t.count + 1 - l.c
