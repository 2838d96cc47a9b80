-- The first half of a tick: once a member of the list has lost its tick, everybody passes with one tick more than that. And a release.
use Prim.Native.Nat.{ℕ, suc, ◌-◌, ◌≤◌, ◌<◌}
use mathlib.Core.Path.{◌≡◌, ◌∙◌, sym}
use mathlib.Core.Bool.{true}
use mathlib.Core.List.{List}
use mathlib.Core.Logic.{⊎_elim}
use native.Mathlib.Nat.{le_refl}
use native.Mathlib.Omega.{arith}
use lib.ListN.{set}
use lib.Seq.{get_or-set_same}
use Rattle.basis.specs.Words.{◌!◌, sum_below}
use Rattle.rules.specs.Numbers.{TableInRange, StateInRange}
use Rattle.rules.specs.BusyLength.{busy_start, passes}
use Rattle.rules.specs.StandingTest.{Stands}
use Rattle.rules.specs.Candidates.{may_run, idle_listed, idle, inversion}
use Rattle.rules.specs.Tick.{spend, tick_allowed}
use Rattle.rules.specs.Release.{release}
use Rattle.laws.proofs.Tests.{below_or_not}
use Rattle.laws.proofs.Places.{all_true}
use Rattle.laws.proofs.Totals.{sum_mono, sum_less}
use Rattle.laws.proofs.Filled.{set_lower}
use Rattle.laws.proofs.Tick.{idle_spends, spends}
use Rattle.laws.proofs.Numbers.{GoodTable, table-good, GoodState, state-good}
use Rattle.laws.proofs.BusyLength.{active-some, passes_lower}
use Rattle.laws.proofs.StandingTest.{stands_exactly}
use Rattle.laws.proofs.Candidates.{Listed, candidate_cases, tests_decide}

-- ---- fewer ticks waiting
module _ (b c : List ℕ) (h : ℕ) (lower : (j : ℕ) → c ! j ≤ b ! j) where
  start_lower : (w : ℕ) → busy_start c h w ≤ busy_start b h w
  unfolding busy_start
  start_lower w = let own = lower h in let others = sum_mono h (λ j. c ! j) (λ j. b ! j) (λ j l. lower j) in omega arith

  -- one of them lost a tick, and that is room for another
  start_less : (k : ℕ) → k ≤ h → c ! k < b ! k → busy_start c h 1 ≤ busy_start b h 0
  unfolding busy_start sum_below
  start_less k l less =
      let sums : sum_below (suc h) (λ j. c ! j) < sum_below (suc h) (λ j. b ! j) = sum_less (suc h) _ _ (λ j m. lower j) k (omega arith) less in
      omega arith

module _ (n : ℕ) (T B phase b o : List ℕ) (t : TableInRange n T B phase) (s : StateInRange n T B b o) (stands : Stands n T B b o) where
  table : GoodTable n T B phase
  table = table-good n T B phase t

  state : GoodState n T B b o
  state = state-good n T B b o table.not_many s

  -- above a member of the list everybody passes with w = 1
  above-passes : (c : ℕ) → c ≤ n → may_run T B b o inversion c ≡ true → (h : ℕ) → h < c → passes T B b o h 1 ≡ true
  above-passes c l may h k = all_true c _ (sym (tests_decide T B b o c (λ j m. (state.each j (omega arith)).to_come_lem)) ∙ may) h k

  module _ (k : ℕ) (listed : Listed n T B b o inversion k) where
    abbrev rest : List ℕ
    rest = set b k (b ! k - 1)

    lowered : (j : ℕ) → rest ! j ≤ b ! j
    lowered = set_lower b k (b ! k - 1) (omega arith)

    lost : rest ! k < b ! k
    lost =
        let some_left = active-some b k listed.on in
        let there = listed.there in
        let few = table.not_many in
        rw (get_or-set_same b k (b ! k - 1) 0 (rw s.budgets (omega arith))) (omega arith)

    member_spent : (h : ℕ) → h < n → passes T B rest o h 1 ≡ true
    member_spent h l = ⊎_elim above below (below_or_not h k)
      where
        above : h < k → passes T B rest o h 1 ≡ true
        above m = let there = listed.there in passes_lower T B b rest o h 1 1 (lowered h) (start_lower b rest h lowered 1) (above-passes k (omega arith) listed.may h m)

        below : k ≤ h → passes T B rest o h 1 ≡ true
        below m = passes_lower T B b rest o h 0 1 (lowered h) (start_less b rest h lowered k m lost) ((stands_exactly n T B b o).0 stands h l)

  -- after the pick's tick, and before time passes
  pub spent_passes : (pick : ℕ) → tick_allowed n T B b o pick ≡ true → (h : ℕ) → h < n → passes T B (spend b pick) o h 1 ≡ true
  unfolding tick_allowed idle_listed
  spent_passes pick p h l = ⊎_elim member idles (candidate_cases n T B b o inversion pick p)
    where
      member : Listed n T B b o inversion pick → passes T B (spend b pick) o h 1 ≡ true
      member listed =
          let there = listed.there in
          let few = table.not_many in
          rw (spends b pick (omega arith)) (member_spent pick listed h l)

      idles : (pick ≡ idle) × (may_run T B b o inversion n ≡ true) → passes T B (spend b pick) o h 1 ≡ true
      idles e = rw (e.0, idle_spends b) (above-passes n (le_refl n) e.1 h l)

  -- a release leaves less waiting
  pub release_stands : (i : ℕ) → Stands n T B (release b o i).b (release b o i).o
  unfolding release
  release_stands i =
      (stands_exactly n T B (set b i 0) o).1
      (λ h l. let lower = set_lower b i 0 (omega arith) in
      passes_lower T B b (set b i 0) o h 0 0 (lower h) (start_lower b (set b i 0) h lower 0) ((stands_exactly n T B b o).0 stands h l))
