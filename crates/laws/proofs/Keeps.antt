-- A fresh start is in range, and ticks and releases keep a state in range.
use Prim.Native.Nat.{ℕ, ◌-◌, ◌≤◌, ◌<◌}
use mathlib.Core.Path.{◌≡◌, refl, ◌∙◌}
use mathlib.Core.Bool.{Bool, true, false, cond}
use mathlib.Core.List.{List}
use native.Mathlib.Nat.{le_refl, le_trans}
use native.Mathlib.Omega.{arith}
use borrow.Author.Tests.{eqb-true, eqb-false, eq-eqb, ne_eqb}
use lib.Dec.{eqb}
use lib.ListN.{length, set, length-set, get_or-replicate}
use Rattle.basis.specs.Words.{◌!◌, filled}
use Rattle.laws.proofs.Filled.{filled-length, filled_at, filled_beyond, set_lower}
use Rattle.rules.specs.Numbers.{most_partitions, TableInRange, StateInRange}
use Rattle.rules.specs.FreshStart.{fresh_b, fresh_o, fresh_start, zeros}
use Rattle.rules.specs.Tick.{spend, replenishes, next_b, next_o, pass_time, tick}
use Rattle.rules.specs.Release.{release}
use Rattle.rules.specs.Candidates.{idle}
use Rattle.laws.proofs.Numbers.{GoodPartition, GoodTable, table-good, GoodPair, GoodState, state-good, good-state}

-- what the test of a replenishment says
pub replenished : (o : List ℕ) (i : ℕ) → replenishes o i ≡ true → o ! i ≤ 1
unfolding replenishes
replenished o i p = let last = eqb-true (o ! i - 1) 0 p in omega arith

pub not_replenished : (o : List ℕ) (i : ℕ) → replenishes o i ≡ false → 2 ≤ o ! i
unfolding replenishes
not_replenished o i p = let last : ¬ (o ! i - 1 ≡ 0) = eqb-false (o ! i - 1) 0 p in omega arith

zeros_long : length zeros ≡ most_partitions
zeros_long = refl

zeros-at : (i : ℕ) → i < most_partitions → zeros ! i ≡ 0
zeros-at i l = get_or-replicate most_partitions i 0 0 l

module _ (n : ℕ) (T B phase : List ℕ) (t : TableInRange n T B phase) where
  table : GoodTable n T B phase
  table = table-good n T B phase t

  -- what a fresh start holds at each place
  started : (f : ℕ → ℕ) (i : ℕ) → i < n → filled n f zeros ! i ≡ f i
  started f i l = filled_at n f zeros i table.not_many l

  pub fresh_whole : (i : ℕ) → i < n → phase ! i ≡ 0 → ((fresh_start n T B phase).b ! i ≡ B ! i) × ((fresh_start n T B phase).o ! i ≡ T ! i)
  unfolding fresh_start fresh_b fresh_o
  fresh_whole i l e = (started (fresh_b B phase) i l ∙ rw (eq-eqb (phase ! i) 0 e), started (fresh_o T phase) i l ∙ rw (eq-eqb (phase ! i) 0 e))

  pub fresh_phase : (i : ℕ) → i < n → ¬ (phase ! i ≡ 0) → (fresh_start n T B phase).o ! i ≡ phase ! i
  unfolding fresh_o fresh_start
  fresh_phase i l other = started (fresh_o T phase) i l ∙ rw (ne_eqb (phase ! i) 0 other)

  pub fresh_empty : (i : ℕ) → i < n → ¬ (phase ! i ≡ 0) → (fresh_start n T B phase).b ! i ≡ 0
  unfolding fresh_start fresh_b
  fresh_empty i l other = started (fresh_b B phase) i l ∙ rw (ne_eqb (phase ! i) 0 other)

  unstarted : (f : ℕ → ℕ) (i : ℕ) → n ≤ i → i < most_partitions → filled n f zeros ! i ≡ 0
  unstarted f i l k = filled_beyond n f zeros i l ∙ zeros-at i k

  fresh_pair : (i : ℕ) → GoodPartition (T ! i) (B ! i) (phase ! i) → GoodPair (T ! i) (B ! i) (fresh_b B phase i) (fresh_o T phase i)
  unfolding fresh_b fresh_o
  fresh_pair i g = go (eqb (phase ! i) 0) refl
    where
      go : (a : Bool) → eqb (phase ! i) 0 ≡ a → GoodPair (T ! i) (B ! i) (cond a (B ! i) 0) (cond a (T ! i) (phase ! i))
      go true e = record { remaining = le_refl (B ! i); to_come_lem = g.period; in_period = le_refl (T ! i) }
      go false e =
          let later : ¬ (phase ! i ≡ 0) = eqb-false (phase ! i) 0 e in
          let less = g.phased in
          record { remaining = omega arith; to_come_lem = omega arith; in_period = omega arith }

  pub fresh_in_range : StateInRange n T B (fresh_start n T B phase).b (fresh_start n T B phase).o
  unfolding fresh_start
  fresh_in_range =
      good-state n T B _ _ (filled-length n _ zeros ∙ zeros_long) (filled-length n _ zeros ∙ zeros_long)
      (record {
        each = λ i l. rw (started (fresh_b B phase) i l, started (fresh_o T phase) i l) (fresh_pair i (table.each i l));
        beyond = λ i l k. (unstarted _ i l k, unstarted _ i l k);
      })

  module _ (b o : List ℕ) (s : StateInRange n T B b o) where
    state : GoodState n T B b o
    state = state-good n T B b o table.not_many s

    -- a list of budgets that nowhere grew, and is 0 where b was
    lowered : (c : List ℕ) → length c ≡ most_partitions → ((i : ℕ) → c ! i ≤ b ! i) → StateInRange n T B c o
    lowered c long less =
        good-state n T B c o long s.offsets
        (record {
          each = λ i l. lower i (less i) (state.each i l);
          beyond = λ i l k. (lost i (less i) (state.beyond i l k).0, (state.beyond i l k).1);
        })
      where
        lower : (i : ℕ) → c ! i ≤ b ! i → GoodPair (T ! i) (B ! i) (b ! i) (o ! i) → GoodPair (T ! i) (B ! i) (c ! i) (o ! i)
        lower i l g = record { remaining = le_trans l g.remaining; to_come_lem = g.to_come_lem; in_period = g.in_period }

        lost : (i : ℕ) → c ! i ≤ b ! i → b ! i ≡ 0 → c ! i ≡ 0
        lost i l e = omega arith

    -- a release keeps a state in range
    pub release_in_range : (i : ℕ) → StateInRange n T B (release b o i).b (release b o i).o
    unfolding release
    release_in_range i = lowered (set b i 0) (length-set b i 0 ∙ s.budgets) (set_lower b i 0 (omega arith))

    -- and so does the first step of a tick
    pub spend_in_range : (pick : ℕ) → StateInRange n T B (spend b pick) o
    unfolding spend
    spend_in_range pick = go (eqb pick idle)
      where
        go : (a : Bool) → StateInRange n T B (cond a b (set b pick (b ! pick - 1))) o
        go true = s
        go false = lowered (set b pick (b ! pick - 1)) (length-set b pick _ ∙ s.budgets) (set_lower b pick (b ! pick - 1) (omega arith))

    next_pair : (i : ℕ) → 1 ≤ T ! i → GoodPair (T ! i) (B ! i) (b ! i) (o ! i) → GoodPair (T ! i) (B ! i) (next_b B b o i) (next_o T o i)
    unfolding next_b next_o
    next_pair i period h = go (replenishes o i) refl
      where
        go : (a : Bool) → replenishes o i ≡ a → GoodPair (T ! i) (B ! i) (cond a (B ! i) (b ! i)) (cond a (T ! i) (o ! i - 1))
        go true e = record { remaining = le_refl (B ! i); to_come_lem = period; in_period = le_refl (T ! i) }
        go false e =
            let later = not_replenished o i e in
            let whole = h.in_period in
            record { remaining = h.remaining; to_come_lem = omega arith; in_period = omega arith }

    -- what passing time leaves at each place
    passed : (f : ℕ → ℕ) (xs : List ℕ) → length xs ≡ most_partitions → (i : ℕ) → i < n → filled n f xs ! i ≡ f i
    passed f xs long i l = filled_at n f xs i (rw long table.not_many) l

    pub time_renews : (i : ℕ) → i < n → replenishes o i ≡ true → ((pass_time n T B b o).b ! i ≡ B ! i) × ((pass_time n T B b o).o ! i ≡ T ! i)
    unfolding pass_time next_b next_o
    time_renews i l due = (passed (next_b B b o) b s.budgets i l ∙ rw due, passed (next_o T o) o s.offsets i l ∙ rw due)

    pub time_waits : (i : ℕ) → i < n → replenishes o i ≡ false → ((pass_time n T B b o).b ! i ≡ b ! i) × ((pass_time n T B b o).o ! i ≡ o ! i - 1)
    unfolding pass_time next_b next_o
    time_waits i l not-due = (passed (next_b B b o) b s.budgets i l ∙ rw not-due, passed (next_o T o) o s.offsets i l ∙ rw not-due)

    -- and the second
    pub time_in_range : StateInRange n T B (pass_time n T B b o).b (pass_time n T B b o).o
    unfolding pass_time
    time_in_range =
        good-state n T B _ _ (filled-length n _ b ∙ s.budgets) (filled-length n _ o ∙ s.offsets)
        (record {
          each = λ i l. rw (passed (next_b B b o) b s.budgets i l, passed (next_o T o) o s.offsets i l) (next_pair i (table.each i l).period (state.each i l));
          beyond = λ i l k. (filled_beyond n _ b i l ∙ (state.beyond i l k).0, filled_beyond n _ o i l ∙ (state.beyond i l k).1);
        })

  -- a tick keeps a state in range, whatever the pick
  pub tick_in_range : (b o : List ℕ) (pick : ℕ) → StateInRange n T B b o → StateInRange n T B (tick n T B b o pick).b (tick n T B b o pick).o
  unfolding tick
  tick_in_range b o pick s = time_in_range (spend b pick) o (spend_in_range b o s pick)

-- "The start counts as the replenishment of each phase 0 partition.": it has what a replenishment leaves
pub fresh_as_replenished : (T B phase b o : List ℕ) (i : ℕ) → phase ! i ≡ 0 → replenishes o i ≡ true → (fresh_b B phase i ≡ next_b B b o i) × (fresh_o T phase i ≡ next_o T o i)
unfolding fresh_b fresh_o next_b next_o
fresh_as_replenished T B phase b o i e now = (rw (eq-eqb (phase ! i) 0 e, now), rw (eq-eqb (phase ! i) 0 e, now))
