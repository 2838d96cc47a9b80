-- What being in range says of each partition, each task and each pair.
use Prim.Native.Nat.{ℕ, ◌-◌, ◌≤◌, ◌<◌}
use mathlib.Core.Path.{◌≡◌, refl, ◌∙◌, sym}
use mathlib.Core.Bool.{Bool, true, false, cond, not, ◌&&◌}
use mathlib.Core.List.{List}
use mathlib.Core.Option.{some, none}
use mathlib.Core.Logic.{⊎_elim}
use native.Mathlib.Omega.{arith}
use borrow.Author.Tests.{ltb-true, ltb-false, lt-ltb, le-ltb, eqb-true, eqb-false, eq-eqb, not-false}
use lib.Dec.{eqb, ltb}
use lib.ListN.{length}
use Rattle.basis.specs.Words.{◌!◌, within, first}
use Rattle.laws.proofs.Tests.{both, and_left, and_right, within_low, within_high, is_within, below_or_not, some_is_none}
use Rattle.laws.proofs.Places.{first-none, none_first}
use Rattle.rules.specs.Numbers.{most_partitions, most_tasks, partition_in_range, first_bad_partition, TableInRange, task_in_range, first_bad_task, TasksInRange, pair_in_range, first_bad_pair, StateInRange}

pub record GoodPartition (T B phase : ℕ) : Type 0 where
  pub period : 1 ≤ T
  pub longest : T ≤ 4096
  pub budget : 1 ≤ B
  pub affordable : B ≤ T
  pub phased : phase < T

pub record GoodTable (n : ℕ) (T B phase : List ℕ) : Type 0 where
  pub some_there : 1 ≤ n
  pub not_many : n ≤ most_partitions
  pub each : (i : ℕ) → i < n → GoodPartition (T ! i) (B ! i) (phase ! i)

partition-good : (T B phase : ℕ) → partition_in_range T B phase ≡ true → GoodPartition T B phase
unfolding partition_in_range
partition-good T B phase p =
    let fields = and_left _ _ p in
    let low = within_low 1 4096 T (and_left _ _ fields) in
    let last = within_high 0 (T - 1) phase (and_right (within 1 4096 T && within 1 T B) _ p) in
    record {
      period = low;
      longest = within_high 1 4096 T (and_left _ _ fields);
      budget = within_low 1 T B (and_right (within 1 4096 T) _ fields);
      affordable = within_high 1 T B (and_right (within 1 4096 T) _ fields);
      phased = omega arith;
    }

pub table-good : (n : ℕ) (T B phase : List ℕ) → TableInRange n T B phase → GoodTable n T B phase
unfolding first_bad_partition
table-good n T B phase p = go (eqb n 0) refl (ltb most_partitions n) refl p
  where
    go : (a : Bool) → eqb n 0 ≡ a → (t : Bool) → ltb most_partitions n ≡ t
        → cond a (some 0) (cond t (some most_partitions) (first n (λ i. not (partition_in_range (T ! i) (B ! i) (phase ! i))))) ≡ none
        → GoodTable n T B phase
    go true e t d q = some_is_none q
    go false e true d q = some_is_none q
    go false e false d q =
        let not-zero : n ≡ 0 → ⊥ = eqb-false n 0 e in
        record {
          some_there = omega arith;
          not_many = ltb-false most_partitions n d;
          each = λ i l. partition-good _ _ _ (not-false _ (first-none n _ q i l));
        }

-- ---- tasks
pub record GoodTask (n partition p e : ℕ) : Type 0 where
  pub there : partition < n
  pub gap : 1 ≤ p
  pub longest : p ≤ 65535
  pub cost : 1 ≤ e
  pub affordable : e ≤ p

pub record GoodTasks (n m : ℕ) (partition p e : List ℕ) : Type 0 where
  pub not_many : m ≤ most_tasks
  pub each : (i : ℕ) → i < m → GoodTask n (partition ! i) (p ! i) (e ! i)

task-good : (n partition p e : ℕ) → task_in_range n partition p e ≡ true → GoodTask n partition p e
unfolding task_in_range
task-good n partition p e q =
    let fields = and_left _ _ q in
    let last = and_right (ltb partition n && within 1 65535 p) _ q in
    record {
      there = ltb-true partition n (and_left _ _ fields);
      gap = within_low 1 65535 p (and_right (ltb partition n) _ fields);
      longest = within_high 1 65535 p (and_right (ltb partition n) _ fields);
      cost = within_low 1 p e last;
      affordable = within_high 1 p e last;
    }

pub tasks_good : (n m : ℕ) (partition p e : List ℕ) → TasksInRange n m partition p e → GoodTasks n m partition p e
unfolding first_bad_task
tasks_good n m partition p e q = go (ltb most_tasks m) refl q
  where
    go : (t : Bool) → ltb most_tasks m ≡ t → cond t (some most_tasks) (first m (λ i. not (task_in_range n (partition ! i) (p ! i) (e ! i)))) ≡ none → GoodTasks n m partition p e
    go true d r = some_is_none r
    go false d r = record { not_many = ltb-false most_tasks m d; each = λ i l. task-good _ _ _ _ (not-false _ (first-none m _ r i l)) }

-- ---- pairs
pub record GoodPair (T B b o : ℕ) : Type 0 where
  pub remaining : b ≤ B
  pub to_come_lem : 1 ≤ o
  pub in_period : o ≤ T

pub record GoodState (n : ℕ) (T B b o : List ℕ) : Type 0 where
  pub each : (i : ℕ) → i < n → GoodPair (T ! i) (B ! i) (b ! i) (o ! i)
  pub beyond : (i : ℕ) → n ≤ i → i < most_partitions → (b ! i ≡ 0) × (o ! i ≡ 0)

module _ (n : ℕ) (T B b o : List ℕ) where
  pair_inside : (i : ℕ) → i < n → pair_in_range n T B b o i ≡ (within 0 (B ! i) (b ! i) && within 1 (T ! i) (o ! i))
  unfolding pair_in_range
  pair_inside i l = rw (lt-ltb i n l)

  pair_outside : (i : ℕ) → n ≤ i → pair_in_range n T B b o i ≡ (eqb (b ! i) 0 && eqb (o ! i) 0)
  unfolding pair_in_range
  pair_outside i l = rw (le-ltb i n l)

  pub state-good : n ≤ most_partitions → StateInRange n T B b o → GoodState n T B b o
  unfolding first_bad_pair
  state-good most s = record { each = λ i l. inside i l (in_range i (omega arith)); beyond = λ i l k. outside i l (in_range i k) }
    where
      in_range : (i : ℕ) → i < most_partitions → pair_in_range n T B b o i ≡ true
      in_range i l = not-false _ (first-none most_partitions _ s.pairs i l)

      inside : (i : ℕ) → i < n → pair_in_range n T B b o i ≡ true → GoodPair (T ! i) (B ! i) (b ! i) (o ! i)
      inside i l p =
          let q = sym (pair_inside i l) ∙ p in
          let later = and_right (within 0 (B ! i) (b ! i)) _ q in
          record {
            remaining = within_high 0 (B ! i) (b ! i) (and_left _ _ q);
            to_come_lem = within_low 1 (T ! i) (o ! i) later;
            in_period = within_high 1 (T ! i) (o ! i) later;
          }

      outside : (i : ℕ) → n ≤ i → pair_in_range n T B b o i ≡ true → (b ! i ≡ 0) × (o ! i ≡ 0)
      outside i l p =
          let q = sym (pair_outside i l) ∙ p in
          (eqb-true (b ! i) 0 (and_left _ _ q), eqb-true (o ! i) 0 (and_right (eqb (b ! i) 0) _ q))

  pub good-state : length b ≡ most_partitions → length o ≡ most_partitions → GoodState n T B b o → StateInRange n T B b o
  unfolding first_bad_pair
  good-state bs os g =
      record { budgets = bs; offsets = os; pairs = none_first most_partitions _ (λ i l. rw (⊎_elim (inside i) (outside i l) (below_or_not i n))) }
    where
      inside : (i : ℕ) → i < n → pair_in_range n T B b o i ≡ true
      inside i l =
          let pair = g.each i l in
          pair_inside i l ∙ both (is_within (omega arith) pair.remaining) (is_within pair.to_come_lem pair.in_period)

      outside : (i : ℕ) → i < most_partitions → n ≤ i → pair_in_range n T B b o i ≡ true
      outside i k l =
          let pair = g.beyond i l k in
          pair_outside i l ∙ both (eq-eqb (b ! i) 0 pair.0) (eq-eqb (o ! i) 0 pair.1)
