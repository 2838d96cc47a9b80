-- 01, "Numbers": what is in range, and the first that isn't.
use Rattle.std.specs.Prelude.{ℕ, ◌-◌, Bool, cond, not, ◌&&◌, List, ◌≡◌, ltb, eqb, length}
use Rattle.std.proofs.Math.Option.{Option, some, none}
use Rattle.basis.specs.Words.{◌!◌, within, first}

-- "1 to 16 partitions."; "A state holds 16 pairs"
abbrev pub most_partitions : ℕ
most_partitions = 16

-- "At most 64 tasks."
abbrev pub most_tasks : ℕ
most_tasks = 64

-- "period T (1 to 4,096), budget B (1 to T), phase (0 to T − 1)"
unfoldable pub partition_in_range : ℕ → ℕ → ℕ → Bool
partition_in_range T B phase = within 1 4096 T && within 1 T B && within 0 (T - 1) phase

-- "first bad index; 0 for no partitions, 16 for more than 16"; "A count is judged before the fields"
unfoldable pub first_bad_partition : ℕ → List ℕ → List ℕ → List ℕ → Option ℕ
first_bad_partition n T B phase =
    cond (eqb n 0) (some 0)
    (cond (ltb most_partitions n) (some most_partitions)
    (first n (λ i. not (partition_in_range (T ! i) (B ! i) (phase ! i)))))

-- the table of n partitions is in range
abbrev pub TableInRange : ℕ → List ℕ → List ℕ → List ℕ → Type 0
TableInRange n T B phase = first_bad_partition n T B phase ≡ none

-- "Each names a partition, a shortest gap p (1 to 65,535) and a cost e (1 to p)."
unfoldable pub task_in_range : ℕ → ℕ → ℕ → ℕ → Bool
task_in_range n partition p e = ltb partition n && within 1 65535 p && within 1 p e

-- "first bad task; 64 for more than 64"
unfoldable pub first_bad_task : ℕ → ℕ → List ℕ → List ℕ → List ℕ → Option ℕ
first_bad_task n m partition p e =
    cond (ltb most_tasks m) (some most_tasks)
    (first m (λ i. not (task_in_range n (partition ! i) (p ! i) (e ! i))))

-- the m tasks beside a table of n partitions are in range
abbrev pub TasksInRange : ℕ → ℕ → List ℕ → List ℕ → List ℕ → Type 0
TasksInRange n m partition p e = first_bad_task n m partition p e ≡ none

-- "remaining budget b (0 to B) and ticks o until the next replenishment (1 to T). Pairs beyond the table are 0, 0."
unfoldable pub pair_in_range : ℕ → List ℕ → List ℕ → List ℕ → List ℕ → ℕ → Bool
pair_in_range n T B b o i =
    cond (ltb i n) (within 0 (B ! i) (b ! i) && within 1 (T ! i) (o ! i)) (eqb (b ! i) 0 && eqb (o ! i) 0)

-- "first bad pair", of the 16
unfoldable pub first_bad_pair : ℕ → List ℕ → List ℕ → List ℕ → List ℕ → Option ℕ
first_bad_pair n T B b o = first most_partitions (λ i. not (pair_in_range n T B b o i))

-- the state b, o over a table of n partitions is in range: it "holds 16 pairs", and none is bad
pub record StateInRange (n : ℕ) (T B b o : List ℕ) : Type 0 where
  pub budgets : length b ≡ most_partitions
  pub offsets : length o ≡ most_partitions
  pub pairs : first_bad_pair n T B b o ≡ none
