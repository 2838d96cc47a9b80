-- 01, "Task response (000, equations 4 and 5)": over T, B and the partition's own tasks alone.
use Rattle.std.specs.Prelude.{ℕ, suc, ◌+◌, ◌-◌, ◌*◌, List, map, Bool, ◌≡◌, ltb, eqb, length, take, get_or}
use Rattle.std.proofs.Math.Option.{Option, some, none}
use Rattle.basis.specs.Words.{◌!◌, ceil, total, those, Least, settle}

-- what the rule reads of a task
pub record Work : Type 0 where
  pub p : ℕ
  pub e : ℕ

module _ (T B : ℕ) where
  -- "L = e + the sum over tasks x ranked above in the partition of ceil((T − B + r)/p_x)·e_x"
  unfoldable pub load : List Work → ℕ → ℕ → ℕ
  load above e r = e + total (map (λ (x : Work). ceil (T - B + r) x.p * x.e) above)

  -- "then r = L + ceil(L/B)·(T − B)"
  unfoldable pub next_response : List Work → ℕ → ℕ → ℕ
  next_response above e r = load above e r + ceil (load above e r) B * (T - B)

  -- "until r stands still": the least r that does, over all r
  unfoldable pub IsResponse : List Work → ℕ → ℕ → Type 0
  IsResponse above e = Least (λ r. next_response above e r ≡ r)

  -- "T − B + r exceeds p"
  abbrev pub exceeds : ℕ → ℕ → Bool
  exceeds p r = ltb p (T - B + r)

  -- That r, unless the task is late. "From r = e: .. until r stands still or T − B + r exceeds p."
  -- Each round adds a tick or more, so one more round than there are ticks in p is enough.
  unfoldable pub settled_response : List Work → Work → Option ℕ
  settled_response above x = settle (suc x.p) (next_response above x.e) (exceeds x.p) x.e

  -- "The answer is T − B + r, or 0 for late."
  abbrev pub ticks_or_late : Option ℕ → ℕ
  ticks_or_late (some r) = T - B + r
  ticks_or_late none = 0

  -- the response of the task at a rank among the partition's own tasks
  unfoldable pub task_response : List Work → ℕ → ℕ
  task_response own rank = ticks_or_late (settled_response (take rank own) (get_or own rank (record { p = 0; e = 0 })))

-- what the rule reads of task i of a table
abbrev pub work : List ℕ → List ℕ → ℕ → Work
work p e i = record { p = p ! i; e = e ! i }

-- of the first m tasks of a table those of partition h, which "rank in table order"
unfoldable pub own_tasks : ℕ → List ℕ → List ℕ → List ℕ → ℕ → List Work
own_tasks m partition p e h = map (work p e) (those m (λ i. eqb (partition ! i) h))

-- the rank of task i in its partition, from 0
unfoldable pub rank_of : List ℕ → ℕ → ℕ
rank_of partition i = length (those i (λ j. eqb (partition ! j) (partition ! i)))

-- the response of task i of the m tasks beside a table T, B
unfoldable pub response_of_task : List ℕ → List ℕ → ℕ → List ℕ → List ℕ → List ℕ → ℕ → ℕ
response_of_task T B m partition p e i =
    task_response (T ! (partition ! i)) (B ! (partition ! i)) (own_tasks m partition p e (partition ! i)) (rank_of partition i)
