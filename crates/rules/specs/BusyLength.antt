-- 01, "Busy length (000, equations 1 and 2)". W counts ticks from now.
use Rattle.std.specs.Prelude.{ℕ, suc, ◌+◌, ◌-◌, ◌*◌, Bool, cond, List, ◌≡◌, ltb}
use Rattle.std.proofs.Math.Option.{Option}
use Rattle.basis.specs.Words.{◌!◌, ceil, sum_below, found, Least, settle}

-- "start with w + b_h + all b_j of partitions above h"
unfoldable pub busy_start : List ℕ → ℕ → ℕ → ℕ
busy_start b h w = w + b ! h + sum_below h (λ j. b ! j)

-- "max(0, ceil((W − o_j)/T_j))": the replenishments before W, at o, o + T, o + 2T, ..; the minus stops at 0
unfoldable pub arrivals : ℕ → ℕ → ℕ → ℕ
arrivals o T W = ceil (W - o) T

-- "max(0, ceil((W − o_j)/T_j))·B_j"
unfoldable pub refill : List ℕ → List ℕ → List ℕ → ℕ → ℕ → ℕ
refill T B o j W = arrivals (o ! j) (T ! j) W * B ! j

-- "inactive h (b_h = 0)"
unfoldable pub active : List ℕ → ℕ → Bool
active b h = ltb 0 (b ! h)

module _ (T B b o : List ℕ) where
  -- "add to that start, for each j above h, max(0, ..)·B_j, and for an inactive h (b_h = 0) the same term for h itself"
  unfoldable pub busy_sum : ℕ → ℕ → ℕ → ℕ
  busy_sum h w W = busy_start b h w + sum_below h (λ j. refill T B o j W) + cond (active b h) 0 (refill T B o h W)

  -- "until W stands still": the busy length is the least W that is its own sum, over all W
  unfoldable pub IsBusyLength : ℕ → ℕ → ℕ → Type 0
  IsBusyLength h w = Least (λ W. busy_sum h w W ≡ W)

-- "The deadline, counted from now, is o_h for an active h and o_h + T_h for an inactive one."
unfoldable pub deadline : List ℕ → List ℕ → List ℕ → ℕ → ℕ
deadline T b o h = cond (active b h) (o ! h) (o ! h + T ! h)

module _ (T B b o : List ℕ) where
  -- The busy length, if it is at most the deadline. "Repeat .. until W stands still"; "a W above it fails at once, the start value included".
  -- Each round adds a tick or more, so one more round than there are ticks to the deadline is enough.
  unfoldable pub busy_length : ℕ → ℕ → Option ℕ
  busy_length h w = settle (suc (deadline T b o h)) (busy_sum T B b o h w) (ltb (deadline T b o h)) (busy_start b h w)

  -- "h passes when the least such W is at most the deadline"
  unfoldable pub passes : ℕ → ℕ → Bool
  passes h w = found (busy_length h w)
