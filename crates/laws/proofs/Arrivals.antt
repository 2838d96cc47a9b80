-- The count of arrivals: these are the only facts about division that the guarantee needs.
use Prim.Native.Nat.{ℕ, suc, ◌+◌, ◌-◌, ◌≤◌, ◌<◌}
use mathlib.Core.Path.{◌≡◌, ap, ◌∙◌, sym}
use native.Mathlib.Nat.{suc-sub-suc, sub-le, sub-eq-zero_of_le}
use native.Mathlib.Omega.{arith}
use Rattle.basis.specs.Words.{ceil}
use Rattle.laws.proofs.Ceil.{ceil_le, ceil-zero, ceil_mono, ceil_step}
use Rattle.rules.specs.BusyLength.{arrivals}

-- time moves by one
pub arrivals_later : (o T W : ℕ) → arrivals (suc o) T (suc W) ≡ arrivals o T W
unfolding arrivals
arrivals_later o T W = ap (λ x. ceil x T) (suc-sub-suc W o)

-- the synchronous case: one arrival now, and the later ones
pub arrivals_synchronous : (T W : ℕ) → 0 < T → 0 < W → suc (arrivals T T W) ≡ ceil W T
unfolding arrivals
arrivals_synchronous T W pos some = sym (ceil_step W T pos some)

-- an arrival due at the next tick has come
pub arrivals_due : (T W : ℕ) → 0 < T → 0 < W → arrivals 1 T (suc W) ≡ suc (arrivals T T W)
unfolding arrivals
arrivals_due T W pos some = ap (λ x. ceil x T) (omega arith) ∙ ceil_step W T pos some

-- the synchronous case is the worst
pub arrivals_most : (o T W : ℕ) → arrivals o T W ≤ ceil W T
unfolding arrivals
arrivals_most o T W = ceil_mono (W - o) W T (sub-le W o)

-- none before the first is due; at most one before the second is
pub arrivals-none : (o T W : ℕ) → W ≤ o → arrivals o T W ≡ 0
unfolding arrivals
arrivals-none o T W h = ap (λ x. ceil x T) (sub-eq-zero_of_le h) ∙ ceil-zero T

pub arrivals-one : (o T W : ℕ) → 0 < T → W ≤ o + T → arrivals o T W ≤ 1
unfolding arrivals
arrivals-one o T W pos h = ceil_le (W - o) T 1 pos (omega arith)

pub arrivals_mono : (o T W X : ℕ) → W ≤ X → arrivals o T W ≤ arrivals o T X
unfolding arrivals
arrivals_mono o T W X h = ceil_mono (W - o) (X - o) T (omega arith)
