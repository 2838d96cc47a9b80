-- A position is below S, and the pick is in the list.
use Prim.Native.Nat.{ℕ, ◌+◌, ◌^◌, ◌≤◌, ◌<◌}
use mathlib.Core.Path.{◌≡◌, refl}
use mathlib.Core.Bool.{Bool, true, false, cond}
use mathlib.Core.List.{List, [], ◌∷◌}
use native.Mathlib.Nat.{mod-lt, zero-add, suc_inj, le_refl}
use native.Mathlib.Omega.{arith}
use borrow.Author.Tests.{ltb-false, eq-eqb}
use lib.Dec.{ltb, eqb}
use lib.ListN.{length}
use Rattle.basis.specs.Words.{total, has}
use Rattle.laws.proofs.Tests.{or_left, or_right}
use Rattle.rules.specs.Numbers.{TableInRange, StateInRange}
use Rattle.rules.specs.Candidates.{candidates, inversion}
use Rattle.rules.specs.Pick.{position, first_exceeding, S, decision}
use Rattle.rules.specs.Tick.{tick_allowed}
use Rattle.laws.proofs.Weights.{sum_positive, sum_small, weights_beside}

pub position_below : (word sum : ℕ) → 0 < sum → position word sum < sum
unfolding position
position_below word sum pos = mod-lt word pos

pub exceeding_has : (at running : ℕ) (cs xs : List ℕ) → length cs ≡ length xs → at < running + total xs → running ≤ at → has cs (first_exceeding at running cs xs) ≡ true
unfolding first_exceeding total has
exceeding_has at running [] [] e below above = absurd (omega arith)
exceeding_has at running [] (x ∷ xs) e below above = absurd (omega arith)
exceeding_has at running (c ∷ cs) [] e below above = absurd (omega arith)
exceeding_has at running (c ∷ cs) (x ∷ xs) e below above = go (ltb at (running + x)) refl (exceeding_has at (running + x) cs xs (suc_inj e))
  where
    go : (t : Bool) → ltb at (running + x) ≡ t
        → (at < running + x + total xs → running + x ≤ at → has cs (first_exceeding at (running + x) cs xs) ≡ true)
        → has (c ∷ cs) (cond t c (first_exceeding at (running + x) cs xs)) ≡ true
    go true d later = or_left _ (eq-eqb c c refl)
    go false d later = or_right (eqb (first_exceeding at (running + x) cs xs) c) (later (omega arith) (ltb-false at (running + x) d))

module _ (n : ℕ) (T B phase b o : List ℕ) (t : TableInRange n T B phase) (s : StateInRange n T B b o) where
  pub S_positive : 0 < S n T B b o
  unfolding S
  S_positive = sum_positive n T B phase b o inversion t s

  pub S_small : S n T B b o < 2 ^ 29
  unfolding S
  S_small = sum_small n T B phase b o inversion t s (le_refl 1)

  -- the pick is in the list
  pub decision_listed : (word : ℕ) → has (candidates n T B b o inversion) (decision n T B b o word) ≡ true
  unfolding decision S
  decision_listed word =
      let below = position_below word (S n T B b o) S_positive in
      exceeding_has (position word (S n T B b o)) 0 _ _ (weights_beside n T B b o inversion) (rw zero-add below) (omega arith)

  -- so a tick for it is allowed
  pub decision-allowed : (word : ℕ) → tick_allowed n T B b o (decision n T B b o word) ≡ true
  unfolding tick_allowed
  decision-allowed word = decision_listed word
