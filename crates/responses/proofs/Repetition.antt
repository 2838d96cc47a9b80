-- The repetition, as the code makes it, is the response.
use Prim.Native.Nat.{ℕ, ◌+◌, ◌-◌, ◌*◌, ◌≤◌, ◌<◌}
use mathlib.Core.Path.{◌≡◌, sym, ◌∙◌, ap, subst}
use mathlib.Core.Bool.{false, cond}
use mathlib.Core.List.{List}
use native.Mathlib.Omega.{arith}
use borrow.Author.Tests.{lt-ltb, le-ltb}
use lib.Dec.{eqb, ltb}
use Rattle.basis.specs.Words.{◌!◌, ceil, sum_below}
use Rattle.basis.specs.Reckoned.{Reckoned}
use Rattle.rules.specs.TaskResponse.{Work, load, next_response, exceeds, settled_response, ticks_or_late, own_tasks}
use Rattle.laws.proofs.Settle.{Start, Repeating, repeating_begins, repeated_past, repeated_still, repeating_on, repeating_nearer}
use Rattle.laws.proofs.TaskResponse.{response_start, load_is}

module _ (T B : ℕ) (part p e : List ℕ) (i h : ℕ) (x : Work) where
  -- the tasks ranked above it, and what a round makes of r
  abbrev above : List Work
  above = own_tasks i part p e h

  abbrev round : ℕ → ℕ
  round = next_response T B above x.e

  -- what the repetition answers
  abbrev pub Answer : ℕ
  Answer = ticks_or_late T B (settled_response T B above x)

  -- the loop has come to r
  pub record Going (r : ℕ) : Type 0 where
    pub repeats : Repeating round (exceeds T B x.p) x.p (settled_response T B above x) r
    pub small : r < 36028797018963968

  started : Start round (exceeds T B x.p) x.p x.e
  started = response_start T B above x

  pub going_begins : (own : ℕ) → own ≡ x.e → own < 65536 → Going own
  unfolding settled_response
  going_begins own costs cheap = subst Going (sym costs) (record { repeats = repeating_begins started; small = omega arith })

  -- what the code keeps in 64 bits
  module _ (away limit own : ℕ) (rest : away ≡ T - B) (gap : limit ≡ x.p) (costs : own ≡ x.e) (r : ℕ) (here : Going r) where
    pub going_late : limit < away + r → 0 ≡ Answer
    going_late l = ap (ticks_or_late T B) (repeated_past started _ r here.repeats (lt-ltb x.p (T - B + r) (omega arith)))

    -- a round: s is what the ranks above ask for, y what it makes of r
    module _ (s y : ℕ) (asked : Reckoned 274877906945 (sum_below i (λ j. cond (eqb (part ! j) h) (ceil (away + r) (p ! j) * e ! j) 0)) s)
        (served : Reckoned 36028797018963968 (own + s + ceil (own + s) B * away) y) (near : away + r ≤ limit) where
      same_load : own + s ≡ load T B above x.e r
      same_load =
          (λ k. costs k + asked.is k) ∙ (λ k. x.e + sum_below i (λ j. cond (eqb (part ! j) h) (ceil (rest k + r) (p ! j) * e ! j) 0)) ∙ sym (load_is part p e T B i h x.e r)

      next_is : y ≡ round r
      unfolding next_response
      next_is = served.is ∙ (λ k. same_load k + ceil (same_load k) B * rest k)

      in_time : ltb x.p (T - B + r) ≡ false
      in_time = le-ltb x.p (T - B + r) (omega arith)

      pub going_still : y ≡ r → away + r ≡ Answer
      going_still same = ap (λ z. z + r) rest ∙ ap (ticks_or_late T B) (repeated_still started _ r here.repeats in_time y next_is same)

      module _ (moved : y ≡ r → ⊥) where
        pub going_on : Going y
        going_on = record { repeats = repeating_on started _ r here.repeats in_time y next_is moved; small = served.small }

        pub going_nearer : x.p + 1 - y < x.p + 1 - r
        going_nearer = repeating_nearer started _ r here.repeats in_time y next_is moved
