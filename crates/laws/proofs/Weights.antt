-- The bounds of the weights, and of their sum S: never 0, and below 2^29.
use Prim.Native.Nat.{ℕ, zero, suc, ◌+◌, ◌*◌, ◌^◌, ◌≤◌, ◌<◌}
use mathlib.Core.Path.{◌≡◌, refl, ap, ap₂, ◌∙◌, sym}
use mathlib.Core.Bool.{Bool, true, false, cond, not, ◌&&◌}
use mathlib.Core.List.{List, [], ◌∷◌, map}
use mathlib.Core.Logic.{⊎_elim}
use native.Mathlib.Nat.{div-le_self, le-div_iff_mul-le, div-lt_iff_lt-mul, le_trans, le_refl, le_of_suc-le, sub-le}
use native.Mathlib.Omega.{arith}
use borrow.Author.Tests.{not-true}
use lib.ListN.{length, length-append, length-map}
use Rattle.basis.specs.Words.{◌!◌, sum_below, total, all}
use Rattle.laws.proofs.Tests.{and_left, and_right, or_cases}
use Rattle.laws.proofs.Places.{all_true}
use Rattle.laws.proofs.Totals.{sum-none, total-append, total-part, total-those}
use Rattle.rules.specs.Numbers.{TableInRange, StateInRange}
use Rattle.rules.specs.BusyLength.{active, passes}
use Rattle.rules.specs.Candidates.{may_run, members, idle_listed, candidates, idle}
use Rattle.rules.specs.Weights.{weight, idle_weight, member_weights, weights}
use Rattle.laws.proofs.Numbers.{GoodTable, table-good, GoodState, state-good}
use Rattle.laws.proofs.BusyLength.{active-some, passes_spare}
use Rattle.laws.proofs.Candidates.{Listed, listed_member, candidate_cases, somebody}

-- ---- one weight
module _ (b o : List ℕ) (i : ℕ) where
  pub weight_most : b ! i ≤ 4096 → weight b o i ≤ 2 ^ 28
  unfolding weight
  weight_most h = le_trans (div-le_self (65536 * (b ! i)) (o ! i)) (omega arith)

  pub weight_least : 1 ≤ b ! i → 1 ≤ o ! i → o ! i ≤ 4096 → 16 ≤ weight b o i
  unfolding weight
  weight_least on pos most = (le-div_iff_mul-le {k = o ! i} {x = 16} {y = 65536 * (b ! i)} pos).1 (omega arith)

  pub weight_less : b ! i < o ! i → weight b o i < 65536
  unfolding weight
  weight_less h = (div-lt_iff_lt-mul {k = o ! i} {x = 65536 * (b ! i)} {y = 65536} (omega arith)).1 (omega arith)

pub idle_weight_most : (others : ℕ) → idle_weight others ≤ 65536
unfolding idle_weight
idle_weight_most others = sub-le 65536 others

-- ---- their sum
module _ (n : ℕ) (T B phase b o : List ℕ) (w : ℕ) (t : TableInRange n T B phase) (s : StateInRange n T B b o) where
  table : GoodTable n T B phase
  table = table-good n T B phase t

  state : GoodState n T B b o
  state = state-good n T B b o table.not_many s

  pub listed_weight_most : (c : ℕ) → c < n → weight b o c ≤ 2 ^ 28
  listed_weight_most c l =
      let pair = (state.each c l).remaining in
      let budget = (table.each c l).affordable in
      let period = (table.each c l).longest in
      weight_most b o c (omega arith)

  pub listed_weight_least : (c : ℕ) → c < n → active b c ≡ true → 16 ≤ weight b o c
  listed_weight_least c l on =
      let left = active-some b c on in
      let pair = state.each c l in
      let period = (table.each c l).longest in
      weight_least b o c left pair.to_come_lem (le_trans pair.in_period period)

  -- what a partition adds to the sum
  share : ℕ → ℕ
  share c = cond (active b c && may_run T B b o w c) (weight b o c) 0

  members-total : total (member_weights n T B b o w) ≡ sum_below n share
  unfolding member_weights members share
  members-total = total-those (weight b o) n (λ c. active b c && may_run T B b o w c)

  share_off : (c : ℕ) → (active b c && may_run T B b o w c) ≡ false → share c ≡ 0
  unfolding share
  share_off c e = rw e

  share_on : (c : ℕ) → (active b c && may_run T B b o w c) ≡ true → share c ≡ weight b o c
  unfolding share
  share_on c e = rw e

  share_inactive : (c : ℕ) → active b c ≡ false → share c ≡ 0
  share_inactive c off = share_off c (ap (λ (a : Bool). a && may_run T B b o w c) off)

  record Bounded (k : ℕ) : Type 0 where
    any : sum_below k share ≤ 65535 * k + 2 ^ 28
    passing : all k (λ h. passes T B b o h w) ≡ true → sum_below k share ≤ 65535 * k

  -- those above a listed partition passed, or are inactive
  above_listed : (k : ℕ) → may_run T B b o w k ≡ true → Bounded k → sum_below k share ≤ 65535 * k
  unfolding may_run
  above_listed k may before = ⊎_elim quiet before.passing (or_cases (all k (λ h. not (active b h))) _ may)
    where
      quiet : all k (λ h. not (active b h)) ≡ true → sum_below k share ≤ 65535 * k
      quiet off =
          let nothing : sum_below k share ≡ 0 = sum-none k share (λ j l. share_inactive j (not-true (active b j) (all_true k _ off j l))) in
          omega arith

  -- Only the last listed partition can have b ≥ o: each earlier one passed with w.
  bounded : 1 ≤ w → (k : ℕ) → k ≤ n → Bounded k
  unfolding sum_below all
  bounded pos zero l = record { any = omega arith; passing = λ p. omega arith }
  bounded pos (suc k) l = go (active b k && may_run T B b o w k) refl (bounded pos k (le_of_suc-le l))
    where
      go : (a : Bool) → (active b k && may_run T B b o w k) ≡ a → Bounded k → Bounded (suc k)
      go true e before =
          let on : active b k ≡ true = and_left _ _ e in
          let above = above_listed k (and_right (active b k) _ e) before in
          let own = share_on k e in
          let most = listed_weight_most k l in
          record {
            any = omega arith;
            passing = λ p. let spare = passes_spare T B b o k w on (and_right (all k (λ h. passes T B b o h w)) _ p) in
                let less = weight_less b o k (omega arith) in
                omega arith;
          }
      go false e before =
          let own = share_off k e in
          let any = before.any in
          record { any = omega arith; passing = λ p. let same = before.passing (and_left _ _ p) in omega arith }

  weights-total : total (weights n T B b o w) ≡ total (member_weights n T B b o w) + cond (idle_listed n T B b o w) (idle_weight (total (member_weights n T B b o w))) 0
  unfolding weights total
  weights-total = total-append (member_weights n T B b o w) _ ∙ ap (λ x. total (member_weights n T B b o w) + x) (last (idle_listed n T B b o w))
    where
      last : (a : Bool) → total (cond a (idle_weight (total (member_weights n T B b o w)) ∷ []) []) ≡ cond a (idle_weight (total (member_weights n T B b o w))) 0
      last true = omega arith
      last false = refl

  -- S is below 2^29
  pub sum_small : 1 ≤ w → total (weights n T B b o w) < 2 ^ 29
  sum_small pos =
      let bound = (bounded pos n (le_refl n)).any in
      let most = table.not_many in
      let same = members-total in
      let all_of_it = weights-total in
      let last = idle_most (idle_listed n T B b o w) (total (member_weights n T B b o w)) in
      omega arith
    where
      idle_most : (a : Bool) (x : ℕ) → cond a (idle_weight x) 0 ≤ 65536
      idle_most true x = idle_weight_most x
      idle_most false x = omega arith

  -- S is never 0: a listed partition weighs 16 or more, and a listed idle makes up what is missing of 65,536
  pub sum_positive : 0 < total (weights n T B b o w)
  unfolding idle_weight member_weights
  sum_positive = ⊎_elim member idling (candidate_cases n T B b o w (somebody n T B b o w).0 (somebody n T B b o w).1)
    where
      member : Listed n T B b o w (somebody n T B b o w).0 → 0 < total (weights n T B b o w)
      member l =
          let c : ℕ = (somebody n T B b o w).0 in
          let least = listed_weight_least c l.there l.on in
          let part = total-part (weight b o) (members n T B b o w) c (listed_member n T B b o w c l) in
          let all_of_it = weights-total in
          omega arith

      idling : ((somebody n T B b o w).0 ≡ idle) × (idle_listed n T B b o w ≡ true) → 0 < total (weights n T B b o w)
      idling e = let all_of_it = rw e.1 at weights-total in omega arith

-- the weights stand beside the candidates, one for each
pub weights_beside : (n : ℕ) (T B b o : List ℕ) (w : ℕ) → length (candidates n T B b o w) ≡ length (weights n T B b o w)
unfolding candidates weights member_weights
weights_beside n T B b o w =
    length-append (members n T B b o w) _
    ∙ ap₂ ◌+◌ (sym (length-map (members n T B b o w) (weight b o))) (last (idle_listed n T B b o w) _)
    ∙ sym (length-append (map (weight b o) (members n T B b o w)) _)
  where
    last : (a : Bool) (x : ℕ) → length (cond a (idle ∷ []) []) ≡ length (cond a (x ∷ []) [])
    last true x = refl
    last false x = refl
