-- Time that passes, and the tick that it is a part of: the loop over the pairs.
use Prim.Native.Nat.{ℕ, ◌+◌, ◌-◌, ◌≤◌, ◌<◌}
use mathlib.Core.Path.{◌≡◌, sym, ◌∙◌, ap}
use mathlib.Core.List.{List}
use mathlib.Core.Logic.{⊎_elim}
use native.Mathlib.Nat.{le_refl}
use native.Mathlib.Omega.{arith}
use borrow.Author.Tests.{eq-eqb, ne_eqb}
use lib.ListN.{length, set}
use Rattle.basis.specs.Words.{◌!◌, filled}
use Rattle.rules.specs.Tick.{spend, replenishes, next_b, next_o, pass_time, tick}
use Rattle.rules.specs.declared.Pairs.{Pairs}
use Rattle.rules.specs.declared.Table.{Table}
use Rattle.laws.proofs.Tests.{below_or_not}
use Rattle.laws.proofs.Tick.{spend-length}
use Rattle.laws.proofs.Filled.{filled_beyond, filled_next, filled-still, filled_past}
use Rattle.pairs.specs.Parts.{paired}
use Rattle.ticks.specs.Promises.{PassTimeIs, PassTickIs}
use Rattle.pairs.proofs.Parts.{more_than_pairs, all-paired}

-- ---- time has passed up to i
module _ (t : Table) (p q : Pairs) (i : ℕ) (here : PassTimeIs i t p q) where
  o_still : q.o ! i ≡ p.o ! i
  unfolding pass_time
  o_still = ap (λ (x : Pairs). x.o ! i) here ∙ filled_beyond i (next_o t.period p.o) p.o i (le_refl i)

  -- o falls by 1, and b stays
  pub pass_later : 1 < q.o ! i → PassTimeIs (i + 1) t p (record { b = q.b; o = set q.o i (q.o ! i - 1) })
  unfolding pass_time next_b next_o replenishes
  pass_later l = λ j. record { b = b_is j; o = o_is j }
    where
      not_yet : p.o ! i - 1 ≡ 0 → ⊥
      not_yet due = let still = o_still in omega arith

      b_is : q.b ≡ filled (i + 1) (next_b t.budget p.b p.o) p.b
      b_is = filled-still (next_b t.budget p.b p.o) p.b q.b i (ap (λ (x : Pairs). x.b) here) (sym (rw (ne_eqb (p.o ! i - 1) 0 not_yet)))

      o_is : set q.o i (q.o ! i - 1) ≡ filled (i + 1) (next_o t.period p.o) p.o
      o_is = filled_next (next_o t.period p.o) p.o q.o i (q.o ! i - 1) (ap (λ (x : Pairs). x.o) here) (ap (λ x. x - 1) o_still ∙ sym (rw (ne_eqb (p.o ! i - 1) 0 not_yet)))

  -- o reaches 0
  pub pass_renews : q.o ! i ≤ 1 → PassTimeIs (i + 1) t p (record { b = set q.b i (t.budget ! i); o = set q.o i (t.period ! i) })
  unfolding pass_time next_b next_o replenishes
  pass_renews l = λ j. record { b = b_is j; o = o_is j }
    where
      due : p.o ! i - 1 ≡ 0
      due = let still = o_still in omega arith

      b_is : set q.b i (t.budget ! i) ≡ filled (i + 1) (next_b t.budget p.b p.o) p.b
      b_is = filled_next (next_b t.budget p.b p.o) p.b q.b i (t.budget ! i) (ap (λ (x : Pairs). x.b) here) (sym (rw (eq-eqb (p.o ! i - 1) 0 due)))

      o_is : set q.o i (t.period ! i) ≡ filled (i + 1) (next_o t.period p.o) p.o
      o_is = filled_next (next_o t.period p.o) p.o q.o i (t.period ! i) (ap (λ (x : Pairs). x.o) here) (sym (rw (eq-eqb (p.o ! i - 1) 0 due)))

-- ---- and both are the tick: of sixteen pairs, whatever the count
module _ (t : Table) (p : Pairs) (pick : ℕ) (b-long : length p.b ≡ 16) (o-long : length p.o ≡ 16) where
  pub tick_is : (spent : List ℕ) (n : ℕ) (q : Pairs) → spent ≡ spend p.b pick → n ≡ paired t.count (length p.o) → PassTimeIs n t (record { b = spent; o = p.o }) q
      → PassTickIs t p pick q
  unfolding tick pass_time
  tick_is spent n q e is d = d ∙ whole ∙ ap (λ (x : List ℕ). pass_time t.count t.period t.budget x p.o) e
    where
      long : length spent ≡ 16
      long = ap length e ∙ spend-length p.b pick ∙ b-long

      whole : pass_time n t.period t.budget spent p.o ≡ pass_time t.count t.period t.budget spent p.o
      whole = ⊎_elim many few (below_or_not (length p.o) t.count)
        where
          many : length p.o < t.count → pass_time n t.period t.budget spent p.o ≡ pass_time t.count t.period t.budget spent p.o
          many l =
              ap (λ m. pass_time m t.period t.budget spent p.o) (is ∙ sym (more_than_pairs t.count (length p.o) l) ∙ o-long)
              ∙ sym (λ i. record { b = filled_past 16 t.count (next_b t.budget spent p.o) spent long (omega arith) i; o = filled_past 16 t.count (next_o t.period p.o) p.o o-long (omega arith) i })

          few : t.count ≤ length p.o → pass_time n t.period t.budget spent p.o ≡ pass_time t.count t.period t.budget spent p.o
          few l = ap (λ m. pass_time m t.period t.budget spent p.o) (is ∙ sym (all-paired t.count (length p.o) l))
