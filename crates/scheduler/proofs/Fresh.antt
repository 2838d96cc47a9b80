-- A fresh start, partition by partition.
use Prim.Native.Nat.{ℕ, ◌+◌, ◌<◌}
use mathlib.Core.Path.{◌≡◌, refl, sym, ◌∙◌, ap}
use borrow.Author.Tests.{eq-eqb, ne_eqb}
use lib.ListN.{replicate, set, get_or-replicate}
use Rattle.basis.specs.Words.{◌!◌, filled}
use Rattle.rules.specs.declared.Pairs.{Pairs}
use Rattle.rules.specs.declared.Table.{Table}
use Rattle.rules.specs.FreshStart.{zeros, fresh_b, fresh_o, fresh_start}
use Rattle.laws.proofs.Filled.{filled_next, filled-still}

-- ---- a fresh start has come to i
abbrev pub FreshTo : Table → ℕ → Pairs → Type 0
FreshTo t i p = p ≡ fresh_start i t.period t.budget t.phase

pub fresh_begins : (t : Table) → FreshTo t 0 (record { b = replicate 16 0; o = replicate 16 0 })
unfolding fresh_start filled
fresh_begins t = refl

module _ (t : Table) (i : ℕ) (p : Pairs) (here : FreshTo t i p) where
  b_here : p.b ≡ filled i (fresh_b t.budget t.phase) zeros
  unfolding fresh_start
  b_here = ap (λ (x : Pairs). x.b) here

  o_here : p.o ≡ filled i (fresh_o t.period t.phase) zeros
  unfolding fresh_start
  o_here = ap (λ (x : Pairs). x.o) here

  -- phase 0
  pub fresh_whole : t.phase ! i ≡ 0 → FreshTo t (i + 1) (record { b = set p.b i (t.budget ! i); o = set p.o i (t.period ! i) })
  unfolding fresh_start fresh_b fresh_o
  fresh_whole e = λ j. record { b = b_is j; o = o_is j }
    where
      b_is : set p.b i (t.budget ! i) ≡ filled (i + 1) (fresh_b t.budget t.phase) zeros
      b_is = filled_next (fresh_b t.budget t.phase) zeros p.b i (t.budget ! i) b_here (sym (rw (eq-eqb (t.phase ! i) 0 e)))

      o_is : set p.o i (t.period ! i) ≡ filled (i + 1) (fresh_o t.period t.phase) zeros
      o_is = filled_next (fresh_o t.period t.phase) zeros p.o i (t.period ! i) o_here (sym (rw (eq-eqb (t.phase ! i) 0 e)))

  -- another phase: b is 0 still
  pub fresh_waits : i < 16 → (t.phase ! i ≡ 0 → ⊥) → FreshTo t (i + 1) (record { b = p.b; o = set p.o i (t.phase ! i) })
  unfolding fresh_start fresh_b fresh_o
  fresh_waits l other = λ j. record { b = b_is j; o = o_is j }
    where
      b_is : p.b ≡ filled (i + 1) (fresh_b t.budget t.phase) zeros
      b_is = filled-still (fresh_b t.budget t.phase) zeros p.b i b_here (get_or-replicate 16 i 0 0 l ∙ sym (rw (ne_eqb (t.phase ! i) 0 other)))

      o_is : set p.o i (t.phase ! i) ≡ filled (i + 1) (fresh_o t.period t.phase) zeros
      o_is = filled_next (fresh_o t.period t.phase) zeros p.o i (t.phase ! i) o_here (sym (rw (ne_eqb (t.phase ! i) 0 other)))
