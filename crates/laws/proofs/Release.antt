-- A release changes one number: the b of its partition, which becomes 0.
use Prim.Native.Nat.{ℕ, ◌<◌}
use mathlib.Core.Path.{◌≡◌, refl}
use mathlib.Core.List.{List}
use lib.ListN.{length}
use lib.Seq.{get_or-set_same, get_or-set_other}
use Rattle.basis.specs.Words.{◌!◌}
use Rattle.rules.specs.Release.{release}

module _ (b o : List ℕ) (i : ℕ) where
  pub release-own : i < length b → (release b o i).b ! i ≡ 0
  unfolding release
  release-own l = get_or-set_same b i 0 0 l

  pub release_other : (h : ℕ) → ¬ (h ≡ i) → (release b o i).b ! h ≡ b ! h
  unfolding release
  release_other h other = get_or-set_other b i h 0 0 other

  pub release_waits : (release b o i).o ≡ o
  unfolding release
  release_waits = refl
