-- A state stands exactly when each of its partitions passes with w = 0, and a failure names the first that doesn't.
use Prim.Native.Nat.{ℕ, ◌<◌}
use mathlib.Core.Path.{◌≡◌}
use mathlib.Core.Bool.{true, not}
use mathlib.Core.List.{List}
use mathlib.Core.Logic.{◌↔◌}
use mathlib.Core.Option.{some}
use borrow.Author.Tests.{not-false}
use Rattle.rules.specs.BusyLength.{passes}
use Rattle.rules.specs.StandingTest.{first_failing, Stands}
use Rattle.laws.proofs.Places.{First, first-none, none_first, first_some}

pub stands_exactly : (n : ℕ) (T B b o : List ℕ) → Stands n T B b o ↔ ((h : ℕ) → h < n → passes T B b o h 0 ≡ true)
unfolding first_failing
stands_exactly n T B b o = ((λ p h l. not-false _ (first-none n _ p h l)), (λ each. none_first n _ (λ h l. rw (each h l))))

pub fails_first : (n : ℕ) (T B b o : List ℕ) (h : ℕ) → first_failing n T B b o ≡ some h → First n (λ j. not (passes T B b o j 0)) h
unfolding first_failing
fails_first n T B b o h e = first_some n _ h e
