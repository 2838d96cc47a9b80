-- What `find` answers over a range is the first number that passes a test.
use Prim.Native.Nat.{ℕ, ◌≤◌, ◌<◌}
use mathlib.Core.Path.{◌≡◌, refl, ◌∙◌}
use mathlib.Core.Bool.{Bool, true, false}
use mathlib.Core.List.{List}
use native.Mathlib.Omega.{arith}
use denote.Ref.{Bor}
use denote.Param.Members.{Mut}
use Rattle.std.specs.Bool.{⊤}
use Rattle.std.specs.Fn.{CalledAt}
use Rattle.std.specs.Iterator.{YieldsThen}
use Rattle.std.specs.List.{FoldsTo}
use Rattle.std.specs.Option.{MatchOption}
use Rattle.std.specs.declared.option.Option.{Option as Found}
use Rattle.std.specs.declared.option.Option.TheVariants.{Some, None}
use Rattle.std.specs.declared.ops.Range.{Range}
use Rattle.std.proofs.iter.Yields.{nat_range_steps}
use Rattle.std.proofs.lemmas.Iterator.{first_from_Range}
use Rattle.basis.specs.Options.{option_as}
use Rattle.basis.specs.Words.{first}
use Rattle.laws.proofs.Tests.{below_or_not}
use Rattle.laws.proofs.Places.{none_first, some_first}
use mathlib.Core.Logic.{⊎_elim}

module _ (test : ℕ → Bool) {F : Type 0} {g : Mut F (Bor ℕ × Unit {0}) Bool} (s u : Range ℕ) (f : F) (r : Found ℕ)
    (ran : (xs : List ℕ) × (j : F) × YieldsThen nat_range_steps s xs r u × FoldsTo (λ p x q. CalledAt g p x false q) f xs j × MatchOption r ⊤ (λ x. (h : F) × CalledAt g j x true h)) where
  -- the closure tells which numbers of the range pass, and those before it fail
  pub first_is_found_from : (told : ℕ → Bool)
      → ((x : ℕ) (q : F) → CalledAt g f x true q → told x ≡ true) → ((x : ℕ) (q : F) → CalledAt g f x false q → (q ≡ f) × (told x ≡ false))
      → ((k : ℕ) → s.start ≤ k → test k ≡ told k) → ((k : ℕ) → k < s.start → test k ≡ false)
      → first s.end test ≡ option_as r
  first_is_found_from told passes fails same before = by r (first_from_Range s u f r (λ x. told x ≡ true) (λ x. told x ≡ false) ran passes fails)
    where
      by : (o : Found ℕ)
          → MatchOption o ((k : ℕ) → s.start ≤ k → k < s.end → told k ≡ false) (λ i. (s.start ≤ i) × (i < s.end) × (told i ≡ true) × ((k : ℕ) → s.start ≤ k → k < i → told k ≡ false))
          → first s.end test ≡ option_as o
      by None others = none_first s.end test (λ k l. ⊎_elim (before k) (λ h. same k h ∙ others k h l) (below_or_not k s.start))
      by (Some i) it =
          some_first s.end test i
          (record {
            below = it.1;
            passed = same i it.0 ∙ it.2;
            earlier = λ k l. ⊎_elim (before k) (λ h. same k h ∙ it.3 k h l) (below_or_not k s.start);
          })

  -- a range from 0
  pub first_is_found : s.start ≡ 0
      → ((x : ℕ) (q : F) → CalledAt g f x true q → test x ≡ true) → ((x : ℕ) (q : F) → CalledAt g f x false q → (q ≡ f) × (test x ≡ false))
      → first s.end test ≡ option_as r
  first_is_found begins passes fails = first_is_found_from test passes fails (λ k l. refl) (λ k l. absurd (omega arith))
