-- Histories of any scheduler: an event and what follows it, and one history after another.
use mathlib.Core.Path.{◌≡◌, refl}
use mathlib.Core.Bool.{true}
use mathlib.Core.List.{List, [], ◌∷◌, ◌++◌}
use Rattle.rules.specs.declared.Pairs.{Pairs}
use Rattle.laws.proofs.Tests.{both, and_left, and_right}
use Rattle.guarantee.specs.Histories.{Event, Scheduler, allowed, next, all_allowed, after}

module _ (x : Scheduler) (s : Pairs) (e : Event) (history : List Event) where
  pub allowed-first : all_allowed x s (e ∷ history) ≡ true → allowed x s e ≡ true
  unfolding all_allowed
  allowed-first = and_left (allowed x s e) (all_allowed x (next x s e) history)

  pub allowed_later : all_allowed x s (e ∷ history) ≡ true → all_allowed x (next x s e) history ≡ true
  unfolding all_allowed
  allowed_later = and_right (allowed x s e) (all_allowed x (next x s e) history)

  pub allowed_all : allowed x s e ≡ true → all_allowed x (next x s e) history ≡ true → all_allowed x s (e ∷ history) ≡ true
  unfolding all_allowed
  allowed_all = both {a = allowed x s e}

module _ (x : Scheduler) where
  pub after-append : (s : Pairs) (before rest : List Event) → after x s (before ++ rest) ≡ after x (after x s before) rest
  unfolding after
  after-append s [] rest = refl
  after-append s (e ∷ before) rest = after-append (next x s e) before rest

  -- of a history that is allowed, each part is, at its moment
  pub allowed-before : (s : Pairs) (before rest : List Event) → all_allowed x s (before ++ rest) ≡ true → all_allowed x s before ≡ true
  unfolding all_allowed
  allowed-before s [] rest p = refl
  allowed-before s (e ∷ before) rest p =
      allowed_all x s e before (allowed-first x s e (before ++ rest) p) (allowed-before (next x s e) before rest (allowed_later x s e (before ++ rest) p))

  pub allowed-rest : (s : Pairs) (before rest : List Event) → all_allowed x s (before ++ rest) ≡ true → all_allowed x (after x s before) rest ≡ true
  unfolding after
  allowed-rest s [] rest p = p
  allowed-rest s (e ∷ before) rest p = allowed-rest (next x s e) before rest (allowed_later x s e (before ++ rest) p)

  -- and two that are allowed one after the other are one that is
  pub allowed_both : (s : Pairs) (before rest : List Event) → all_allowed x s before ≡ true → all_allowed x (after x s before) rest ≡ true → all_allowed x s (before ++ rest) ≡ true
  unfolding after
  allowed_both s [] rest p q = q
  allowed_both s (e ∷ before) rest p q =
      allowed_all x s e (before ++ rest) (allowed-first x s e before p) (allowed_both (next x s e) before rest (allowed_later x s e before p) q)
