-- What the search has put into the lent list.
use Prim.Native.Nat.{ℕ, ◌≤◌, ◌<◌}
use mathlib.Core.Path.{◌≡◌, refl, sym, ◌∙◌, ap}
use mathlib.Core.Bool.{Bool, true, false, cond}
use mathlib.Core.List.{List, []}
use native.Mathlib.Omega.{arith}
use borrow.Author.Tests.{lt-leb, leb-true}
use lib.Dec.{leb}
use lib.ListN.{length, replicate, take}
use Rattle.basis.specs.Words.{padded}
use Rattle.rules.specs.Candidates.{candidates, inversion}
use Rattle.laws.proofs.Padded.{padded_used, padded_long}
use Rattle.busy.specs.Promises.{Found, ListIs, candidates_of}
use Rattle.busy.proofs.Nested.{candidates-short}

module _ (n : ℕ) (T B b o : List ℕ) where
  pub nobody_listed : 16 < n → ListIs (candidates_of n T B b o) (record { list = replicate 17 0; length = 0 })
  unfolding padded
  nobody_listed l = record { list = ap (padded 17) (sym none_there); length = ap length (sym none_there) }
    where
      none_there : candidates_of n T B b o ≡ []
      none_there = ap (λ (a : Bool). cond a (candidates n T B b o inversion) []) (lt-leb n 16 l)

  few_listed : length (candidates_of n T B b o) ≤ 17
  few_listed = go (leb n 16) refl
    where
      go : (a : Bool) → leb n 16 ≡ a → length (cond a (candidates n T B b o inversion) []) ≤ 17
      go true e = let short = candidates-short n T B b o in let few = leb-true n 16 e in omega arith
      go false e = omega arith

  module _ (r : Found) (found : ListIs (candidates_of n T B b o) r) where
    pub found_few : r.length ≤ 17
    found_few = let few = few_listed in let same = found.length in omega arith

    pub found_fits : r.length ≤ length r.list
    found_fits =
        let few = few_listed in
        let same = found.length in
        let long = ap length found.list ∙ padded_long 17 (candidates_of n T B b o) few_listed in
        omega arith

    -- what stands in the used places are the candidates
    pub found_list : take r.length r.list ≡ candidates_of n T B b o
    found_list = (λ i. take (found.length i) (found.list i)) ∙ padded_used 17 (candidates_of n T B b o)
