-- A list in an array's places, one more at a time.
use Prim.Native.Nat.{ℕ, suc, ◌-◌, ◌<◌, ◌≤◌}
use mathlib.Core.Path.{◌≡◌, sym, ◌∙◌, ap}
use mathlib.Core.List.{List, [], ◌∷◌, ◌++◌, append_assoc}
use native.Mathlib.Omega.{arith}
use lib.ListN.{length, replicate, set, take, length-append, length-replicate}
use lib.Seq.{set-append_seam, take-append_seam}
use Rattle.basis.specs.Words.{padded}

pub padded-next : (places : ℕ) (xs : List ℕ) (y : ℕ) → length xs < places → set (padded places xs) (length xs) y ≡ padded places (xs ++ y ∷ [])
unfolding padded
padded-next places xs y l =
    ap (λ (zs : List ℕ). set (xs ++ zs) (length xs) y) (opened (places - length xs) (places - length (xs ++ y ∷ [])) room)
    ∙ set-append_seam xs 0 (replicate (places - length (xs ++ y ∷ [])) 0) y
    ∙ sym (append_assoc xs (y ∷ []) _)
  where
    room : places - length xs ≡ suc (places - length (xs ++ y ∷ []))
    room = let joined = length-append xs (y ∷ []) in omega arith

    opened : (m k : ℕ) → m ≡ suc k → ◌≡◌ {A = List ℕ} (replicate m 0) (0 ∷ replicate k 0)
    opened m k e = rw e

-- what stands in the used places
pub padded_used : (places : ℕ) (xs : List ℕ) → take (length xs) (padded places xs) ≡ xs
unfolding padded
padded_used places xs = take-append_seam xs _

pub padded_long : (places : ℕ) (xs : List ℕ) → length xs ≤ places → length (padded places xs) ≡ places
unfolding padded
padded_long places xs l =
    let joined = length-append xs (replicate (places - length xs) 0) in
    let rest = length-replicate {A = ℕ} (places - length xs) 0 in
    omega arith
