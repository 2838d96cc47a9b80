-- A list with one place set, or its first places filled.
use Prim.Native.Nat.{ℕ, zero, suc, ◌+◌, ◌≤◌, ◌<◌}
use mathlib.Core.Path.{◌≡◌, refl, sym, ◌∙◌, ap, ap₂}
use mathlib.Core.Bool.{Bool, true, false}
use mathlib.Core.List.{List}
use mathlib.Core.Logic.{◌⊎◌, inl, inr}
use native.Mathlib.Nat.{le_step, le_refl, lt-suc_self}
use native.Mathlib.Numerals.{add-one}
use native.Mathlib.Omega.{arith}
use borrow.Author.Tests.{eqb-true, eqb-false}
use lib.Dec.{eqb}
use lib.ListN.{length, set, length-set}
use lib.Seq.{get_or-set_same, get_or-set_other, set_out, set-get_or}
use Rattle.laws.proofs.Tests.{below_or_not, below_cases}
use Rattle.basis.specs.Words.{◌!◌, filled}

-- a smaller number at one place: no entry grows
pub set_lower : (xs : List ℕ) (i x : ℕ) → x ≤ xs ! i → (j : ℕ) → set xs i x ! j ≤ xs ! j
set_lower xs i x less j = go (eqb j i) refl (below_or_not i (length xs))
  where
    go : (a : Bool) → eqb j i ≡ a → (i < length xs) ⊎ (length xs ≤ i) → set xs i x ! j ≤ xs ! j
    go true e (inl l) = let same = eqb-true j i e in rw (same, get_or-set_same xs i x 0 l) less
    go true e (inr l) = rw (set_out xs i x l) (le_refl (xs ! j))
    go false e l = rw (get_or-set_other xs i j x 0 (eqb-false j i e)) (le_refl (xs ! j))

pub filled-length : (n : ℕ) (f : ℕ → ℕ) (xs : List ℕ) → length (filled n f xs) ≡ length xs
unfolding filled
filled-length zero f xs = refl
filled-length (suc n) f xs = length-set (filled n f xs) n (f n) ∙ filled-length n f xs

pub filled_beyond : (n : ℕ) (f : ℕ → ℕ) (xs : List ℕ) (i : ℕ) → n ≤ i → filled n f xs ! i ≡ xs ! i
unfolding filled
filled_beyond zero f xs i h = refl
filled_beyond (suc n) f xs i h =
    get_or-set_other (filled n f xs) n i (f n) 0 (omega arith) ∙ filled_beyond n f xs i (omega arith)

pub filled_at : (n : ℕ) (f : ℕ → ℕ) (xs : List ℕ) (i : ℕ) → n ≤ length xs → i < n → filled n f xs ! i ≡ f i
unfolding filled
filled_at zero f xs i fits h = omega arith
filled_at (suc n) f xs i fits h =
    below_cases n i h last (λ l. get_or-set_other (filled n f xs) n i (f n) 0 (omega arith) ∙ filled_at n f xs i (omega arith) l)
  where
    last : i ≡ n → set (filled n f xs) n (f n) ! i ≡ f i
    last e = rw e (get_or-set_same (filled n f xs) n (f n) 0 (rw (filled-length n f xs) fits))

pub filled_same : (n : ℕ) (f g : ℕ → ℕ) (xs : List ℕ) → ((j : ℕ) → j < n → f j ≡ g j) → filled n f xs ≡ filled n g xs
unfolding filled
filled_same zero f g xs h = refl
filled_same (suc n) f g xs h =
    ap₂ (λ (l : List ℕ) (x : ℕ). set l n x) (filled_same n f g xs (λ j l. h j (le_step l))) (h n (lt-suc_self n))

-- a loop that fills, and has come to i
pub filled_next : (f : ℕ → ℕ) (xs ys : List ℕ) (i x : ℕ) → ys ≡ filled i f xs → x ≡ f i → set ys i x ≡ filled (i + 1) f xs
unfolding filled
filled_next f xs ys i x e d = rw (add-one i, e, d)

-- and where the place has its value already
pub filled-still : (f : ℕ → ℕ) (xs ys : List ℕ) (i : ℕ) → ys ≡ filled i f xs → xs ! i ≡ f i → ys ≡ filled (i + 1) f xs
unfolding filled
filled-still f xs ys i e d =
    e ∙ sym (set-get_or (filled i f xs) i 0) ∙ ap (λ x. set (filled i f xs) i x) (filled_beyond i f xs i (le_refl i) ∙ d) ∙ ap (λ m. filled m f xs) (sym (add-one i))

-- places past the end of the list aren't there to be filled
pub filled_past : (m n : ℕ) (f : ℕ → ℕ) (xs : List ℕ) → length xs ≡ m → m ≤ n → filled n f xs ≡ filled m f xs
unfolding filled
filled_past m zero f xs long l = let e : ◌≡◌ {A = ℕ} 0 m = omega arith in ap (λ k. filled k f xs) e
filled_past m (suc n) f xs long l =
    below_cases (suc n) m (omega arith) (λ e. ap (λ k. filled k f xs) (sym e))
    (λ h. set_out (filled n f xs) n (f n) (rw (filled-length n f xs, long) (omega arith)) ∙ filled_past m n f xs long (omega arith))
