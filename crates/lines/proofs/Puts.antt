-- Bytes put into a buffer, one text after the other.
use Prim.Native.Nat.{ℕ, suc, ◌+◌, ◌-◌, ◌≤◌, ◌<◌}
use mathlib.Core.Path.{◌≡◌, refl, sym, ◌∙◌, ap, ap₂}
use mathlib.Core.List.{List, [], ◌∷◌, ◌++◌, append_assoc}
use native.Mathlib.Nat.{add-zero, zero-add, add-suc, suc-add}
use native.Mathlib.Omega.{arith}
use borrow.Rule.Slice.PartMut.{put_mid}
use lib.ListN.{length, set, take, drop, length-append}
use lib.Seq.{sets, length-sets, sets-eq, set_comm}
use Rattle.std.proofs.lemmas.List.{take-append-drop}
use Rattle.std.proofs.lemmas.List.Edits.{paste_all}
use Rattle.std.proofs.lemmas.Slice.{put_mid-paste}
use Rattle.basis.specs.Words.{onto}
use Rattle.lines.specs.Fields.{Put}

-- ---- runs of stores
-- a store before them may be made first
pub set-sets : (xs l : List ℕ) (i j a : ℕ) → j < i → set (sets l i xs) j a ≡ sets (set l j a) i xs
set-sets [] l i j a h = refl
set-sets (x ∷ xs) l i j a h = set-sets xs (set l i x) (suc i) j a (omega arith) ∙ ap (λ (m : List ℕ). sets m (suc i) xs) (set_comm l i j x a (λ e. omega arith))

-- one after the other is one run
pub sets-append : (xs ys l : List ℕ) (i : ℕ) → sets (sets l i xs) (i + length xs) ys ≡ sets l i (xs ++ ys)
sets-append [] ys l i = ap (λ j. sets l j ys) (add-zero i)
sets-append (x ∷ xs) ys l i =
    ap (λ j. sets (sets (set l i x) (suc i) xs) j ys) (add-suc i (length xs) ∙ sym (suc-add i (length xs)))
    ∙ sets-append xs ys (set l i x) (suc i)

-- from the start on
pub sets-onto : (xs l : List ℕ) → length xs ≤ length l → sets l 0 xs ≡ onto xs l
sets-onto xs l h = sets-eq xs l 0 (rw (zero-add (length xs)) h) ∙ ap (λ n. xs ++ drop n l) (zero-add (length xs))

-- ---- texts
pub put_byte : (at x : ℕ) (buf : List ℕ) → Put at (x ∷ []) buf (set buf at x) (at + 1)
put_byte at x buf = record { next = refl; buffer = refl }

module _ {at m : ℕ} {xs a b : List ℕ} (p : Put at xs a b m) where
  pub put_length : length b ≡ length a
  put_length = ap length p.buffer ∙ length-sets a at xs

  pub put_then : {ys c : List ℕ} {r : ℕ} → Put m ys b c r → Put at (xs ++ ys) a c r
  put_then {ys} {c} {r} q =
      record {
        next = rw (length-append xs ys) (let n = p.next in let k = q.next in omega arith);
        buffer = q.buffer ∙ ap₂ (λ (l : List ℕ) (j : ℕ). sets l j ys) p.buffer p.next ∙ sets-append xs ys a at;
      }

-- a text put into its part of a buffer, of which the bytes before and after stay
module _ (at : ℕ) (text before : List ℕ) (room : at + length text ≤ length before) where
  whole : take at before ++ (text ++ drop (at + length text) before) ≡ sets before at text
  whole = sym (sets-eq text before at room ∙ append_assoc (take at before) text _)

  pub put_copied : (copy : List ℕ) → copy ≡ text → (count : ℕ) → count ≡ length text → Put at text before (put_mid at (at + count - at) before copy) (at + count)
  put_copied copy same count counted =
      record {
        next = ap (λ n. at + n) counted;
        buffer =
            put_mid-paste at (at + count - at) before copy text (length text) same (omega arith) refl
            ∙ paste_all before at text (length text) refl
            ∙ whole;
      }

  pub put_digits : (start : ℕ) (after digits : List ℕ) → digits ≡ text → (count : ℕ) → count ≡ length text → start + length digits ≡ at + count
      → take start after ≡ take start before → drop start after ≡ digits ++ drop (at + count) before → Put at text before after (at + count)
  put_digits start after digits same count counted ends low high =
      record {
        next = ap (λ n. at + n) counted;
        buffer =
            sym (take-append-drop at after)
            ∙ ap₂ (λ (xs ys : List ℕ). xs ++ ys) (rw there at low) (rw (there, same, counted) at high)
            ∙ whole;
      }
    where
      there : start ≡ at
      there = let l : length digits ≡ length text = ap length same in omega arith
