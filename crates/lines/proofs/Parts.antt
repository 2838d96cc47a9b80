-- A line by its fields: how long they are together, and one written after the other.
use Prim.Native.Nat.{ℕ, zero, suc, ◌+◌, ◌*◌, ◌≤◌, ◌<◌}
use mathlib.Core.Path.{◌≡◌, refl, sym, ◌∙◌, ap, subst}
use mathlib.Core.List.{List, [], ◌∷◌, ◌++◌, append_assoc, append-nil}
use native.Mathlib.Omega.{arith}
use native.Mathlib.Numerals.{add-one}
use lib.ListN.{length, set, get_or, take, length-set, length-append}
use lib.Seq.{take_all}
use Rattle.std.specs.declared.option.Option.{Option as Found}
use Rattle.std.specs.declared.option.Option.TheVariants.{Some, None}
use Rattle.basis.specs.Reckoned.{Reckoned}
use Rattle.lines.specs.Fields.{field_text, later_text, line_of, Put}
use Rattle.lines.specs.declared.Fields.{Fields}
use Rattle.lines.specs.declared.Field.{Field}
use Rattle.lines.proofs.Puts.{put_byte, put_length, put_then}

-- ---- later fields, one by one
one_later : (later : List (Found Field)) (i : ℕ) → later_text (take (suc i) later) ≡ later_text (take i later) ++ later_text (get_or later i None ∷ [])
one_later [] zero = refl
one_later [] (suc i) = refl
one_later (None ∷ more) zero = refl
one_later (Some f ∷ more) zero = refl
one_later (None ∷ more) (suc i) = one_later more i
one_later (Some f ∷ more) (suc i) = ap (λ (text : List ℕ). 32 ∷ field_text f ++ text) (one_later more i) ∙ sym (append_assoc (32 ∷ field_text f) (later_text (take i more)) _)

first_ones : (later : List (Found Field)) (i : ℕ) → length (later_text (take i later)) ≤ length (later_text later)
first_ones [] zero = omega arith
first_ones [] (suc i) = omega arith
first_ones (x ∷ later) zero = omega arith
first_ones (None ∷ later) (suc i) = first_ones later i
first_ones (Some x ∷ later) (suc i) = let l = first_ones later i in simp length-append (omega arith)

-- ---- the fields, of which a loop has come to later field i
module _ (f : Fields) where
  abbrev pub so_far : ℕ → List ℕ
  so_far i = field_text f.first ++ later_text (take i f.later)

  more : (i : ℕ) (x : Found Field) → get_or f.later i None ≡ x → so_far (i + 1) ≡ so_far i ++ later_text (x ∷ [])
  more i x e =
      ap (λ (text : List ℕ). field_text f.first ++ text) (ap (λ j. later_text (take j f.later)) (add-one i) ∙ one_later f.later i ∙ ap (λ (y : Found Field). later_text (take i f.later) ++ later_text (y ∷ [])) e)
      ∙ sym (append_assoc (field_text f.first) (later_text (take i f.later)) (later_text (x ∷ [])))

  same : (i : ℕ) → get_or f.later i None ≡ None → so_far (i + 1) ≡ so_far i
  same i e = more i None e ∙ append-nil (so_far i)

  longer : (i : ℕ) (x : Field) → get_or f.later i None ≡ Some x → so_far (i + 1) ≡ so_far i ++ (32 ∷ field_text x)
  longer i x e = more i (Some x) e ∙ ap (λ (text : List ℕ). so_far i ++ (32 ∷ text)) (append-nil (field_text x))

  all_of_it : (i : ℕ) → length f.later ≤ i → so_far i ++ 10 ∷ [] ≡ line_of f
  unfolding line_of
  all_of_it i l = append_assoc (field_text f.first) (later_text (take i f.later)) (10 ∷ []) ∙ ap (λ (later : List (Found Field)). field_text f.first ++ (later_text later ++ 10 ∷ [])) (take_all i f.later l)

  -- ---- counted
  pub record LengthTo (i count : ℕ) : Type 0 where
    pub is : count ≡ length (so_far i) + 1
    pub small : count ≤ 25 + i * 25

  pub count_begins : (count : ℕ) → Reckoned 24 (length (field_text f.first)) count → LengthTo 0 (count + 1)
  count_begins count e = record { is = ap (λ n. n + 1) e.is ∙ ap (λ (text : List ℕ). length text + 1) (sym (append-nil (field_text f.first))); small = let s = e.small in omega arith }

  module _ (i count : ℕ) (here : LengthTo i count) where
    pub count_skips : get_or f.later i None ≡ None → LengthTo (i + 1) count
    count_skips e = record { is = here.is ∙ ap (λ (text : List ℕ). length text + 1) (sym (same i e)); small = let s = here.small in omega arith }

    pub count_goes_on : (x : Field) → get_or f.later i None ≡ Some x → (n : ℕ) → Reckoned 24 (length (field_text x)) n → LengthTo (i + 1) (count + (1 + n))
    count_goes_on x e n r =
        let now = here.is in
        let of_it = r.is in
        let l = ap length (longer i x e) ∙ length-append (so_far i) (32 ∷ field_text x) in
        record { is = omega arith; small = let s = here.small in let k = r.small in omega arith }

    pub count_ends : length f.later ≤ i → count ≡ length (line_of f)
    count_ends l = here.is ∙ sym (length-append (so_far i) (10 ∷ [])) ∙ ap length (all_of_it i l)

  -- ---- written, into a buffer with room for them
  pub record PutTo (start : List ℕ) (i at : ℕ) (buf : List ℕ) : Type 0 where
    pub so : Put 0 (so_far i) start buf at

  module _ (start : List ℕ) (room : length (line_of f) ≤ length start) where
    room_to : (i : ℕ) → length (so_far i) + 1 ≤ length start
    unfolding line_of
    room_to i =
        let l = first_ones f.later i in
        let k : length (field_text f.first) + (length (later_text f.later) + 1) ≤ length start = simp length-append at room in
        simp length-append (omega arith)

    pub first_room : 0 + length (field_text f.first) ≤ length start
    first_room = let l = room_to 0 in let k = length-append (field_text f.first) [] in omega arith

    pub put_begins : (at : ℕ) (buf : List ℕ) → Put 0 (field_text f.first) start buf at → PutTo start 0 at buf
    put_begins at buf p = record { so = subst (λ (text : List ℕ). Put 0 text start buf at) (sym (append-nil (field_text f.first))) p }

    module _ (i at : ℕ) (buf : List ℕ) (here : PutTo start i at buf) where
      pub place_there : at < length buf
      place_there = let l = room_to i in let n = here.so.next in let k = put_length here.so in omega arith

      pub put_skips : get_or f.later i None ≡ None → PutTo start (i + 1) at buf
      put_skips e = record { so = subst (λ (text : List ℕ). Put 0 text start buf at) (sym (same i e)) here.so }

      module _ (x : Field) (e : get_or f.later i None ≡ Some x) where
        pub next_room : at + 1 + length (field_text x) ≤ length (set buf at 32)
        next_room =
            let r = room_to (i + 1) in
            let l = ap length (longer i x e) ∙ length-append (so_far i) (32 ∷ field_text x) in
            let n = here.so.next in
            let k = put_length here.so in
            let s = length-set buf at 32 in
            omega arith

        pub put_goes_on : (next : ℕ) (after : List ℕ) → Put (at + 1) (field_text x) (set buf at 32) after next → PutTo start (i + 1) next after
        put_goes_on next after p =
            record { so = subst (λ (text : List ℕ). Put 0 text start after next) (sym (longer i x e)) (put_then here.so (put_then (put_byte at 32 buf) p)) }

      pub put_ends : length f.later ≤ i → Put 0 (line_of f) start (set buf at 10) (at + 1)
      put_ends l = subst (λ (text : List ℕ). Put 0 text start (set buf at 10) (at + 1)) (all_of_it i l) (put_then here.so (put_byte at 10 buf))
