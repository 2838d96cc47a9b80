-- The laws of records: what a record is, and where the next one begins.
use Prim.Native.Nat.{ℕ, ◌+◌, ◌*◌, ◌≤◌, ◌<◌}
use mathlib.Core.Path.{◌≡◌, refl, sym, ap₂, subst}
use mathlib.Core.Bool.{Bool, true, false, cond, ◌&&◌}
use mathlib.Core.List.{List, []}
use mathlib.Core.Option.{some, none}
use native.Mathlib.Nat.{lt_irrefl}
use native.Mathlib.Omega.{arith}
use borrow.Author.Tests.{leb-true, ltb-true, eqb-true, le-leb, lt-leb, lt-ltb, eq-eqb, ne_eqb}
use lib.Dec.{leb, ltb, eqb}
use lib.ListN.{length, get_or-eq_default}
use Rattle.basis.specs.Words.{◌!◌, has, or_else, unless}
use Rattle.file_rules.specs.MeterFile.{most_bytes, two, four, length_at, kind_at, payload_at, next_at, Form, form, is_record, malformed_at, payload}
use Rattle.laws.proofs.Tests.{and_left, and_right, some_is_none}

-- past the end there are zeros
pub nothing_past : (xs : List ℕ) (i : ℕ) → length xs ≤ i → xs ! i ≡ 0
nothing_past xs i l = get_or-eq_default xs 0 l

pub two_past : (xs : List ℕ) (i : ℕ) → length xs ≤ i → 0 ≡ two xs i
two_past xs i l = sym (rw (nothing_past xs i l, nothing_past xs (i + 1) (omega arith)))

pub four_past : (xs : List ℕ) (i : ℕ) → length xs ≤ i → 0 ≡ four xs i
four_past xs i l = ap₂ (λ x y. x + 65536 * y) (two_past xs i l) (two_past xs (i + 2) (omega arith))

-- ---- a record, test by test
module _ (kinds : List ℕ) (before : ℕ) (file : List ℕ) (at : ℕ) where
  pub cut_head : length file < at + 4 → false ≡ is_record kinds before file at
  unfolding is_record
  cut_head l = rw (lt-leb (at + 4) (length file) l)

  module _ (head : at + 4 ≤ length file) where
    pub not_held : has kinds (kind_at file at) ≡ false → false ≡ is_record kinds before file at
    unfolding is_record
    not_held h = rw (le-leb (at + 4) (length file) head, h)

    module _ (held : has kinds (kind_at file at) ≡ true) where
      pub no_kind : (form (kind_at file at)).place ≡ 0 → false ≡ is_record kinds before file at
      unfolding is_record
      no_kind p = rw (le-leb (at + 4) (length file) head, held, p)

      module _ (kind : 0 < (form (kind_at file at)).place) where
        pub other_length : (length_at file at ≡ (form (kind_at file at)).length → ⊥) → false ≡ is_record kinds before file at
        unfolding is_record
        other_length n = rw (le-leb (at + 4) (length file) head, held, lt-ltb 0 (form (kind_at file at)).place kind, ne_eqb (length_at file at) (form (kind_at file at)).length n)

        module _ (long : length_at file at ≡ (form (kind_at file at)).length) where
          pub cut_payload : length file < next_at file at → false ≡ is_record kinds before file at
          unfolding is_record
          cut_payload l = rw (le-leb (at + 4) (length file) head, held, lt-ltb 0 (form (kind_at file at)).place kind, eq-eqb (length_at file at) (form (kind_at file at)).length long, lt-leb (next_at file at) (length file) l)

          pub order_decides : next_at file at ≤ length file → leb (form before).place (form (kind_at file at)).place ≡ is_record kinds before file at
          unfolding is_record
          order_decides l = rw (le-leb (at + 4) (length file) head, held, lt-ltb 0 (form (kind_at file at)).place kind, eq-eqb (length_at file at) (form (kind_at file at)).length long, le-leb (next_at file at) (length file) l)

  -- what all of them together say
  pub record Whole : Type 0 where
    pub head : at + 4 ≤ length file
    pub held : has kinds (kind_at file at) ≡ true
    pub known : 0 < (form (kind_at file at)).place
    pub long : length_at file at ≡ (form (kind_at file at)).length
    pub ends : next_at file at ≤ length file
    pub ordered : (form before).place ≤ (form (kind_at file at)).place

  pub record_whole : is_record kinds before file at ≡ true → Whole
  unfolding is_record
  record_whole e =
      record {
        head = leb-true _ _ (and_left _ _ cut);
        held = and_left _ _ (and_right (leb (at + 4) (length file)) _ cut);
        known = ltb-true _ _ (and_right (has kinds (kind_at file at)) _ (and_right (leb (at + 4) (length file)) _ cut));
        long = eqb-true _ _ (and_right a₁ _ (and_left (a₁ && a₂) _ (and_left (a₁ && a₂ && a₃) _ e)));
        ends = leb-true _ _ (and_right (a₁ && a₂) _ (and_left (a₁ && a₂ && a₃) _ e));
        ordered = leb-true _ _ (and_right (a₁ && a₂ && a₃) _ e);
      }
    where
      a₁ : Bool
      a₁ = leb (at + 4) (length file) && (has kinds (kind_at file at) && ltb 0 (form (kind_at file at)).place)

      a₂ : Bool
      a₂ = eqb (length_at file at) (form (kind_at file at)).length

      a₃ : Bool
      a₃ = leb (next_at file at) (length file)

      cut : a₁ ≡ true
      cut = and_left a₁ _ (and_left (a₁ && a₂) _ (and_left (a₁ && a₂ && a₃) _ e))

  -- ---- and the refusal
  pub over_limit_lem : most_bytes < length file → malformed_at kinds before file at ≡ some most_bytes
  unfolding malformed_at
  over_limit_lem l = rw (lt-leb (length file) most_bytes l)

  module _ (small : length file ≤ most_bytes) where
    pub no_record : is_record kinds before file at ≡ false → malformed_at kinds before file at ≡ some at
    unfolding malformed_at
    no_record e = rw (le-leb (length file) most_bytes small, e)

    pub a_record : is_record kinds before file at ≡ true → malformed_at kinds before file at ≡ none
    unfolding malformed_at
    a_record e = rw (le-leb (length file) most_bytes small, e)

  pub payload-refused : (i : ℕ) → malformed_at kinds before file at ≡ some i → [] ≡ payload kinds before file at
  unfolding payload
  payload-refused i e = rw e

  pub payload_is : malformed_at kinds before file at ≡ none → payload_at file at ≡ payload kinds before file at
  unfolding payload
  payload_is e = rw e

-- what has a place is one of the four
pub data Kind : ℕ → Type 0 where
  partition : Kind 1
  task : Kind 2
  word : Kind 3
  release : Kind 4

pub known_kind : (kind : ℕ) → 0 < (form kind).place → Kind kind
unfolding form
known_kind kind l = go (eqb kind 1) refl (eqb kind 2) refl (eqb kind 3) refl (eqb kind 4) refl l
  where
    chosen : Bool → Bool → Bool → Bool → Form
    chosen a b c d =
        cond a (record { length = 8; place = 1 })
        (cond b (record { length = 8; place = 2 })
        (cond c (record { length = 6; place = 3 })
        (cond d (record { length = 4; place = 3 })
        (record { length = 0; place = 0 }))))

    named : (k : ℕ) → Kind k → eqb kind k ≡ true → Kind kind
    named k x e = subst Kind (sym (eqb-true kind k e)) x

    go : (a : Bool) → eqb kind 1 ≡ a → (b : Bool) → eqb kind 2 ≡ b → (c : Bool) → eqb kind 3 ≡ c → (d : Bool) → eqb kind 4 ≡ d → 0 < (chosen a b c d).place → Kind kind
    go true p b q c r d s h = named 1 partition p
    go false p true q c r d s h = named 2 task q
    go false p false q true r d s h = named 3 word r
    go false p false q false r true s h = named 4 release s
    go false p false q false r false s h = absurd (lt_irrefl 0 h)

-- every kind's records have the length of their head and two bytes of payload at least
pub form_long : (kind : ℕ) → 0 < (form kind).place → 4 ≤ (form kind).length
unfolding form
form_long kind l = go kind (known_kind kind l)
  where
    go : (k : ℕ) → Kind k → 4 ≤ (form k).length
    go k partition = omega arith
    go k task = omega arith
    go k word = omega arith
    go k release = omega arith

-- the next offset is further on, and within the file
pub next_further : (kinds : List ℕ) (before : ℕ) (file : List ℕ) (at : ℕ) → is_record kinds before file at ≡ true
    → (at + 6 ≤ next_at file at) × (next_at file at ≤ length file)
next_further kinds before file at e =
    let whole : Whole kinds before file at = record_whole kinds before file at e in
    let long : length_at file at ≡ (form (kind_at file at)).length = whole.long in
    let least : 4 ≤ (form (kind_at file at)).length = form_long (kind_at file at) whole.known in
    (omega (arith, long, least), whole.ends)

-- what is none of the kinds has no place
pub form-none : (kind : ℕ) → (kind ≡ 1 → ⊥) → (kind ≡ 2 → ⊥) → (kind ≡ 3 → ⊥) → (kind ≡ 4 → ⊥) → ◌≡◌ {A = Form} (record { length = 0; place = 0 }) (form kind)
unfolding form
form-none kind a b c d = rw (ne_eqb kind 1 a, ne_eqb kind 2 b, ne_eqb kind 3 c, ne_eqb kind 4 d)

-- back from a record that isn't refused
pub not_malformed : (kinds : List ℕ) (before : ℕ) (file : List ℕ) (at : ℕ) → malformed_at kinds before file at ≡ none → (length file ≤ most_bytes) × (is_record kinds before file at ≡ true)
unfolding malformed_at
not_malformed kinds before file at e = go (leb (length file) most_bytes) refl (is_record kinds before file at) refl e
  where
    go : (a : Bool) → leb (length file) most_bytes ≡ a → (b : Bool) → is_record kinds before file at ≡ b → or_else (unless a most_bytes) (unless b at) ≡ none
        → (length file ≤ most_bytes) × (is_record kinds before file at ≡ true)
    go true p true q h = (leb-true _ _ p, q)
    go true p false q h = some_is_none h
    go false p b q h = some_is_none h
