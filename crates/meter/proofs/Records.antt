-- A record, as the code comes to know it: its kind, then what the reader says, and back from there.
use Prim.Native.Nat.{ℕ, ◌+◌, ◌-◌, ◌≤◌, ◌<◌}
use mathlib.Core.Path.{◌≡◌, refl, sym, ◌∙◌, ap, ap₂, subst}
use mathlib.Core.Bool.{Bool, true, false, cond, ◌||◌}
use mathlib.Core.List.{List, [], ◌∷◌}
use mathlib.Core.Option.{Option, some, none}
use native.Mathlib.Nat.{lt_irrefl}
use native.Mathlib.Omega.{arith}
use Rattle.std.proofs.lemmas.Bool.Decides.{nat_tests}
use lib.Dec.{eqb}
use lib.ListN.{length, take, drop}
use Rattle.std.specs.declared.option.Option.{Option as Perhaps}
use Rattle.std.specs.declared.option.Option.TheVariants.{Some, None}
use Rattle.std.specs.declared.result.Result.{Result}
use Rattle.std.specs.declared.result.Result.TheVariants.{Ok, Err}
use Rattle.std.specs.List.{list_any}
use Rattle.std.specs.Option.{ok_or}
use Rattle.basis.specs.Words.{has}
use Rattle.rules.specs.Refusals.{refused_as, malformed, refusal}
use Rattle.file_rules.specs.MeterFile.{most_bytes, length_at, kind_at, next_at, form, is_record, malformed_at, payload}
use Rattle.rules.specs.declared.Refusal.TheVariants.{BadRecord}
use Rattle.rules.specs.declared.Refusal.{Refusal}
use Rattle.laws.proofs.Tests.{none_is_some}
use Rattle.laws.proofs.Refusals.{no_ground, file_alone}
use Rattle.file_laws.proofs.MeterFile.{over_limit_lem, no_record, a_record, payload-refused, payload_is, next_further, not_malformed, record_whole}
use Rattle.verdicts.specs.Outcome.{Outcome, gives, unless_refused}
use Rattle.verdicts.proofs.Outcomes.{was_refused, was_given}
use Rattle.meter.specs.Forms.{number_of, KindIs, RecordKindIs, Found, found_as, read_as}
use Rattle.meter.specs.Promises.{ReadRecordIs, PayloadIs}
use Rattle.meter.specs.declared.Kind.{Kind}
use Rattle.meter.specs.declared.Kind.TheVariants.{Partition, Task, Word, Release}
use Rattle.meter.specs.declared.NoKind.{NoKind}
use Rattle.meter.specs.declared.Record.{Record}

turned : (x y : ℕ) → eqb x y ≡ eqb y x
turned x y = grind (arith, nat_tests)

-- std looks through the list from its side, the rules from theirs
pub has_any : (kinds : List ℕ) (number : ℕ) → list_any (λ y. eqb y number) kinds ≡ has kinds number
unfolding has
has_any [] number = refl
has_any (y ∷ ys) number = ap₂ ◌||◌ (turned y number) (has_any ys number)

pub holds_as : (kinds : List ℕ) (number : ℕ) (holds : Bool) → holds ≡ list_any (λ y. eqb y number) kinds → has kinds number ≡ holds
holds_as kinds number holds e = sym (e ∙ has_any kinds number)

pub placed : (kind : Kind) → 0 < (form (number_of kind)).place
unfolding form
placed Partition = omega arith
placed Task = omega arith
placed Word = omega arith
placed Release = omega arith

-- no two kinds have one number, so a number's kind is one answer
pub number_injective : (k j : Kind) → number_of k ≡ number_of j → k ≡ j
number_injective Partition Partition e = refl
number_injective Task Task e = refl
number_injective Word Word e = refl
number_injective Release Release e = refl
number_injective Partition Task e = cc
number_injective Partition Word e = cc
number_injective Partition Release e = cc
number_injective Task Partition e = cc
number_injective Task Word e = cc
number_injective Task Release e = cc
number_injective Word Partition e = cc
number_injective Word Task e = cc
number_injective Word Release e = cc
number_injective Release Partition e = cc
number_injective Release Task e = cc
number_injective Release Word e = cc

pub kind_one : (number : ℕ) (r s : Result Kind NoKind) → KindIs number r → KindIs number s → r ≡ s
kind_one number (Ok k) (Ok j) e f = ap Ok (number_injective k j (e ∙ sym f))
kind_one number (Ok k) (Err y) e f = absurd (lt_irrefl 0 (subst (λ (x : ℕ). 0 < x) (ap (λ (x : ℕ). (form x).place) e ∙ f) (placed k)))
kind_one number (Err x) (Ok j) e f = absurd (lt_irrefl 0 (subst (λ (x : ℕ). 0 < x) (ap (λ (x : ℕ). (form x).place) f ∙ e) (placed j)))
kind_one number (Err x) (Err y) e f = refl

-- what is there only where the test passes
missing : (is : Bool) (x : ℕ) → none ≡ cond is (some x) none → is ≡ false
missing true x e = cc
missing false x e = refl

present : (is : Bool) (x y : ℕ) → some y ≡ cond is (some x) none → (is ≡ true) × (y ≡ x)
present true x y e = (refl, cc)
present false x y e = cc

module _ (kinds : List ℕ) (before : ℕ) (file : List ℕ) (at : ℕ) where
  -- ---- what the reader says
  says : Option ℕ → Outcome Found
  says m = unless_refused (refusal (malformed m ∷ [])) (record { kind = kind_at file at; next = next_at file at })

  pub limit_passed : most_bytes < length file → ReadRecordIs kinds before file at (Err (BadRecord most_bytes))
  unfolding says unless_refused
  limit_passed l = sym (ap says (over_limit_lem kinds before file at l) ∙ rw (file_alone (some most_bytes)))

  module _ (small : length file ≤ most_bytes) where
    pub refused_here : (found : Perhaps Kind) → RecordKindIs kinds before file at found → (v : Result Kind Refusal) → v ≡ ok_or found (BadRecord at) → (r : Refusal) → v ≡ Err r
        → ReadRecordIs kinds before file at (Err r)
    unfolding says unless_refused
    refused_here (Some kind) found_is v v_is r e = cc
    refused_here None found_is v v_is r e =
        let same : r ≡ BadRecord at = cc in
        rw same (sym (ap says (no_record kinds before file at small (missing _ _ found_is)) ∙ rw (file_alone (some at))))

    pub read_here : (found : Perhaps Kind) → RecordKindIs kinds before file at found → (v : Result Kind Refusal) → v ≡ ok_or found (BadRecord at) → (kind : Kind) → v ≡ Ok kind
        → (len : ℕ) → len ≡ (form (number_of kind)).length → ReadRecordIs kinds before file at (Ok (record { kind = kind; next = at + 2 + len }))
    unfolding says unless_refused
    read_here None found_is v v_is kind e len len_is = cc
    read_here (Some k) found_is v v_is kind e len len_is =
        (λ i. gives (record { kind = same i; next = at + 2 + long i }))
        ∙ sym (ap says (a_record kinds before file at small here.0) ∙ rw (file_alone none))
      where
        here : (is_record kinds before file at ≡ true) × (number_of k ≡ kind_at file at)
        here = present _ _ _ found_is

        same : number_of kind ≡ kind_at file at
        same = let k_is : k ≡ kind = cc in ap number_of (sym k_is) ∙ here.1

        long : len ≡ length_at file at
        long = len_is ∙ ap (λ (x : ℕ). (form x).length) same ∙ sym (record_whole kinds before file at here.0).long

  -- ---- back from what it says
  pub record Told (kind next : ℕ) : Type 0 where
    pub sound : malformed_at kinds before file at ≡ none
    pub kind_is : kind ≡ kind_at file at
    pub next_is : next ≡ next_at file at
    pub small : length file ≤ most_bytes
    pub record_is : is_record kinds before file at ≡ true
    pub further : at + 6 ≤ next
    pub within : next ≤ length file

  module _ (r : Result Record Refusal) (e : ReadRecordIs kinds before file at r) where
    pub told_refused : (q : Refusal) → r ≡ Err q → refusal (malformed (malformed_at kinds before file at) ∷ []) ≡ some (refused_as q)
    told_refused q d = was_refused _ _ (refused_as q) (sym (ap read_as d) ∙ e)

    pub told_record : (x : Record) → r ≡ Ok x → Told (number_of x.kind) x.next
    unfolding has
    told_record x d =
        record {
          sound = sound;
          kind_is = ap (λ (f : Found). f.kind) given.1;
          next_is = next_is;
          small = (not_malformed kinds before file at sound).0;
          record_is = is;
          further = subst (λ (y : ℕ). at + 6 ≤ y) (sym next_is) (next_further kinds before file at is).0;
          within = subst (λ (y : ℕ). y ≤ length file) (sym next_is) (next_further kinds before file at is).1;
        }
      where
        given : (refusal (malformed (malformed_at kinds before file at) ∷ []) ≡ none) × (◌≡◌ {A = Found} (found_as x) (record { kind = kind_at file at; next = next_at file at }))
        given = was_given _ _ _ (sym (ap read_as d) ∙ e)

        sound : malformed_at kinds before file at ≡ none
        sound = no_ground _ given.0 8 refl

        next_is : x.next ≡ next_at file at
        next_is = ap (λ (f : Found). f.next) given.1

        is : is_record kinds before file at ≡ true
        is = (not_malformed kinds before file at sound).1

    -- ---- the payload
    pub no_payload : (q : Refusal) → r ≡ Err q → PayloadIs kinds before file at []
    no_payload q d = go (malformed_at kinds before file at) refl
      where
        go : (m : Option ℕ) → malformed_at kinds before file at ≡ m → [] ≡ payload kinds before file at
        go (some i) p = payload-refused kinds before file at i p
        go none p = none_is_some (sym (rw p (file_alone none)) ∙ told_refused q d)

    pub payload_part : (x : Record) → r ≡ Ok x → PayloadIs kinds before file at (take (x.next - (at + 4)) (drop (at + 4) file))
    payload_part x d =
        ap (λ n. take n (drop (at + 4) file)) same
        ∙ payload_is kinds before file at told.sound
      where
        told : Told (number_of x.kind) x.next
        told = told_record x d

        same : x.next - (at + 4) ≡ length_at file at - 2
        same = let n : x.next ≡ next_at file at = told.next_is in omega (arith, n)
