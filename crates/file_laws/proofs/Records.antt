-- The laws of a file's records: one more, and the tables and events with it.
use Prim.Native.Nat.{ℕ, zero, suc, ◌+◌, ◌*◌, ◌≤◌, ◌<◌}
use mathlib.Core.Path.{◌≡◌, refl, sym, ◌∙◌, ap, ap₂, subst}
use mathlib.Core.Bool.{Bool, true, false, cond}
use mathlib.Core.List.{List, [], ◌∷◌, ◌++◌, map, map-append, append-nil, cons-ne-nil}
use mathlib.Core.Logic.{⊎_elim}
use mathlib.Core.Option.{Option, some, none}
use native.Mathlib.Nat.{le_refl, le_of_lt}
use native.Mathlib.Omega.{arith}
use borrow.Author.Tests.{lt-leb, le-leb, eq-eqb, ne_eqb, eqb-true}
use lib.Dec.{eqb}
use lib.ListN.{length, set, take, drop, length-append, length-map}
use lib.Seq.{take_all, take-append-le, set_out, get_or-take, get_or-drop, length-take-le}
use Rattle.basis.specs.Words.{◌!◌, padded}
use Rattle.file_rules.specs.MeterFile.{most_bytes, two, four, kind_at, next_at, form, is_record, Record, Reading, and_then, read_from, reading, of_kind, column, is_event, events_of, beginning}
use Rattle.laws.proofs.Tests.{below_or_not, some_is_none}
use Rattle.file_laws.proofs.MeterFile.{order_decides, Whole, record_whole, next_further, Kind, partition, task, word, release, known_kind}
use Rattle.laws.proofs.Padded.{padded-next, padded_long}

-- ---- reading on
module _ (kinds file : List ℕ) (rounds before at : ℕ) where
  pub read_on : at < length file → is_record kinds before file at ≡ true
      → read_from kinds file (suc rounds) before at ≡ and_then (record { kind = kind_at file at; at = at }) (read_from kinds file rounds (kind_at file at) (next_at file at))
  unfolding read_from
  read_on l e = rw (lt-leb (length file) at l, e)

  pub read_stops : at < length file → is_record kinds before file at ≡ false → read_from kinds file (suc rounds) before at ≡ record { records = []; fault = some at }
  unfolding read_from
  read_stops l e = rw (lt-leb (length file) at l, e)

pub read_ends : (kinds file : List ℕ) (rounds before at : ℕ) → length file ≤ at → read_from kinds file rounds before at ≡ record { records = []; fault = none }
unfolding read_from
read_ends kinds file zero before at l = refl
read_ends kinds file (suc rounds) before at l = rw (le-leb (length file) at l)

pub reading_small : (kinds file : List ℕ) → length file ≤ most_bytes → reading kinds file ≡ read_from kinds file (length file) 0 0
unfolding reading
reading_small kinds file l = rw (le-leb (length file) most_bytes l)

pub reading_large : (kinds file : List ℕ) → most_bytes < length file → reading kinds file ≡ record { records = []; fault = some most_bytes }
unfolding reading
reading_large kinds file l = rw (lt-leb (length file) most_bytes l)

-- ---- the records of a kind
of_kind-more : (kind : ℕ) (rs : List Record) (r : Record) → of_kind kind (rs ++ r ∷ []) ≡ of_kind kind rs ++ cond (eqb r.kind kind) (r.at ∷ []) []
unfolding of_kind
of_kind-more kind [] r = go (eqb r.kind kind)
  where
    go : (a : Bool) → cond a (r.at ∷ []) [] ≡ [] ++ cond a (r.at ∷ []) []
    go true = refl
    go false = refl
of_kind-more kind (x ∷ xs) r = go (eqb x.kind kind) (of_kind-more kind xs r)
  where
    go : (a : Bool) → of_kind kind (xs ++ r ∷ []) ≡ of_kind kind xs ++ cond (eqb r.kind kind) (r.at ∷ []) []
        → cond a (x.at ∷ of_kind kind (xs ++ r ∷ [])) (of_kind kind (xs ++ r ∷ [])) ≡ cond a (x.at ∷ of_kind kind xs) (of_kind kind xs) ++ cond (eqb r.kind kind) (r.at ∷ []) []
    go true e = ap (λ (ys : List ℕ). x.at ∷ ys) e
    go false e = e

pub of_kind-this : (kind : ℕ) (rs : List Record) (r : Record) → r.kind ≡ kind → of_kind kind (rs ++ r ∷ []) ≡ of_kind kind rs ++ r.at ∷ []
of_kind-this kind rs r e = of_kind-more kind rs r ∙ ap (λ (a : Bool). of_kind kind rs ++ cond a (r.at ∷ []) []) (eq-eqb r.kind kind e)

pub of_kind_other : (kind : ℕ) (rs : List Record) (r : Record) → (r.kind ≡ kind → ⊥) → of_kind kind (rs ++ r ∷ []) ≡ of_kind kind rs
of_kind_other kind rs r e = of_kind-more kind rs r ∙ ap (λ (a : Bool). of_kind kind rs ++ cond a (r.at ∷ []) []) (ne_eqb r.kind kind e) ∙ append-nil (of_kind kind rs)

pub of_kind_few : (kind : ℕ) (rs : List Record) → length (of_kind kind rs) ≤ length rs
unfolding of_kind
of_kind_few kind [] = le_refl 0
of_kind_few kind (x ∷ xs) = go (eqb x.kind kind) (of_kind_few kind xs)
  where
    go : (a : Bool) → length (of_kind kind xs) ≤ length xs → length (cond a (x.at ∷ of_kind kind xs) (of_kind kind xs)) ≤ suc (length xs)
    go true l = omega arith
    go false l = omega arith

-- ---- a column, one more: past the last place it stays
pub column-next : (places : ℕ) (file : List ℕ) (past : ℕ) (os : List ℕ) (at y : ℕ) → y ≡ two file (at + past)
    → set (column places file past os) (length os) y ≡ column places file past (os ++ at ∷ [])
column-next places file past os at y e = ⊎_elim room full (below_or_not (length os) places)
  where
    f : ℕ → ℕ
    f x = two file (x + past)

    xs : List ℕ
    xs = map f os

    many : length xs ≡ length os
    many = length-map os f

    more : map f (os ++ at ∷ []) ≡ xs ++ f at ∷ []
    more = map-append f os (at ∷ [])

    room : length os < places → set (column places file past os) (length os) y ≡ column places file past (os ++ at ∷ [])
    room l =
        (λ i. set (padded places (take_all places xs (rw many (le_of_lt l)) i)) (sym many i) (e i))
        ∙ padded-next places xs (f at) (rw many l)
        ∙ ap (padded places) (sym (take_all places (xs ++ f at ∷ []) fits) ∙ ap (take places) (sym more))
      where
        fits : length (xs ++ f at ∷ []) ≤ places
        fits = let joined = length-append xs (f at ∷ []) in omega (arith, many, joined)

    full : places ≤ length os → set (column places file past os) (length os) y ≡ column places file past (os ++ at ∷ [])
    full l =
        set_out (column places file past os) (length os) y (subst (λ (n : ℕ). n ≤ length os) (sym (padded_long places (take places xs) short)) l)
        ∙ ap (padded places) (sym (take-append-le places xs (f at ∷ []) (rw many l)) ∙ ap (take places) (sym more))
      where
        short : length (take places xs) ≤ places
        short = rw (length-take-le places xs (rw many l)) (le_refl places)

-- ---- a field of a payload is a field of the file
pub field_at : (file : List ℕ) (at m i past : ℕ) → past ≡ 4 + i → i + 2 ≤ m → two (take m (drop (at + 4) file)) i ≡ two file (at + past)
field_at file at m i past e l = ap₂ (λ x y. x + 256 * y) (one i past e (omega arith)) (one (i + 1) (past + 1) (omega arith) (omega arith) ∙ ap (λ k. file ! k) (omega arith))
  where
    one : (j k : ℕ) → k ≡ 4 + j → j < m → take m (drop (at + 4) file) ! j ≡ file ! (at + k)
    one j k d h = get_or-take m (drop (at + 4) file) j 0 h ∙ get_or-drop (at + 4) file j 0 ∙ ap (λ (x : ℕ). file ! x) (omega arith)

-- ---- the events
pub event_kind : (kind : ℕ) → 0 < (form kind).place → (kind ≡ 1 → ⊥) → (kind ≡ 2 → ⊥) → is_event kind ≡ true
unfolding form
event_kind kind l = go kind (known_kind kind l)
  where
    go : (k : ℕ) → Kind k → (k ≡ 1 → ⊥) → (k ≡ 2 → ⊥) → is_event k ≡ true
    go k partition a b = absurd (a refl)
    go k task a b = absurd (b refl)
    go k word a b = refl
    go k release a b = refl

-- a table's record comes before all events
pub no_events-more : (rs : List Record) (r : Record) → events_of rs ≡ [] → is_event r.kind ≡ false → events_of (rs ++ r ∷ []) ≡ []
unfolding events_of
no_events-more [] r e f = rw f
no_events-more (x ∷ xs) r e f = go (is_event x.kind) e (no_events-more xs r)
  where
    go : (a : Bool) → cond a (x ∷ xs) (events_of xs) ≡ [] → (events_of xs ≡ [] → is_event r.kind ≡ false → events_of (xs ++ r ∷ []) ≡ []) → cond a (x ∷ (xs ++ r ∷ [])) (events_of (xs ++ r ∷ [])) ≡ []
    go true d next = absurd (cons-ne-nil x xs d)
    go false d next = next d f

-- an event is the first, or the first stays what it was
pub events_begin : (rs : List Record) (r : Record) (end : ℕ) → is_event r.kind ≡ true → beginning (events_of rs) r.at ≡ beginning (events_of (rs ++ r ∷ [])) end
unfolding events_of
events_begin [] r end e = rw e
events_begin (x ∷ xs) r end e = go (is_event x.kind) (events_begin xs r end e)
  where
    go : (a : Bool) → beginning (events_of xs) r.at ≡ beginning (events_of (xs ++ r ∷ [])) end
        → beginning (cond a (x ∷ xs) (events_of xs)) r.at ≡ beginning (cond a (x ∷ (xs ++ r ∷ [])) (events_of (xs ++ r ∷ []))) end
    go true next = refl
    go false next = next

-- the number of four bytes that a payload begins with
pub four-at : (file : List ℕ) (at m : ℕ) → 4 ≤ m → four (take m (drop (at + 4) file)) 0 ≡ four file (at + 4)
four-at file at m l = ap₂ (λ x y. x + 65536 * y) (field_at file at m 0 4 refl (omega arith)) (field_at file at m 2 6 refl (omega arith) ∙ ap (two file) (omega arith))

-- ---- reading from an offset: only the place of the kind before counts, and rounds that are enough
pub record_after : (kinds file : List ℕ) (before other at : ℕ) → is_record kinds before file at ≡ true → (form other).place ≤ (form (kind_at file at)).place → is_record kinds other file at ≡ true
record_after kinds file before other at e l =
    let whole : Whole kinds before file at = record_whole kinds before file at e in
    sym (order_decides kinds other file at whole.head whole.held whole.known whole.long whole.ends) ∙ le-leb (form other).place (form (kind_at file at)).place l

module _ (kinds file : List ℕ) where
  pub before_same : (rounds before other at : ℕ) → (form before).place ≡ (form other).place → read_from kinds file rounds before at ≡ read_from kinds file rounds other at
  unfolding read_from is_record
  before_same zero before other at e = refl
  before_same (suc rounds) before other at e = rw e

  pub rounds_same : (rounds more before at : ℕ) → length file ≤ at + rounds → length file ≤ at + more → read_from kinds file rounds before at ≡ read_from kinds file more before at
  rounds_same zero more before at l k = read_ends kinds file zero before at (omega arith) ∙ sym (read_ends kinds file more before at (omega arith))
  rounds_same (suc rounds) zero before at l k = read_ends kinds file (suc rounds) before at (omega arith) ∙ sym (read_ends kinds file zero before at (omega arith))
  rounds_same (suc rounds) (suc more) before at l k =
      step (λ far. rounds_same rounds more (kind_at file at) (next_at file at) (omega (arith, far, l)) (omega (arith, far, k)))
    where
      step : (at + 6 ≤ next_at file at → read_from kinds file rounds (kind_at file at) (next_at file at) ≡ read_from kinds file more (kind_at file at) (next_at file at))
          → read_from kinds file (suc rounds) before at ≡ read_from kinds file (suc more) before at
      step later = ⊎_elim inside past (below_or_not at (length file))
        where
          past : length file ≤ at → read_from kinds file (suc rounds) before at ≡ read_from kinds file (suc more) before at
          past h = read_ends kinds file (suc rounds) before at h ∙ sym (read_ends kinds file (suc more) before at h)

          inside : at < length file → read_from kinds file (suc rounds) before at ≡ read_from kinds file (suc more) before at
          inside h = go (is_record kinds before file at) refl
            where
              go : (a : Bool) → is_record kinds before file at ≡ a → read_from kinds file (suc rounds) before at ≡ read_from kinds file (suc more) before at
              go true e =
                  read_on kinds file rounds before at h e
                  ∙ ap (and_then (record { kind = kind_at file at; at = at })) (later (next_further kinds before file at e).0)
                  ∙ sym (read_on kinds file more before at h e)
              go false e = read_stops kinds file rounds before at h e ∙ sym (read_stops kinds file more before at h e)

  -- the events are what is read from the first of them on
  pub record EventsFrom (events : List Record) : Type 0 where
    pub read : read_from kinds file (length file) 3 (beginning events (length file)) ≡ record { records = events; fault = none }
    pub inside : beginning events (length file) ≤ length file

  no_events : EventsFrom []
  no_events = record { read = read_ends kinds file (length file) 3 (length file) (le_refl (length file)); inside = le_refl (length file) }

  pub events-from : (rounds before at : ℕ) → length file ≤ at + rounds → (read_from kinds file rounds before at).fault ≡ none → EventsFrom (events_of (read_from kinds file rounds before at).records)
  unfolding events_of form
  events-from zero before at l f = subst (λ (x : Reading). EventsFrom (events_of x.records)) (sym (read_ends kinds file zero before at (omega arith))) no_events
  events-from (suc rounds) before at l f =
      step (λ far. events-from rounds (kind_at file at) (next_at file at) (omega (arith, far, l)))
    where
      rest : Reading
      rest = read_from kinds file rounds (kind_at file at) (next_at file at)

      this : Record
      this = record { kind = kind_at file at; at = at }

      step : (at + 6 ≤ next_at file at → rest.fault ≡ none → EventsFrom (events_of rest.records)) → EventsFrom (events_of (read_from kinds file (suc rounds) before at).records)
      step later = ⊎_elim inside past (below_or_not at (length file))
        where
          past : length file ≤ at → EventsFrom (events_of (read_from kinds file (suc rounds) before at).records)
          past h = subst (λ (x : Reading). EventsFrom (events_of x.records)) (sym (read_ends kinds file (suc rounds) before at h)) no_events

          inside : at < length file → EventsFrom (events_of (read_from kinds file (suc rounds) before at).records)
          inside h = go (is_record kinds before file at) refl
            where
              go : (a : Bool) → is_record kinds before file at ≡ a → EventsFrom (events_of (read_from kinds file (suc rounds) before at).records)
              go false e = some_is_none (sym (ap (λ (x : Reading). x.fault) (read_stops kinds file rounds before at h e)) ∙ f)
              go true e = subst (λ (x : Reading). EventsFrom (events_of x.records)) (sym on) (case (is_event (kind_at file at)) refl)
                where
                  on : read_from kinds file (suc rounds) before at ≡ and_then this rest
                  on = read_on kinds file rounds before at h e

                  fine : rest.fault ≡ none
                  fine = sym (ap (λ (x : Reading). x.fault) on) ∙ f

                  case : (b : Bool) → is_event (kind_at file at) ≡ b → EventsFrom (cond b (this ∷ rest.records) (events_of rest.records))
                  case false g = later (next_further kinds before file at e).0 fine
                  case true g =
                      record {
                        read =
                            rounds_same (length file) (suc rounds) 3 at (omega arith) l
                            ∙ read_on kinds file rounds 3 at h (record_after kinds file before 3 at e (rw (eqb-true (form (kind_at file at)).place 3 g) (le_refl 3)))
                            ∙ ap (λ (x : Option ℕ). record { records = this ∷ rest.records; fault = x }) fine;
                        inside = le_of_lt h;
                      }
