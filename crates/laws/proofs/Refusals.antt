-- A refusal's two numbers say which it is, and of several grounds the first in 01's order is given.
use Prim.Native.Nat.{ℕ}
use mathlib.Core.Path.{◌≡◌, refl, ap, ap₂, ◌∙◌, sym}
use mathlib.Core.Bool.{Bool, true, false, cond, not, ◌&&◌, ◌||◌}
use mathlib.Core.List.{List, [], ◌∷◌, ◌++◌, append-nil}
use mathlib.Core.Logic.{⊎_elim}
use mathlib.Core.Option.{Option, some, none, some-injective}
use native.Mathlib.Omega.{arith}
use lib.Dec.{eqb}
use lib.ListN.{length, take, drop, take-append-drop}
use Rattle.basis.specs.Words.{has, those}
use Rattle.laws.proofs.Tests.{and_left, and_right, or_left, or_right, or_cases, never, some_is_none, none_is_some}
use borrow.Author.Tests.{eqb-true, eq-eqb, not-true}
use Rattle.rules.specs.declared.Refusal.{Refusal}
use Rattle.rules.specs.declared.Refusal.TheVariants.{BadPartition, NotAdmitted, BadPair, NoWord, NotListed, NotActive, ShortBuffer, BadRecord, BadTask}
use Rattle.rules.specs.Refusals.{Refused, refused_as, Ground, ground, applies_to, unless_before, first_applying, order, refusal}

-- the refusal with these two numbers
named : Refused → Refusal
named r =
    cond (eqb r.number 1) (BadPartition r.second)
    (cond (eqb r.number 2) (NotAdmitted r.second)
    (cond (eqb r.number 3) (BadPair r.second)
    (cond (eqb r.number 4) NoWord
    (cond (eqb r.number 5) (NotListed r.second)
    (cond (eqb r.number 6) (NotActive r.second)
    (cond (eqb r.number 7) (ShortBuffer r.second)
    (cond (eqb r.number 8) (BadRecord r.second) (BadTask r.second))))))))

named_again : (r : Refusal) → named (refused_as r) ≡ r
unfolding named
named_again (BadPartition i) = refl
named_again (NotAdmitted i) = refl
named_again (BadPair i) = refl
named_again NoWord = refl
named_again (NotListed i) = refl
named_again (NotActive i) = refl
named_again (ShortBuffer i) = refl
named_again (BadRecord i) = refl
named_again (BadTask i) = refl

-- no two refusals have the same two numbers
pub refused_injective : (r s : Refusal) → refused_as r ≡ refused_as s → r ≡ s
refused_injective r s e = sym (named_again r) ∙ ap named e ∙ named_again s

-- what it means that r is the first of these numbers that applies
pub record FirstOf (numbers : List ℕ) (gs : List Ground) (r : Refused) : Type 0 where
  pub earlier : List ℕ
  pub later : List ℕ
  pub split : numbers ≡ earlier ++ r.number ∷ later
  pub applies : applies_to gs r.number ≡ some r.second
  pub none_earlier : (k : ℕ) → has earlier k ≡ true → applies_to gs k ≡ none

pub first_applying_lem : (numbers : List ℕ) (gs : List Ground) (r : Refused) → first_applying numbers gs ≡ some r → FirstOf numbers gs r
unfolding has
first_applying_lem [] gs r p = none_is_some p
first_applying_lem (k ∷ ks) gs r p = go (applies_to gs k) refl p (first_applying_lem ks gs r)
  where
    go : (a : Option ℕ) → applies_to gs k ≡ a → unless_before k a (first_applying ks gs) ≡ some r
        → (first_applying ks gs ≡ some r → FirstOf ks gs r) → FirstOf (k ∷ ks) gs r
    go (some i) e q next =
        let same : record { number = k; second = i } ≡ r = some-injective _ _ q in
        record {
          earlier = [];
          later = ks;
          split = ap (λ (x : ℕ). x ∷ ks) (ap (λ (x : Refused). x.number) same);
          applies = sym (ap (λ (x : Refused). applies_to gs x.number) same) ∙ e ∙ ap (λ (x : Refused). some x.second) same;
          none_earlier = λ j h. never h refl;
        }
    go none e q next =
        let f = next q in
        record {
          earlier = k ∷ f.earlier;
          later = f.later;
          split = ap (λ (x : List ℕ). k ∷ x) f.split;
          applies = f.applies;
          none_earlier = λ j h. ⊎_elim (λ s. ap (applies_to gs) (eqb-true j k s) ∙ e) (f.none_earlier j) (or_cases (eqb j k) _ h);
        }

pub none_applying : (numbers : List ℕ) (gs : List Ground) → first_applying numbers gs ≡ none → (k : ℕ) → has numbers k ≡ true → applies_to gs k ≡ none
unfolding has
none_applying [] gs p k h = never h refl
none_applying (j ∷ js) gs p k h = go (applies_to gs j) refl p (none_applying js gs)
  where
    go : (a : Option ℕ) → applies_to gs j ≡ a → unless_before j a (first_applying js gs) ≡ none
        → (first_applying js gs ≡ none → (i : ℕ) → has js i ≡ true → applies_to gs i ≡ none) → applies_to gs k ≡ none
    go (some i) e q next = some_is_none q
    go none e q next = ⊎_elim (λ s. ap (applies_to gs) (eqb-true k j s) ∙ e) (next q k) (or_cases (eqb k j) _ h)

-- so where a call isn't refused, none of its grounds applies
pub no_ground : (gs : List Ground) → refusal gs ≡ none → (k : ℕ) → has order k ≡ true → applies_to gs k ≡ none
unfolding refusal
no_ground gs e k l = none_applying order gs e k l

-- ---- a call that judges some grounds first and others then
-- a ground has that number
abbrev pub numbered : List Ground → ℕ → Bool
numbered [] k = false
numbered (g ∷ gs) k = eqb g.number k || numbered gs k

-- no ground has one of these numbers
abbrev pub apart : List ℕ → List Ground → Bool
apart [] gs = true
apart (k ∷ ks) gs = not (numbered gs k) && apart ks gs

-- the first refusal, or the second where there is no first
or_refused : Option Refused → Option Refused → Option Refused
or_refused (some r) other = some r
or_refused none other = other

not_numbered : (numbers : List ℕ) (gs : List Ground) → apart numbers gs ≡ true → (k : ℕ) → has numbers k ≡ true → numbered gs k ≡ false
unfolding has
not_numbered [] gs free k h = never h refl
not_numbered (j ∷ js) gs free k h =
    ⊎_elim
    (λ s. ap (numbered gs) (eqb-true k j s) ∙ not-true _ (and_left _ _ free))
    (not_numbered js gs (and_right (not (numbered gs j)) _ free) k)
    (or_cases (eqb k j) _ h)

applies_later : (hs ks : List Ground) (k : ℕ) → numbered hs k ≡ false → applies_to (hs ++ ks) k ≡ applies_to ks k
applies_later [] ks k free = refl
applies_later (g ∷ hs) ks k free = go (eqb g.number k) free (applies_later hs ks k)
  where
    go : (t : Bool) → (t || numbered hs k) ≡ false → (numbered hs k ≡ false → applies_to (hs ++ ks) k ≡ applies_to ks k)
        → cond t g.applies (applies_to (hs ++ ks) k) ≡ applies_to ks k
    go true e next = never refl e
    go false e next = next e

applies_not : (numbers : List ℕ) (gs : List Ground) → apart numbers gs ≡ true → (k : ℕ) → has numbers k ≡ true → applies_to gs k ≡ none
applies_not numbers gs free k h = ap (λ (l : List Ground). applies_to l k) (sym (append-nil gs)) ∙ applies_later gs [] k (not_numbered numbers gs free k h)

applies_earlier : (hs ks : List Ground) (k : ℕ) → applies_to ks k ≡ none → applies_to (hs ++ ks) k ≡ applies_to hs k
applies_earlier [] ks k e = e
applies_earlier (g ∷ hs) ks k e = ap (cond (eqb g.number k) g.applies) (applies_earlier hs ks k e)

applying_same : (numbers : List ℕ) (gs hs : List Ground) → ((k : ℕ) → has numbers k ≡ true → applies_to gs k ≡ applies_to hs k) → first_applying numbers gs ≡ first_applying numbers hs
unfolding has
applying_same [] gs hs e = refl
applying_same (k ∷ ks) gs hs e =
    ap₂ (unless_before k) (e k (or_left _ (eq-eqb k k refl))) (applying_same ks gs hs (λ j h. e j (or_right (eqb j k) h)))

applying_append : (xs ys : List ℕ) (gs : List Ground) → first_applying (xs ++ ys) gs ≡ or_refused (first_applying xs gs) (first_applying ys gs)
unfolding or_refused
applying_append [] ys gs = refl
applying_append (k ∷ xs) ys gs = ap (unless_before k (applies_to gs k)) (applying_append xs ys gs) ∙ go (applies_to gs k)
  where
    go : (a : Option ℕ) → unless_before k a (or_refused (first_applying xs gs) (first_applying ys gs)) ≡ or_refused (unless_before k a (first_applying xs gs)) (first_applying ys gs)
    go (some i) = refl
    go none = refl

applying_none : (numbers : List ℕ) (gs : List Ground) → apart numbers gs ≡ true → first_applying numbers gs ≡ none
applying_none numbers gs free = applying_same numbers gs [] (applies_not numbers gs free) ∙ nothing numbers
  where
    nothing : (ks : List ℕ) → first_applying ks [] ≡ none
    nothing [] = refl
    nothing (k ∷ ks) = nothing ks

-- the first have only numbers before some place of the order, the others only numbers from there on
pub record InTurn (hs ks : List Ground) : Type 0 where
  pub place : ℕ
  pub early : apart (drop place order) hs ≡ true
  pub late : apart (take place order) ks ≡ true

module _ {hs ks : List Ground} (turn : InTurn hs ks) where
  abbrev before : List ℕ
  before = take turn.place order

  abbrev after : List ℕ
  after = drop turn.place order

  parted : (gs : List Ground) → refusal gs ≡ or_refused (first_applying before gs) (first_applying after gs)
  unfolding refusal
  parted gs = ap (λ (l : List ℕ). first_applying l gs) (sym (take-append-drop turn.place order)) ∙ applying_append before after gs

  in_turn : refusal (hs ++ ks) ≡ or_refused (refusal hs) (refusal ks)
  unfolding or_refused
  in_turn =
      parted (hs ++ ks)
      ∙ ap₂ or_refused first_part second_part
      ∙ sym (ap₂ or_refused (parted hs ∙ ap (or_refused early_hs) (applying_none after hs turn.early) ∙ or_none early_hs)
      (parted ks ∙ ap (λ (r : Option Refused). or_refused r (first_applying after ks)) (applying_none before ks turn.late)))
    where
      early_hs : Option Refused
      early_hs = first_applying before hs

      or_none : (r : Option Refused) → or_refused r none ≡ r
      or_none (some r) = refl
      or_none none = refl

      first_part : first_applying before (hs ++ ks) ≡ early_hs
      first_part = applying_same before (hs ++ ks) hs (λ k h. applies_earlier hs ks k (applies_not before ks turn.late k h))

      second_part : first_applying after (hs ++ ks) ≡ first_applying after ks
      second_part = applying_same after (hs ++ ks) ks (λ k h. applies_later hs ks k (not_numbered after hs turn.early k h))

  -- where one of the first applies, it is the refusal
  pub refused-first : (r : Refused) → refusal hs ≡ some r → refusal (hs ++ ks) ≡ some r
  unfolding or_refused
  refused-first r e = in_turn ∙ ap (λ (x : Option Refused). or_refused x (refusal ks)) e

  -- and where none does, the others decide
  pub refused_then : refusal hs ≡ none → refusal (hs ++ ks) ≡ refusal ks
  unfolding or_refused
  refused_then e = in_turn ∙ ap (λ (x : Option Refused). or_refused x (refusal ks)) e

-- places in the order: behind the numbers of the file, of the table, of the tasks, and of the state
abbrev after_file : ℕ
after_file = 1

abbrev after_table : ℕ
after_table = 2

abbrev after_tasks : ℕ
after_tasks = 3

abbrev after_state : ℕ
after_state = 5

-- 1 comes before 9, 2 and 3
pub table_then_tasks : (x y : Option ℕ) → InTurn (ground 1 x ∷ []) (ground 9 y ∷ [])
table_then_tasks x y = record { place = after_table; early = refl; late = refl }

pub table_then_admission : (x y : Option ℕ) → InTurn (ground 1 x ∷ []) (ground 2 y ∷ [])
table_then_admission x y = record { place = after_table; early = refl; late = refl }

pub table_then_state : (x y : Option ℕ) → InTurn (ground 1 x ∷ []) (ground 3 y ∷ [])
table_then_state x y = record { place = after_table; early = refl; late = refl }

-- 8 comes before all of them, and 9 before 2
pub file_first : (x y z u : Option ℕ) → InTurn (ground 8 x ∷ []) (ground 1 y ∷ ground 9 z ∷ ground 2 u ∷ [])
file_first x y z u = record { place = after_file; early = refl; late = refl }

pub record_first : (x y z u : Option ℕ) → InTurn (ground 8 x ∷ []) (ground 1 y ∷ ground 3 z ∷ ground 6 u ∷ [])
record_first x y z u = record { place = after_file; early = refl; late = refl }

-- and of a line's grounds, 8, 1 and 3 come before 7 and 6
pub line_first : (x y z u v : Option ℕ) → InTurn (ground 8 x ∷ ground 1 y ∷ ground 3 z ∷ []) (ground 7 u ∷ ground 6 v ∷ [])
line_first x y z u v = record { place = after_state; early = refl; late = refl }

-- of a row's, 1 and 9 before 7
pub row_first : (x y z : Option ℕ) → InTurn (ground 1 x ∷ ground 9 y ∷ []) (ground 7 z ∷ [])
row_first x y z = record { place = after_state; early = refl; late = refl }

pub size_first : (x y z : Option ℕ) → InTurn (ground 8 x ∷ []) (ground 1 y ∷ ground 3 z ∷ [])
size_first x y z = record { place = after_file; early = refl; late = refl }

pub table-first : (x y z : Option ℕ) → InTurn (ground 1 x ∷ []) (ground 9 y ∷ ground 2 z ∷ [])
table-first x y z = record { place = after_table; early = refl; late = refl }

pub tasks_then_admission : (x y : Option ℕ) → InTurn (ground 9 x ∷ []) (ground 2 y ∷ [])
tasks_then_admission x y = record { place = after_tasks; early = refl; late = refl }

-- the numbers that come after 1 and 3
pub data Late : ℕ → Type 0 where
  four : Late 4
  five : Late 5
  six : Late 6
  seven : Late 7

pub late_last : (x y z : Option ℕ) {k : ℕ} → Late k → InTurn (ground 1 x ∷ ground 3 y ∷ []) (ground k z ∷ [])
late_last x y z four = record { place = after_state; early = refl; late = refl }
late_last x y z five = record { place = after_state; early = refl; late = refl }
late_last x y z six = record { place = after_state; early = refl; late = refl }
late_last x y z seven = record { place = after_state; early = refl; late = refl }

-- a ground that doesn't apply, and comes last, changes nothing
pub nothing_last : (gs : List Ground) (k : ℕ) → refusal (gs ++ ground k none ∷ []) ≡ refusal gs
unfolding refusal
nothing_last gs k = applying_same order (gs ++ ground k none ∷ []) gs (λ m h. same gs m)
  where
    alone : (a : Bool) → ◌≡◌ {A = Option ℕ} (cond a none none) none
    alone true = refl
    alone false = refl

    same : (hs : List Ground) (m : ℕ) → applies_to (hs ++ ground k none ∷ []) m ≡ applies_to hs m
    same [] m = alone (eqb k m)
    same (h ∷ hs) m = ap (λ (x : Option ℕ). cond (eqb h.number m) h.applies x) (same hs m)

-- a ground by itself
abbrev pub Alone : ℕ → Type 0
Alone k = (z : Option ℕ) → refusal (ground k z ∷ []) ≡ unless_before k z none

pub table_alone : Alone 1
unfolding refusal
table_alone z = refl

pub file_alone : Alone 8
unfolding refusal
file_alone z = refl

pub admission_alone : Alone 2
unfolding refusal
admission_alone z = refl

pub state_alone : Alone 3
unfolding refusal
state_alone z = refl

pub tasks_alone : Alone 9
unfolding refusal
tasks_alone z = refl

pub late_alone : {k : ℕ} → Late k → Alone k
unfolding refusal
late_alone four z = refl
late_alone five z = refl
late_alone six z = refl
late_alone seven z = refl

-- the order has each of the nine once
pub order_whole : (length order ≡ 9) × (those 10 (has order) ≡ 1 ∷ 2 ∷ 3 ∷ 4 ∷ 5 ∷ 6 ∷ 7 ∷ 8 ∷ 9 ∷ [])
unfolding has those
order_whole = (refl, refl)

-- ---- a buffer comes before a release
-- that 7, where it applies
abbrev pub seven_or : Option ℕ → Refused → Refused
seven_or (some needed) r = record { number = 7; second = needed }
seven_or none r = r

-- of a refusal 6, the buffer's 7 where it applies
abbrev pub seven_first : Option ℕ → Refused → Refused
seven_first short r = cond (eqb r.number 6) (seven_or short r) r

module _ (x y z u v : Option ℕ) where
  -- where 8, 1, 3 and 6 refuse, so they do beside a 7, which comes before 6 alone
  pub seven_among : (r : Refused) → refusal (ground 8 x ∷ ground 1 y ∷ ground 3 z ∷ ground 6 v ∷ []) ≡ some r
      → refusal (ground 8 x ∷ ground 1 y ∷ ground 3 z ∷ ground 7 u ∷ ground 6 v ∷ []) ≡ some (seven_first u r)
  unfolding refusal
  seven_among r = go x y z u v
    where
      swap : (q : Refused) (w : Option ℕ) → some q ≡ some r → some (seven_first w q) ≡ some (seven_first w r)
      swap q w e = let same : q ≡ r = cc in ap (λ (p : Refused). some (seven_first w p)) same

      go : (x y z u v : Option ℕ) → first_applying order (ground 8 x ∷ ground 1 y ∷ ground 3 z ∷ ground 6 v ∷ []) ≡ some r
          → first_applying order (ground 8 x ∷ ground 1 y ∷ ground 3 z ∷ ground 7 u ∷ ground 6 v ∷ []) ≡ some (seven_first u r)
      go (some i) y z u v e = swap _ u e
      go none (some i) z u v e = swap _ u e
      go none none (some i) u v e = swap _ u e
      go none none none (some n) (some i) e = swap _ (some n) e
      go none none none none (some i) e = swap _ none e
      go none none none u none e = none_is_some e

  -- a refusal 6 is that of its own ground
  pub six_from : (r : Refused) → refusal (ground 8 x ∷ ground 1 y ∷ ground 3 z ∷ ground 6 v ∷ []) ≡ some r → r.number ≡ 6 → v ≡ some r.second
  unfolding refusal
  six_from r = go x y z v
    where
      differ : (k i : ℕ) → (k ≡ 6 → ⊥) → some (record { number = k; second = i }) ≡ some r → r.number ≡ 6 → ⊥
      differ k i n e is = let same : record { number = k; second = i } ≡ r = cc in n (ap (λ (p : Refused). p.number) same ∙ is)

      go : (x y z w : Option ℕ) → first_applying order (ground 8 x ∷ ground 1 y ∷ ground 3 z ∷ ground 6 w ∷ []) ≡ some r → r.number ≡ 6 → w ≡ some r.second
      go (some i) y z w e is = absurd (differ 8 i (λ d. omega (arith, d)) e is)
      go none (some i) z w e is = absurd (differ 1 i (λ d. omega (arith, d)) e is)
      go none none (some i) w e is = absurd (differ 3 i (λ d. omega (arith, d)) e is)
      go none none none (some i) e is = let same : record { number = 6; second = i } ≡ r = cc in ap (λ (p : Refused). some p.second) same
      go none none none none e is = none_is_some e

  -- and where they don't, 7 decides
  pub seven_alone : refusal (ground 8 x ∷ ground 1 y ∷ ground 3 z ∷ ground 6 v ∷ []) ≡ none
      → refusal (ground 8 x ∷ ground 1 y ∷ ground 3 z ∷ ground 7 u ∷ ground 6 v ∷ []) ≡ refusal (ground 7 u ∷ [])
  unfolding refusal
  seven_alone = go x y z u v
    where
      go : (x y z u v : Option ℕ) → first_applying order (ground 8 x ∷ ground 1 y ∷ ground 3 z ∷ ground 6 v ∷ []) ≡ none
          → first_applying order (ground 8 x ∷ ground 1 y ∷ ground 3 z ∷ ground 7 u ∷ ground 6 v ∷ []) ≡ first_applying order (ground 7 u ∷ [])
      go (some i) y z u v e = some_is_none e
      go none (some i) z u v e = some_is_none e
      go none none (some i) u v e = some_is_none e
      go none none none u (some i) e = some_is_none e
      go none none none (some n) none e = refl
      go none none none none none e = refl
