-- The table of the first records, as a loop over them makes it.
use Rattle.std.proofs.Common.{ℕ, ◌+◌, ◌<◌, ◌≡◌, sym, ◌∙◌, ap, refl, zero, suc, zero-add, List, [], ◌∷◌, ◌++◌, length, get_or, take, set, add-one, arith, length-take, get_or-take}
use Rattle.std.specs.Prelude.{map}
use Rattle.std.specs.List.{enumerate_from}
use Rattle.std.proofs.lemmas.List.FromFn.{length-enumerate_from, get_or-enumerate_from}
use mathlib.Core.List.{map-append}
use native.Mathlib.Nat.{le_of_lt}
use lib.ListN.{length-map}
use lib.Seq.{length-take-le, take-suc}
use Rattle.basis.specs.Words.{padded}
use Rattle.rules.specs.declared.Part.{Part}
use Rattle.rules.specs.declared.Table.{Table}
use Rattle.laws.proofs.Padded.{padded-next}
use Rattle.nandoquip.specs.Records.{column, table_to, table_of}

-- p is the n-th of the first sixteen records
pub record IsNext (ps : List Part) (n : ℕ) (p : Part) : Type 0 where
  pub few : n < 16
  pub there : n < length ps
  pub part : p ≡ get_or ps n p

pub is_next : (ps : List Part) (n i : ℕ) (p : Part)
    → (n < length (enumerate_from 0 (take 16 ps))) × (◌≡◌ {A = ℕ × Part} (i, p) (get_or (enumerate_from 0 (take 16 ps)) n (i, p)))
    → (i ≡ n) × IsNext ps n p
is_next ps n i p turn =
    let size = length-enumerate_from 0 (take 16 ps) in
    let taken = length-take 16 ps in
    let within : n < length (take 16 ps) = omega arith in
    let few : n < 16 = omega arith in
    let same : ◌≡◌ {A = ℕ × Part} (i, p) (0 + n, get_or (take 16 ps) n p) = turn.1 ∙ get_or-enumerate_from 0 (take 16 ps) n (i, p) within in
    (ap (λ (x : ℕ × Part). x.0) same ∙ zero-add n, record { few = few; there = omega arith; part = ap (λ (x : ℕ × Part). x.1) same ∙ get_or-take 16 ps n p few })

-- one more record
module _ (ps : List Part) (n : ℕ) (p : Part) (next : IsNext ps n p) where
  one_more : take n ps ++ p ∷ [] ≡ take (n + 1) ps
  one_more = ap (λ (q : Part). take n ps ++ q ∷ []) next.part ∙ sym (take-suc ps n p next.there) ∙ ap (λ (m : ℕ). take m ps) (sym (add-one n))

  column-next : (f : Part → ℕ) → set (column n f ps) n (f p) ≡ column (n + 1) f ps
  column-next f =
      (λ k. set (padded 16 (map f (take n ps))) (sym so_far k) (f p))
      ∙ padded-next 16 (map f (take n ps)) (f p) (rw so_far next.few)
      ∙ ap (padded 16) (sym (map-append f (take n ps) (p ∷ [])) ∙ ap (map f) one_more)
    where
      so_far : length (map f (take n ps)) ≡ n
      so_far = length-map (take n ps) f ∙ length-take-le n ps (le_of_lt next.there)

  pub table-next : (t : Table) (i : ℕ) → t ≡ table_to n ps → i ≡ n
      → record {
        period = set t.period i p.period;
        budget = set t.budget i p.budget;
        phase = set t.phase i p.phase;
        count = t.count;
      } ≡ table_to (n + 1) ps
  table-next t i e at =
      (λ k. record {
        period = set (e k).period (at k) p.period;
        budget = set (e k).budget (at k) p.budget;
        phase = set (e k).phase (at k) p.phase;
        count = (e k).count;
      })
      ∙ (λ k. record {
        period = column-next (λ (q : Part). q.period) k;
        budget = column-next (λ (q : Part). q.budget) k;
        phase = column-next (λ (q : Part). q.phase) k;
        count = (table_to n ps).count;
      })

-- the table is made where all records are in it, or sixteen of them
take_length : (n : ℕ) (ps : List Part) → take (length (take n ps)) ps ≡ take n ps
take_length zero ps = refl
take_length (suc n) [] = refl
take_length (suc n) (p ∷ ps) = ap (λ (qs : List Part). p ∷ qs) (take_length n ps)

pub table_made : (ps : List Part) (n : ℕ) → n ≡ length (enumerate_from 0 (take 16 ps)) → table_to n ps ≡ table_of ps
unfolding table_of
table_made ps n e = rw (e, length-enumerate_from 0 (take 16 ps), take_length 16 ps)
