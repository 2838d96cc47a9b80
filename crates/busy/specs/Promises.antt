-- What each public function of this crate promises of its answer r: the rule, and nothing beyond the sixteen places.
use Rattle.std.specs.Prelude.{ℕ, ◌≡◌, Bool, cond, ◌&&◌, List, [], ltb, leb, length}
use Rattle.std.proofs.Math.Option.{none}
use Rattle.std.specs.declared.option.Option.{Option}
use Rattle.basis.specs.Words.{padded}
use Rattle.rules.specs.Numbers.{most_partitions}
use Rattle.rules.specs.declared.Pairs.{Pairs}
use Rattle.rules.specs.declared.Table.{Table}
use Rattle.rules.specs.BusyLength.{busy_length, passes}
use Rattle.rules.specs.Candidates.{candidates, inversion}
use Rattle.busy.specs.Spans.{span_as}

abbrev pub BusyLengthIs : Table → Pairs → ℕ → ℕ → Option ℕ → Type 0
BusyLengthIs t p h w r = span_as r ≡ cond (ltb h most_partitions) (busy_length t.period t.budget p.b p.o h w) none

abbrev pub PassesIs : Table → Pairs → ℕ → ℕ → Bool → Type 0
PassesIs t p h w r = r ≡ (ltb h most_partitions && passes t.period t.budget p.b p.o h w)

-- 16 partitions and idle
abbrev pub places : ℕ
places = 17

-- a lent list after the search, and how many of its places are used
pub record Found : Type 0 where
  pub list : List ℕ
  pub length : ℕ

-- a list in its places, and its length
pub record ListIs (xs : List ℕ) (r : Found) : Type 0 where
  pub list : r.list ≡ padded places xs
  pub length : r.length ≡ length xs

-- the candidates; none of more than sixteen
abbrev pub candidates_of : ℕ → List ℕ → List ℕ → List ℕ → List ℕ → List ℕ
candidates_of n T B b o = cond (leb n most_partitions) (candidates n T B b o inversion) []

abbrev pub SearchIs : Table → Pairs → Found → Type 0
SearchIs t p r = ListIs (candidates_of t.count t.period t.budget p.b p.o) r
