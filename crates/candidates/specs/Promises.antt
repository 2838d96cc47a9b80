-- What each public function of this crate says, and promises of its answer r.
use Rattle.std.specs.Prelude.{ℕ, ◌≡◌, Bool, List, [], ◌∷◌, length}
use Rattle.std.proofs.Math.Option.{Option, some, none}
use Rattle.std.specs.declared.result.Result.{Result}
use Rattle.std.specs.declared.result.Result.TheVariants.{Ok, Err}
use Rattle.rules.specs.Records.{table_bad, pairs_bad}
use Rattle.basis.specs.Words.{has, padded}
use Rattle.rules.specs.Candidates.{candidates, inversion}
use Rattle.rules.specs.Refusals.{Refused, refused_as, refusal}
use Rattle.rules.specs.declared.Pairs.{Pairs}
use Rattle.rules.specs.declared.Refusal.{Refusal}
use Rattle.rules.specs.declared.Table.{Table}
use Rattle.busy.specs.Promises.{places, candidates_of}
use Rattle.candidates.specs.declared.Listed.{Listed}

-- the pick is among the candidates
abbrev pub MemberIs : Table → Pairs → ℕ → Bool → Type 0
MemberIs t p pick r = r ≡ has (candidates_of t.count t.period t.budget p.b p.o) pick

-- a list as an answer: in its places with its length, or refused and all 0
pub record Listing : Type 0 where
  pub list : List ℕ
  pub length : ℕ
  pub refused : Option Refused

abbrev pub listed_as : Result Listed Refusal → Listing
listed_as (Ok r) = record { list = r.list; length = r.length; refused = none }
listed_as (Err r) = record { list = padded places []; length = 0; refused = some (refused_as r) }

unfoldable pub listing : Option Refused → List ℕ → Listing
listing none xs = record { list = padded places xs; length = length xs; refused = none }
listing (some r) xs = record { list = padded places []; length = 0; refused = some r }

-- the candidate list: refusals 1 and 3
abbrev pub candidates_say : Table → Pairs → Listing
candidates_say t p =
    listing (refusal (table_bad t ∷ pairs_bad t p.b p.o ∷ []))
    (candidates t.count t.period t.budget p.b p.o inversion)

abbrev pub CandidatesIs : Table → Pairs → Result Listed Refusal → Type 0
CandidatesIs t p r = listed_as r ≡ candidates_say t p
