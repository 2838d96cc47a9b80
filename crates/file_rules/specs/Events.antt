-- 01, "Meter file and printers": what a word or a release of a file does to the state.
use Rattle.std.specs.Prelude.{ℕ, ◌+◌, cond, List, eqb}
use Rattle.std.proofs.Math.Option.{Option, none}
use Rattle.basis.specs.Words.{unless}
use Rattle.rules.specs.declared.Pairs.{Pairs}
use Rattle.rules.specs.Pick.{decision}
use Rattle.rules.specs.Tick.{tick}
use Rattle.rules.specs.Release.{release, release_allowed}
use Rattle.file_rules.specs.MeterFile.{two, four}
use Rattle.rules.specs.declared.Table.{Table}

-- a tick for a pick, or a release of an index
pub data Event : Type 0 where
  ticked : ℕ → Event
  released : ℕ → Event

module _ (t : Table) (s : Pairs) where
  -- "Kind 3, word: 4 bytes": the pick that it makes. "Kind 4, release: index, 2 bytes"
  unfoldable pub event_at : List ℕ → ℕ → ℕ → Event
  event_at file kind at =
      cond (eqb kind 3) (ticked (decision t.count t.period t.budget s.b s.o (four file (at + 4))))
      (released (two file (at + 4)))

  -- the state after it
  abbrev pub after : Event → Pairs
  after (ticked pick) = tick t.count t.period t.budget s.b s.o pick
  after (released index) = release s.b s.o index

  -- "6 | release of an index not active | that index"
  abbrev pub inactive : Event → Option ℕ
  inactive (ticked pick) = none
  inactive (released index) = unless (release_allowed t.count s.b index) index

-- "ticks made so far"
abbrev pub ticks_after : ℕ → Event → ℕ
ticks_after ticks (ticked pick) = ticks + 1
ticks_after ticks (released index) = ticks
