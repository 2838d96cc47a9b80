-- What is promised of lent pairs p, which are q after the call.
use Rattle.std.specs.Prelude.{ℕ, ◌≡◌}
use Rattle.rules.specs.declared.Pairs.{Pairs}
use Rattle.rules.specs.declared.Table.{Table}
use Rattle.rules.specs.Tick.{pass_time, tick}

-- time has passed for n partitions
abbrev pub PassTimeIs : ℕ → Table → Pairs → Pairs → Type 0
PassTimeIs n t p q = q ≡ pass_time n t.period t.budget p.b p.o

-- the tick itself, of any count
abbrev pub PassTickIs : Table → Pairs → ℕ → Pairs → Type 0
PassTickIs t p pick q = q ≡ tick t.count t.period t.budget p.b p.o pick
