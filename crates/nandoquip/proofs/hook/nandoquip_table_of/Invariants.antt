-- The table holds the records so far.
use Rattle.std.proofs.Common.{◌≡◌, length}
use Rattle.nandoquip.specs.Records.{table_to}
use Rattle.nandoquip.proofs.hook.nandoquip_table_of.Given as goal

abbrev pub invariant-loop-i : goal.invariant-loop-i
invariant-loop-i l = l.t ≡ table_to (length l.yielded) l.parts
