use Prim.Native.Nat.{◌-◌}
use lib.ListN.{length}
use Rattle.whole_file.proofs.Loading.{UpTo}
use Rattle.whole_file.proofs.load.Given as goal

abbrev pub invariant-loop-at : goal.invariant-loop-at
invariant-loop-at l = UpTo l.file l.held l.before l.at

abbrev pub decreases-loop-at : goal.decreases-loop-at
decreases-loop-at l = length l.file - l.at
