-- One name for all definitions that a history worked by hand is computed by: to unfold `history_worked` is to unfold each of them.
use Prim.Native.Nat.{ℕ}
use Rattle.rules.specs.Worked.{worked}
use Rattle.guarantee.specs.Histories.{allowed, next, all_allowed, after, counted, ends_with, replenishment, runs, gives_up}

unfoldable pub history_worked : ℕ
unfolding worked allowed next all_allowed after counted ends_with replenishment runs gives_up
history_worked = 0
