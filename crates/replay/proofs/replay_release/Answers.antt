use mathlib.Core.Path.{sym}
use Rattle.replay.proofs.Events.{release_done}
use Rattle.replay.proofs.replay_release.Goals as goal

pub returns : goal.returns
returns c = rw (sym c.from.ensures) (release_done _ _ _ _ _ c.release.ensures _ c.in_ok-state.was)
