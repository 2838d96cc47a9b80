use Rattle.replay.proofs.Events.{word_replayed, release_replayed}
use Rattle.replay.proofs.replay.Goals as goal

pub returns-in-Word : goal.returns-in-Word
returns-in-Word c = word_replayed _ _ c.args.file.now _ _ c.read_record.ensures _ c.in_ok-found.was c.payload-part.result.now c.payload-part.ensures c.in-Word.is _ c.four.ensures c.replay_word.result c.replay_word.ensures

pub returns-in_default : goal.returns-in_default
returns-in_default c = release_replayed _ _ c.args.file.now _ _ c.read_record.ensures _ c.in_ok-found.was c.payload-part.result.now c.payload-part.ensures c.in_default.not-Word _ c.two.ensures c.replay_release.result c.replay_release.ensures
