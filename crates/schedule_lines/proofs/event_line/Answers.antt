use Rattle.std.proofs.Common.{rules, ◌≡◌, Ok}
use Rattle.schedule_lines.proofs.Events.{event_short, event_made}
use Rattle.schedule_lines.proofs.event_line.Goals as goal

pub returns-in_err-made : goal.returns-in_err-made
returns-in_err-made c =
    let d : c.replay.result ≡ Ok c.in_ok-replayed.replayed = search rules in
    search (rules, event_short _ _ c.args.file.now _ _ _ _ c.replay.ensures _ d _ _ c.told-line.ensures _ _ c.put_line.ensures)

pub returns : goal.returns
returns c =
    let d : c.replay.result ≡ Ok c.in_ok-replayed.replayed = search rules in
    event_made _ _ c.args.file.now _ _ _ _ c.replay.ensures _ d _ _ c.told-line.ensures _ _ c.put_line.ensures _ c.in_ok-made.was
