use Rattle.std.proofs.lemmas.Result.{err_from_is_err_and}
use Rattle.lines.proofs.Calls.{put_made, put_refused}
use Rattle.lines.proofs.put_line.Goals as goal

pub returns-in_err-length : goal.returns-in_err-length
returns-in_err-length g c =
    let p = err_from_is_err_and c.from_residual.result c.from_residual.ensures.1 in
    rw (p.1, p.2) (put_refused _ _ _ _ c.write_line.ensures _ _ c.in_err-length.was)

pub returns : goal.returns
returns g c = put_made _ _ _ _ c.write_line.ensures _ _ c.in_ok-length.was
