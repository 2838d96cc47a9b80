use Rattle.std.proofs.Common.{◌∙◌, sym, ap, refl}
use Rattle.std.proofs.lemmas.List.{length_push}
use Rattle.std.proofs.lemmas.Iterator.{YieldsList-from_slice, YieldsList-from_take}
use Rattle.std.proofs.lemmas.Iterator.Consumers.{YieldsList-from_enumerate, YieldsList-turn, YieldsList-end}
use Rattle.basis.specs.Words.{padded}
use Rattle.nandoquip.specs.Records.{table_to}
use Rattle.nandoquip.proofs.Columns.{is_next, table-next, table_made}
use Rattle.nandoquip.proofs.hook.nandoquip_table_of.Goals as goal

-- no record yet: the table is empty
pub loop-i-init : goal.loop-i-init
unfolding padded
loop-i-init c = refl

-- one more record
pub loop-i-preserved : goal.loop-i-preserved
loop-i-preserved c =
    let first = YieldsList-from_enumerate (YieldsList-from_take 16 (YieldsList-from_slice c.args.parts.now (cc)) (cc)) (cc) in
    let turn = is_next c.args.parts.now _ c.in-Some.i c.in-Some.part.now (YieldsList-turn first c.loop-i.yielded _ c.loop-i.yielded_by _ _ _ c.in-Some.is c.next.ensures.steps) in
    table-next c.args.parts.now _ c.in-Some.part.now turn.1 c.loop-i.t c.in-Some.i c.loop-i.invariant turn.0
    ∙ ap (λ n. table_to n c.args.parts.now) (sym (length_push c.loop-i.yielded (c.in-Some.i, c.in-Some.part)))

-- all records, or sixteen of them
pub returns : goal.returns
returns c =
    let first = YieldsList-from_enumerate (YieldsList-from_take 16 (YieldsList-from_slice c.args.parts.now (cc)) (cc)) (cc) in
    c.loop-i.invariant ∙ table_made _ _ (YieldsList-end first c.loop-i.yielded _ c.loop-i.yielded_by _ _ c.in-None.is c.next.ensures.steps).1
