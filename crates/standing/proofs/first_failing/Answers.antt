use mathlib.Core.Path.{refl}
use mathlib.Core.Bool.{not}
use borrow.Author.Tests.{tests}
use Rattle.std.proofs.Common.{rules}
use Rattle.laws.proofs.Found.{first_is_found}
use Rattle.standing.proofs.Tests.{told, failing}
use Rattle.standing.proofs.first_failing.Goals as goal

pub returns : goal.returns
returns c =
    failing _ _ _ _ _ _ c.requires
    (first_is_found (λ h. not (told c.args.t.now.count c.args.t.now.period c.args.t.now.budget c.args.p.now.b c.args.p.now.o h)) _ _ _ _ c.find.ensures.ran refl
    (λ x q k. search (rules, tests)) (λ x q k. search (rules, tests)))
