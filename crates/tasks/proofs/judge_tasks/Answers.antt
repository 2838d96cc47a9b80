use mathlib.Core.Path.{refl}
use mathlib.Core.Bool.{not}
use borrow.Author.Tests.{tests}
use Rattle.std.proofs.Common.{rules}
use Rattle.std.specs.declared.option.Option.TheVariants.{Some, None}
use Rattle.laws.proofs.Found.{first_is_found}
use Rattle.tasks.proofs.Judged.{task, too_many_tasks, bad_tasks_lem, good_tasks}
use Rattle.tasks.proofs.judge_tasks.Goals as goal

pub returns-then-k-gt64 : goal.returns-then-k-gt64
returns-then-k-gt64 c = too_many_tasks _ _ c.if-k-gt64.true

pub returns-in-Some : goal.returns-in-Some
returns-in-Some c =
    bad_tasks_lem _ _ c.if-k-gt64.false _
    (first_is_found (λ i. not (task c.args.n c.args.k.now i)) _ _ _ (Some c.in-Some.j) c.in-Some.ensures.ran refl (λ x q k. search (rules, tests)) (λ x q k. search (rules, tests)))

pub returns-in-None : goal.returns-in-None
returns-in-None c =
    good_tasks _ _ c.if-k-gt64.false
    (first_is_found (λ i. not (task c.args.n c.args.k.now i)) _ _ _ None c.in-None.ensures.ran refl (λ x q k. search (rules, tests)) (λ x q k. search (rules, tests)))
