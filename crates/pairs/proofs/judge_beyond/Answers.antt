use mathlib.Core.Bool.{not}
use borrow.Author.Tests.{tests}
use Rattle.std.proofs.Common.{rules}
use Rattle.std.specs.declared.option.Option.TheVariants.{Some, None}
use Rattle.laws.proofs.Found.{first_is_found_from}
use Rattle.pairs.proofs.Parts.{empty, nothing, inside_passes, beyond_same, good_there, bad_beyond, good_beyond}
use Rattle.pairs.proofs.judge_beyond.Goals as goal

pub returns-then-nothing_beyond : goal.returns-then-nothing_beyond
returns-then-nothing_beyond c = good_there _ _ _ (c.nothing_beyond.ensures c.if-nothing_beyond.true)

pub returns-in-Some : goal.returns-in-Some
returns-in-Some c =
    bad_beyond _ _ _ _
    (first_is_found_from (λ i. not (empty c.args.n c.args.p.now.b c.args.p.now.o i)) _ _ _ (Some c.in-Some.j) c.in-Some.ensures.ran (λ i. not (nothing c.args.p.now.b c.args.p.now.o i))
    (λ x q k. search (rules, tests)) (λ x q k. search (rules, tests)) (beyond_same _ c.args.p.now.b c.args.p.now.o) (inside_passes _ c.args.p.now.b c.args.p.now.o))

pub returns-in-None : goal.returns-in-None
returns-in-None c =
    good_beyond _ _ _
    (first_is_found_from (λ i. not (empty c.args.n c.args.p.now.b c.args.p.now.o i)) _ _ _ None c.in-None.ensures.ran (λ i. not (nothing c.args.p.now.b c.args.p.now.o i))
    (λ x q k. search (rules, tests)) (λ x q k. search (rules, tests)) (beyond_same _ c.args.p.now.b c.args.p.now.o) (inside_passes _ c.args.p.now.b c.args.p.now.o))
