use Rattle.std.proofs.Common.{◌≡◌, ◌<◌, ◌≤◌, arith}
use Rattle.std.proofs.lemmas.Bool.Decides.{nat_tests}
use Rattle.jg_table_threads.proofs.Calming.{front_stays, others_raised, front_raised}
use Rattle.jg_table_threads.proofs.rows.raise.Goals as goal

pub returns-then-place-raised-clause-front : goal.returns-then-place-raised-clause-front
returns-then-place-raised-clause-front g c =
    let before : c.in-Some.place < c.args.raised = grind (arith, nat_tests, c.if-place-raised.true) in
    front_stays c.args.tid c.args.raised c.in-Some.place c.args.seats.now c.seats-seats.ensures.once c.in-Some.ensures.found before

pub returns-clause-others : goal.returns-clause-others
returns-clause-others g c =
    let behind : c.args.raised ≤ c.in-Some.place = grind (arith, nat_tests, c.if-place-raised.false) in
    others_raised c.args.seats.now c.swap.new.self c.args.tid c.in-Some.place c.args.raised c.requires.calm c.in-Some.ensures.found c.swap.ensures.found
    c.swap.ensures.same behind c.swap.ensures.moved

pub returns-clause-front : goal.returns-clause-front
returns-clause-front g c =
    let behind : c.args.raised ≤ c.in-Some.place = grind (arith, nat_tests, c.if-place-raised.false) in
    front_raised c.args.seats.now c.swap.new.self c.args.tid c.in-Some.place c.args.raised c.requires.calm
    c.in-Some.ensures.found c.swap.ensures.found c.swap.ensures.same c.swap.ensures.once behind c.swap.ensures.moved
