use Rattle.std.proofs.Common.{◌≡◌, ◌<◌, ◌+◌, ◌-◌, arith}
use Rattle.std.proofs.lemmas.Bool.Decides.{nat_tests}
use Rattle.jg_table_threads.proofs.Calming.{others_lowered}
use Rattle.jg_table_threads.proofs.rows.lower.Goals as goal

pub returns-clause-others : goal.returns-clause-others
returns-clause-others g c =
    let before : c.in-Some.place < c.args.raised = grind (arith, nat_tests, c.if-place-raised.false) in
    let next : (c.args.raised - 1) + 1 ≡ c.args.raised = omega (arith, before) in
    others_lowered c.args.seats.now c.swap.new.self c.args.tid c.in-Some.place c.args.raised c.requires.calm
    c.in-Some.ensures.found c.swap.ensures.found c.swap.ensures.same (c.args.raised - 1) next before
    c.swap.ensures.moved
