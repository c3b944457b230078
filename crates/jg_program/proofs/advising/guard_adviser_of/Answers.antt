use Rattle.std.proofs.Common.{rules, ◌≡◌, Some}
use Rattle.jg_program.specs.Advising.{advice_asked}
use Rattle.jg_program.proofs.advising.guard_adviser_of.Goals as goal

pub returns-in_ok-new-in-Some-clause-stands : goal.returns-in_ok-new-in-Some-clause-stands
returns-in_ok-new-in-Some-clause-stands c =
    let x = c.in_ok-new-in-Some.field-0.log in
    let asked : advice_asked c.args.reporting ≡ Some (x.adviser.most, x.noting.all) = search rules in
    λ s. (c.in_ok-new-in-Some.ensures.logged s, asked)
