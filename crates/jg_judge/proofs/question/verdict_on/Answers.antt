use Rattle.std.proofs.Common.{rules, ◌≡◌, ◌∙◌, None, sym, ap}
use Rattle.jg_rows.specs.Columns.{columns}
use Rattle.jg_judge.specs.Asked.{paired}
use Rattle.jg_judge.specs.Faults.{places_from}
use Rattle.jg_judge.specs.Question.{beside_of, by_rule}
use Rattle.jg_judge.proofs.Judged.{of_caller, of_others}
use Rattle.jg_judge.proofs.question.verdict_on.Goals as goal

pub returns-in-Some : goal.returns-in-Some
returns-in-Some g c = λ p stands.
    c.by_its_caller.ensures ∙ of_caller c.args.bounds c.args.view.now.setup.now p c.args.tid.0 c.args.env (columns c.args.row.now) c.args.arguments.now
    c.in-Some.rule
    (sym c.in-Some.is ∙ c.first_of_caller.ensures p stands)

pub returns-in-Some-first_broken : goal.returns-in-Some-first_broken
returns-in-Some-first_broken g c = λ p stands.
    let none : c.first_of_caller.result ≡ None = search rules in
    let found = c.in-Some-look_over.ensures.found p stands in
    let places = places_from c.args.view.now.setup.now p c.args.tid.0 (beside_of c.args.bounds p c.args.arguments.now) 0
    (paired (columns c.args.row.now).takes c.args.arguments.now) in
    ap (by_rule c.in-Some-look_over.found.named) (sym c.in-Some-first_broken.is)
    ∙ of_others c.args.bounds c.args.view.now.setup.now p c.args.tid.0 c.args.env (columns c.args.row.now) c.args.arguments.now c.in-Some-look_over.found.named
    c.first_broken.result
    (sym (c.first_of_caller.ensures p stands) ∙ none) (sym c.in-Some-look_over.ensures.suits) found.named (c.first_broken.ensures p places stands found.broken)

pub returns-in-None : goal.returns-in-None
returns-in-None g c = λ p stands.
    let none : c.first_of_caller.result ≡ None = search rules in
    let found = c.in-Some-look_over.ensures.found p stands in
    let places = places_from c.args.view.now.setup.now p c.args.tid.0 (beside_of c.args.bounds p c.args.arguments.now) 0
    (paired (columns c.args.row.now).takes c.args.arguments.now) in
    ap (by_rule c.in-Some-look_over.found.named) (sym c.in-None.is)
    ∙ of_others c.args.bounds c.args.view.now.setup.now p c.args.tid.0 c.args.env (columns c.args.row.now) c.args.arguments.now c.in-Some-look_over.found.named
    c.first_broken.result
    (sym (c.first_of_caller.ensures p stands) ∙ none) (sym c.in-Some-look_over.ensures.suits) found.named (c.first_broken.ensures p places stands found.broken)
