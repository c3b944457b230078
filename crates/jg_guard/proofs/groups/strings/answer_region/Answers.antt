use Rattle.std.proofs.Common.{◌≡◌, ◌∙◌, sym, ap, true, false, length, rules}
use Rattle.jg_rules.specs.Names.{the_object, units_of}
use Rattle.jg_rules.specs.Answers.{is_outside}
use Rattle.jg_guard.proofs.groups.strings.answer_region.Goals as goal

pub returns-then-is_outside : goal.returns-then-is_outside
returns-then-is_outside g c = λ p stands.
    let units : c.units_of-units.result.now ≡ units_of c.args.view.now.setup.now p (the_object p c.args.tid.0 c.args.string) =
    c.units_of-units.ensures.told p stands ∙ ap (units_of c.args.view.now.setup.now p) (c.the_object-object.ensures p stands) in
    let told : is_outside c.args.start c.args.count (length c.units_of-units.result.now) ≡ true = search rules in
    rw (sym units, told) (c.throwing.ensures p stands)

pub returns : goal.returns
returns g c = λ p stands.
    let units : c.units_of-units.result.now ≡ units_of c.args.view.now.setup.now p (the_object p c.args.tid.0 c.args.string) =
    c.units_of-units.ensures.told p stands ∙ ap (units_of c.args.view.now.setup.now p) (c.the_object-object.ensures p stands) in
    let told : is_outside c.args.start c.args.count (length c.units_of-units.result.now) ≡ false = search rules in
    rw (sym units, told) (search rules)
