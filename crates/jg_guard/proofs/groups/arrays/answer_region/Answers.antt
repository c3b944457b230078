use Rattle.std.proofs.Common.{ℕ, ◌≡◌, ◌∙◌, sym, ap, true, false, length, rules}
use Rattle.jg_rules.specs.Names.{the_object, length_of, items_of}
use Rattle.jg_rules.specs.Answers.{is_outside}
use Rattle.jg_guard.proofs.Arrays.{get_region_due, is_primitive}
use Rattle.jg_guard.proofs.groups.arrays.answer_region.Goals as goal

pub items_of-items-requires-clause-made : goal.items_of-items-requires-clause-made
items_of-items-requires-clause-made g c =
    rw (c.the_object.ensures c.requires.events c.requires.stand) (get_region_due _ _ _ c.args.element c.args.array c.args.start c.args.count c.requires).made

pub items_of-items-requires-clause-array : goal.items_of-items-requires-clause-array
items_of-items-requires-clause-array g c =
    let class = (get_region_due _ _ _ c.args.element c.args.array c.args.start c.args.count c.requires).class in
    rw (c.the_object.ensures c.requires.events c.requires.stand, class) (is_primitive c.args.element)

pub returns-then-is_outside : goal.returns-then-is_outside
returns-then-is_outside g c = λ p stands.
    let whole : ℕ = length_of c.args.view.now.setup.now p (the_object p c.args.tid.0 c.args.array) in
    let long : length c.items_of-items.result.now ≡ whole =
    c.items_of-items.ensures.len p stands ∙ ap (length_of c.args.view.now.setup.now p) (c.the_object.ensures p stands) in
    let told : is_outside c.args.start c.args.count (length c.items_of-items.result.now) ≡ true = search rules in
    let outside : is_outside c.args.start c.args.count whole ≡ true = ap (is_outside c.args.start c.args.count) (sym long) ∙ told in
    rw outside (c.throwing.ensures p stands)

pub returns : goal.returns
returns g c = λ p stands.
    let whole : ℕ = length_of c.args.view.now.setup.now p (the_object p c.args.tid.0 c.args.array) in
    let object = c.the_object.ensures p stands in
    let long : length c.items_of-items.result.now ≡ whole = c.items_of-items.ensures.len p stands ∙ ap (length_of c.args.view.now.setup.now p) object in
    let items : c.items_of-items.result.now ≡ items_of c.args.view.now.setup.now p (the_object p c.args.tid.0 c.args.array) =
    c.items_of-items.ensures.told p stands ∙ ap (items_of c.args.view.now.setup.now p) object in
    let told : is_outside c.args.start c.args.count (length c.items_of-items.result.now) ≡ false = search rules in
    let outside : is_outside c.args.start c.args.count whole ≡ false = ap (is_outside c.args.start c.args.count) (sym long) ∙ told in
    rw (outside, sym items) (search rules)
