use Rattle.std.proofs.Common.{◌∙◌, ap}
use Rattle.jg_text.specs.Places.{field_place}
use Rattle.jg_text.proofs.Columns.{count_index}
use Rattle.jg_text.proofs.place.count_place.Goals as goal

pub returns : goal.returns
returns c = λ f found.
    let index = count_index c.args.line.now f c.in-Some.fun c.count_of.result c.operands_of.result.now c.in-Some.ensures.some found c.count_of.ensures.counted
    c.operands_of.ensures in
    c.field_place-2.ensures ∙ ap (field_place c.args.line.now) (c.min.ensures ∙ index)
