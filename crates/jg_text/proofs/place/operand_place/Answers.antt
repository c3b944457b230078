use Rattle.jg_text.proofs.Bad.{bad_in_line}
use Rattle.std.specs.Option.{option_copied}
use Rattle.jg_text.specs.Pieces.{rest_fields}
use Rattle.jg_text.proofs.place.operand_place.Goals as goal

pub returns : goal.returns
returns c = λ f found count fault. (
  c.first_bad.result,
  bad_in_line c.args.line.now f c.in-Some.fun c.operands_of.result.now (rest_fields (option_copied c.in-Some.rest)) c.first_bad.result c.in-Some.ensures.name
      found
      c.in-Some.ensures.rest c.operands_of.ensures c.first_bad.ensures.bad count fault,
  c.field_place-2.ensures,
)
