use Rattle.std.proofs.Common.{◌∙◌, ap, Some, length, ◌+◌}
use Rattle.jg_words.specs.declared.fun.Fun.{Fun}
use Rattle.std.specs.Option.{option_copied}
use Rattle.jg_text.specs.Faults.{fields}
use Rattle.jg_text.specs.Operands.{operand_kinds}
use Rattle.jg_text.specs.Pieces.{rest_fields}
use Rattle.jg_text.proofs.Reading.{cut_rest}
use Rattle.jg_text.proofs.Fronts.{third_names}
use Rattle.jg_text.proofs.begun.fields_of_call.Goals as goal

pub returns-clause-all : goal.returns-clause-all
returns-clause-all c = λ f found.
    let first = rw c.in_ok-rest.was at c.cut.ensures in
    let second = rw c.in_ok-rest-2.was at c.cut-2.ensures in
    let third = cut_rest (fields c.in_ok-rest-2.field-0.now) c.cut-3.result.0.now c.cut-3.result.1 c.cut-3.ensures in
    let same = third_names c.args.text.now c.in_ok-rest.field-0.now c.in_ok-rest-2.field-0.now c.cut.result.0.now c.cut-2.result.0.now c.cut-3.result.0.now
    (rest_fields (option_copied c.cut-3.result.1)) f c.in_ok-fun.fun first second third c.in_ok-fun.ensures.some found in
    ap (λ n. Some (n + 3)) c.arity.ensures ∙ ap (λ (g : Fun). Some (length (operand_kinds g) + 3)) same
