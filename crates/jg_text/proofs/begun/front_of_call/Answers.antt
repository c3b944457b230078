use Rattle.std.proofs.Common.{◌≡◌, ◌∷◌, ◌++◌, ℕ, List, length, Some, true, false, refl, sym, ◌∙◌, ap, subst, ◌<◌, ◌+◌}
use Rattle.jg_words.specs.Call.{fun_of}
use Rattle.jg_text.specs.Operands.{operand_kinds}
use Rattle.jg_text.proofs.Fronts.{spaces, named_function, front_is, enough, equals}
use Rattle.jg_text.proofs.begun.front_of_call.Goals as goal

pub returns-in_default-clause-all : goal.returns-in_default-clause-all
returns-in_default-clause-all c = λ t e call more ht he hc begins.
    let found = c.fields_of_call.ensures.all (fun_of call) (named_function c.args.text.now t e call more ht he hc begins) in
    absurd (c.in_default.not-Some _ found)

pub returns-in_default-cut_fields-clause-all : goal.returns-in_default-cut_fields-clause-all
returns-in_default-cut_fields-clause-all c = λ t e call more ht he hc begins.
    let found = c.fields_of_call.ensures.all (fun_of call) (named_function c.args.text.now t e call more ht he hc begins) in
    let both : Some c.in-Some.count ≡ Some (length (operand_kinds (fun_of call)) + 3) = sym c.in-Some.is ∙ found in
    let same : c.in-Some.count ≡ length (operand_kinds (fun_of call)) + 3 = cc in
    absurd (enough c.args.text.now t e call more ht he hc (subst (λ (n : ℕ). spaces c.args.text.now < n) same c.in_default-cut_fields.ensures.none) begins)

pub returns-then-begins_outcome-clause-some : goal.returns-then-begins_outcome-clause-some
returns-then-begins_outcome-clause-some c =
    let more = c.if-begins_outcome.ensures.0 refl in (
      more.0,
      c.in-Some-cut_fields.ensures.some.0 ∙ ap (λ (rest : List ℕ). c.in-Some-cut_fields.front.now ++ (32 ∷ rest)) more.1
          ∙ ap (λ (rest : List ℕ). c.in-Some-cut_fields.front.now ++ rest) (sym (equals more.0)),
    )

pub returns-then-begins_outcome-clause-all : goal.returns-then-begins_outcome-clause-all
returns-then-begins_outcome-clause-all c = λ t e call more ht he hc begins.
    let found = c.fields_of_call.ensures.all (fun_of call) (named_function c.args.text.now t e call more ht he hc begins) in
    let both : Some c.in-Some.count ≡ Some (length (operand_kinds (fun_of call)) + 3) = sym c.in-Some.is ∙ found in
    let same : c.in-Some.count ≡ length (operand_kinds (fun_of call)) + 3 = cc in
    let cut = c.in-Some-cut_fields.ensures.some in
    ap Some (front_is c.args.text.now c.in-Some-cut_fields.front.now c.in-Some-cut_fields.back.now t e call more ht he hc cut.0 (cut.1 ∙ same) begins).0

pub returns-else-begins_outcome-clause-all : goal.returns-else-begins_outcome-clause-all
returns-else-begins_outcome-clause-all c = λ t e call more ht he hc begins.
    let found = c.fields_of_call.ensures.all (fun_of call) (named_function c.args.text.now t e call more ht he hc begins) in
    let both : Some c.in-Some.count ≡ Some (length (operand_kinds (fun_of call)) + 3) = sym c.in-Some.is ∙ found in
    let same : c.in-Some.count ≡ length (operand_kinds (fun_of call)) + 3 = cc in
    let cut = c.in-Some-cut_fields.ensures.some in
    let back = front_is c.args.text.now c.in-Some-cut_fields.front.now c.in-Some-cut_fields.back.now t e call more ht he hc cut.0 (cut.1 ∙ same) begins in
    let clash : false ≡ true = c.if-begins_outcome.ensures.1 (more, back.1) in absurd (cc)
