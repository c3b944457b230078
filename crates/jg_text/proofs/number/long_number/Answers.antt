use Rattle.std.proofs.Common.{refl, sym, ◌∙◌, subst}
use Rattle.std.proofs.lemmas.Fmt.{parse-decimal}
use Rattle.jg_text.specs.Pieces.{IsPlain}
use Rattle.jg_text.proofs.Numbers.{spelt_by_parse, plain_along, utf8_along}
use Rattle.jg_text.proofs.number.long_number.Goals as goal

pub returns-then-not-is_plain-clause-none : goal.returns-then-not-is_plain-clause-none
returns-then-not-is_plain-clause-none c = λ n small e. let broken = c.if-not-is_plain.ensures.1 (plain_along c.args.text.now n small e) in cc

pub returns-in_default-clause-none : goal.returns-in_default-clause-none
returns-in_default-clause-none c = λ n small e. c.in_default.ensures.cases.0 (utf8_along c.args.text.now n small e)

pub returns-in-Ok-parse-clause-some : goal.returns-in-Ok-parse-clause-some
returns-in-Ok-parse-clause-some c =
    let same = c.in-Ok.ensures.cases.0 in
    sym same ∙ spelt_by_parse c.in-Ok.text.now c.parse.result c.parse.ensures.value.0 (subst IsPlain (sym same) (c.if-not-is_plain.ensures.0 refl))
    c.in-Ok-parse.n c.in-Ok-parse.is

pub returns-in-Err-clause-none : goal.returns-in-Err-clause-none
returns-in-Err-clause-none c = λ n small e.
    let read = parse-decimal 64 n c.in-Ok.text.now c.parse.result small small (c.in-Ok.ensures.cases.0 ∙ e) c.parse.ensures.value.0 in cc
