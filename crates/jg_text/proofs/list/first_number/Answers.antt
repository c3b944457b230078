use Rattle.std.proofs.Common.{◌≡◌, FitsSigned, w64, arith}
use Rattle.std.specs.Fmt.{signed_decimal}
use Rattle.std.proofs.lemmas.Grind.{common_steps}
use Rattle.std.proofs.lemmas.Int.{to_z-of_z}
use Rattle.jg_text.proofs.Lists.{one_number, number_and_comma}
use Rattle.jg_text.proofs.list.first_number.Goals as goal

pub returns-in-empty-clause-some : goal.returns-in-empty-clause-some
returns-in-empty-clause-some c =
    let fits : FitsSigned w64 c.in-Some.n = c.in-Some.ensures.fits in
    let spelt : c.args.text.now ≡ signed_decimal c.in-Some.n = grind (arith, common_steps, c.in-Some.ensures.spelt) in
    rw to_z-of_z (one_number c.args.text.now c.in-Some.n fits spelt)

pub returns-in-44-clause-some : goal.returns-in-44-clause-some
returns-in-44-clause-some c =
    let fits : FitsSigned w64 c.in-Some.n = c.in-Some.ensures.fits in
    rw to_z-of_z (number_and_comma c.args.text.now _ c.in-Some.n fits (grind (arith, common_steps, c.in-Some.ensures.spelt)))
