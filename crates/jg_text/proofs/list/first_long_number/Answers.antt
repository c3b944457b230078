use Rattle.std.proofs.Common.{FitsSigned, w64, [], ap, ◌∙◌, ◌==◌}
use Rattle.std.proofs.lemmas.Int.{to_z-of_z}
use Rattle.std.proofs.lemmas.List.Splits.{slice_split_none}
use Rattle.jg_text.proofs.Cuts.{split_first}
use Rattle.jg_text.proofs.Lists.{pieces, one_number, number_and_comma, no_number}
use Rattle.jg_text.proofs.list.first_long_number.Goals as goal

pub returns-in-Some-signed_number-clause-some : goal.returns-in-Some-signed_number-clause-some
returns-in-Some-signed_number-clause-some c =
    let cut = c.in-Some.ensures.some in
    let number = c.in-Some-signed_number in
    let fits : FitsSigned w64 number.n = number.ensures.fits in
    rw to_z-of_z (number_and_comma c.args.text.now c.in-Some.back.now number.n fits (rw (← number.ensures.some) cut.0))

pub returns-in-None-signed_number-clause-none : goal.returns-in-None-signed_number-clause-none
returns-in-None-signed_number-clause-none c =
    let cut = c.in-Some.ensures.some in
    no_number c.args.text.now c.in-Some.front.now (pieces c.in-Some.back.now) (ap pieces cut.0 ∙ split_first 44 c.in-Some.front.now c.in-Some.back.now cut.1)
    c.in-None-signed_number.ensures.none

pub returns-in-Some-signed_number-2-clause-some : goal.returns-in-Some-signed_number-2-clause-some
returns-in-Some-signed_number-2-clause-some c =
    let number = c.in-Some-signed_number-2 in
    let fits : FitsSigned w64 number.n = number.ensures.fits in
    rw to_z-of_z (one_number c.args.text.now number.n fits number.ensures.some)

pub returns-in-None-signed_number-2-clause-none : goal.returns-in-None-signed_number-2-clause-none
returns-in-None-signed_number-2-clause-none c =
    no_number c.args.text.now c.args.text.now [] (slice_split_none (λ b. b == 44) c.args.text.now c.in-None.ensures.none) c.in-None-signed_number-2.ensures.none
