use Rattle.std.proofs.Common.{◌≡◌, ◌∷◌, ◌++◌, arith}
use Rattle.std.specs.Option.{option_copied}
use Rattle.std.proofs.lemmas.Grind.{common_steps}
use Rattle.jg_text.specs.Words.{dotted_text}
use Rattle.jg_text.proofs.Firsts.{first_env}
use Rattle.jg_text.proofs.first.short_env.Goals as goal

pub returns-then-tid-lt65536 : goal.returns-then-tid-lt65536
returns-then-tid-lt65536 c =
    let tid = c.in_ok-tid.tid in
    let session = c.in_ok-tid.session in
    let spelt : c.args.text.now ≡ 69 ∷ (dotted_text tid session ++ c.in_ok-tid.behind.now) = grind (arith, common_steps, c.in_ok-tid.ensures.spelt) in
    first_env c.args.text.now c.in_ok-tid.behind.now (record { tid = record { 0 = tid }; session = session })
    (option_copied c.in_ok-rest.rest) (omega arith, c.in_ok-tid.ensures.fits.1) spelt c.in_ok-rest.ensures
