use Rattle.std.proofs.Common.{◌≡◌, ◌∷◌, ◌++◌, arith}
use Rattle.std.specs.Fmt.{decimal}
use Rattle.std.specs.Option.{option_copied}
use Rattle.std.proofs.lemmas.Grind.{common_steps}
use Rattle.jg_text.proofs.Firsts.{first_tid}
use Rattle.jg_text.proofs.first.short_tid.Goals as goal

pub returns-then-n-lt65536 : goal.returns-then-n-lt65536
returns-then-n-lt65536 c =
    let n = c.in_ok-n.n in
    let spelt : c.args.line.now ≡ 84 ∷ (decimal n ++ c.in_ok-n.behind.now) = grind (arith, common_steps, c.in_ok-n.ensures.spelt) in
    first_tid c.args.line.now c.in_ok-n.behind.now (record { 0 = n }) (option_copied c.in_ok-rest.rest) (omega arith) spelt c.in_ok-rest.ensures
