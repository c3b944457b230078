use Rattle.std.proofs.Common.{rules, arith, ◌≡◌, [], refl}
use Rattle.jg_blocks.proofs.Blocks.new.Goals as goal

pub invariant_of-result : goal.invariant_of-result
invariant_of-result g c =
    let none : c.new.result.items ≡ [] = search rules in
    rw none (record { filled = refl; placed = tt; countable = omega arith })
