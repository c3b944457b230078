use Rattle.std.proofs.Common.{arith, map, length, ap}
use Rattle.jg_blocks.proofs.Items.{length-items}
use Rattle.jg_blocks.proofs.Blocks.len.Goals as goal

pub returns : goal.returns
returns g c =
    let long = length-items (map (λ v. v.items) c.self.inside.blocks.items) c.self.inside.len c.self.invariant.filled in
    let seen = ap (λ k. length k.items) c.self.view_is in
    omega (arith, long, seen)
