use Rattle.std.proofs.Common.{arith, map, length, ◌≡◌}
use Rattle.std.proofs.lemmas.List.{length-map}
use Rattle.jg_blocks.proofs.Items.{filled_fits}
use Rattle.jg_blocks.proofs.Blocks.spare.Goals as goal

pub overflow_sub-result : goal.overflow_sub-result
overflow_sub-result g c =
    let blocks = map (λ v. v.items) c.self.inside.blocks.items in
    let many : length blocks ≡ length c.self.inside.blocks.items = length-map c.self.inside.blocks.items (λ v. v.items) in
    let fits = filled_fits blocks c.self.inside.len c.self.invariant.filled in
    omega (arith, many, fits, c.len.ensures)
