use Rattle.std.proofs.Common.{rules, arith, map, length, ◌≡◌, ◌≤◌, ◌++◌, ◌∷◌, [], ◌∙◌, ap}
use Rattle.std.specs.Prelude.{vec_capacity}
use Rattle.std.proofs.lemmas.List.{map-append, length-append, length-map}
use Rattle.jg_blocks.proofs.Items.{filled_grown, items_grown, all_grown, filled_fits}
use Rattle.jg_blocks.proofs.Blocks.grow.Goals as goal

pub returns-clause-items : goal.returns-clause-items
returns-clause-items g c =
    let blocks = map (λ v. v.items) c.self.inside.blocks.items in
    let none : c.in_ok-block.block.items ≡ [] = search rules in
    let more : c.push.new.self.items ≡ c.self.inside.blocks.items ++ c.in_ok-block.block ∷ [] = search rules in
    rw (more, map-append, none) (items_grown blocks ∙ ap (λ k. k.items) c.self.view_is)

pub returns-clause-ok : goal.returns-clause-ok
returns-clause-ok g c =
    let blocks = map (λ v. v.items) c.self.inside.blocks.items in
    let many : length blocks ≡ length c.self.inside.blocks.items = length-map c.self.inside.blocks.items (λ v. v.items) in
    let more : c.push.new.self.items ≡ c.self.inside.blocks.items ++ c.in_ok-block.block ∷ [] = search rules in
    let one = length-append c.self.inside.blocks.items (c.in_ok-block.block ∷ []) in
    let fits = filled_fits blocks c.self.inside.len c.self.invariant.filled in
    let room = ap (λ k. k.spare) c.self.view_is in
    rw more (omega (arith, many, one, fits, room))

pub invariant_of-self-2 : goal.invariant_of-self-2
invariant_of-self-2 g c =
    let blocks = map (λ v. v.items) c.self.inside.blocks.items in
    let none : c.in_ok-block.block.items ≡ [] = search rules in
    let wide : 1024 ≤ vec_capacity c.in_ok-block.block = search rules in
    let more : c.push.new.self.items ≡ c.self.inside.blocks.items ++ c.in_ok-block.block ∷ [] = search rules in
    let one = length-append c.self.inside.blocks.items (c.in_ok-block.block ∷ []) in
    let few = c.if-len-ge-MOST_BLOCKS.false in
    rw more (record {
      filled = rw (map-append, none) (filled_grown blocks c.self.inside.len c.self.invariant.filled);
      placed = all_grown (λ b. 1024 ≤ vec_capacity b) c.self.inside.blocks.items c.in_ok-block.block c.self.invariant.placed wide;
      countable = omega (arith, one, few, c.len.ensures);
    })
