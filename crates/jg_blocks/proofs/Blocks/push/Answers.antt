use Rattle.std.proofs.Common.{rules, arith, map, length, ◌≡◌, ◌≤◌, ◌<◌, ◌/◌, ◌++◌, ◌∷◌, [], ◌∙◌, ap}
use Rattle.std.specs.Prelude.{vec_capacity, slice_get, Some}
use Rattle.std.specs.Option.{option_map}
use Rattle.std.proofs.lemmas.Option.{slice_get-map}
use Rattle.std.proofs.lemmas.List.{map-set, length-set}
use Rattle.jg_blocks.proofs.Items.{shown, is_short, filled_more, items_more, all_set, all_get}
use Rattle.jg_blocks.proofs.Blocks.push.Goals as goal

pub unwrap-requires : goal.unwrap-requires
unwrap-requires g c =
    let place = c.self.inside.len / 1024 in
    let blocks = map (λ v. v.items) c.self.inside.blocks.items in
    let at : slice_get c.self.inside.blocks.items place ≡ Some c.in-Some.block.now =
    shown c.self.inside.blocks.items place c.in-Some.block.now (search rules) c.in-Some.ensures.value in
    let there : slice_get blocks place ≡ Some c.in-Some.block.now.items =
    slice_get-map (λ v. v.items) c.self.inside.blocks.items place ∙ ap (option_map (λ v. v.items)) at in
    let short : length c.in-Some.block.now.items < 1024 = is_short blocks c.self.inside.len c.in-Some.block.now.items c.self.invariant.filled there in
    let wide : 1024 ≤ vec_capacity c.in-Some.block.now =
    all_get (λ b. 1024 ≤ vec_capacity b) c.self.inside.blocks.items place c.in-Some.block.now c.self.invariant.placed at in
    search rules

pub returns-clause-items : goal.returns-clause-items
returns-clause-items g c =
    let place = c.self.inside.len / 1024 in
    let blocks = map (λ v. v.items) c.self.inside.blocks.items in
    let at : slice_get c.self.inside.blocks.items place ≡ Some c.in-Some.block.now =
    shown c.self.inside.blocks.items place c.in-Some.block.now (search rules) c.in-Some.ensures.value in
    let there : slice_get blocks place ≡ Some c.in-Some.block.now.items =
    slice_get-map (λ v. v.items) c.self.inside.blocks.items place ∙ ap (option_map (λ v. v.items)) at in
    let added : c.push.new.self.items ≡ c.in-Some.block.now.items ++ c.args.item ∷ [] = search rules in
    rw (map-set, added) (items_more blocks c.self.inside.len c.in-Some.block.now.items c.args.item c.self.invariant.filled there
    ∙ ap (λ k. k.items ++ c.args.item ∷ []) c.self.view_is)

pub invariant_of-self : goal.invariant_of-self
invariant_of-self g c =
    let place = c.self.inside.len / 1024 in
    let blocks = map (λ v. v.items) c.self.inside.blocks.items in
    let at : slice_get c.self.inside.blocks.items place ≡ Some c.in-Some.block.now =
    shown c.self.inside.blocks.items place c.in-Some.block.now (search rules) c.in-Some.ensures.value in
    let there : slice_get blocks place ≡ Some c.in-Some.block.now.items =
    slice_get-map (λ v. v.items) c.self.inside.blocks.items place ∙ ap (option_map (λ v. v.items)) at in
    let added : c.push.new.self.items ≡ c.in-Some.block.now.items ++ c.args.item ∷ [] = search rules in
    let wide : 1024 ≤ vec_capacity c.in-Some.block.now =
    all_get (λ b. 1024 ≤ vec_capacity b) c.self.inside.blocks.items place c.in-Some.block.now c.self.invariant.placed at in
    let still : 1024 ≤ vec_capacity c.push.new.self = search rules in
    record {
      filled = rw (map-set, added) (filled_more blocks c.self.inside.len c.in-Some.block.now.items c.args.item c.self.invariant.filled there);
      placed = all_set (λ b. 1024 ≤ vec_capacity b) c.self.inside.blocks.items place c.push.new.self c.self.invariant.placed still;
      countable = omega (arith, length-set c.self.inside.blocks.items place c.push.new.self, c.self.invariant.countable);
    }
