use Rattle.std.proofs.Common.{rules, map, ◌≡◌, ◌∙◌, ap, sym, arith, length, ◌/◌, ◌%◌, ◌≤◌}
use Rattle.std.specs.Prelude.{slice_get, Some}
use Rattle.std.specs.Option.{option_map, option_copied}
use Rattle.std.proofs.lemmas.Option.{slice_get-map}
use Rattle.std.proofs.lemmas.List.{length-map}
use Rattle.jg_blocks.proofs.Items.{found, past_all, looked_up}
use Rattle.jg_blocks.proofs.Blocks.get.Goals as goal

pub returns-in-Some : goal.returns-in-Some
returns-in-Some g c =
    let place = c.args.index / 1024 in
    let blocks = map (λ v. v.items) c.self.inside.blocks.items in
    let at : slice_get c.self.inside.blocks.items place ≡ Some c.in-Some.block.now =
    sym (looked_up c.deref.result.now place (Some c.in-Some.block) c.in-Some.ensures.lookup.0 c.in-Some.ensures.lookup.1
    ∙ ap (λ l. slice_get l place) c.deref.ensures.value) in
    let there : slice_get blocks place ≡ Some c.in-Some.block.now.items =
    slice_get-map (λ v. v.items) c.self.inside.blocks.items place ∙ ap (option_map (λ v. v.items)) at in
    let here : option_copied c.get-in-Some.result ≡ slice_get c.in-Some.block.now.items (c.args.index % 1024) =
    looked_up c.deref-in-Some.result.now (c.args.index % 1024) c.get-in-Some.result c.get-in-Some.ensures.lookup.0 c.get-in-Some.ensures.lookup.1
    ∙ ap (λ l. slice_get l (c.args.index % 1024)) c.deref-in-Some.ensures.value in
    here ∙ (sym (found blocks c.self.inside.len c.in-Some.block.now.items c.args.index c.self.invariant.filled there)
    ∙ ap (λ k. slice_get k.items c.args.index) c.self.view_is)

pub returns-in-None : goal.returns-in-None
returns-in-None g c =
    let blocks = map (λ v. v.items) c.self.inside.blocks.items in
    let many : length blocks ≡ length c.self.inside.blocks.items = length-map c.self.inside.blocks.items (λ v. v.items) in
    let past : length c.self.inside.blocks.items ≤ c.args.index / 1024 = search rules in
    sym (past_all blocks c.self.inside.len c.args.index c.self.invariant.filled (omega (arith, many, past)))
    ∙ ap (λ k. slice_get k.items c.args.index) c.self.view_is
