use Rattle.std.proofs.Common.{rules, string_bytes, ℕ, List, ◌≡◌, ◌++◌, OnOk}
use Rattle.std.proofs.lemmas.Result.{on_ok_weaker}
use Rattle.jg_denial_text.specs.Breaches as breaches
use Rattle.jg_denial_text.proofs.Chains.{two}
use Rattle.jg_denial_text.proofs.breaches.push_out_of_range.Goals as goal

pub returns : goal.returns
returns c =
    let start : List ℕ = string_bytes c.args.out.now in
    let one1 : string_bytes c.push_str.new.self ≡ start ++ breaches.argument_text c.args.argument
    = search rules in
    let last : OnOk c.push_range.result
    (string_bytes c.push_range.new.out ≡ string_bytes c.push_str.new.self ++ breaches.range_text c.args.value c.args.least c.args.most)
    = search rules in
    on_ok_weaker c.push_range.result (two start (breaches.argument_text c.args.argument) (breaches.range_text c.args.value c.args.least c.args.most) one1) last
