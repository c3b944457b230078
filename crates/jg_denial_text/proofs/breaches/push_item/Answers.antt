use Rattle.std.proofs.Common.{rules, codes, string_bytes, ℕ, List, ◌≡◌, ◌++◌, OnOk}
use Rattle.std.proofs.lemmas.Result.{on_ok_weaker}
use Rattle.std.specs.Fmt.{decimal}
use Rattle.jg_denial_text.specs.Breaches as breaches
use Rattle.jg_denial_text.proofs.Chains.{two}
use Rattle.jg_denial_text.proofs.breaches.push_item.Goals as goal

pub returns : goal.returns
returns c =
    let start : List ℕ = string_bytes c.args.out.now in
    let text1 : List ℕ = codes "item " in
    let text2 : List ℕ = text1 ++ decimal c.args.place in
    let to2 : string_bytes c.push_number.new.out ≡ start ++ text2
    = two start text1 (decimal c.args.place) c.in_ok-push_str.ensures.bytes c.in_ok-push_number.ensures in
    let text3 : List ℕ = text2 ++ codes ", " in
    let to3 : string_bytes c.push_str-2.new.self ≡ start ++ text3
    = two start text2 (codes ", ") to2 c.in_ok-push_str-2.ensures.bytes in
    let last : OnOk c.push_range.result
    (string_bytes c.push_range.new.out ≡ string_bytes c.push_str-2.new.self ++ breaches.range_text c.args.value c.args.least c.args.most)
    = search rules in
    on_ok_weaker c.push_range.result (two start text3 (breaches.range_text c.args.value c.args.least c.args.most) to3) last
