use Rattle.std.proofs.Common.{rules, codes, string_bytes, ℕ, List, ◌≡◌, ◌++◌, OnOk}
use Rattle.std.proofs.lemmas.Result.{on_ok_weaker}
use Rattle.std.specs.Fmt.{signed_decimal}
use Rattle.jg_denial_text.proofs.Chains.{two}
use Rattle.jg_denial_text.proofs.breaches.push_range.Goals as goal

pub returns : goal.returns
returns c =
    let start : List ℕ = string_bytes c.args.out.now in
    let one1 : string_bytes c.push_signed.new.out ≡ start ++ signed_decimal c.args.value
    = search rules in
    let text1 : List ℕ = signed_decimal c.args.value in
    let text2 : List ℕ = text1 ++ codes " is not from " in
    let to2 : string_bytes c.push_str.new.self ≡ start ++ text2
    = two start text1 (codes " is not from ") one1 c.in_ok-push_str.ensures.bytes in
    let one3 : string_bytes c.push_signed-2.new.out ≡ string_bytes c.push_str.new.self ++ signed_decimal c.args.least
    = search rules in
    let text3 : List ℕ = text2 ++ signed_decimal c.args.least in
    let to3 : string_bytes c.push_signed-2.new.out ≡ start ++ text3
    = two start text2 (signed_decimal c.args.least) to2 one3 in
    let text4 : List ℕ = text3 ++ codes " to " in
    let to4 : string_bytes c.push_str-2.new.self ≡ start ++ text4
    = two start text3 (codes " to ") to3 c.in_ok-push_str-2.ensures.bytes in
    let last : OnOk c.push_signed-3.result (string_bytes c.push_signed-3.new.out ≡ string_bytes c.push_str-2.new.self ++ signed_decimal c.args.most)
    = search rules in
    on_ok_weaker c.push_signed-3.result (two start text4 (signed_decimal c.args.most) to4) last
