use Rattle.std.proofs.Common.{rules, codes, string_bytes, ℕ, List, ◌≡◌, ◌++◌, OnOk}
use Rattle.std.proofs.lemmas.Result.{on_ok_weaker}
use Rattle.std.specs.Fmt.{decimal, signed_decimal}
use Rattle.jg_text.specs.Words.{buf_text}
use Rattle.jg_denial_text.proofs.Chains.{two}
use Rattle.jg_denial_text.proofs.breaches.push_no_item.Goals as goal

pub returns : goal.returns
returns c =
    let start : List ℕ = string_bytes c.args.out.now in
    let text1 : List ℕ = buf_text c.args.buffer ++ codes " has " in
    let text2 : List ℕ = text1 ++ decimal c.args.length in
    let to2 : string_bytes c.push_number.new.out ≡ start ++ text2
    = two start text1 (decimal c.args.length) c.in_ok-push_after_buffer.ensures c.in_ok-push_number.ensures in
    let text3 : List ℕ = text2 ++ codes " items, and none at " in
    let to3 : string_bytes c.push_str.new.self ≡ start ++ text3
    = two start text2 (codes " items, and none at ") to2 c.in_ok-push_str.ensures.bytes in
    let last : OnOk c.push_signed.result (string_bytes c.push_signed.new.out ≡ string_bytes c.push_str.new.self ++ signed_decimal c.args.index)
    = search rules in
    on_ok_weaker c.push_signed.result (two start text3 (signed_decimal c.args.index) to3) last
