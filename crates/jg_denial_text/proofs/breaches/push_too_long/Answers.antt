use Rattle.std.proofs.Common.{rules, codes, string_bytes, ℕ, List, ◌≡◌, ◌++◌}
use Rattle.std.specs.Fmt.{signed_decimal}
use Rattle.jg_denial_text.proofs.Chains.{two, then_words}
use Rattle.jg_denial_text.proofs.breaches.push_too_long.Goals as goal

pub returns : goal.returns
returns c =
    let start : List ℕ = string_bytes c.args.out.now in
    let text1 : List ℕ = codes "a region of " in
    let one2 : string_bytes c.push_signed.new.out ≡ string_bytes c.push_str.new.self ++ signed_decimal c.args.length
    = search rules in
    let text2 : List ℕ = text1 ++ signed_decimal c.args.length in
    let to2 : string_bytes c.push_signed.new.out ≡ start ++ text2
    = two start text1 (signed_decimal c.args.length) c.in_ok-push_str.ensures.bytes one2 in
    then_words c.push_str-2.result start text2 (codes " items is longer than 1000") to2 c.push_str-2.ensures.bytes
