use Rattle.std.proofs.Common.{rules, codes, string_bytes, ℕ, List, ◌≡◌, ◌++◌}
use Rattle.jg_text.specs.Words.{buf_text}
use Rattle.jg_denial_text.specs.Words.{lender_name}
use Rattle.jg_denial_text.specs.Breaches as breaches
use Rattle.jg_denial_text.proofs.Chains.{two, then_words}
use Rattle.jg_denial_text.proofs.breaches.push_lent_otherwise.Goals as goal

pub returns : goal.returns
returns c =
    let start : List ℕ = string_bytes c.args.out.now in
    let text1 : List ℕ = buf_text c.args.buffer ++ codes " was lent by " in
    let one2 : string_bytes c.push_str.new.self ≡ string_bytes c.push_after_buffer.new.out ++ lender_name c.args.family
    = search rules in
    let text2 : List ℕ = text1 ++ lender_name c.args.family in
    let to2 : string_bytes c.push_str.new.self ≡ start ++ text2
    = two start text1 (lender_name c.args.family) c.in_ok-push_after_buffer.ensures one2 in
    let text3 : List ℕ = text2 ++ codes ", which " in
    let to3 : string_bytes c.push_str-2.new.self ≡ start ++ text3
    = two start text2 (codes ", which ") to2 c.in_ok-push_str-2.ensures.bytes in
    let one4 : string_bytes c.push_str-3.new.self ≡ string_bytes c.push_str-2.new.self ++ breaches.fun_text c.args.call.now
    = search rules in
    let text4 : List ℕ = text3 ++ breaches.fun_text c.args.call.now in
    let to4 : string_bytes c.push_str-3.new.self ≡ start ++ text4
    = two start text3 (breaches.fun_text c.args.call.now) to3 one4 in
    then_words c.push_str-4.result start text4 (codes " does not end") to4 c.push_str-4.ensures.bytes
