use Rattle.std.proofs.Common.{rules, codes, string_bytes, ℕ, List, ◌≡◌, ◌++◌}
use Rattle.std.proofs.lemmas.Result.{on_ok_weaker}
use Rattle.jg_text.specs.Words.{field_text}
use Rattle.jg_policy.specs.Classes.{field_type}
use Rattle.jg_denial_text.specs.Words.{quoted_if, wanted_text}
use Rattle.jg_denial_text.specs.Breaches as breaches
use Rattle.jg_denial_text.proofs.Chains.{two}
use Rattle.jg_denial_text.proofs.breaches.push_field_of_type.Goals as goal

pub returns : goal.returns
returns c =
    let start : List ℕ = string_bytes c.args.out.now in
    let text1 : List ℕ = field_text c.args.field in
    let text2 : List ℕ = text1 ++ codes " is of type " in
    let to2 : string_bytes c.push_str.new.self ≡ start ++ text2
    = two start text1 (codes " is of type ") c.in_ok-push_field.ensures.written c.in_ok-push_str.ensures.bytes in
    let text3 : List ℕ = text2 ++ quoted_if (field_type c.args.setup.now c.args.field.class c.args.field.field) in
    let to3 : string_bytes c.push_field_type.new.out ≡ start ++ text3
    = two start text2 (quoted_if (field_type c.args.setup.now c.args.field.class c.args.field.field)) to2 c.in_ok-push_field_type.ensures in
    let text4 : List ℕ = text3 ++ codes ", and " in
    let to4 : string_bytes c.push_str-2.new.self ≡ start ++ text4
    = two start text3 (codes ", and ") to3 c.in_ok-push_str-2.ensures.bytes in
    let one5 : string_bytes c.push_str-3.new.self ≡ string_bytes c.push_str-2.new.self ++ breaches.fun_text c.args.call.now
    = search rules in
    let text5 : List ℕ = text4 ++ breaches.fun_text c.args.call.now in
    let to5 : string_bytes c.push_str-3.new.self ≡ start ++ text5
    = two start text4 (breaches.fun_text c.args.call.now) to4 one5 in
    let text6 : List ℕ = text5 ++ codes " takes one of " in
    let to6 : string_bytes c.push_str-4.new.self ≡ start ++ text6
    = two start text5 (codes " takes one of ") to5 c.in_ok-push_str-4.ensures.bytes in
    on_ok_weaker c.push_wanted.result (two start text6 (wanted_text c.args.wanted) to6) c.push_wanted.ensures
