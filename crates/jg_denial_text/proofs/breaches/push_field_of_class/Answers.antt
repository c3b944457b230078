use Rattle.std.proofs.Common.{codes, string_bytes, ℕ, List, ◌≡◌, ◌++◌}
use Rattle.std.proofs.lemmas.Result.{on_ok_weaker}
use Rattle.jg_text.specs.Words.{field_text, ref_text}
use Rattle.jg_denial_text.specs.Words.{class_text}
use Rattle.jg_denial_text.proofs.Chains.{two}
use Rattle.jg_denial_text.proofs.breaches.push_field_of_class.Goals as goal

pub returns : goal.returns
returns c =
    let start : List ℕ = string_bytes c.args.out.now in
    let text1 : List ℕ = field_text c.args.field in
    let text2 : List ℕ = text1 ++ codes " is a field of " in
    let to2 : string_bytes c.push_str.new.self ≡ start ++ text2
    = two start text1 (codes " is a field of ") c.in_ok-push_field.ensures.written c.in_ok-push_str.ensures.bytes in
    let text3 : List ℕ = text2 ++ class_text c.args.setup.now c.args.field.class in
    let to3 : string_bytes c.push_class.new.out ≡ start ++ text3
    = two start text2 (class_text c.args.setup.now c.args.field.class) to2 c.in_ok-push_class.ensures in
    let text4 : List ℕ = text3 ++ codes ", and " in
    let to4 : string_bytes c.push_str-2.new.self ≡ start ++ text4
    = two start text3 (codes ", and ") to3 c.in_ok-push_str-2.ensures.bytes in
    let text5 : List ℕ = text4 ++ ref_text c.args.reference in
    let to5 : string_bytes c.push_ref.new.out ≡ start ++ text5
    = two start text4 (ref_text c.args.reference) to4 c.in_ok-push_ref.ensures.written in
    let text6 : List ℕ = text5 ++ codes " names an object of " in
    let to6 : string_bytes c.push_str-3.new.self ≡ start ++ text6
    = two start text5 (codes " names an object of ") to5 c.in_ok-push_str-3.ensures.bytes in
    on_ok_weaker c.push_class-2.result (two start text6 (class_text c.args.setup.now c.args.class) to6) c.push_class-2.ensures
