use Rattle.std.proofs.Common.{codes, string_bytes, ℕ, List, ◌≡◌, ◌++◌}
use Rattle.jg_text.specs.Words.{ref_text}
use Rattle.jg_denial_text.specs.Words.{class_text, type_text}
use Rattle.jg_denial_text.proofs.Chains.{two, then_words}
use Rattle.jg_denial_text.proofs.breaches.push_other_type.Goals as goal

pub returns : goal.returns
returns c =
    let start : List ℕ = string_bytes c.args.out.now in
    let text1 : List ℕ = ref_text c.args.reference in
    let text2 : List ℕ = text1 ++ codes " names an object of " in
    let to2 : string_bytes c.push_str.new.self ≡ start ++ text2
    = two start text1 (codes " names an object of ") c.in_ok-push_ref.ensures.written c.in_ok-push_str.ensures.bytes in
    let text3 : List ℕ = text2 ++ class_text c.args.setup.now c.args.class in
    let to3 : string_bytes c.push_class.new.out ≡ start ++ text3
    = two start text2 (class_text c.args.setup.now c.args.class) to2 c.in_ok-push_class.ensures in
    let text4 : List ℕ = text3 ++ codes ", and " in
    let to4 : string_bytes c.push_str-2.new.self ≡ start ++ text4
    = two start text3 (codes ", and ") to3 c.in_ok-push_str-2.ensures.bytes in
    let text5 : List ℕ = text4 ++ type_text c.args.wanted in
    let to5 : string_bytes c.push_type.new.out ≡ start ++ text5
    = two start text4 (type_text c.args.wanted) to4 c.in_ok-push_type.ensures in
    then_words c.push_str-3.result start text5 (codes " is wanted") to5 c.push_str-3.ensures.bytes
