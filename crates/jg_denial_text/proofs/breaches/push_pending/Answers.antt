use Rattle.std.proofs.Common.{codes, string_bytes, ℕ, List, ◌≡◌, ◌++◌}
use Rattle.jg_text.specs.Words.{tid_text}
use Rattle.jg_denial_text.specs.Words.{class_text}
use Rattle.jg_denial_text.proofs.Chains.{two, then_words}
use Rattle.jg_denial_text.proofs.breaches.push_pending.Goals as goal

pub returns : goal.returns
returns c =
    let start : List ℕ = string_bytes c.args.out.now in
    let text1 : List ℕ = tid_text c.args.tid in
    let text2 : List ℕ = text1 ++ codes " has an exception of " in
    let to2 : string_bytes c.push_str.new.self ≡ start ++ text2
    = two start text1 (codes " has an exception of ") c.in_ok-push_tid.ensures c.in_ok-push_str.ensures.bytes in
    let text3 : List ℕ = text2 ++ class_text c.args.setup.now c.args.class in
    let to3 : string_bytes c.push_class.new.out ≡ start ++ text3
    = two start text2 (class_text c.args.setup.now c.args.class) to2 c.in_ok-push_class.ensures in
    then_words c.push_str-2.result start text3 (codes " pending") to3 c.push_str-2.ensures.bytes
