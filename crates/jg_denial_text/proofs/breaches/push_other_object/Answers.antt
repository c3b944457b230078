use Rattle.std.proofs.Common.{codes, string_bytes, ℕ, List, ◌≡◌, ◌++◌}
use Rattle.std.proofs.lemmas.Result.{on_ok_weaker}
use Rattle.jg_text.specs.Words.{buf_text, ref_text}
use Rattle.jg_denial_text.specs.Words.{class_text}
use Rattle.jg_denial_text.proofs.Chains.{two}
use Rattle.jg_denial_text.proofs.breaches.push_other_object.Goals as goal

pub returns : goal.returns
returns c =
    let start : List ℕ = string_bytes c.args.out.now in
    let text1 : List ℕ = buf_text c.args.buffer ++ codes " is of another object than " in
    let text2 : List ℕ = text1 ++ ref_text c.args.reference in
    let to2 : string_bytes c.push_ref.new.out ≡ start ++ text2
    = two start text1 (ref_text c.args.reference) c.in_ok-push_after_buffer.ensures c.in_ok-push_ref.ensures.written in
    let text3 : List ℕ = text2 ++ codes " names, of " in
    let to3 : string_bytes c.push_str.new.self ≡ start ++ text3
    = two start text2 (codes " names, of ") to2 c.in_ok-push_str.ensures.bytes in
    on_ok_weaker c.push_class.result (two start text3 (class_text c.args.setup.now c.args.class) to3) c.push_class.ensures
