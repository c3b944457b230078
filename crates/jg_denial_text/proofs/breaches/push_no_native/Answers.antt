use Rattle.std.proofs.Common.{codes, string_bytes, ℕ, List, ◌≡◌, ◌++◌}
use Rattle.std.proofs.lemmas.Result.{on_ok_weaker}
use Rattle.jg_denial_text.specs.Words.{class_text}
use Rattle.jg_denial_text.specs.Breaches as breaches
use Rattle.jg_denial_text.proofs.Chains.{two}
use Rattle.jg_denial_text.proofs.breaches.push_no_native.Goals as goal

pub returns : goal.returns
returns c =
    let start : List ℕ = string_bytes c.args.out.now in
    let text1 : List ℕ = class_text c.args.setup.now c.args.class in
    let text2 : List ℕ = text1 ++ codes " has no native method " in
    let to2 : string_bytes c.push_str.new.self ≡ start ++ text2
    = two start text1 (codes " has no native method ") c.in_ok-push_class.ensures c.in_ok-push_str.ensures.bytes in
    on_ok_weaker c.push_native.result (two start text2 (breaches.native_text c.args.call.now) to2) c.push_native.ensures
