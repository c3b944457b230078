use Rattle.std.proofs.Common.{codes, string_bytes, ℕ, List, ◌≡◌, ◌++◌}
use Rattle.std.proofs.lemmas.Result.{on_ok_weaker}
use Rattle.jg_denial_text.specs.Words.{class_text}
use Rattle.jg_denial_text.specs.Breaches as breaches
use Rattle.jg_denial_text.proofs.Chains.{two}
use Rattle.jg_denial_text.proofs.breaches.push_not_owner.Goals as goal

pub returns : goal.returns
returns c =
    let start : List ℕ = string_bytes c.args.out.now in
    let text1 : List ℕ = breaches.owner_text c.args.owner in
    let text2 : List ℕ = text1 ++ codes " owns the monitor of an object of " in
    let to2 : string_bytes c.push_str.new.self ≡ start ++ text2
    = two start text1 (codes " owns the monitor of an object of ") c.in_ok-push_owner.ensures c.in_ok-push_str.ensures.bytes in
    on_ok_weaker c.push_class.result (two start text2 (class_text c.args.setup.now c.args.class) to2) c.push_class.ensures
