use Rattle.std.proofs.Common.{rules, codes, string_bytes, ℕ, List, ◌≡◌, ◌++◌, OnOk}
use Rattle.std.proofs.lemmas.Result.{on_ok_weaker}
use Rattle.jg_denial_text.specs.Words as words
use Rattle.jg_denial_text.proofs.Chains.{two}
use Rattle.jg_denial_text.proofs.words.push_array_of.Goals as goal

pub returns : goal.returns
returns c =
    let start : List ℕ = string_bytes c.args.out.now in
    let last : OnOk c.push_str-2.result (string_bytes c.push_str-2.new.self ≡ string_bytes c.push_str.new.self ++ words.primitive_text c.args.element)
    = search rules in
    on_ok_weaker c.push_str-2.result (two start (codes "an array of ") (words.primitive_text c.args.element) c.in_ok-push_str.ensures.bytes) last
