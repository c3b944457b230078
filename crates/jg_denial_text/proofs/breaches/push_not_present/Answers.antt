use Rattle.std.proofs.Common.{codes, string_bytes, ℕ, List, ◌≡◌, ◌++◌}
use Rattle.std.proofs.lemmas.Result.{on_ok_weaker}
use Rattle.jg_text.specs.Words.{env_id_text, tid_text}
use Rattle.jg_denial_text.proofs.Chains.{two}
use Rattle.jg_denial_text.proofs.breaches.push_not_present.Goals as goal

pub returns : goal.returns
returns c =
    let start : List ℕ = string_bytes c.args.out.now in
    let text1 : List ℕ = env_id_text c.args.env in
    let text2 : List ℕ = text1 ++ codes " is not the present environment of " in
    let to2 : string_bytes c.push_str.new.self ≡ start ++ text2
    = two start text1 (codes " is not the present environment of ") c.in_ok-push_env_id.ensures c.in_ok-push_str.ensures.bytes in
    on_ok_weaker c.push_tid.result (two start text2 (tid_text c.args.env.tid) to2) c.push_tid.ensures
