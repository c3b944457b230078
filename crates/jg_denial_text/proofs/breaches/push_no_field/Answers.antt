use Rattle.std.proofs.Common.{codes, string_bytes, ℕ, List}
use Rattle.jg_text.specs.Words.{field_text}
use Rattle.jg_denial_text.proofs.Chains.{then_words}
use Rattle.jg_denial_text.proofs.breaches.push_no_field.Goals as goal

pub returns : goal.returns
returns c =
    let start : List ℕ = string_bytes c.args.out.now in
    then_words c.push_str.result start (field_text c.args.field) (codes " is no field of the setup") c.in_ok-push_field.ensures.written c.push_str.ensures.bytes
