use Rattle.std.proofs.Common.{◌∙◌, ap, sym, string_bytes, ◌++◌}
use Rattle.std.proofs.lemmas.Result.{on_ok_weaker}
use Rattle.jg_denial_text.proofs.Quoting.{quoted_whole}
use Rattle.jg_denial_text.proofs.words.push_quoted.Goals as goal

pub returns-then-bytes-le-MOST : goal.returns-then-bytes-le-MOST
returns-then-bytes-le-MOST c = on_ok_weaker c.push_all_escaped.result
    (λ e. e ∙ ap (λ it. string_bytes c.args.out.now ++ it) (sym (quoted_whole c.args.bytes.now c.if-bytes-le-MOST.true)))
    c.push_all_escaped.ensures
