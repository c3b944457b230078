use Rattle.std.proofs.Common.{rules, FitsSigned, w64, get_or, pos}
use Rattle.std.proofs.lemmas.Int.{to_z-of_z}
use Rattle.jg_text.proofs.Lists.{first_and_rest, inside_is}
use Rattle.jg_text.proofs.list.push_inside.Goals as goal

pub returns-in_ok-push_after_commas-in-len1-up-clause-written : goal.returns-in_ok-push_after_commas-in-len1-up-clause-written
returns-in_ok-push_after_commas-in-len1-up-clause-written c =
    let items = c.args.items.now in
    let fits : FitsSigned w64 (get_or items 0 (pos 0)) = search rules in
    let first = simp to_z-of_z at c.in_ok-push_signed-in-len1-up.ensures in
    inside_is _ _ _ items _ (get_or items 0 (pos 0)) (first_and_rest items c.in-len1-up.len_at_least) first c.in_ok-push_after_commas-in-len1-up.ensures.written
