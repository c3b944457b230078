use Rattle.std.proofs.Common.{◌≡◌, ◌<◌, ◌++◌, ◌∷◌, [], ◌∙◌, false, sym, ap, length, arith, if◌then◌else◌}
use Rattle.std.specs.List.{list_any}
use Rattle.jg_policy.specs.Stated.{member_stated}
use Rattle.jg_policy.specs.Findings.{same_member}
use Rattle.jg_policy.specs.Kept.{member_view}
use Rattle.jg_policy.proofs.Repeats.{equal_members, member_among}
use Rattle.jg_policy.proofs.Seen.{refuted, stated_again}
use Rattle.jg_policy.proofs.Stating.{kept_more}
use Rattle.jg_policy.proofs.class.members_from.Goals as goal

pub loop-value-preserved : goal.loop-value-preserved
loop-value-preserved c =
    let m = c.in_ok-from_value.field-0 in
    let i = c.loop-value.value-index in
    let keys = c.loop-value.members.keys in
    let below : i < length c.args.values.now = omega arith in
    let new : list_any (equal_members m) keys ≡ false = sym (member_among m keys)
    ∙ rw (c.loop-value.invariant, c.in_ok-from_value.ensures)
    (refuted _ _ c.requires (stated_again same_member member_stated c.args.values.now i c.value-item.result below c.value-item.is)) in
    let put : c.insert.new.self.keys ≡ keys ++ m ∷ [] = c.in_ok-insert.ensures.keys ∙ ap (λ b. if b then keys else keys ++ m ∷ []) new in
    rw put (kept_more member_view member_stated keys m c.args.values.now i c.value-item.result below c.value-item.is c.in_ok-from_value.ensures
    c.loop-value.invariant)
