use Rattle.std.proofs.Common.{◌<◌, ◌∙◌, sym, length, arith}
use Rattle.jg_policy.specs.Stated.{member_stated}
use Rattle.jg_policy.specs.Findings.{same_member}
use Rattle.jg_policy.proofs.Repeats.{false_not, true_not}
use Rattle.jg_policy.proofs.Seen.{text, pair_put, stated_again, stated_once}
use Rattle.jg_policy.proofs.Stating.{each_item-more}
use Rattle.jg_policy.proofs.limits.repeats_one.Goals as goal

pub returns-then-not-branch : goal.returns-then-not-branch
returns-then-not-branch c =
    let i = c.loop-member.member-index in
    let below : i < length c.args.members.now = omega arith in
    let old = sym (c.loop-member.invariant.seen c.text_in.result.now c.text_in-in-loop-member.result.now)
    ∙ false_not _ (sym c.if-not-branch.true ∙ c.in_ok-insert.ensures.added) in
    sym (stated_again same_member member_stated c.args.members.now i c.member-item.result below c.member-item.is
    (rw (← c.text_in.ensures, ← c.text_in-in-loop-member.ensures) old))

pub loop-member-preserved : goal.loop-member-preserved
loop-member-preserved c =
    let i = c.loop-member.member-index in
    let below : i < length c.args.members.now = omega arith in
    let new = sym (c.loop-member.invariant.seen c.text_in.result.now c.text_in-in-loop-member.result.now)
    ∙ true_not _ (sym c.if-not-branch.false ∙ c.in_ok-insert.ensures.added) in
    record {
      seen = λ name signature. c.in_ok-insert.ensures.updates.0 (text name, text signature)
          ∙ rw (
            each_item-more member_stated c.args.members.now i c.member-item.result below,
            ← c.member-item.is,
            ← c.text_in.ensures,
            ←
                c.text_in-in-loop-member.ensures,
          )
          (pair_put (c.text_in.result, c.text_in-in-loop-member.result) (record { name = name; signature = signature }) _ _
          (c.loop-member.invariant.seen name signature));
      once = stated_once same_member member_stated c.args.members.now i c.member-item.result below c.member-item.is
          (rw (← c.text_in.ensures, ← c.text_in-in-loop-member.ensures) new) c.loop-member.invariant.once;
    }
