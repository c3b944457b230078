use Rattle.std.proofs.Common.{◌<◌, sym, length, arith}
use Rattle.jg_policy.specs.Stated.{class_stated}
use Rattle.jg_policy.specs.Findings.{has_many_members}
use Rattle.jg_policy.proofs.Seen.{any_here, none_more}
use Rattle.jg_policy.proofs.limits.any_has_many_members.Goals as goal

pub returns-then-has_many_members : goal.returns-then-has_many_members
returns-then-has_many_members c =
    let i = c.loop-class.class-index in
    let below : i < length c.args.classes.now = omega arith in
    sym (any_here has_many_members class_stated c.args.classes.now i c.class-item.result below c.class-item.is (sym c.if-has_many_members.ensures))

pub loop-class-preserved : goal.loop-class-preserved
loop-class-preserved c =
    let i = c.loop-class.class-index in
    let below : i < length c.args.classes.now = omega arith in
    none_more has_many_members class_stated c.args.classes.now i c.class-item.result below c.class-item.is (sym c.if-has_many_members.ensures)
    c.loop-class.invariant
