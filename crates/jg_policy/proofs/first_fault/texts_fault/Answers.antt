use Rattle.std.proofs.Common.{◌<◌, length, arith}
use Rattle.jg_policy.specs.Findings.{text_faults}
use Rattle.jg_policy.proofs.Firsts.{each_of-more}
use Rattle.jg_policy.proofs.first_fault.texts_fault.Goals as goal

pub loop-value-preserved : goal.loop-value-preserved
loop-value-preserved c =
    let below : c.loop-value.value-index < length c.args.values.now = omega arith in
    let more = each_of-more (text_faults c.args.spelling) c.args.values.now c.loop-value.value-index c.value-item.result below in
    cc
