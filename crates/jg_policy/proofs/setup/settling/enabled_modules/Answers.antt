use Rattle.std.proofs.Common.{◌<◌, ◌∙◌, length, codes, false, sym, arith}
use Rattle.std.proofs.Math.Bool.{or-false}
use Rattle.std.specs.Str.{bytes_eq}
use Rattle.jg_policy.proofs.Settling.{put_text, granted_more}
use Rattle.jg_policy.proofs.setup.settling.enabled_modules.Goals as goal

pub loop-grant-init : goal.loop-grant-init
loop-grant-init c name =
    c.in_ok-insert.ensures.updates.0 (record { ref_ptr = (0, 0); now = name })
    ∙ rw c.new-modules.ensures.empty (put_text (codes "java.base") name false ∙ sym (or-false _))

pub loop-grant-preserved : goal.loop-grant-preserved
loop-grant-preserved c name =
    let below : c.loop-grant.grant-index < length c.args.grants.now = omega arith in
    c.in_ok-add_granted.ensures name
    ∙ rw (c.loop-grant.invariant name)
    (granted_more (bytes_eq name (codes "java.base")) name c.args.operation c.args.grants.now c.loop-grant.grant-index c.grant-item.result below
    c.grant-item.is)
