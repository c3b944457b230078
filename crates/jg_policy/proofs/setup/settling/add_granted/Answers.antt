use Rattle.std.proofs.Common.{◌∙◌, string_bytes, sym}
use Rattle.jg_policy.proofs.Settling.{put_allowed}
use Rattle.jg_policy.proofs.setup.settling.add_granted.Goals as goal

pub returns-in_ok-insert : goal.returns-in_ok-insert
returns-in_ok-insert c name =
    c.in_ok-insert.ensures.updates.0 (record { ref_ptr = (0, 0); now = name })
    ∙ rw c.as_str.ensures.value (put_allowed (string_bytes c.args.grant.now.module_name) name _ _ (sym c.if-allows.ensures))
