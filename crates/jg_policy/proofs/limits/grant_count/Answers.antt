use Rattle.std.proofs.Common.{sym}
use Rattle.jg_policy.specs.Stated.{grant_stated, enabled_stated}
use Rattle.jg_policy.proofs.Stating.{stated_count}
use Rattle.jg_policy.proofs.limits.grant_count.Goals as goal

pub returns-then-is_version_2 : goal.returns-then-is_version_2
returns-then-is_version_2 c = rw (← c.if-is_version_2.ensures, ← c.items_at.ensures) (sym (stated_count grant_stated c.items_at.result.now))

pub returns-else-is_version_2 : goal.returns-else-is_version_2
returns-else-is_version_2 c =
    rw (← c.if-is_version_2.ensures, ← c.items_at-else-is_version_2.ensures) (sym (stated_count enabled_stated c.items_at-else-is_version_2.result.now))
