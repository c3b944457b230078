use Rattle.std.proofs.Common.{refl}
use Rattle.std.proofs.lemmas.Bool.{lt-ltb, le-ltb}
use Rattle.jg_policy.specs.Stated.{member_stated}
use Rattle.jg_policy.proofs.Stating.{stated_count}
use Rattle.jg_policy.proofs.limits.has_many_members.Goals as goal

pub returns-then-fields-gt-MAX_MEMBERS : goal.returns-then-fields-gt-MAX_MEMBERS
returns-then-fields-gt-MAX_MEMBERS c =
    rw (← c.items_in-fields.ensures, stated_count member_stated c.items_in-fields.result.now, lt-ltb 100 _ c.if-fields-gt-MAX_MEMBERS.true) refl

pub returns-else-fields-gt-MAX_MEMBERS : goal.returns-else-fields-gt-MAX_MEMBERS
returns-else-fields-gt-MAX_MEMBERS c =
    rw (
      ← c.items_in-fields.ensures,
      ← c.items_in-natives.ensures,
      stated_count member_stated c.items_in-fields.result.now,
      stated_count member_stated c.items_in-natives.result.now,
      le-ltb 100 _ c.if-fields-gt-MAX_MEMBERS.false,
    )
    refl
