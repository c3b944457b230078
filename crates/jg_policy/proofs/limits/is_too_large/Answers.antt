use Rattle.std.proofs.Common.{refl}
use Rattle.std.proofs.lemmas.Bool.{lt-ltb, le-ltb}
use Rattle.jg_policy.specs.Stated.{class_stated}
use Rattle.jg_policy.proofs.Stating.{stated_count}
use Rattle.jg_policy.proofs.limits.is_too_large.Goals as goal

pub returns-then-classes-gt-MAX_CLASSES : goal.returns-then-classes-gt-MAX_CLASSES
returns-then-classes-gt-MAX_CLASSES c =
    rw (← c.items_at-classes.ensures, stated_count class_stated c.items_at-classes.result.now, lt-ltb 1000 _ c.if-classes-gt-MAX_CLASSES.true) refl

pub returns : goal.returns
returns c =
    rw (
      c.any_has_many_members.ensures,
      ← c.items_at-classes.ensures,
      stated_count class_stated c.items_at-classes.result.now,
      le-ltb 1000 _ c.if-classes-gt-MAX_CLASSES.false,
      ← c.grant_count.ensures,
      le-ltb 1000 _ c.if-grant_count-gt-MAX_GRANTS.false,
    )
    refl
