use Rattle.std.proofs.Common.{◌<◌, length, arith}
use Rattle.std.proofs.lemmas.List.{map-append}
use Rattle.jg_policy.specs.Stated.{grant_stated}
use Rattle.jg_policy.specs.Kept.{grant_view}
use Rattle.jg_policy.proofs.Stating.{each_item-more}
use Rattle.jg_policy.proofs.grant.grants_from.Goals as goal

pub loop-value-preserved : goal.loop-value-preserved
loop-value-preserved c =
    let below : c.loop-value.value-index < length c.args.values.now = omega arith in
    rw (
      c.in_ok-push.ensures.items,
      each_item-more grant_stated c.args.values.now c.loop-value.value-index c.value-item.result below,
      map-append grant_view _ _,
      ← c.value-item.is,
      c.loop-value.invariant,
      c.in_ok-from_value.ensures,
    )
