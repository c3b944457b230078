use Rattle.std.proofs.Common.{rules, ◌≡◌, ◌<◌, ◌^◌, ◌∙◌, ap, true, false, length, arith}
use Rattle.std.specs.Prelude.{filter, option_to_list}
use Rattle.jg_table_locals.specs.Seen.{dead_in, is_live, last, passes, stays}
use Rattle.jg_table_locals.proofs.Dead.{dead-append, live-append, live-le}
use Rattle.jg_table_locals.proofs.Numbers.{cut_one, sound_front, rises_front, below_all, live_left}
use Rattle.jg_table_locals.proofs.slots.cut.Goals as goal

pub loop-from-preserved : goal.loop-from-preserved
loop-from-preserved g c =
    let fails : passes (stays c.args.from) (last c.loop-from.slots.items) ≡ false = search rules in
    let was = c.pop.ensures.items in (
      cut_one (stays c.args.from) c.pop.new.self.items c.loop-from.slots.items c.pop.result was fails ∙ c.loop-from.invariant.0,
      rises_front c.pop.new.self.items c.loop-from.slots.items c.pop.result was c.loop-from.invariant.1,
      (λ frames sound. sound_front c.pop.new.self.items c.loop-from.slots.items c.pop.result frames was (c.loop-from.invariant.2 frames sound)),
      omega (arith, c.loop-from.invariant.3, c.pop.ensures.room),
      omega (arith, c.loop-from.invariant.4, ap dead_in was, dead-append c.pop.new.self.items (option_to_list c.pop.result)),
      omega (
        arith,
        c.loop-from.invariant.5,
        ap (λ slots. length (filter is_live slots)) was,
        live-append c.pop.new.self.items (option_to_list c.pop.result),
        c.live_count-ended.ensures,
      ),
    )

pub overflow_add-ended : goal.overflow_add-ended
overflow_add-ended g c =
    let fits : length c.args.slots.now.items < 2 ^ 63 = search rules in
    omega (
      arith,
      c.loop-from.invariant.5,
      ap (λ slots. length (filter is_live slots)) c.pop.ensures.items,
      live-append c.pop.new.self.items (option_to_list c.pop.result),
      c.live_count-ended.ensures,
      live-le c.args.slots.now.items,
      fits,
    )

pub returns-clause-live : goal.returns-clause-live
returns-clause-live g c =
    let ends : passes (stays c.args.from) (last c.loop-from.slots.items) ≡ true = search rules in
    live_left c.args.from c.loop-from.slots.items (below_all c.args.from c.loop-from.slots.items c.loop-from.invariant.1 ends) ∙ c.loop-from.invariant.0

pub returns-clause-below : goal.returns-clause-below
returns-clause-below g c =
    let ends : passes (stays c.args.from) (last c.loop-from.slots.items) ≡ true = search rules in
    below_all c.args.from c.loop-from.slots.items c.loop-from.invariant.1 ends
