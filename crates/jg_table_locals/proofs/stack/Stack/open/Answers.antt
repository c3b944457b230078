use Rattle.std.proofs.Common.{sym, subst}
use Rattle.jg_table_locals.specs.Seen.{last, StackRows, IsNext}
use Rattle.jg_table_locals.proofs.Keeping.{open_stacked}
use Rattle.jg_table_locals.proofs.stack.Stack.open.Goals as goal

pub invariant_of-self-2 : goal.invariant_of-self-2
invariant_of-self-2 g c =
    let next = subst (λ (r : StackRows). IsNext (last r.frames) c.args.frame) (sym c.self.view_is) c.requires in (
      open_stacked c.self.inside.slots.items c.self.inside.frames.items _ c.args.frame c.self.invariant.0 next c.in_ok-push.ensures.items,
      c.self.invariant.1,
      c.self.invariant.2,
    )
