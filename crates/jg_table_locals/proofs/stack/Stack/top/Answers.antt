use Rattle.std.proofs.Common.{◌∙◌, ap}
use Rattle.std.specs.Option.{option_map}
use Rattle.jg_table_locals.specs.Seen.{last, frame_of, StackRows}
use Rattle.jg_table_locals.proofs.Opened.{last_frame}
use Rattle.jg_table_locals.proofs.stack.Stack.top.Goals as goal

pub returns : goal.returns
returns g c = c.newest_frame.ensures
    ∙ (ap (λ l. option_map frame_of (last l)) c.deref.ensures.value
    ∙ (last_frame c.self.inside.frames.items ∙ ap (λ (r : StackRows). last r.frames) c.self.view_is))
