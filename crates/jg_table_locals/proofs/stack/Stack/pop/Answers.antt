use Rattle.std.proofs.Common.{arith, ◌≡◌, ◌∙◌, ap, length, Some}
use Rattle.std.specs.Prelude.{◌==◌, ◌&&◌, not, filter, map}
use Rattle.jg_table_locals.specs.Seen.{last, StackRows, frame_of}
use Rattle.jg_table_locals.proofs.Invariant.{popped_slots, popped_frames}
use Rattle.jg_table_locals.proofs.Keeping.{opens_ascending, cut_stacked, closed_frames}
use Rattle.jg_table_locals.proofs.stack.Stack.pop.Goals as goal

pub close_from-requires : goal.close_from-requires
close_from-requires g c = opens_ascending c.self.inside.slots.items c.self.inside.frames.items c.self.invariant.0

pub invariant_of-self : goal.invariant_of-self
invariant_of-self g c =
    let frames = map frame_of c.self.inside.frames.items in
    let sound = c.close_up_if-dead.ensures.sound frames (c.cut-ended.ensures.sound frames c.self.invariant.0.kept.sound) in (
      cut_stacked c.self.inside.slots.items c.cut-ended.new.slots.items c.close_up_if-dead.new.slots.items c.self.inside.frames.items _ c.args.top
          c.self.invariant.0 c.close_from.ensures.kept
          c.cut-ended.ensures.live c.close_up_if-dead.ensures.live sound
          (c.close_up_if-dead.ensures.below c.args.top c.cut-ended.ensures.below) (c.close_up_if-dead.ensures.ends c.cut-ended.ensures.ends),
      c.close_up_if-dead.ensures.dead (omega (arith, c.cut-ended.ensures.dead, c.self.invariant.1)),
      omega (arith, c.self.invariant.2, c.cut-ended.ensures.counted, ap length c.close_up_if-dead.ensures.live),
    )

pub overflow_sub-self : goal.overflow_sub-self
overflow_sub-self g c = omega (arith, c.self.invariant.2, c.cut-ended.ensures.counted)

pub returns-clause-ended : goal.returns-clause-ended
returns-clause-ended g c =
    omega (arith, ap (λ (r : StackRows). length r.locals) c.self.view_is, c.cut-ended.ensures.counted, ap length c.close_up_if-dead.ensures.live)

pub returns-clause-locals : goal.returns-clause-locals
returns-clause-locals g c =
    let frames = map frame_of c.self.inside.frames.items in
    let is : last frames ≡ Some c.args.top = ap (λ (r : StackRows). last r.frames) c.self.view_is ∙ c.requires in
    c.close_up_if-dead.ensures.live
    ∙ (c.cut-ended.ensures.live ∙ (popped_slots c.self.inside.slots.items frames c.args.top c.self.invariant.0.kept.sound c.self.invariant.0.kept.opened is
    ∙ ap (λ (r : StackRows). filter (λ s. not (s.depth == c.args.top.depth && s.frame == c.args.top.frame)) r.locals) c.self.view_is))

pub returns-clause-frames : goal.returns-clause-frames
returns-clause-frames g c =
    let frames = map frame_of c.self.inside.frames.items in
    let is : last frames ≡ Some c.args.top = ap (λ (r : StackRows). last r.frames) c.self.view_is ∙ c.requires in
    closed_frames c.self.inside.frames.items _ c.args.top c.close_from.ensures.kept ∙ (popped_frames frames c.args.top c.self.invariant.0.kept.opened is
    ∙ ap (λ (r : StackRows). filter (λ s. not (s.depth == c.args.top.depth && s.frame == c.args.top.frame)) r.frames) c.self.view_is)
