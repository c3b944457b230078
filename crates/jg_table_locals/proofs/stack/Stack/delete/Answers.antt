use Rattle.std.proofs.Common.{arith, ℕ, ◌≤◌, ◌+◌, ◌≡◌, rules, length, ◌<◌, ◌^◌, ◌∙◌, ap}
use Rattle.std.specs.Prelude.{◌==◌, not, filter, map}
use mir.Val.{bool_byte}
use Rattle.std.specs.Prelude.{if◌then◌else◌}
use Rattle.std.specs.Option.{is_some}
use Rattle.jg_table_locals.specs.Seen.{dead_in, StackRows, frame_of}
use Rattle.jg_table_locals.proofs.Dead.{dead-le, one_more_if, byte-le}
use Rattle.jg_table_locals.proofs.Keeping.{opens_ascending, delete_stacked, delete_frames}
use Rattle.jg_table_locals.proofs.stack.Stack.delete.Goals as goal

pub count_gone-requires : goal.count_gone-requires
count_gone-requires g c = opens_ascending c.self.inside.slots.items c.self.inside.frames.items c.self.invariant.0

pub invariant_of-self : goal.invariant_of-self
invariant_of-self g c =
    let frames = map frame_of c.self.inside.frames.items in (
      delete_stacked c.self.inside.slots.items c.end_local-gone.new.slots.items c.close_up_if-dead.new.slots.items
          c.self.inside.frames.items _ c.end_local-gone.result c.args.n c.self.invariant.0 c.count_gone.ensures.counted
          c.end_local-gone.ensures.was
          c.end_local-gone.ensures.live c.close_up_if-dead.ensures.live
          (c.close_up_if-dead.ensures.sound frames (c.end_local-gone.ensures.sound frames c.self.invariant.0.kept.sound))
          (c.close_up_if-dead.ensures.ends c.end_local-gone.ensures.ends),
      c.close_up_if-dead.ensures.dead (let fits : length c.self.inside.slots.items < 2 ^ 63 = search rules in
          let counted : ◌≡◌ {A = ℕ} (bool_byte c.is_some-ended.result) (if is_some c.end_local-gone.result then 1 else 0) = rw c.is_some-ended.ensures
          (one_more_if (is_some c.end_local-gone.result)) in
          let up : dead_in c.end_local-gone.new.slots.items ≤ dead_in c.self.inside.slots.items + bool_byte c.is_some-ended.result =
          rw counted c.end_local-gone.ensures.dead in
          let most : bool_byte c.is_some-ended.result ≤ 1 = byte-le c.is_some-ended.result in
          omega (arith, up, most, c.self.invariant.1, c.saturating_add-dead.ensures, fits, dead-le c.self.inside.slots.items)),
      (let one : ◌≡◌ {A = ℕ} (bool_byte c.is_some-ended.result) (if is_some c.end_local-gone.result then 1 else 0) =
          rw c.is_some-ended.ensures (one_more_if (is_some c.end_local-gone.result)) in
          omega (arith, one, c.self.invariant.2, c.end_local-gone.ensures.counted, ap length c.close_up_if-dead.ensures.live)),
    )

pub overflow_sub-self : goal.overflow_sub-self
overflow_sub-self g c =
    let one : ◌≡◌ {A = ℕ} (bool_byte c.is_some-ended.result) (if is_some c.end_local-gone.result then 1 else 0) =
    rw c.is_some-ended.ensures (one_more_if (is_some c.end_local-gone.result)) in
    omega (arith, one, c.self.invariant.2, c.end_local-gone.ensures.counted)

pub returns-clause-ended : goal.returns-clause-ended
returns-clause-ended g c =
    let one : ◌≡◌ {A = ℕ} (bool_byte c.is_some-ended.result) (if is_some c.end_local-gone.result then 1 else 0) =
    rw c.is_some-ended.ensures (one_more_if (is_some c.end_local-gone.result)) in
    omega (arith, one, ap (λ (r : StackRows). length r.locals) c.self.view_is, c.end_local-gone.ensures.counted, ap length c.close_up_if-dead.ensures.live)

pub returns-clause-locals : goal.returns-clause-locals
returns-clause-locals g c =
    c.close_up_if-dead.ensures.live ∙ (c.end_local-gone.ensures.live ∙ ap (λ (r : StackRows). filter (λ s. not (s.n == c.args.n)) r.locals) c.self.view_is)

pub returns-clause-frames : goal.returns-clause-frames
returns-clause-frames g c = delete_frames c.end_local-gone.result c.self.inside.frames.items _ c.count_gone.ensures.counted
    ∙ ap (λ (r : StackRows). r.frames) c.self.view_is
