use Rattle.std.proofs.Common.{◌≡◌, ◌∙◌, ◌<◌, ◌^◌, ◌+◌, ◌++◌, ◌∷◌, [], length, ap, sym, subst, arith, rules, Some, refl}
use Rattle.std.specs.Prelude.{All, filter, map}
use Rattle.std.proofs.lemmas.List.Elements.{filter-append}
use Rattle.jg_table_locals.specs.declared.row.Frame.{Frame}
use Rattle.jg_table_locals.specs.Seen.{dead_in, last, StackRows, is_live, frame_of, one_more, slot_made}
use Rattle.jg_table_locals.proofs.Keeping.{opens_ascending, counts_fit, length-push, make_stacked}
use Rattle.jg_table_locals.proofs.Dead.{dead-pushed, live-append, live-le}
use Rattle.jg_table_locals.proofs.Opened.{recounted}
use Rattle.jg_table_locals.proofs.stack.Stack.make.Goals as goal

pub count_more-requires-clause-opened : goal.count_more-requires-clause-opened
count_more-requires-clause-opened g c = opens_ascending c.self.inside.slots.items c.self.inside.frames.items c.self.invariant.0

pub count_more-requires-clause-fits : goal.count_more-requires-clause-fits
count_more-requires-clause-fits g c =
    let more : length c.push.new.self.items ≡ length c.self.inside.slots.items + 1 = ap length c.in_ok-push.ensures.ok ∙ length-push c.self.inside.slots.items _
    in
    let most : length c.push.new.self.items < 2 ^ 64 = search rules in
    counts_fit c.self.inside.slots.items c.self.inside.frames.items c.self.invariant.0 (omega (arith, more, most))

-- the newest has the highest number, and is of the newest frame
pub invariant_of-self-2 : goal.invariant_of-self-2
invariant_of-self-2 g c =
    let is : last (map frame_of c.self.inside.frames.items) ≡ Some c.unwrap-top.result = ap (λ (r : StackRows). last r.frames) c.self.view_is ∙ cc in
    let above : All (λ s. s.n < c.args.n) (filter is_live c.self.inside.slots.items) =
    subst (λ (r : StackRows). All (λ s. s.n < c.args.n) r.locals) (sym c.self.view_is) c.requires.above in (
      rw c.in_ok-push.ensures.ok
          (make_stacked c.self.inside.slots.items c.self.inside.frames.items _ c.unwrap-top.result c.args.n c.args.object
          c.self.invariant.0 is above c.count_more.ensures.counted),
      omega (arith, ap dead_in c.in_ok-push.ensures.ok ∙ dead-pushed c.self.inside.slots.items _ refl, c.self.invariant.1),
      omega (arith, ap (λ slots. length (filter is_live slots)) c.in_ok-push.ensures.ok ∙ live-append c.self.inside.slots.items (_ ∷ []), c.self.invariant.2),
    )

pub overflow_add-self : goal.overflow_add-self
overflow_add-self g c =
    let most : length c.push.new.self.items < 2 ^ 63 = search rules in
    omega (
      arith,
      most,
      ap (λ slots. length (filter is_live slots)) c.in_ok-push.ensures.ok
          ∙ live-append c.self.inside.slots.items (_ ∷ []),
      live-le c.push.new.self.items,
      c.self.invariant.2,
    )

pub returns-clause-made : goal.returns-clause-made
returns-clause-made g c =
    let most : length c.push.new.self.items < 2 ^ 63 = search rules in (
      omega (
        arith,
        ap (λ slots. length (filter is_live slots)) c.in_ok-push.ensures.ok
            ∙ live-append c.self.inside.slots.items (_ ∷ []),
        ap (λ (r : StackRows). length r.locals) c.self.view_is,
      ),
      omega (arith, most, live-le c.push.new.self.items),
    )

pub returns-clause-frames : goal.returns-clause-frames
returns-clause-frames g c = ap (map frame_of) c.count_more.ensures.counted
    ∙ (recounted one_more (λ o. refl) c.unwrap-top.result.depth c.unwrap-top.result.frame c.self.inside.frames.items
    ∙ ap (λ (r : StackRows). r.frames) c.self.view_is)

pub returns-clause-ok : goal.returns-clause-ok
returns-clause-ok g c = λ top is.
    let same : c.unwrap-top.result ≡ top = cc in
    ap (filter is_live) c.in_ok-push.ensures.ok ∙ filter-append is_live c.self.inside.slots.items (_ ∷ [])
    ∙ ap (λ (r : StackRows). r.locals ++ slot_made c.args.n c.args.object c.unwrap-top.result ∷ []) c.self.view_is
    ∙ ap (λ (f : Frame). c.args.self.now.locals ++ slot_made c.args.n c.args.object f ∷ []) same
