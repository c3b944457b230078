use Rattle.std.proofs.Common.{arith, rules, ◌≡◌, ◌<◌, ◌^◌, ap, ◌∙◌, ◌+◌, ◌++◌, ◌∷◌, [], ℕ, Bool, List, map, cond, subst, sym, length, true}
use Rattle.std.proofs.lemmas.List.{length-append, length-map, map-append}
use Rattle.jg_table_heap.specs.Making.{making_of}
use Rattle.jg_table_heap.specs.Rows.{Row, Rows}
use Rattle.jg_table_heap.specs.Kept.{objects_of, row_of, row_of_body, numbers_in, AreWhole}
use Rattle.jg_table_heap.proofs.Objects.{length-objects_of, more_of, stored_made}
use Rattle.jg_table_heap.proofs.Told.{count_stands}
use Rattle.jg_table_heap.proofs.Calls.{rows_made}
use Rattle.jg_table_heap.proofs.Counting.{being_more}
use Rattle.jg_table_heap.proofs.Letting.{trues_within}
use Rattle.jg_table_heap.proofs.heap.Heap.alloc.Goals as goal

pub returns-clause-number : goal.returns-clause-number
returns-clause-number g c e s =
    c.len-number.ensures ∙ c.self.inside.objects.ok.0
    ∙ sym (length-map (objects_of c.self.inside.objects.items c.self.inside.there.items) row_of
    ∙ length-objects_of c.self.inside.objects.items c.self.inside.there.items c.self.invariant.0.same)
    ∙ ap (λ (r : Rows). length r.objects) c.self.view_is ∙ count_stands c.args.self.now e s

pub returns-clause-rows : goal.returns-clause-rows
returns-clause-rows g c =
    let flags = c.push_reserved.ensures.items ∙ ap (λ (bs : List Bool). bs ++ true ∷ []) c.in_ok-reserve.ensures.items in
    ap (map row_of) (more_of c.self.inside.objects.items _ c.self.inside.there.items _ c.in_ok-body.body c.self.invariant.0.same c.in_ok-push.ensures.items
    flags)
    ∙ map-append row_of (objects_of c.self.inside.objects.items c.self.inside.there.items) (_ ∷ [])
    ∙ ap (λ (r : Rows). r.objects ++ row_of_body c.in_ok-body.body ∷ []) c.self.view_is
    ∙ ap (λ (r : Row). c.args.self.now.objects ++ r ∷ []) c.in_ok-body.ensures

pub returns-clause-stands : goal.returns-clause-stands
returns-clause-stands g c e s =
    let flags = c.push_reserved.ensures.items ∙ ap (λ (bs : List Bool). bs ++ true ∷ []) c.in_ok-reserve.ensures.items in
    rows_made (objects_of c.self.inside.objects.items c.self.inside.there.items) c.args.self.now c.self.inside.class_count e (making_of c.args.shape)
    (record { body = c.in_ok-body.body; gone = _ }) _
    (ap (λ (r : Rows). r.objects) c.self.view_is) (ap (λ (r : Rows). r.classes) c.self.view_is) s
    (more_of c.self.inside.objects.items _ c.self.inside.there.items _ c.in_ok-body.body c.self.invariant.0.same c.in_ok-push.ensures.items flags)
    c.in_ok-body.ensures

pub invariant_of-self-2 : goal.invariant_of-self-2
invariant_of-self-2 g c =
    let n = c.len-number.result in
    let n-is : n ≡ length c.self.inside.there.items = c.len-number.ensures ∙ c.self.inside.objects.ok.0 ∙ sym c.self.invariant.0.same in (
      stored_made c.self.inside.objects.items _ c.self.inside.there.items _ _ _ _ _ _ _ c.in_ok-body.body n
          c.self.invariant.0 c.in_ok-push.ensures.items (c.len-number.ensures ∙ c.self.inside.objects.ok.0)
          (c.push_reserved.ensures.items ∙ ap (λ (bs : List Bool). bs ++ true ∷ []) c.in_ok-reserve.ensures.items)
          (c.fill_block-self-inside.ensures.same ∙ ap (λ (bs : List ℕ). numbers_in bs c.self.inside.loose (n + 1)) c.in_ok-reserve-2.ensures.items)
          (λ whole. c.fill_block-self-inside.ensures.whole (subst (λ (bs : List ℕ). AreWhole bs (n + 1)) (sym c.in_ok-reserve-2.ensures.items) whole))
          c.fill_block-self-inside.ensures.loose
          (c.add_if.ensures ∙ ap (λ (os : List ℕ). os ++ cond c.may_point-may_point.result (c.len-number.result ∷ []) []) c.in_ok-reserve-3.ensures.items
          ∙ ap (λ b. c.self.inside.pointing.items ++ cond b (c.len-number.result ∷ []) []) c.may_point-may_point.ensures),
      omega (
        arith,
        ap length
            (c.push_reserved.ensures.items ∙ ap (λ (bs : List Bool). bs ++ true ∷ []) c.in_ok-reserve.ensures.items),
        length-append c.self.inside.there.items (true ∷ []),
        c.in_ok-widen.ensures.ok,
        n-is,
      ),
      being_more c.self.inside.there.items _ c.self.inside.in_being c.self.invariant.2
          (c.push_reserved.ensures.items ∙ ap (λ (bs : List Bool). bs ++ true ∷ []) c.in_ok-reserve.ensures.items),
    )

pub overflow_add-self : goal.overflow_add-self
overflow_add-self g c =
    let fits : length c.self.inside.there.items < 2 ^ 63 = search rules in
    omega (arith, c.self.invariant.2, trues_within c.self.inside.there.items, fits)
