use Rattle.std.proofs.Common.{arith, rules, ap, sym, refl, ◌∙◌, [], ◌∷◌, ◌++◌, replicate, ◌≡◌, length, map, List}
use Rattle.std.proofs.lemmas.List.{length-map, length-replicate, map-append, replicate_more}
use Rattle.jg_table_heap.specs.Kept.{objects_of, row_of, Stored}
use Rattle.jg_table_heap.proofs.Objects.{length-objects_of, more_of, stored_made}
use Rattle.jg_table_heap.specs.Making.{Plain}
use Rattle.jg_table_heap.specs.Rows.{Row, row_of_making}
use Rattle.jg_table_heap.proofs.Collecting.{standing_new}
use Rattle.jg_table_heap.proofs.Counting.{being_more}
use Rattle.jg_table_heap.proofs.heap.Heap.new.Goals as goal

pub returns-clause-stands : goal.returns-clause-stands
returns-clause-stands g c =
    let all : c.loop-class.class ≡ c.args.class_count = omega arith in
    c.loop-class.invariant.rows ∙ ap (λ n. replicate n (row_of_making (Plain 1 []))) all ∙ standing_new c.args.class_count

pub returns-clause-rows : goal.returns-clause-rows
returns-clause-rows g c =
    let all : c.loop-class.class ≡ c.args.class_count = omega arith in
    c.loop-class.invariant.rows ∙ ap (λ n. replicate n (row_of_making (Plain 1 []))) all

pub loop-class-preserved : goal.loop-class-preserved
loop-class-preserved g c =
    let n : length (replicate c.loop-class.class (row_of_making (Plain 1 []))) ≡ c.loop-class.class =
    length-replicate c.loop-class.class (row_of_making (Plain 1 [])) in
    let m : length (map row_of (objects_of c.loop-class.objects.items c.loop-class.there.items))
    ≡ length (replicate c.loop-class.class (row_of_making (Plain 1 []))) =
    ap (λ (rs : List Row). length rs) c.loop-class.invariant.rows in
    let i : length (map row_of (objects_of c.loop-class.objects.items c.loop-class.there.items)) ≡ length c.loop-class.objects.items =
    length-map (objects_of c.loop-class.objects.items c.loop-class.there.items) row_of
    ∙ length-objects_of c.loop-class.objects.items c.loop-class.there.items c.loop-class.invariant.keeps.same in
    record {
      rows = ap (map row_of) (more_of c.loop-class.objects.items _ c.loop-class.there.items _ _ c.loop-class.invariant.keeps.same c.in_ok-push-2.ensures.items
          c.in_ok-push.ensures.items)
          ∙ map-append row_of (objects_of c.loop-class.objects.items c.loop-class.there.items) (_ ∷ [])
          ∙ ap (λ (rs : List Row). rs ++ row_of_making (Plain 1 []) ∷ []) c.loop-class.invariant.rows
          ∙ replicate_more c.loop-class.class (row_of_making (Plain 1 []));
      keeps = stored_made c.loop-class.objects.items _ c.loop-class.there.items _ [] [] 0 0 [] [] _ c.loop-class.class c.loop-class.invariant.keeps
          c.in_ok-push-2.ensures.items
          (omega arith) c.in_ok-push.ensures.items refl (λ whole. whole) (omega arith) refl;
      all = being_more c.loop-class.there.items _ c.loop-class.class c.loop-class.invariant.all c.in_ok-push.ensures.items;
    }

pub loop-class-init : goal.loop-class-init
loop-class-init g c = rw (c.new-objects.ensures.items, c.new-there.ensures.items) (record {
  rows = refl;
  keeps = record {
    same = refl;
    keeps =
        record { flags = refl; whole = λ i d h. absurd (omega (arith, h)); order = omega arith; live = refl; pointing = refl };
  };
  all = refl;
})

pub invariant_of-result : goal.invariant_of-result
invariant_of-result g c =
    let all : c.loop-class.class ≡ c.args.class_count = omega arith in
    let stored : Stored c.loop-class.objects.items c.loop-class.there.items c.new-blocks.result.items 0 c.new-pointing.result.items =
    rw (c.new-blocks.ensures.items, c.new-pointing.ensures.items)
    c.loop-class.invariant.keeps in
    (stored, search rules, sym all ∙ c.loop-class.invariant.all)
