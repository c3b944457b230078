-- What calls make and lend, as facts.
use Rattle.std.proofs.Common.{◌≡◌, ℕ, ℤ, List, [], ◌∷◌, ◌++◌, length, map, Option, Some, refl, ap, ◌∙◌, ◌+◌}
use Rattle.std.specs.Prelude.{option_to_list}
use Rattle.std.specs.List.{range_with_len}
use Rattle.std.proofs.lemmas.List.{length-map}
use Rattle.std.proofs.lemmas.List.FromFn.{length-range_with_len}
use Rattle.jg_words.specs.declared.thread.Tid.{Tid}
use Rattle.jg_words.specs.declared.object.ObjId.{ObjId}
use Rattle.jg_words.specs.declared.reference.Ref.{Ref}
use Rattle.jg_policy.specs.Stated.{StatedSetup}
use Rattle.jg_table_buffers.specs.declared.family.Family.{Family}
use Rattle.jg_table_heap.specs.History.{Event, Made, Wrote, Collected, Went, region_writes}
use Rattle.jg_table_heap.specs.Making.{class_in, length_in}
use Rattle.jg_rules.specs.Parts.{Parts}
use Rattle.jg_rules.specs.Names.{items_of, length_of, slot_of, number_in}
use Rattle.jg_core.specs.declared.fact.Fact.{Fact}
use Rattle.jg_core.specs.declared.fact.Fact.TheVariants.{Lend, Meet}
use Rattle.jg_entry_facts_laws.specs.Entries.{object_facts}

made_append : (e h : List Event) → object_facts (e ++ h) ≡ object_facts e ++ object_facts h
made_append [] h = refl
made_append (Made m ∷ e) h = ap (λ (facts : List Fact). Meet (class_in m) (length_in m) ∷ facts) (made_append e h)
made_append (Wrote o j v ∷ e) h = made_append e h
made_append (Collected roots ∷ e) h = made_append e h
made_append (Went o ∷ e) h = made_append e h

-- what is written makes nothing
pub writes_make_none : (o j : ℕ) (values : List ℤ) → object_facts (region_writes o j values) ≡ []
writes_make_none o j [] = refl
writes_make_none o j (v ∷ values) = made_append (region_writes o (j + 1) values) _ ∙ rw (writes_make_none o (j + 1) values) refl

-- there are as many items as the array is long
pub many_items : (s : StatedSetup) (p : Parts) (o : ℕ) → length (items_of s p o) ≡ length_of s p o
many_items s p o =
    length-map (map (slot_of s p o) (range_with_len 0 (length_of s p o))) number_in
    ∙ (length-map (range_with_len 0 (length_of s p o)) (slot_of s p o) ∙ length-range_with_len 0 (length_of s p o))

pub lent_so : (t : Tid) (family : Family) (via : Ref) (object : ObjId) (o count n : ℕ) (lent : Option Fact) → lent ≡ Some (Lend t family object via count)
    → object.0 ≡ o → count ≡ n
    → option_to_list lent ≡ Lend t family (record { 0 = o }) via n ∷ []
lent_so t family via object o count n lent is same long =
    ap (λ (fact : Option Fact). option_to_list fact) is
    ∙ (ap (λ (x : ℕ). Lend t family (record { 0 = x }) via count ∷ []) same ∙ ap (λ (x : ℕ). Lend t family (record { 0 = o }) via x ∷ []) long)
