-- The objects that stand beside a thread's slots.
use Rattle.std.proofs.Common.{◌≡◌, ◌≢◌, ℕ, suc, ◌<◌, ◌+◌, length, get_or, take, Bool, true, false, List, [], ◌∷◌, ◌++◌, Option, Some, None, refl, ◌∙◌, ap, sym, arith}
use Rattle.std.specs.Prelude.{◌==◌, ◌&&◌, ◌||◌, if◌then◌else◌, filter, map}
use Rattle.std.specs.Option.{option_map}
use Rattle.std.specs.List.{list_any}
use Rattle.std.proofs.Math.Seq.{take-suc}
use Rattle.std.proofs.lemmas.Bool.Decides.{nat_tests}
use Rattle.std.proofs.lemmas.List.{map-append}
use Rattle.jg_lists.specs.Marks.{Marks}
use Rattle.jg_table_locals.specs.declared.row.LocalSlot.{LocalSlot}
use Rattle.jg_table_locals.specs.Seen.{is_live, named}
use Rattle.jg_table_locals.proofs.Numbers.{any_live}

pub named_more : (slots : List LocalSlot) (i : ℕ) (d : LocalSlot) → i < length slots
    → map named (take i slots) ++ named (get_or slots i d) ∷ [] ≡ map named (take (i + 1) slots)
named_more slots i d within =
    let next : i + 1 ≡ suc i = omega arith in
    sym (ap (λ k. map named (take k slots)) next ∙ (ap (map named) (take-suc slots i d within) ∙ map-append named (take i slots) (get_or slots i d ∷ [])))

one : (live : Bool) (object o : ℕ) → o ≢ 18446744073709551615 → ((if live then object else 18446744073709551615) == o) ≡ (live && object == o)
one true object o other = refl
one false object o other = grind (arith, nat_tests)

any_named : (slots : List LocalSlot) (o : ℕ) → o ≢ 18446744073709551615
    → list_any (λ x. x == o) (map named slots) ≡ list_any (λ s. s.live && s.object == o) slots
any_named [] o other = refl
any_named (s ∷ rest) o other = rw (one s.live s.object o other, any_named rest o other) refl

marked_at : (slots : List LocalSlot) (o : ℕ) (mark : Option Bool) → (o ≡ 18446744073709551615 → mark ≡ None)
    → option_map (λ m. m || list_any (λ x. x == o) (map named slots)) mark ≡ option_map (λ m. m || list_any (λ s. s.object == o) (filter is_live slots)) mark
marked_at slots o None none = refl
marked_at slots o (Some m) none =
    let other : o ≢ 18446744073709551615 = λ greatest. let is = none greatest in cc in
    ap (λ b. Some (m || b)) (any_named slots o other ∙ any_live (λ s. s.object == o) slots)

-- what has a mark and is named beside the slots, a live slot names
pub marked_live : (slots : List LocalSlot) (old new : ℕ → Option Bool) → old 18446744073709551615 ≡ None
    → Marks (λ o. list_any (λ x. x == o) (map named slots)) old new
    → Marks (λ o. list_any (λ s. s.object == o) (filter is_live slots)) old new
marked_live slots old new none are o = are o ∙ marked_at slots o (old o) (λ greatest. ap old greatest ∙ none)
