-- When rows stand for one event more.
use Rattle.std.proofs.Common.{◌≡◌, ℕ, ◌+◌, Bool, true, false, List, [], ◌∷◌, Option, Some, None, refl, ◌∙◌, ap, sym, subst}
use Rattle.std.specs.Prelude.{nat_lt, ◌==◌, ◌||◌, if◌then◌else◌}
use Rattle.std.specs.Option.{is_some, option_map}
use Rattle.jg_lists.specs.ByThread.{at, IsOnce}
use Rattle.jg_table_heap.specs.Making.{Opaque}
use Rattle.jg_table_heap.specs.History.{Event, Made, count_of, is_there, class_there}
use Rattle.jg_words.specs.declared.object.ObjId.{ObjId}
use Rattle.jg_table_objects.specs.declared.kept.Kept.{Kept}
use Rattle.jg_table_objects.specs.Laws.{MarksKeep}
use Rattle.jg_table_objects.specs.History.{told, length_there, is_listed, went}
use Rattle.jg_table_objects.specs.Rows.{Rows, class_and_length}
use Rattle.jg_table_objects.specs.Seen.{Changes, forgotten}
use Rattle.jg_table_objects.specs.Standing.{Stands}
use Rattle.jg_table_objects.proofs.Told.{class_told, class_of_told, length_of_told, there_told, told_at_first, told_made, told_went, count_went}

-- a value is seen as its view
reopened : (a b : Rows) (e : List Event) → a ≡ b → Stands b e → Stands a e
reopened a b e is stands =
    let P : Rows → Type 0 = λ v. Stands v e in
    subst P (sym is) stands

pub none_stand : (classes : ℕ) (there : List (ℕ × Kept)) → there ≡ [] → IsOnce there → Stands (record { classes = classes; count = classes; there = there }) []
none_stand classes there none once = record {
  count = refl;
  told = λ o. ap (λ l. option_map class_and_length (at o l)) none ∙ sym (told_at_first classes o);
  once = once;
}

pub marks_keep : MarksKeep
marks_keep old new e same stands = record {
  count = same.count ∙ stands.count ∙ ap (λ k. count_of k e) (sym same.classes);
  told = λ o. same.told o ∙ stands.told o ∙ ap (λ k. told k e o) (sym same.classes);
  once = same.once stands.once;
}

told_if : (b : Bool) (x old new : Option Kept) → new ≡ (if b then x else old)
    → option_map class_and_length new ≡ (if b then option_map class_and_length x else option_map class_and_length old)
told_if true x old new is = ap (option_map class_and_length) is
told_if false x old new is = ap (option_map class_and_length) is

module _ {rows : Rows} {classes count : ℕ} {there : List (ℕ × Kept)} (is : record { classes = classes; count = count; there = there } ≡ rows) (e : List Event)
    (stands : Stands rows e) where
  was : Stands (record { classes = classes; count = count; there = there }) e
  was = reopened (record { classes = classes; count = count; there = there }) rows e is stands

  -- an object more
  pub met_stands : (kept : Kept) (new : List (ℕ × Kept)) → ((q : ℕ) → at q new ≡ (if count == q then Some kept else at q there)) → IsOnce new
      → Stands (record { classes = classes; count = count + 1; there = new }) (Made (Opaque kept.class kept.length) ∷ e)
  met_stands kept new found once = record {
    count = ap (λ n. n + 1) was.count;
    told = λ o.
        told_if (count == o) (Some kept) (at o there) (at o new) (found o)
        ∙ ap (λ t. if count == o then Some (kept.class, kept.length) else t) (was.told o)
        ∙ ap (λ n. if n == o then Some (kept.class, kept.length) else told classes e o) was.count
        ∙ sym (told_made classes (Opaque kept.class kept.length) e o);
    once = once;
  }

  -- objects go
  pub gone_stands : (objects : List ObjId) (new : List (ℕ × Kept)) → Changes (is_listed objects) forgotten there new → (IsOnce there → IsOnce new)
      → Stands (record { classes = classes; count = count; there = new }) (went objects e)
  gone_stands objects new changes once = record {
    count = was.count ∙ sym (count_went classes objects e);
    told = λ o.
        told_if (is_listed objects o) None (at o there) (at o new) (changes o)
        ∙ ap (λ t. if is_listed objects o then None else t) (was.told o)
        ∙ sym (told_went classes objects e o);
    once = once was.once;
  }

  -- what is told of an object is what is kept of it
  told_found : (o : ℕ) → told rows.classes e o ≡ option_map class_and_length (at o there)
  told_found o = ap (λ (r : Rows). told r.classes e o) (sym is) ∙ sym (was.told o)

  pub class_found : (o : ℕ) → class_told (option_map class_and_length (at o there)) ≡ class_there rows.classes e o
  class_found o = sym (class_of_told rows.classes e o ∙ ap class_told (told_found o))

  length_kept : (found : Option Kept) → option_map (λ (t : ℕ × ℕ). t.1) (option_map class_and_length found) ≡ option_map (λ (kept : Kept). kept.length) found
  length_kept None = refl
  length_kept (Some kept) = refl

  pub length_found : (o : ℕ) → option_map (λ (kept : Kept). kept.length) (at o there) ≡ length_there rows.classes e o
  length_found o = sym (length_of_told rows.classes e o ∙ ap (option_map (λ (t : ℕ × ℕ). t.1)) (told_found o) ∙ length_kept (at o there))

  is_kept : (found : Option Kept) → is_some (option_map class_and_length found) ≡ is_some found
  is_kept None = refl
  is_kept (Some kept) = refl

  pub there_found : (o : ℕ) → (nat_lt o classes || is_some (at o there)) ≡ is_there rows.classes e o
  there_found o =
      ap (λ (r : Rows). nat_lt o r.classes || is_some (at o there)) is
      ∙ ap (λ b. nat_lt o rows.classes || b) (sym (is_kept (at o there)) ∙ ap is_some (sym (told_found o)))
      ∙ sym (there_told rows.classes e o)
