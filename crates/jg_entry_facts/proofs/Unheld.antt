-- What a collection finds that nothing holds.
use Rattle.std.proofs.Common.{ℕ, ◌≡◌, ◌<◌, ◌∙◌, Bool, false, List, Some, ap, sym, subst}
use Rattle.std.specs.Prelude.{◌||◌, slice_get}
use Rattle.std.specs.Option.{option_map}
use Rattle.jg_lists.specs.Marks.{Marks}
use Rattle.jg_policy.specs.Stated.{StatedSetup, class_count}
use Rattle.jg_table_heap.specs.History.{count_of, going as going_at}
use Rattle.jg_table_heap.specs.Standing.{MarksRoots}
use Rattle.jg_table_heap.specs.Rows.{count_in}
use Rattle.jg_table_heap.proofs.Callers.{roots_law, rows_law}
use Rattle.jg_rules.specs.Parts.{Parts, TableRows, TablesStand}
use Rattle.jg_rules.specs.Holding.{is_root, roots, going}

-- where no object was marked and the roots marked theirs, the marks are those of the roots
pub roots_marked : (s : StatedSetup) (rows : TableRows) (p : Parts) (old new : List Bool) → TablesStand s rows p
    → ((o : ℕ) → o < count_in rows.heap → slice_get old o ≡ Some false)
    → Marks (is_root p) (slice_get old) (slice_get new) → MarksRoots rows.heap.classes (roots s p) p.heap new
roots_marked s rows p old new stand unset marks o made here =
    let told = rows_law rows.heap p.heap stand.heap.stands in
    let there : o < count_in rows.heap = subst (λ (k : ℕ). o < k) (sym told.count) made in
    let own : o < count_of (class_count s) p.heap = subst (λ (k : ℕ). o < count_of k p.heap) stand.heap.classes made in
    marks o ∙ (ap (option_map (λ mark. mark || is_root p o)) (unset o there) ∙ ap Some (sym (roots_law (is_root p) (count_of (class_count s) p.heap) o own)))

pub same_going : (s : StatedSetup) (rows : TableRows) (p : Parts) → TablesStand s rows p → going_at rows.heap.classes (roots s p) p.heap ≡ going s p
same_going s rows p stand = ap (λ (k : ℕ). going_at k (roots s p) p.heap) stand.heap.classes
