-- An object past the last that was made.
use Rattle.std.proofs.Common.{◌≡◌, ℕ, ◌≤◌, ◌∙◌, List, [], ◌∷◌, false, refl, ap, sym, arith}
use Rattle.std.specs.Prelude.{◌==◌}
use Rattle.std.proofs.lemmas.Bool.Decides.{nat_tests}
use Rattle.jg_policy.specs.Stated.{StatedSetup, class_count}
use Rattle.jg_table_heap.specs.Making.{Plain}
use Rattle.jg_table_heap.specs.History.{Event, Made, Wrote, Collected, Went, count_of, making_at}
use Rattle.jg_rules.specs.Parts.{Parts, TableRows, TablesStand}

-- it counts as a class object
making_at-unmade : (k : ℕ) (e : List Event) (o : ℕ) → count_of k e ≤ o → making_at k e o ≡ Plain 1 []
making_at-unmade k [] o past = refl
making_at-unmade k (Made m ∷ e) o past =
    let other : (o == count_of k e) ≡ false = grind (arith, nat_tests) in
    rw other (making_at-unmade k e o (omega arith))
making_at-unmade k (Wrote p j v ∷ e) o past = making_at-unmade k e o past
making_at-unmade k (Collected roots ∷ e) o past = making_at-unmade k e o past
making_at-unmade k (Went p ∷ e) o past = making_at-unmade k e o past

-- so it does where the tables stand and the store has no such object
pub making_at-past : (setup : StatedSetup) (rows : TableRows) (p : Parts) (o len : ℕ) → TablesStand setup rows p → len ≡ count_of rows.heap.classes p.heap
    → len ≤ o
    → making_at (class_count setup) p.heap o ≡ Plain 1 []
making_at-past setup rows p o len stands is past =
    ap (λ k. making_at k p.heap o) (sym stands.heap.classes) ∙ making_at-unmade rows.heap.classes p.heap o (omega (arith, is, past))
