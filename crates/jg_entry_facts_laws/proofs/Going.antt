-- A collection is the going of each object that goes, one after the other.
use Rattle.std.proofs.Common.{ℕ, ◌≡◌, ◌≢◌, ◌+◌, ◌<◌, ◌≤◌, Bool, true, false, List, [], ◌∷◌, ◌++◌, map, zero, suc, refl, ap, sym, subst, ◌∙◌, arith}
use Rattle.std.specs.Prelude.{◌==◌, ◌&&◌, ◌||◌, not, nat_lt, filter, if◌then◌else◌}
use Rattle.std.specs.List.{list_any, range_with_len}
use Rattle.std.proofs.lemmas.Bool.Decides.{nat_tests}
use Rattle.std.proofs.lemmas.Bool.{and_parts, and_from}
use Rattle.jg_lists.proofs.Lists.{any_same}
use Rattle.jg_policy.specs.Stated.{StatedSetup, class_count}
use Rattle.jg_table_globals.specs.History as globals
use Rattle.jg_table_heap.specs.History as heap
use Rattle.jg_table_heap.proofs.Callers.{roots_law}
use Rattle.jg_rules.specs.Parts.{Parts}
use Rattle.jg_rules.specs.Names.{is_here}
use Rattle.jg_rules.specs.Holding.{is_root, roots, going}
use Rattle.jg_core.specs.declared.fact.Fact.TheVariants.{Gone}
use Rattle.jg_core.specs.Facts.{on, can_be}
use Rattle.jg_entry_facts_laws.specs.Entries.{gone_facts}
use Rattle.jg_entry_facts_laws.proofs.Globals.{all_cleared, clear_each}
use Rattle.jg_entry_facts_laws.proofs.Heap.{all_gone, go_each}
use Rattle.jg_entry_facts_laws.proofs.Alike.{Alike, same_root}
use Rattle.jg_entry_facts_laws.proofs.Steps.{globals_on, heap_on, same_here, on_all, CanAll, Told, on_more, can_more}
use Rattle.jg_entry_facts_laws.proofs.Own.{Known}

-- ---- the parts after it

went_is : (objects : List ℕ) (p : Parts) → on_all (gone_facts objects) p ≡ record p { globals = clear_each objects p.globals; heap = go_each objects p.heap }
went_is [] p = refl
went_is (o ∷ objects) p = on_more (gone_facts objects) (Gone (record { 0 = o }) ∷ []) p ∙ went_is objects (on (Gone (record { 0 = o })) p)

-- ---- each could be

-- what is cleared held nothing
held_still : (e : List globals.Event) (a o : ℕ) (ev : globals.Event) → globals.made_and_held (globals.Clear a ∷ e) o ev ≡ globals.made_and_held e o ev
held_still e a o (globals.MakeStrong k i p) = refl
held_still e a o (globals.MakeWeak k i p) = refl
held_still e a o (globals.DeleteStrong k i) = refl
held_still e a o (globals.DeleteWeak k i) = refl
held_still e a o (globals.Clear p) = refl

root_still : (p : Parts) (a o : ℕ) → is_root (on (Gone (record { 0 = a })) p) o ≡ is_root p o
root_still p a o = rw (any_same (globals.made_and_held (globals.Clear a ∷ p.globals) o) (globals.made_and_held p.globals o) p.globals
    (held_still p.globals a o)) refl

other_if : (g c : Bool) (same : Bool) → same ≡ false → (g || (same && c)) ≡ g
other_if true c same is = refl
other_if false c same is = rw is refl

here_still : (s : StatedSetup) (p : Parts) (a o : ℕ) → o ≢ a → is_here s (on (Gone (record { 0 = a })) p) o ≡ is_here s p o
here_still s p a o apart =
    let k : ℕ = class_count s in
    let no : (o == a) ≡ false = grind (arith, nat_tests, apart) in
    ap (λ (b : Bool). nat_lt o (heap.count_of k p.heap) && not b)
    (other_if (heap.gone_at k p.heap o) (nat_lt o (heap.count_of k p.heap) && not (nat_lt o k)) (o == a) no)

still_can : (s : StatedSetup) (p : Parts) (a o : ℕ) → o ≢ a → can_be s p (Gone (record { 0 = o })) ≡ true
    → can_be s (on (Gone (record { 0 = a })) p) (Gone (record { 0 = o })) ≡ true
still_can s p a o apart can = rw (here_still s p a o apart, root_still p a o) can

module _ (s : StatedSetup) (goes : ℕ → Bool) where
  -- each of these that goes could
  abbrev Ready : Parts → ℕ → ℕ → Type 0
  Ready p from to = (o : ℕ) → from ≤ o → o < to → goes o ≡ true → can_be s p (Gone (record { 0 = o })) ≡ true

  ready_later : (p : Parts) (a to : ℕ) → Ready p a to → Ready (on (Gone (record { 0 = a })) p) (a + 1) to
  ready_later p a to ready o from below is =
      let apart : o ≢ a = λ same. absurd (omega (arith, from, same)) in
      let low : a ≤ o = omega (arith, from) in
      still_can s p a o apart (ready o low below is)

  ready_past : (p : Parts) (a to : ℕ) → Ready p a to → Ready p (a + 1) to
  ready_past p a to ready o from below is = (let low : a ≤ o = omega (arith, from) in ready o low below is)

  went_if : (b : Bool) (a n to : ℕ) (p : Parts) → goes a ≡ b → a < to
      → ((r : Parts) → Ready r (a + 1) to → CanAll s (gone_facts (filter goes (range_with_len (a + 1) n))) r) → Ready p a to
      → CanAll s (gone_facts (if b then a ∷ filter goes (range_with_len (a + 1) n) else filter goes (range_with_len (a + 1) n))) p
  went_if true a n to p is below later ready =
      let low : a ≤ a = omega arith in
      can_more s (gone_facts (filter goes (range_with_len (a + 1) n))) (Gone (record { 0 = a }) ∷ []) p
      (later (on (Gone (record { 0 = a })) p) (ready_later p a to ready)) (ready a low below is, tt)
  went_if false a n to p is below later ready = later p (ready_past p a to ready)

  all_can : (n a to : ℕ) (p : Parts) → a + n ≤ to → Ready p a to → CanAll s (gone_facts (filter goes (range_with_len a n))) p
  all_can zero a to p within ready = tt
  all_can (suc n) a to p within ready =
      let below : a < to = omega (arith, within) in
      let rest : a + 1 + n ≤ to = omega (arith, within) in
      went_if (goes a) a n to p refl below (λ r later. all_can n (a + 1) to r rest later) ready

-- ---- a collection

unheld : (l r x : Bool) → not ((l || r) || x) ≡ true → (not l ≡ true) × (r ≡ false)
unheld true r x is = absurd (let no : ⊥ = cc in no)
unheld false true x is = absurd (let no : ⊥ = cc in no)
unheld false false x is = (refl, refl)

not_held : (s : StatedSetup) (p q : Parts) → Known s p q → (o : ℕ) → o < heap.count_of (class_count s) q.heap
    → (not (heap.gone_at (class_count s) q.heap o) && not (heap.held_at (class_count s) (roots s q) q.heap o)) ≡ true
    → can_be s p (Gone (record { 0 = o })) ≡ true
not_held s p q known o made is =
    let k : ℕ = class_count s in
    let parts = and_parts (not (heap.gone_at k q.heap o)) (not (heap.held_at k (roots s q) q.heap o)) is in
    let free = unheld (nat_lt o k) (list_any (λ r. r == o) (roots s q)) _ parts.1 in
    let below : nat_lt o (heap.count_of k q.heap) ≡ true = grind (arith, nat_tests, made) in
    let here : is_here s q o ≡ true = and_from (nat_lt o (heap.count_of k q.heap)) (not (heap.gone_at k q.heap o)) below parts.0 in
    let root : is_root q o ≡ false = sym (roots_law (is_root q) (heap.count_of k q.heap) o made) ∙ free.1 in
    and_from (is_here s p o) (not (nat_lt o k) && not (is_root p o)) (same_here s p q known.same o ∙ here)
    (and_from (not (nat_lt o k)) (not (is_root p o)) free.0 (ap not (same_root s p q o known.left known.right known.same ∙ root)))

pub collect_told : (s : StatedSetup) (p q : Parts) → Known s p q
    → Told s p (record q { globals = map (λ o. globals.Clear o) (going s q) ++ q.globals; heap = heap.Collected (roots s q) ∷ q.heap }) (gone_facts (going s q))
collect_told s p q known =
    let k : ℕ = class_count s in
    let goes : ℕ → Bool = λ o. not (heap.gone_at k q.heap o) && not (heap.held_at k (roots s q) q.heap o) in
    let n : ℕ = heap.count_of k q.heap in
    let whole : 0 + n ≤ n = omega arith in
    let a1 = globals_on s p q known.same (clear_each (going s q) p.globals) (map (λ o. globals.Clear o) (going s q) ++ q.globals)
    (all_cleared (going s q) p.globals q.globals known.same.globals) in
    let a2 = heap_on s _ _ a1 (go_each (going s q) p.heap) (heap.Collected (roots s q) ∷ q.heap) (all_gone k (roots s q) p.heap q.heap known.same.heap) in
    record {
      can = all_can s goes n 0 n p whole (λ o from below is. not_held s p q known o below is);
      alike =
          subst (λ (r : Parts).
          Alike s r (record q {
            globals = map (λ o. globals.Clear o) (going s q) ++ q.globals;
            heap = heap.Collected (roots s q) ∷ q.heap;
          })) (sym (went_is (going s q) p)) a2;
    }
