-- What the end of a session leaves: no pinned buffer of its thread, and all others.
use Rattle.std.proofs.Common.{◌≡◌, ℕ, Bool, true, false, List, [], ◌∷◌, ◌++◌, Option, Some, None, refl, ◌∙◌, ap, sym}
use Rattle.std.specs.Prelude.{ℤ, ◌==◌, if◌then◌else◌, map, find}
use Rattle.std.specs.Option.{option_map, option_to_list}
use Rattle.std.specs.Map.{lookup}
use Rattle.std.proofs.lemmas.Option.{same_Some}
use Rattle.jg_lists.specs.ByMaker.{Name, same_name}
use Rattle.jg_table_buffers.specs.declared.copied.Copied.{Copied}
use Rattle.jg_table_buffers.specs.declared.pinned.Pinned.{Pinned}
use Rattle.jg_table_buffers.specs.History.{Buffer, Event, ReleaseAll, is_critical, copied_only, opened, items_now}
use Rattle.jg_table_buffers.specs.Rows.{Rows, is_buffer, row_of, KeepsNumbers}
use Rattle.jg_table_buffers.specs.Seen.{copy_seen, pin_seen}
use Rattle.jg_table_buffers.specs.Standing.{rows_of, Stands}
use Rattle.jg_table_buffers.proofs.Calls.{StayOnce, seen, still_exact}
use Rattle.jg_table_buffers.proofs.Lookups.{row_is, copies_free, pins_critical, still_lent}
use Rattle.jg_table_buffers.proofs.Maps.{found_row}
use Rattle.jg_table_buffers.proofs.Numbers.{keeps_numbers}
use Rattle.jg_table_buffers.proofs.Pins.{free_copy, head_is}
use Rattle.jg_table_buffers.proofs.Steps.{first_of, rows_kept, tells, stands_by}
use Rattle.jg_lists.proofs.Taken.{Clears}

no_rest : (a b : Buffer) (rest : List Buffer) → a ∷ rest ≡ b ∷ [] → rest ≡ []
no_rest a b rest is = cc

copy_left : (b : Buffer) → is_critical b.family ≡ false → copied_only (Some b) ≡ Some b
copy_left b free = rw free refl

pin_gone : (b : Buffer) → is_critical b.family ≡ true → copied_only (Some b) ≡ None
pin_gone b critical = rw critical refl

-- at a key of the thread a copy stays, and a pinned buffer goes
left_here : (e : List Event) (m n t : ℕ) (copy pin found : Option Buffer) → ((x : Buffer) → copy ≡ Some x → is_critical x.family ≡ false)
    → ((x : Buffer) → pin ≡ Some x → is_critical x.family ≡ true)
    → option_to_list copy ++ option_to_list pin ≡ rows_of e m n found
    → option_to_list copy ++ [] ≡ rows_of (ReleaseAll t ∷ e) m n (copied_only found)
left_here e m n t None None None free critical was = refl
left_here e m n t None None (Some b) free critical was = cc
left_here e m n t None (Some p) None free critical was = cc
left_here e m n t None (Some p) (Some b) free critical was =
    let row : Buffer = record b { items = items_now e m n b } in
    let gone : is_critical b.family ≡ true = ap (λ x. is_critical x.family) (sym (head_is p row [] was)) ∙ critical p refl in
    sym (ap (rows_of (ReleaseAll t ∷ e) m n) (pin_gone b gone))
left_here e m n t (Some q) pin None free critical was = cc
left_here e m n t (Some q) pin (Some b) free critical was =
    let row : Buffer = record b { items = items_now e m n b } in
    let left : is_critical b.family ≡ false = ap (λ x. is_critical x.family) (sym (head_is q row (option_to_list pin) was)) ∙ free q refl in
    ap (λ l. q ∷ l) (sym (no_rest q row (option_to_list pin) was))
    ∙ was
    ∙ sym (ap (rows_of (ReleaseAll t ∷ e) m n) (copy_left b left) ∙ rows_kept (ReleaseAll t ∷ e) e m n (Some b) (λ i. refl))

critical_pin : (q : Name) (found : Option Pinned) (x : Buffer) → option_map (λ w. pin_seen (q, w)) found ≡ Some x → is_critical x.family ≡ true
critical_pin q None x is = cc
critical_pin q (Some w) x is = ap (λ b. is_critical b.family) (sym (same_Some (pin_seen (q, w)) x is)) ∙ pins_critical w.kind

-- at any key, by whether it is the thread's
left_by : {I : Type 0} (shows : I → List ℤ) (e : List Event) (m n t : ℕ) (copy : Option (Copied I)) (pin : Option Pinned) (found : Option Buffer) (own : Bool)
    → option_to_list (option_map (λ w. copy_seen shows ((m, n), w)) copy) ++ option_to_list (option_map (λ w. pin_seen ((m, n), w)) pin) ≡ rows_of e m n found
    → option_to_list (option_map (λ w. copy_seen shows ((m, n), w)) copy) ++ option_to_list (option_map (λ w. pin_seen ((m, n), w)) (if own then None else pin))
    ≡ rows_of (ReleaseAll t ∷ e) m n (if own then copied_only found else found)
left_by shows e m n t copy pin found true was =
    left_here e m n t (option_map (λ w. copy_seen shows ((m, n), w)) copy) (option_map (λ w. pin_seen ((m, n), w)) pin) found (free_copy shows (m, n) copy)
    (critical_pin (m, n) pin) was
left_by shows e m n t copy pin found false was = was ∙ sym (rows_kept (ReleaseAll t ∷ e) e m n found (λ i. refl))

pub release_law : {I : Type 0} (shows : I → List ℤ) (es : List (Name × Copied I)) (fs others : List (Name × Pinned)) (e : List Event) (t : ℕ)
    → Stands (seen shows es fs) e → StayOnce fs others
    → Clears t fs others
    → Stands (seen shows es others) (ReleaseAll t ∷ e)
release_law shows es fs others e t stands once left = stands_by (map (copy_seen shows) es) (map pin_seen others) (ReleaseAll t ∷ e) (λ m n.
    let told = tells (map (copy_seen shows) es) (map pin_seen fs) e m n stands in
    let copy = found_row (copy_seen shows) (λ i j x. refl) m n es in
    let was = found_row pin_seen (λ i j x. refl) m n fs in
    let now : find (is_buffer m n) (map pin_seen others) ≡ option_map (λ w. pin_seen ((m, n), w)) (if t == m then None else lookup (same_name (m, n)) fs) =
    found_row pin_seen (λ i j x. refl) m n others ∙ ap (option_map (λ w. pin_seen ((m, n), w))) (left (m, n)) in
    let agrees = ap (λ c. option_to_list c ++ option_to_list (option_map (λ w. pin_seen ((m, n), w)) (lookup (same_name (m, n)) fs))) (sym copy)
    ∙ ap (λ p. option_to_list (find (is_buffer m n) (map (copy_seen shows) es)) ++ option_to_list p) (sym was)
    ∙ told.agrees in
    record {
      agrees = ap (λ c. option_to_list c ++ option_to_list (find (is_buffer m n) (map pin_seen others))) copy
          ∙ ap (λ p. option_to_list (option_map (λ w. copy_seen shows ((m, n), w)) (lookup (same_name (m, n)) es)) ++ option_to_list p) now
          ∙ left_by shows e m n t (lookup (same_name (m, n)) es) (lookup (same_name (m, n)) fs) (opened e m n) (t == m) agrees;
      copy = told.copy;
      pin = still_exact fs others m n once told.pin;
    })

row_by : {I : Type 0} (shows : I → List ℤ) (q : Name) (copy : Option (Copied I)) (pin : Option Pinned) (own : Bool)
    → first_of (option_map (λ w. copy_seen shows (q, w)) copy) (option_map (λ w. pin_seen (q, w)) (if own then None else pin))
    ≡ (if own then copied_only (first_of (option_map (λ w. copy_seen shows (q, w)) copy) (option_map (λ w. pin_seen (q, w)) pin))
    else first_of (option_map (λ w. copy_seen shows (q, w)) copy) (option_map (λ w. pin_seen (q, w)) pin))
row_by shows q (Some w) pin true = sym (copy_left (copy_seen shows (q, w)) (copies_free w.kind))
row_by shows q None (Some w) true = sym (pin_gone (pin_seen (q, w)) (pins_critical w.kind))
row_by shows q None None true = refl
row_by shows q copy pin false = refl

-- each row is as the event leaves the buffer
pub released_row : {I : Type 0} (shows : I → List ℤ) (es : List (Name × Copied I)) (fs others : List (Name × Pinned)) (rows : Rows) (t : ℕ)
    → seen shows es fs ≡ rows → Clears t fs others
    → (m n : ℕ) → row_of m n (seen shows es others) ≡ (if t == m then copied_only (row_of m n rows) else row_of m n rows)
released_row shows es fs others rows t view left m n =
    row_is shows es others (seen shows es others) m n refl
    ∙ ap (λ p. first_of (option_map (λ w. copy_seen shows ((m, n), w)) (lookup (same_name (m, n)) es)) (option_map (λ w. pin_seen ((m, n), w)) p)) (left (m, n))
    ∙ row_by shows (m, n) (lookup (same_name (m, n)) es) (lookup (same_name (m, n)) fs) (t == m)
    ∙ ap (λ row. if t == m then copied_only row else row) (sym (row_is shows es fs rows m n view))

pub released_numbers : {I : Type 0} (shows : I → List ℤ) (es : List (Name × Copied I)) (fs others : List (Name × Pinned)) (rows : Rows) (t : ℕ)
    → seen shows es fs ≡ rows → Clears t fs others
    → KeepsNumbers rows (seen shows es others)
released_numbers shows es fs others rows t view left = keeps_numbers rows (seen shows es others)
    (λ m n b found. (b, (still_lent (row_of m n rows) (t == m) b (sym (released_row shows es fs others rows t view left m n) ∙ found)).0))
