-- The units read so far, and what is left.
use Rattle.std.proofs.Common.{ℕ, ℤ, pos, ◌≡◌, ◌+◌, ◌<◌, ◌^◌, ◌∙◌, sym, ap, List, [], ◌∷◌, ◌++◌, length, map, drop, arith, length-drop, append_assoc}
use Rattle.std.specs.List.{flat_map}
use Rattle.std.proofs.lemmas.List.{map-append, append_cancel_left, append-nil}
use Rattle.std.proofs.lemmas.Grind.{flat_map-append}
use Rattle.jg_table_heap.specs.Spelling.{spelling, AreUnits, IsSpeltInItems}

pub AreUnits-push : (units : List ℕ) (u : ℕ) → AreUnits units → u < 2 ^ 16 → AreUnits (units ++ u ∷ [])
AreUnits-push [] u h b = (b, tt)
AreUnits-push (x ∷ units) u h b = (h.0, AreUnits-push units u h.1 b)

pub spelling-push : (units : List ℕ) (u : ℕ) → flat_map spelling (units ++ u ∷ []) ≡ flat_map spelling units ++ spelling u
spelling-push units u = flat_map-append spelling units (u ∷ []) ∙ ap (λ (xs : List ℕ). flat_map spelling units ++ xs) (append-nil (spelling u))

pub front_more : (items : List ℤ) (units : List ℕ) (at u len : ℕ) → items ≡ map pos (flat_map spelling units) ++ drop at items
    → drop at items ≡ map pos (spelling u) ++ drop (at + len) items
    → items ≡ map pos (flat_map spelling (units ++ u ∷ [])) ++ drop (at + len) items
front_more items units at u len h g =
    h ∙ ap (λ (xs : List ℤ). map pos (flat_map spelling units) ++ xs) g
    ∙ sym (append_assoc (map pos (flat_map spelling units)) (map pos (spelling u)) (drop (at + len) items))
    ∙ ap (λ (xs : List ℤ). xs ++ drop (at + len) items)
    (sym (map-append pos (flat_map spelling units) (spelling u)) ∙ ap (map pos) (sym (spelling-push units u)))

nonempty : (items : List ℤ) (at : ℕ) → at < length items → drop at items ≡ [] → ⊥
nonempty items at h e = let n : length (drop at items) ≡ 0 = ap length e in omega (arith, length-drop at items)

pub front_of : (v : ℕ) (tail : List ℕ) → map pos (flat_map spelling (v ∷ tail)) ≡ map pos (spelling v) ++ map pos (flat_map spelling tail)
front_of v tail = map-append pos (spelling v) (flat_map spelling tail)

-- what spells the rest goes on with the unit that was read
pub rest_more : (items : List ℤ) (at u len : ℕ) → at < length items → drop at items ≡ map pos (spelling u) ++ drop (at + len) items
    → ((v : ℕ) (tail : List ℤ) → v < 2 ^ 16 → drop at items ≡ map pos (spelling v) ++ tail → u ≡ v)
    → (tail : List ℕ) → IsSpeltInItems tail (drop at items) → (left : List ℕ) × IsSpeltInItems left (drop (at + len) items)
rest_more items at u len h g only [] s = absurd (nonempty items at h s.1)
rest_more items at u len h g only (v ∷ tail) s =
    let begins : drop at items ≡ map pos (spelling v) ++ map pos (flat_map spelling tail) = s.1 ∙ front_of v tail in
    let same : u ≡ v = only v (map pos (flat_map spelling tail)) s.0.0 begins in
    let both : map pos (spelling u) ++ drop (at + len) items ≡ map pos (spelling u) ++ map pos (flat_map spelling tail) =
    sym g ∙ begins ∙ ap (λ w. map pos (spelling w) ++ map pos (flat_map spelling tail)) (sym same) in
    (tail, (s.0.1, append_cancel_left (map pos (spelling u)) _ _ both))

pub none_left : (items : List ℤ) (at : ℕ) → at < length items → ((v : ℕ) (tail : List ℤ) → v < 2 ^ 16 → drop at items ≡ map pos (spelling v) ++ tail → ⊥)
    → (tail : List ℕ)
    → IsSpeltInItems tail (drop at items) → ⊥
none_left items at h none [] s = nonempty items at h s.1
none_left items at h none (v ∷ tail) s = none v (map pos (flat_map spelling tail)) s.0.0 (s.1 ∙ front_of v tail)
