-- What the list of references has.
use Rattle.std.proofs.Common.{◌≡◌, ◌<◌, ◌+◌, ℕ, List, [], ◌∷◌, ◌++◌, length, get_or, take, ◌∙◌, ap, sym}
use Rattle.std.specs.Prelude.{map}
use Rattle.std.proofs.lemmas.List.{append_assoc, append-nil, map-append, take_more}
use mathlib.Core.List.{map-map}
use Rattle.jg_words.specs.declared.reference.Ref.{Ref}
use Rattle.jg_lists.specs.declared.by_number.Numbered.{Numbered}
use Rattle.jg_lists.specs.ByNumber.{seen}
use Rattle.jg_table_locals.specs.Rows.{local_ref}
use Rattle.jg_table_locals.specs.Seen.{StackRows, gather, locals_of, local_row, rows_seen, slot_ref}
use Rattle.jg_table_locals.proofs.Gathered.{gather-append}

-- the references of some stacks, and then those of one more
one_more : (es : List (ℕ × StackRows)) (t : ℕ) (v : StackRows)
    → map local_ref (rows_seen (es ++ (t, v) ∷ [])).locals ≡ map local_ref (rows_seen es).locals ++ map (slot_ref t) v.locals
one_more es t v =
    ap (map local_ref) (gather-append locals_of es ((t, v) ∷ []) ∙ ap (λ l. gather locals_of es ++ l) (append-nil (locals_of t v)))
    ∙ map-append local_ref (gather locals_of es) (locals_of t v)
    ∙ ap (λ l. map local_ref (gather locals_of es) ++ l) (map-map local_ref (local_row t) v.locals)

-- with the references of one stack more appended
pub listed_more : (seats : List (Numbered StackRows)) (i : ℕ) (d : Numbered StackRows) (old mid new : List Ref)
    → i < length seats → mid ≡ old ++ map local_ref (rows_seen (map seen (take i seats))).locals
    → new ≡ mid ++ map (slot_ref (get_or seats i d).number) (get_or seats i d).value.locals
    → new ≡ old ++ map local_ref (rows_seen (map seen (take (i + 1) seats))).locals
listed_more seats i d old mid new within was now =
    let more : map seen (take (i + 1) seats) ≡ map seen (take i seats) ++ seen (get_or seats i d) ∷ [] =
    ap (map seen) (take_more seats i d within) ∙ map-append seen (take i seats) (get_or seats i d ∷ []) in
    now
    ∙ ap (λ l. l ++ map (slot_ref (get_or seats i d).number) (get_or seats i d).value.locals) was
    ∙ append_assoc old (map local_ref (rows_seen (map seen (take i seats))).locals) (map (slot_ref (get_or seats i d).number) (get_or seats i d).value.locals)
    ∙ ap (λ l. old ++ l)
    (sym (one_more (map seen (take i seats)) (get_or seats i d).number (get_or seats i d).value)
    ∙ ap (λ (es : List (ℕ × StackRows)). map local_ref (rows_seen es).locals) (sym more))
