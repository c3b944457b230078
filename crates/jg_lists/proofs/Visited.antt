-- What passes over all tables find and list.
use Rattle.std.proofs.Common.{◌≡◌, ◌<◌, ◌+◌, ℕ, Bool, List, [], ◌∷◌, ◌++◌, Option, length, get_or, take, refl, ◌∙◌, ap, sym}
use Rattle.std.specs.Prelude.{◌||◌, map}
use Rattle.std.specs.List.{list_any}
use Rattle.std.specs.Option.{option_map}
use Rattle.std.proofs.lemmas.List.{append_assoc, append-nil, map-append, take_more}
use Rattle.std.proofs.lemmas.List.Folds.{list_any-append}
use mathlib.Core.List.{map-map}
use Rattle.jg_lists.specs.declared.by_number.Numbered.{Numbered}
use Rattle.jg_lists.specs.ByNumber.{seen}
use Rattle.jg_lists.specs.Marks.{Marks}
use Rattle.jg_lists.proofs.Lists.{list_any-map}
use Rattle.jg_lists.proofs.Tables.{named-append}
use Rattle.jg_lists.specs.ByMaker.{Name, entries, named}

-- whether some value of a table passes
pub any_seat : {V : Type 0} (p : V → Bool) (seats : List (Numbered V)) (es : List (ℕ × V)) → map seen seats ≡ es
    → list_any (λ seat. p seat.value) seats ≡ list_any (λ e. p e.1) es
any_seat p seats es is = list_any-map seen (λ seat. p seat.value) (λ e. p e.1) (λ seat. refl) seats ∙ ap (list_any (λ e. p e.1)) is

any_named : {V : Type 0} (p : V → Bool) (tables : List (ℕ × List (ℕ × V)))
    → list_any (λ table. list_any (λ e. p e.1) table.1) tables ≡ list_any (λ e. p e.1) (named tables)
any_named p [] = refl
any_named {V} p (table ∷ tables) =
    ap (λ b. b || list_any (λ later. list_any (λ e. p e.1) later.1) tables)
    (list_any-map (λ (e : ℕ × V). ((table.0, e.0), e.1)) (λ e. p e.1) (λ e. p e.1) (λ e. refl) table.1)
    ∙ ap (λ b. list_any (λ e. p e.1) (entries table.0 table.1) || b) (any_named p tables)
    ∙ sym (list_any-append (λ e. p e.1) (entries table.0 table.1) (named tables))

-- whether some value of some table passes
pub any_table : {V : Type 0} (p : V → Bool) (seats : List (Numbered (List (ℕ × V)))) (tables : List (ℕ × List (ℕ × V))) → map seen seats ≡ tables
    → list_any (λ table. list_any (λ e. p e.1) table.value) seats ≡ list_any (λ e. p e.1) (named tables)
any_table p seats tables is =
    list_any-map seen (λ table. list_any (λ e. p e.1) table.value) (λ table. list_any (λ e. p e.1) table.1) (λ table. refl) seats
    ∙ ap (list_any (λ table. list_any (λ e. p e.1) table.1)) is
    ∙ any_named p tables

pub marks_alike : (f g : ℕ → Bool) (old new : ℕ → Option Bool) → ((o : ℕ) → f o ≡ g o) → Marks f old new → Marks g old new
marks_alike f g old new alike marks o = marks o ∙ ap (λ b. option_map (λ mark. mark || b) (old o)) (alike o)

-- ---- what is made of each name, in a list

-- what is made of the numbers of a table's seats
pub seat_names : {V R : Type 0} (f : ℕ → R) (seats : List (Numbered V)) (es : List (ℕ × V)) → map seen seats ≡ es
    → map (λ seat. f seat.number) seats ≡ map (λ e. f e.0) es
seat_names {V} f seats es is = sym (map-map (λ (e : ℕ × V). f e.0) seen seats) ∙ ap (map (λ (e : ℕ × V). f e.0)) is

-- what is made of the names of some tables, and then of one more
one_more : {V R : Type 0} (f : Name → R) (tables : List (ℕ × List (ℕ × V))) (maker : ℕ) (es : List (ℕ × V))
    → map (λ e. f e.0) (named (tables ++ (maker, es) ∷ [])) ≡ map (λ e. f e.0) (named tables) ++ map (λ e. f (maker, e.0)) es
one_more {V} f tables maker es =
    ap (map (λ (e : Name × V). f e.0)) (named-append tables ((maker, es) ∷ []) ∙ ap (λ l. named tables ++ l) (append-nil (entries maker es)))
    ∙ map-append (λ (e : Name × V). f e.0) (named tables) (entries maker es)
    ∙ ap (λ l. map (λ (e : Name × V). f e.0) (named tables) ++ l) (map-map (λ (e : Name × V). f e.0) (λ (e : ℕ × V). ((maker, e.0), e.1)) es)

-- with what is made of the names of one table more appended
pub listed_more : {V R : Type 0} (f : Name → R) (seats : List (Numbered (List (ℕ × V)))) (i : ℕ) (d : Numbered (List (ℕ × V))) (old mid new : List R)
    → i < length seats
    → mid ≡ old ++ map (λ e. f e.0) (named (map seen (take i seats)))
    → new ≡ mid ++ map (λ e. f ((get_or seats i d).number, e.0)) (get_or seats i d).value
    → new ≡ old ++ map (λ e. f e.0) (named (map seen (take (i + 1) seats)))
listed_more {V} {R} f seats i d old mid new within was now =
    let more : map seen (take (i + 1) seats) ≡ map seen (take i seats) ++ seen (get_or seats i d) ∷ [] =
    ap (map seen) (take_more seats i d within) ∙ map-append seen (take i seats) (get_or seats i d ∷ []) in
    let own : List R = map (λ (e : ℕ × V). f ((get_or seats i d).number, e.0)) (get_or seats i d).value in
    now
    ∙ ap (λ l. l ++ own) was
    ∙ append_assoc old (map (λ (e : Name × V). f e.0) (named (map seen (take i seats)))) own
    ∙ ap (λ l. old ++ l)
    (sym (one_more f (map seen (take i seats)) (get_or seats i d).number (get_or seats i d).value)
    ∙ ap (λ (es : List (ℕ × List (ℕ × V))). map (λ (e : Name × V). f e.0) (named es)) (sym more))
