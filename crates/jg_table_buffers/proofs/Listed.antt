-- What the lists of buffers have.
use Rattle.std.proofs.Common.{◌≡◌, ◌<◌, ◌+◌, ℕ, Bool, true, false, List, [], ◌∷◌, ◌++◌, length, get_or, take, Option, Some, None, refl, ◌∙◌, ap, sym, subst, eqb-true}
use Rattle.std.specs.Prelude.{ℤ, ◌==◌, if◌then◌else◌, filter, map}
use Rattle.std.specs.BTreeMap.{is_at}
use Rattle.std.specs.Cmp.{nat_cmp_total, eq_by_cmp_equiv}
use Rattle.std.specs.Map.{keys_of}
use Rattle.std.specs.Ordering.{nat_cmp, eq_by_cmp}
use Rattle.std.proofs.lemmas.List.{append_assoc, append-nil, map-append, take_more}
use Rattle.std.proofs.lemmas.List.Elements.{filter-append}
use Rattle.std.proofs.lemmas.Map.{lookup-none}
use Rattle.std.proofs.lemmas.Map.Entries.{none_past_head}
use Rattle.std.proofs.lemmas.Map.Keys.{IsDistinct-tail}
use mathlib.Core.List.{map-map}
use Rattle.jg_lists.specs.declared.by_number.Numbered.{Numbered}
use Rattle.jg_lists.specs.ByNumber.{seen}
use Rattle.jg_lists.specs.ByMaker.{Name, entries, named, table_in, table_at}
use Rattle.jg_lists.specs.ByThread.{at, IsOnce}
use Rattle.jg_lists.proofs.Acts.{at_key}
use Rattle.jg_lists.proofs.Lists.{map-filter}
use Rattle.jg_lists.proofs.Tables.{named-append}
use Rattle.jg_words.specs.declared.buffer.BufId.{BufId}
use Rattle.jg_table_buffers.specs.declared.copied.Copied.{Copied}
use Rattle.jg_table_buffers.specs.declared.pinned.Pinned.{Pinned}
use Rattle.jg_table_buffers.specs.Rows.{Rows, name_of}
use Rattle.jg_table_buffers.specs.Seen.{copy_seen, pin_seen, key_name}

-- with the name of one key appended, those of the rest are left
pub listed_left : (key : ℕ × ℕ) (left rest : List (ℕ × ℕ)) (old new whole : List BufId) → left ≡ key ∷ rest → new ≡ old ++ key_name key ∷ []
    → old ++ map key_name left ≡ whole → new ++ map key_name rest ≡ whole
listed_left key left rest old new whole is now was =
    ap (λ l. l ++ map key_name rest) now
    ∙ append_assoc old (key_name key ∷ []) (map key_name rest)
    ∙ ap (λ l. old ++ map key_name l) (sym is)
    ∙ was

copy_names : {I : Type 0} (shows : I → List ℤ) (es : List ((ℕ × ℕ) × Copied I)) → map name_of (map (copy_seen shows) es) ≡ map key_name (keys_of es)
copy_names shows es = map-map name_of (copy_seen shows) es ∙ sym (map-map key_name (λ e. e.0) es)

pin_names : (es : List ((ℕ × ℕ) × Pinned)) → map name_of (map pin_seen es) ≡ map (λ e. key_name e.0) es
pin_names es = map-map name_of pin_seen es

-- the names of both kinds are those of the rows that the table shows
pub listed_law : {I : Type 0} (shows : I → List ℤ) (rows : Rows) (copies : List ((ℕ × ℕ) × Copied I)) (pins : List ((ℕ × ℕ) × Pinned))
    (old mid new : List BufId)
    → record { lent = map (copy_seen shows) copies ++ map pin_seen pins } ≡ rows
    → mid ≡ old ++ map key_name (keys_of copies)
    → new ≡ mid ++ map (λ (e : (ℕ × ℕ) × Pinned). key_name e.0) pins
    → new ≡ old ++ map name_of rows.lent
listed_law shows rows copies pins old mid new seen first second =
    let P : Rows → Type 0 = λ r. new ≡ old ++ map name_of r.lent in
    let names : map name_of (map (copy_seen shows) copies ++ map pin_seen pins)
    ≡ map key_name (keys_of copies) ++ map (λ (e : (ℕ × ℕ) × Pinned). key_name e.0) pins =
    map-append name_of (map (copy_seen shows) copies) (map pin_seen pins)
    ∙ ap (λ l. l ++ map name_of (map pin_seen pins)) (copy_names shows copies)
    ∙ ap (λ l. map key_name (keys_of copies) ++ l) (pin_names pins) in
    let listed = second
    ∙ ap (λ l. l ++ map (λ (e : (ℕ × ℕ) × Pinned). key_name e.0) pins) first
    ∙ append_assoc old (map key_name (keys_of copies)) (map (λ (e : (ℕ × ℕ) × Pinned). key_name e.0) pins)
    ∙ ap (λ l. old ++ l) (sym names) in
    subst P seen listed

-- ---- those that pass

module _ {V R : Type 0} (f : Name → R) (p : Name × V → Bool) where
  abbrev passing : List (Name × V) → List R
  passing es = map (λ e. f e.0) (filter p es)

  -- what is made of the names of one maker
  pub made_of : (maker : ℕ) (es : List (ℕ × V)) → map (λ e. f (maker, e.0)) (filter (λ e. p ((maker, e.0), e.1)) es) ≡ passing (entries maker es)
  made_of maker es =
      sym (map-map (λ (e : Name × V). f e.0) (λ (e : ℕ × V). ((maker, e.0), e.1)) (filter (λ e. p ((maker, e.0), e.1)) es))
      ∙ ap (map (λ (e : Name × V). f e.0)) (map-filter (λ (e : ℕ × V). ((maker, e.0), e.1)) (λ e. p ((maker, e.0), e.1)) p (λ e. refl) es)

  one_more : (tables : List (ℕ × List (ℕ × V))) (maker : ℕ) (es : List (ℕ × V))
      → passing (named (tables ++ (maker, es) ∷ [])) ≡ passing (named tables) ++ passing (entries maker es)
  one_more tables maker es =
      ap passing (named-append tables ((maker, es) ∷ []) ∙ ap (λ l. named tables ++ l) (append-nil (entries maker es)))
      ∙ ap (map (λ (e : Name × V). f e.0)) (filter-append p (named tables) (entries maker es))
      ∙ map-append (λ (e : Name × V). f e.0) (filter p (named tables)) (filter p (entries maker es))

  -- with those of one table more appended
  pub passing_more : (seats : List (Numbered (List (ℕ × V)))) (i : ℕ) (d : Numbered (List (ℕ × V))) (old mid new : List R) → i < length seats
      → mid ≡ old ++ passing (named (map seen (take i seats)))
      → new ≡ mid ++ map (λ e. f ((get_or seats i d).number, e.0)) (filter (λ e. p (((get_or seats i d).number, e.0), e.1)) (get_or seats i d).value)
      → new ≡ old ++ passing (named (map seen (take (i + 1) seats)))
  passing_more seats i d old mid new within was now =
      let more : map seen (take (i + 1) seats) ≡ map seen (take i seats) ++ seen (get_or seats i d) ∷ [] =
      ap (map seen) (take_more seats i d within) ∙ map-append seen (take i seats) (get_or seats i d ∷ []) in
      let own : List R = passing (entries (get_or seats i d).number (get_or seats i d).value) in
      now
      ∙ ap (λ l. mid ++ l) (made_of (get_or seats i d).number (get_or seats i d).value)
      ∙ ap (λ l. l ++ own) was
      ∙ append_assoc old (passing (named (map seen (take i seats)))) own
      ∙ ap (λ l. old ++ l)
      (sym (one_more (map seen (take i seats)) (get_or seats i d).number (get_or seats i d).value)
      ∙ ap (λ (es : List (ℕ × List (ℕ × V))). passing (named es)) (sym more))

-- what is made of the seats that pass
pub seats_passing : {V R : Type 0} (f : ℕ → R) (p : V → Bool) (seats : List (Numbered V)) (es : List (ℕ × V)) → map seen seats ≡ es
    → map (λ seat. f seat.number) (filter (λ seat. p seat.value) seats) ≡ map (λ e. f e.0) (filter (λ e. p e.1) es)
seats_passing {V} f p seats es is =
    sym (map-map (λ (e : ℕ × V). f e.0) seen (filter (λ seat. p seat.value) seats))
    ∙ ap (map (λ (e : ℕ × V). f e.0)) (map-filter seen (λ seat. p seat.value) (λ e. p e.1) (λ seat. refl) seats)
    ∙ ap (λ l. map (λ (e : ℕ × V). f e.0) (filter (λ e. p e.1) l)) is

-- ---- those of one maker

all_own : {V : Type 0} (t m : ℕ) (es : List (ℕ × V)) → (m == t) ≡ true → filter (λ e. e.0.0 == t) (entries m es) ≡ entries m es
all_own t m [] is = refl
all_own t m (e ∷ es) is = rw is (ap (λ l. ((m, e.0), e.1) ∷ l) (all_own t m es is))

none_own : {V : Type 0} (t m : ℕ) (es : List (ℕ × V)) → (m == t) ≡ false → filter (λ e. e.0.0 == t) (entries m es) ≡ []
none_own t m [] other = refl
none_own t m (e ∷ es) other = rw other (none_own t m es other)

own_head : {V : Type 0} (t : ℕ) (table : ℕ × List (ℕ × V)) (tables : List (ℕ × List (ℕ × V))) (b : Bool) → (table.0 == t) ≡ b → IsOnce (table ∷ tables)
    → filter (λ e. e.0.0 == t) (named tables) ≡ entries t (table_at t tables)
    → filter (λ e. e.0.0 == t) (entries table.0 table.1) ++ filter (λ e. e.0.0 == t) (named tables)
    ≡ entries t (table_in (if b then Some table.1 else at t tables))
own_head t table tables true is once later =
    let key : is_at (nat_cmp t) table.0 ≡ true = at_key t table.0 ∙ is in
    let none : at t tables ≡ None = lookup-none (is_at (nat_cmp t)) tables (none_past_head (eq_by_cmp_equiv nat_cmp_total) t table tables once key) in
    let empty = later ∙ ap (λ found. entries t (table_in found)) none in
    rw (all_own t table.0 table.1 is, empty, append-nil (entries table.0 table.1)) (ap (λ m. entries m table.1) (eqb-true table.0 t is))
own_head t table tables false is once later = rw (none_own t table.0 table.1 is) later

-- one maker's entries are those in its table
own_entries : {V : Type 0} (t : ℕ) (tables : List (ℕ × List (ℕ × V))) → IsOnce tables → filter (λ e. e.0.0 == t) (named tables) ≡ entries t (table_at t tables)
own_entries t [] once = refl
own_entries t (table ∷ tables) once =
    rw (filter-append, at_key t table.0)
    (own_head t table tables (table.0 == t) refl once (own_entries t tables (IsDistinct-tail (eq_by_cmp nat_cmp) table.0 (keys_of tables) once)))

pub own_names : {V R : Type 0} (f : Name → R) (t : ℕ) (tables : List (ℕ × List (ℕ × V))) (found : Option (List (ℕ × V))) → IsOnce tables → found ≡ at t tables
    → map (λ e. f (t, e.0)) (table_in found) ≡ map (λ e. f e.0) (filter (λ e. e.0.0 == t) (named tables))
own_names {V} f t tables found once is =
    ap (λ es. map (λ (e : ℕ × V). f (t, e.0)) (table_in es)) is
    ∙ sym (map-map (λ (e : Name × V). f e.0) (λ (e : ℕ × V). ((t, e.0), e.1)) (table_at t tables))
    ∙ ap (map (λ (e : Name × V). f e.0)) (sym (own_entries t tables once))
