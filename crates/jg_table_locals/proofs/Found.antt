-- The first live local of an object, over all stacks.
use Rattle.std.proofs.Common.{◌≡◌, ◌<◌, ◌+◌, ℕ, Bool, true, false, cond, List, [], ◌∷◌, ◌++◌, Option, Some, None, length, get_or, drop, refl, ◌∙◌, ap, sym, subst, arith, eqb-true}
use Rattle.std.specs.Prelude.{◌==◌, ◌&&◌, if◌then◌else◌, IfSome, filter, find, map}
use Rattle.std.specs.Option.{option_map, option_or, is_some}
use Rattle.std.proofs.lemmas.Bool.Decides.{nat_tests}
use Rattle.std.proofs.lemmas.List.{at_drop_more}
use Rattle.std.proofs.lemmas.List.Folds.{find-append}
use Rattle.jg_lists.specs.declared.by_number.Numbered.{Numbered}
use Rattle.jg_lists.specs.ByNumber.{seen}
use Rattle.jg_lists.proofs.Found.{found_in, is_found, any_found}
use Rattle.jg_lists.proofs.Lists.{Member, member_filter}
use Rattle.jg_table_locals.specs.declared.row.LocalSlot.{LocalSlot}
use Rattle.jg_table_locals.specs.History.{Event, acts_of, live_local, live, holds_object}
use Rattle.jg_table_locals.specs.Rows.{LocalRow, is_local}
use Rattle.jg_table_locals.specs.Seen.{StackRows, gather, locals_of, local_row, rows_seen, is_live}
use Rattle.jg_table_locals.specs.Standing.{Stands}
use Rattle.jg_table_locals.proofs.Held.{live_of_member, holds_law}

-- the first that is live and passes is the first of the live ones that passes
pub find_live : (p : LocalSlot → Bool) (slots : List LocalSlot) → find (λ s. s.live && p s) slots ≡ find p (filter is_live slots)
find_live p [] = refl
find_live p (s ∷ slots) = by s.live (find_live p slots)
  where
    by : (b : Bool) → find (λ s. s.live && p s) slots ≡ find p (filter is_live slots)
        → cond (b && p s) (Some s) (find (λ s. s.live && p s) slots) ≡ find p (if b then s ∷ filter is_live slots else filter is_live slots)
    by true later = ap (cond (p s) (Some s)) later
    by false later = later

-- the number of a stack's first live local of the object
abbrev pub number_in : ℕ → StackRows → Option ℕ
number_in o v = option_map (λ s. s.n) (find (λ s. s.object == o) v.locals)

-- the thread and the number of the first of all
abbrev pub name_in : ℕ → List (ℕ × StackRows) → Option (ℕ × ℕ)
name_in o es = option_map (λ row. (row.tid, row.n)) (find (λ row. row.object == o) (rows_seen es).locals)

-- it is one stack's, or else that of the others
name_first : (o t : ℕ) (v : StackRows) (es : List (ℕ × StackRows))
    → name_in o ((t, v) ∷ es) ≡ option_or (option_map {U = ℕ × ℕ} (λ n. (t, n)) (number_in o v)) (name_in o es)
name_first o t v es =
    ap (option_map {U = ℕ × ℕ} (λ (row : LocalRow). (row.tid, row.n))) (find-append (λ (row : LocalRow). row.object == o) (locals_of t v) (gather locals_of es))
    ∙ either (find (λ row. row.object == o) (locals_of t v)) (find (λ row. row.object == o) (gather locals_of es))
    ∙ ap (λ own. option_or own (name_in o es)) (sym (found_in {R = ℕ × ℕ} (local_row t) (λ row. row.object == o) (λ row. (row.tid, row.n)) v.locals)
    ∙ inside (find (λ s. s.object == o) v.locals))
  where
    either : (own later : Option LocalRow)
        → option_map {U = ℕ × ℕ} (λ (row : LocalRow). (row.tid, row.n)) (option_or own later)
        ≡ option_or (option_map {U = ℕ × ℕ} (λ (row : LocalRow). (row.tid, row.n)) own)
        (option_map {U = ℕ × ℕ} (λ (row : LocalRow). (row.tid, row.n)) later)
    either None later = refl
    either (Some row) later = refl

    inside : (found : Option LocalSlot)
        → option_map {U = ℕ × ℕ} (λ (s : LocalSlot). (t, s.n)) found ≡ option_map {U = ℕ × ℕ} (λ n. (t, n)) (option_map (λ (s : LocalSlot). s.n) found)
    inside None = refl
    inside (Some s) = refl

module _ (o : ℕ) (seats : List (Numbered StackRows)) (i : ℕ) (d : Numbered StackRows) (within : i < length seats)
    (rest : name_in o (map seen (drop i seats)) ≡ name_in o (map seen seats)) where
  from_here : option_or (option_map {U = ℕ × ℕ} (λ n. ((get_or seats i d).number, n)) (number_in o (get_or seats i d).value))
      (name_in o (map seen (drop (i + 1) seats))) ≡ name_in o (map seen seats)
  from_here =
      sym (name_first o (get_or seats i d).number (get_or seats i d).value (map seen (drop (i + 1) seats)))
      ∙ sym (at_drop_more (λ l. name_in o (map seen l)) seats i d within) ∙ rest

  -- a stack has none, so that it is that of the stacks behind
  pub name_past : None ≡ number_in o (get_or seats i d).value → name_in o (map seen (drop (i + 1) seats)) ≡ name_in o (map seen seats)
  name_past none = ap (λ own. option_or (option_map {U = ℕ × ℕ} (λ n. ((get_or seats i d).number, n)) own) (name_in o (map seen (drop (i + 1) seats)))) none
      ∙ from_here

  -- a stack has one
  pub name_here : (n : ℕ) → Some n ≡ number_in o (get_or seats i d).value
      → ◌≡◌ {A = Option (ℕ × ℕ)} (Some ((get_or seats i d).number, n)) (name_in o (map seen seats))
  name_here n found = ap (λ own. option_or (option_map {U = ℕ × ℕ} (λ k. ((get_or seats i d).number, k)) own) (name_in o (map seen (drop (i + 1) seats)))) found
      ∙ from_here

-- ---- what it tells where the rows stand

-- one is found where the object is held
pub found_law : (es : List (ℕ × StackRows)) (e : List Event) (o : ℕ) → Stands (rows_seen es) e → is_some (name_in o es) ≡ holds_object e o
found_law es e o stands = any_found {Y = ℕ × ℕ} (λ (row : LocalRow). (row.tid, row.n)) (λ row. row.object == o) (rows_seen es).locals
    ∙ holds_law (rows_seen es) e o stands

-- and it is live, and names the object
pub named_law : (es : List (ℕ × StackRows)) (e : List Event) (o : ℕ) → Stands (rows_seen es) e
    → IfSome (name_in o es) (λ name. live name.1 (acts_of name.0 e) ≡ Some o)
named_law es e o stands = by (find (λ row. row.object == o) (rows_seen es).locals) (is_found (λ row. row.object == o) (rows_seen es).locals)
  where
    row_live : (row : LocalRow) → Member row (rows_seen es).locals → (row.object == o) ≡ true → live row.n (acts_of row.tid e) ≡ Some o
    row_live row there is =
        let mine : is_local row.tid row.n row ≡ true = grind (arith, nat_tests) in
        let kept = subst (λ l. Member row l) (stands.locals row.tid row.n) (member_filter (is_local row.tid row.n) row (rows_seen es).locals there mine) in
        live_of_member row.tid row.n o row (live_local row.n (acts_of row.tid e)) kept (eqb-true row.object o is)

    by : (found : Option LocalRow) → IfSome found (λ row. Member row (rows_seen es).locals × ((row.object == o) ≡ true))
        → IfSome (option_map {U = ℕ × ℕ} (λ (row : LocalRow). (row.tid, row.n)) found) (λ name. live name.1 (acts_of name.0 e) ≡ Some o)
    by None all = tt
    by (Some row) all = row_live row all.0 all.1
