-- What the look-ups answer where the rows stand.
use Rattle.std.proofs.Common.{◌≡◌, ℕ, ◌<◌, Bool, true, false, List, [], ◌∷◌, Option, Some, None, refl, ◌∙◌, ap, sym, subst, arith}
use Rattle.std.specs.Prelude.{◌==◌, ◌||◌, if◌then◌else◌, map, Result, Ok, Err, OnErr}
use Rattle.std.specs.List.{list_any}
use Rattle.std.specs.Option.{is_some as is_there}
use Rattle.std.specs.Map.{keys_of}
use Rattle.std.proofs.lemmas.Option.{same_Some}
use Rattle.jg_table_monitors.specs.declared.entering.Entering.TheVariants.{Entered, Busy}
use Rattle.jg_table_monitors.specs.declared.entering.Entering.{Entering}
use Rattle.jg_table_monitors.specs.declared.owned.Owned.{Owned}
use Rattle.jg_table_monitors.specs.declared.owned.Found.{Found}
use Rattle.jg_table_monitors.specs.declared.owned.Found.TheVariants.{Free, Own, Others}
use Rattle.jg_table_monitors.specs.History.{Event, count, owner, count_of, owner_count, is_some, held, entering}
use Rattle.jg_table_monitors.specs.Rows.{Rows, is_of, row_of, owner_in, count_in}
use Rattle.jg_table_monitors.specs.Seen.{seen, count_kept, finds}
use Rattle.jg_table_monitors.specs.Standing.{AllAllowed, rows_of, Stands}
use Rattle.jg_table_monitors.specs.Laws.{RowTells}
use Rattle.jg_lists.specs.ByThread.{at}
use Rattle.jg_lists.proofs.Acts.{at_key}
use Rattle.jg_lists.proofs.Lists.{first, find-filter}
use Rattle.jg_table_monitors.proofs.Counting.{owner_is, no_owner}
use Rattle.jg_table_monitors.proofs.Steps.{row_at, found_row, Tells, tells}

-- a value is seen as its view
pub reopened : (a b : Rows) (e : List Event) → a ≡ b → Stands b e → Stands a e
reopened a b e is stands =
    let P : Rows → Type 0 = λ v. Stands v e in
    subst P (sym is) stands

-- the row of an object is what a look-up finds
pub row_law : (es : List (ℕ × Owned)) (rows : Rows) (o : ℕ) → record { owned = map seen es } ≡ rows → row_of o rows ≡ row_at o (at o es)
row_law es rows o is = ap (row_of o) (sym is) ∙ found_row o es

owner_told : (e : List Event) (o : ℕ) (found : Option Owned) → AllAllowed e → Tells e o found → owner e o ≡ owner_in (row_at o found)
owner_told e o None all told = no_owner e o told
owner_told e o (Some w) all told =
    let some : 0 < count e w.tid o = omega (arith, told.0, told.1) in
    owner_is e w.tid o all some

pub owner_law : (es : List (ℕ × Owned)) (e : List Event) (o : ℕ) → Stands (record { owned = map seen es }) e → owner e o ≡ owner_in (row_at o (at o es))
owner_law es e o stands = owner_told e o (at o es) stands.allowed (tells es e o stands)

count_told : (e : List Event) (o : ℕ) (found : Option Owned) → AllAllowed e → Tells e o found → owner_count e o ≡ count_in (row_at o found)
count_told e o None all told = ap (count_of e o) (owner_told e o None all told)
count_told e o (Some w) all told = ap (count_of e o) (owner_told e o (Some w) all told) ∙ told.0

pub count_law : (es : List (ℕ × Owned)) (e : List Event) (o : ℕ) → Stands (record { owned = map seen es }) e → owner_count e o ≡ count_in (row_at o (at o es))
count_law es e o stands = count_told e o (at o es) stands.allowed (tells es e o stands)

is_owned : (o : ℕ) (found : Option Owned) → is_there found ≡ is_some (owner_in (row_at o found))
is_owned o None = refl
is_owned o (Some w) = refl

pub held_law : (es : List (ℕ × Owned)) (e : List Event) (o : ℕ) → Stands (record { owned = map seen es }) e → is_there (at o es) ≡ held e o
held_law es e o stands = is_owned o (at o es) ∙ ap is_some (sym (owner_law es e o stands))

owner_first : (e : List Event) (o : ℕ) (was : Option ℕ) → owner_in (first (rows_of e o was)) ≡ was
owner_first e o None = refl
owner_first e o (Some t) = refl

count_first : (e : List Event) (o : ℕ) (was : Option ℕ) → count_in (first (rows_of e o was)) ≡ count_of e o was
count_first e o None = refl
count_first e o (Some t) = refl

-- what any rows that stand tell
pub rows_law : (rows : Rows) (e : List Event) (o : ℕ) → Stands rows e → RowTells rows e o
rows_law rows e o stands =
    let row : row_of o rows ≡ first (rows_of e o (owner e o)) = find-filter (is_of o) rows.owned ∙ ap first (stands.owned o) in
    record {
      owner = ap owner_in row ∙ owner_first e o (owner e o);
      count = ap count_in row ∙ count_first e o (owner e o);
    }

-- ---- entering

-- what a thread is told of what it finds
abbrev answer_at : Found → Entering
answer_at Free = Entered
answer_at Own = Entered
answer_at Others = Busy

answer_by : (w : Owned) (b : Bool) → (if b then Entered else Busy) ≡ answer_at (if b then Own else Others)
answer_by w true = refl
answer_by w false = refl

answer_law : (t o : ℕ) (found : Option Owned) → answer_at (finds t found) ≡ entering t (owner_in (row_at o found))
answer_law t o None = refl
answer_law t o (Some w) = sym (answer_by w (w.tid == t))

-- by the rows, and by the events
pub row_answer : (es : List (ℕ × Owned)) (rows : Rows) (t o : ℕ) (is : Found) → record { owned = map seen es } ≡ rows → is ≡ finds t (at o es)
    → answer_at is ≡ entering t (owner_in (row_of o rows))
row_answer es rows t o is same found =
    ap answer_at found ∙ (answer_law t o (at o es) ∙ ap (λ row. entering t (owner_in row)) (sym (row_law es rows o same)))

pub event_answer : (es : List (ℕ × Owned)) (rows : Rows) (e : List Event) (t o : ℕ) (is : Found) → record { owned = map seen es } ≡ rows → Stands rows e
    → is ≡ finds t (at o es) → answer_at is ≡ entering t (owner e o)
event_answer es rows e t o is same stands found =
    ap answer_at found ∙ (answer_law t o (at o es) ∙ ap (entering t) (sym (owner_law es e o (reopened _ _ e same stands))))

-- the count that is kept is the one in the row
pub kept_law : (o : ℕ) (found : Option Owned) → count_kept found ≡ count_in (row_at o found)
kept_law o None = refl
kept_law o (Some w) = refl

-- ---- exiting

pub owned_law : (t o : ℕ) (found : Option Owned) → owner_in (row_at o found) ≡ Some t → (w : Owned) × ((found ≡ Some w) × (w.tid ≡ t))
owned_law t o None is = cc
owned_law t o (Some w) is = (w, (refl, same_Some w.tid t is))

-- ---- marks

keys_found : (o : ℕ) (e : ℕ × Owned) (es : List (ℕ × Owned)) (b : Bool) → list_any (λ k. k == o) (keys_of es) ≡ is_there (at o es)
    → (b || list_any (λ k. k == o) (keys_of es)) ≡ is_there (if b then Some e.1 else at o es)
keys_found o e es true is = refl
keys_found o e es false is = is

-- a key that is found is among the keys
key_law : (o : ℕ) (es : List (ℕ × Owned)) → list_any (λ k. k == o) (keys_of es) ≡ is_there (at o es)
key_law o [] = refl
key_law o (e ∷ es) = keys_found o e es (e.0 == o) (key_law o es) ∙ ap (λ b. is_there (if b then Some e.1 else at o es)) (sym (at_key o e.0))

pub any_key_law : (es : List (ℕ × Owned)) (e : List Event) (o : ℕ) → Stands (record { owned = map seen es }) e → list_any (λ k. k == o) (keys_of es) ≡ held e o
any_key_law es e o stands = key_law o es ∙ held_law es e o stands

-- a fact holds where a call failed, too
pub on_err : {T E : Type 0} (result : Result T E) (P : Type 0) → P → OnErr result P
on_err (Ok x) P p = tt
on_err (Err x) P p = p
