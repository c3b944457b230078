-- The rows of all threads, gathered from their stacks.
use Rattle.std.proofs.Common.{◌≡◌, ℕ, Bool, true, false, List, [], ◌∷◌, ◌++◌, Some, refl, ◌∙◌, ap, sym}
use Rattle.std.specs.Prelude.{if◌then◌else◌, map, OnErr}
use Rattle.std.specs.Prelude.{Result}
use Rattle.std.specs.declared.result.Result.TheVariants.{Ok, Err}
use Rattle.std.specs.Map.{lookup, set_value}
use Rattle.std.proofs.lemmas.List.{append_assoc, append-nil}
use Rattle.jg_table_locals.specs.Seen.{StackRows, gather, locals_of, frames_of, rows_seen, local_row, frame_row}
use Rattle.jg_table_locals.specs.Rows.{Rows, LocalRow, FrameRow}

set_at : {V X : Type 0} (f : ℕ → V → List X) (test : ℕ → Bool) (e : ℕ × V) (es : List (ℕ × V)) (v w : V) (b : Bool)
    → (if b then Some e.1 else lookup test es) ≡ Some v → ((k : ℕ) → f k w ≡ f k v)
    → (lookup test es ≡ Some v → gather f (set_value test es w) ≡ gather f es)
    → gather f (if b then (e.0, w) ∷ es else e ∷ set_value test es w) ≡ f e.0 e.1 ++ gather f es
set_at f test e es v w true is same later =
    let one : e.1 ≡ v = cc in
    ap (λ l. l ++ gather f es) (same e.0 ∙ ap (f e.0) (sym one))
set_at f test e es v w false is same later = ap (λ l. f e.0 e.1 ++ l) (later is)

gather-set : {V X : Type 0} (f : ℕ → V → List X) (test : ℕ → Bool) (es : List (ℕ × V)) (v w : V) → lookup test es ≡ Some v → ((k : ℕ) → f k w ≡ f k v)
    → gather f (set_value test es w) ≡ gather f es
gather-set f test [] v w is same = refl
gather-set f test (e ∷ es) v w is same = set_at f test e es v w (test e.0) is same (λ h. gather-set f test es v w h same)

abbrev rows_by : List LocalRow → List FrameRow → Rows
rows_by ls fs = record { locals = ls; frames = fs }

both : (ls ms : List LocalRow) (fs gs : List FrameRow) → ls ≡ ms → fs ≡ gs → rows_by ls fs ≡ rows_by ms gs
both ls ms fs gs a b = ap (λ l. rows_by l fs) a ∙ ap (rows_by ms) b

-- a stack written back with the rows that it had
pub rows_written : (old new : List (ℕ × StackRows)) (test : ℕ → Bool) (v w : StackRows) → new ≡ set_value test old w → lookup test old ≡ Some v
    → w.locals ≡ v.locals → w.frames ≡ v.frames
    → rows_seen new ≡ rows_seen old
rows_written old new test v w written is locals frames =
    let a = gather-set locals_of test old v w is (λ k. ap (map (local_row k)) locals) in
    let b = gather-set frames_of test old v w is (λ k. ap (map (frame_row k)) frames) in
    ap rows_seen written ∙ both (gather locals_of (set_value test old w)) (gather locals_of old) (gather frames_of (set_value test old w))
    (gather frames_of old) a b

pub on_err : {T E P Q : Type 0} (r : Result T E) → OnErr r P → (P → Q) → OnErr r Q
on_err (Ok x) h f = tt
on_err (Err x) h f = f h

pub gather-append : {V X : Type 0} (f : ℕ → V → List X) (xs ys : List (ℕ × V)) → gather f (xs ++ ys) ≡ gather f xs ++ gather f ys
gather-append f [] ys = refl
gather-append f (x ∷ xs) ys = ap (λ l. f x.0 x.1 ++ l) (gather-append f xs ys) ∙ sym (append_assoc (f x.0 x.1) (gather f xs) (gather f ys))

-- a stack without rows adds none
gather-empty : {V X : Type 0} (f : ℕ → V → List X) (u : ℕ) (es : List (ℕ × V)) (w : V) → f u w ≡ [] → gather f (es ++ (u, w) ∷ []) ≡ gather f es
gather-empty f u es w none = gather-append f es ((u, w) ∷ []) ∙ ap (λ l. gather f es ++ (l ++ [])) none ∙ append-nil (gather f es)

pub rows_added : (old new : List (ℕ × StackRows)) (u : ℕ) (w : StackRows) → new ≡ old ++ (u, w) ∷ [] → w.locals ≡ [] → w.frames ≡ []
    → rows_seen new ≡ rows_seen old
rows_added old new u w added locals frames =
    let a = gather-empty locals_of u old w (ap (map (local_row u)) locals) in
    let b = gather-empty frames_of u old w (ap (map (frame_row u)) frames) in
    ap rows_seen added ∙ both (gather locals_of (old ++ (u, w) ∷ [])) (gather locals_of old) (gather frames_of (old ++ (u, w) ∷ [])) (gather frames_of old) a b
