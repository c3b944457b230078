-- The newest frame of a thread.
use Rattle.std.proofs.Common.{◌≡◌, ℕ, zero, suc, Bool, true, false, List, [], ◌∷◌, ◌++◌, Option, Some, None, reverse, refl, ◌∙◌, sym, subst}
use Rattle.std.specs.Prelude.{◌==◌, if◌then◌else◌, filter, find}
use Rattle.std.specs.Option.{option_or}
use Rattle.std.proofs.lemmas.List.{reverse-append}
use Rattle.std.proofs.lemmas.List.Folds.{find-append}
use Rattle.jg_table_locals.specs.Seen.{last}
use Rattle.jg_table_locals.proofs.Chains.{last-push}
use Rattle.jg_table_locals.specs.History.{Act, Event, acts_of, has_session, depth, frames}
use Rattle.jg_table_locals.specs.Rows.{FrameRow}
use Rattle.jg_table_locals.specs.Rows.{Rows, top}
use Rattle.jg_table_locals.specs.Laws.{top_of_acts}
use Rattle.jg_table_locals.specs.Standing.{row_of_frame, rows_at, rows_up_to, open_frames, Stands}

last-append : {X : Type 0} (xs ys : List X) (y : X) → last ys ≡ Some y → last (xs ++ ys) ≡ Some y
last-append [] ys y is = is
last-append (x ∷ xs) ys y is = rw (last-append xs ys y is) refl

or_none : {X : Type 0} (o : Option X) → option_or o None ≡ o
or_none None = refl
or_none (Some x) = refl

-- searching from the end finds the last that passes
pub find-reverse : {X : Type 0} (p : X → Bool) (xs : List X) → find p (reverse xs) ≡ last (filter p xs)
find-reverse p [] = refl
find-reverse p (x ∷ xs) =
    let back : reverse (x ∷ xs) ≡ reverse xs ++ x ∷ [] = reverse-append (x ∷ []) xs in
    rw (back, find-append, find-reverse p xs)
    (elim (p x) as (λ b. option_or (last (filter p xs)) (if b then Some x else None) ≡ last (if b then x ∷ filter p xs else filter p xs))
    [ true ↦ refl | false ↦ or_none (last (filter p xs)) ])

last-rows_at : (t d k : ℕ) (acts : List Act) → last (rows_at t d k acts) ≡ Some (row_of_frame t d k acts)
last-rows_at t d zero acts = refl
last-rows_at t d (suc k) acts = last-push (rows_at t d k acts) _

last-rows_up_to : (t d : ℕ) (acts : List Act) → last (rows_up_to t d acts) ≡ Some (row_of_frame t d (frames d acts) acts)
last-rows_up_to t zero acts = last-rows_at t 0 (frames 0 acts) acts
last-rows_up_to t (suc d) acts =
    last-append (rows_up_to t d acts) (rows_at t (suc d) (frames (suc d) acts) acts) _ (last-rows_at t (suc d) (frames (suc d) acts) acts)

-- the newest frame is the newest at the present depth
last-open_frames : (t : ℕ) (acts : List Act) → last (open_frames t acts) ≡ top_of_acts t acts
last-open_frames t acts = elim (has_session acts) as (λ b. last (if b then rows_up_to t (depth acts) acts else [])
    ≡ (if b then Some (row_of_frame t (depth acts) (frames (depth acts) acts) acts) else None)) [ true ↦ last-rows_up_to t (depth acts) acts | false ↦ refl ]

pub top_told : (rows : Rows) (e : List Event) (t : ℕ) → Stands rows e → top t rows.frames ≡ top_of_acts t (acts_of t e)
top_told rows e t stands = rw (find-reverse (λ row. row.tid == t) rows.frames, stands.frames t) (last-open_frames t (acts_of t e))

tells : (t : ℕ) (acts : List Act) (r : FrameRow) (P : FrameRow → Type 0) (b : Bool) → has_session acts ≡ b
    → (if b then Some (row_of_frame t (depth acts) (frames (depth acts) acts) acts) else None) ≡ Some r
    → (has_session acts ≡ true → P (row_of_frame t (depth acts) (frames (depth acts) acts) acts)) → P r
tells t acts r P true is same holds =
    let row : row_of_frame t (depth acts) (frames (depth acts) acts) acts ≡ r = cc in
    subst P row (holds is)
tells t acts r P false is same holds = cc

-- what holds of the newest frame of the acts holds of the thread's newest row
pub by_top : (rows : Rows) (e : List Event) (t : ℕ) (r : FrameRow) (P : FrameRow → Type 0) → Stands rows e → top t rows.frames ≡ Some r
    → (has_session (acts_of t e) ≡ true → P (row_of_frame t (depth (acts_of t e)) (frames (depth (acts_of t e)) (acts_of t e)) (acts_of t e))) → P r
by_top rows e t r P stands is holds = tells t (acts_of t e) r P (has_session (acts_of t e)) refl (sym (top_told rows e t stands) ∙ is) holds

no_session : (t : ℕ) (acts : List Act) (b : Bool) → has_session acts ≡ b
    → if◌then◌else◌ {A = Option FrameRow} b (Some (row_of_frame t (depth acts) (frames (depth acts) acts) acts)) None ≡ None → has_session acts ≡ false
no_session t acts true is none = cc
no_session t acts false is none = is

pub by_no_top : (rows : Rows) (e : List Event) (t : ℕ) → Stands rows e → top t rows.frames ≡ None → has_session (acts_of t e) ≡ false
by_no_top rows e t stands is = no_session t (acts_of t e) (has_session (acts_of t e)) refl (sym (top_told rows e t stands) ∙ is)
