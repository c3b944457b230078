-- Marks that are set one after another.
use Rattle.std.proofs.Common.{◌≡◌, ◌≢◌, ◌<◌, ◌≤◌, ◌+◌, ◌-◌, length, get_or, drop, take, ℕ, Bool, true, false, List, Option, Some, None, refl, ◌∙◌, sym, ap, arith, inl, inr}
use Rattle.std.specs.Prelude.{◌==◌, ◌||◌, ◌⊎◌, All, false, map, min, slice_get, slice_set}
use Rattle.std.specs.List.{list_any}
use Rattle.std.specs.Option.{option_map}
use Rattle.std.proofs.lemmas.Bool.Decides.{nat_tests}
use Rattle.std.proofs.lemmas.List.{get_or-set_same, get_or-set_other, get_or-map, get_or_past, get_or-drop, get_or-take, length-map, length-set, length-take-le, map-set, take-set-le, take_all}
use Rattle.std.proofs.lemmas.List.Folds.{list_any_more}
use Rattle.std.proofs.lemmas.Bool.{cases_lt}
use Rattle.std.proofs.Math.Seq.{take-set-lt}
use Rattle.std.proofs.lemmas.Option.{get_or_from_slice_get, slice_get_past, slice_get-get_or}
use Rattle.std.proofs.Math.Bool.{or-false, or-true}
use Rattle.jg_lists.specs.Marks.{Marks, but_last, marks_in}

or_assoc : (a b c : Bool) → ((a || b) || c) ≡ (a || (b || c))
or_assoc true b c = refl
or_assoc false b c = refl

set_at : (marks : List Bool) (i o : ℕ) (b : Bool) → (i == o) ≡ b → o < length marks → get_or (slice_set marks i true) o false ≡ (get_or marks o false || b)
set_at marks i o true is within =
    let same : i ≡ o = grind (arith, nat_tests) in
    rw (same, get_or-set_same marks o true false within, or-true (get_or marks o false)) refl
set_at marks i o false is within =
    let apart : o ≢ i = grind (arith, nat_tests) in
    rw (get_or-set_other marks i o true false apart, or-false (get_or marks o false)) refl

within_or_past : (marks : List Bool) (i o : ℕ) → (o < length marks) ⊎ (length marks ≤ o)
    → slice_get (slice_set marks i true) o ≡ option_map (λ mark. mark || i == o) (slice_get marks o)
within_or_past marks i o (inl within) =
    let new : o < length (slice_set marks i true) = simp length-set within in
    rw (slice_get-get_or (slice_set marks i true) o false new, slice_get-get_or marks o false within) (ap Some (set_at marks i o (i == o) refl within))
within_or_past marks i o (inr past) =
    let new : length (slice_set marks i true) ≤ o = simp length-set past in
    rw (slice_get_past (slice_set marks i true) o new, slice_get_past marks o past) refl

-- one mark is set
marked : (marks : List Bool) (i : ℕ) → Marks (λ o. i == o) (slice_get marks) (slice_get (slice_set marks i true))
marked marks i o = within_or_past marks i o (cases_lt o (length marks))

marked_twice : (a b : Bool) (mark : Option Bool) → option_map (λ m. m || b) (option_map (λ m. m || a) mark) ≡ option_map (λ m. m || (a || b)) mark
marked_twice a b None = refl
marked_twice a b (Some m) = ap Some (or_assoc m a b)

same_mark : (mark : Option Bool) → mark ≡ option_map (λ m. m || false) mark
same_mark None = refl
same_mark (Some m) = ap Some (sym (or-false m))

-- none is set
pub marks_stay : (marks : ℕ → Option Bool) → Marks (λ o. false) marks marks
marks_stay marks o = same_mark (marks o)

-- ---- marks by the turn in which each was set last

pub length-but_last : (turns : List ℕ) → length (but_last turns) ≡ length turns - 1
length-but_last turns = length-take-le (length turns - 1) turns (omega arith)

-- a mark is set in this turn
noted : (turns : List ℕ) (turn i : ℕ) → Marks (λ o. i == o) (slice_get (map (λ t. t == turn) turns)) (slice_get (map (λ t. t == turn) (slice_set turns i turn)))
noted turns turn i =
    let now : (turn == turn) ≡ true = grind (arith, nat_tests) in
    rw (map-set (λ t. t == turn) turns i turn, now) (marked (map (λ t. t == turn) turns) i)

unset_at : (mark : Option Bool) (b : Bool) → b ≡ false → mark ≡ option_map (λ m. m || b) mark
unset_at None b unset = refl
unset_at (Some m) b unset = rw (unset, or-false m) refl

without_mark : (mark : Option Bool) (b : Bool) → mark ≡ None → mark ≡ option_map (λ m. m || b) mark
without_mark mark b none = rw none refl

within_or_none : {X : Type 0} (xs : List X) (d : X) (i : ℕ) → slice_get xs i ≡ None → (i < length xs) ⊎ (length xs ≤ i) → length xs ≤ i
within_or_none xs d i none (inl within) =
    let found : None ≡ Some (get_or xs i d) = sym none ∙ slice_get-get_or xs i d within in
    cc
within_or_none xs d i none (inr past) = past

past_of_none : {X : Type 0} (xs : List X) (d : X) (i : ℕ) → slice_get xs i ≡ None → length xs ≤ i
past_of_none xs d i none = within_or_none xs d i none (cases_lt i (length xs))

passed_by : (turns : List ℕ) (turn i o : ℕ) → length turns ≤ i → (o < length turns) ⊎ (length turns ≤ o)
    → slice_get (map (λ t. t == turn) turns) o ≡ option_map (λ mark. mark || i == o) (slice_get (map (λ t. t == turn) turns) o)
passed_by turns turn i o past (inl within) =
    let apart : (i == o) ≡ false = grind (arith, nat_tests) in
    unset_at (slice_get (map (λ t. t == turn) turns) o) (i == o) apart
passed_by turns turn i o past (inr out) =
    let none : length (map (λ t. t == turn) turns) ≤ o = simp length-map out in
    without_mark (slice_get (map (λ t. t == turn) turns) o) (i == o) (slice_get_past (map (λ t. t == turn) turns) o none)

-- an object without a mark is passed over
passed_over : (turns : List ℕ) (turn i : ℕ) → length turns ≤ i
    → Marks (λ o. i == o) (slice_get (map (λ t. t == turn) turns)) (slice_get (map (λ t. t == turn) turns))
passed_over turns turn i past o = passed_by turns turn i o past (cases_lt o (length turns))

-- an object is noted at its place, or at the last if that is of no object
noted_at : (turns : List ℕ) (turn i : ℕ) → 0 < length turns → (i < length turns - 1) ⊎ (length turns - 1 ≤ i)
    → Marks (λ o. i == o) (slice_get (marks_in turn turns)) (slice_get (marks_in turn (slice_set turns (min i (length turns - 1)) turn)))
noted_at turns turn i some (inl within) =
    let place : min i (length turns - 1) ≡ i = omega (arith, within) in
    let set : but_last (slice_set turns i turn) ≡ slice_set (but_last turns) i turn =
    ap (λ n. take (n - 1) (slice_set turns i turn)) (length-set turns i turn) ∙ take-set-lt (length turns - 1) turns i turn within in
    rw (place, set) (noted (but_last turns) turn i)
noted_at turns turn i some (inr past) =
    let place : min i (length turns - 1) ≡ length turns - 1 = omega (arith, past) in
    let set : but_last (slice_set turns (length turns - 1) turn) ≡ but_last turns =
    ap (λ n. take (n - 1) (slice_set turns (length turns - 1) turn)) (length-set turns (length turns - 1) turn)
    ∙ take-set-le (length turns - 1) turns (length turns - 1) turn (omega arith) in
    rw (place, set) (passed_over (but_last turns) turn i (omega (arith, past, length-but_last turns)))

pub noted_somewhere : (turns : List ℕ) (turn i : ℕ) → 0 < length turns
    → Marks (λ o. i == o) (slice_get (marks_in turn turns)) (slice_get (marks_in turn (slice_set turns (min i (length turns - 1)) turn)))
noted_somewhere turns turn i some = noted_at turns turn i some (cases_lt i (length turns - 1))

-- in a turn that is past all of them none is set
pub none_set : (turns : List ℕ) (turn o : ℕ) → All (λ t. t < turn) turns → o < length turns → slice_get (map (λ t. t == turn) turns) o ≡ Some false
none_set turns turn o past within =
    let inside : o < length (map (λ t. t == turn) turns) = simp length-map within in
    let below : get_or turns o 0 < turn = past o 0 within in
    let unset : (get_or turns o 0 == turn) ≡ false = grind (arith, nat_tests) in
    slice_get-get_or (map (λ t. t == turn) turns) o (0 == turn) inside ∙ ap Some (get_or-map (λ t. t == turn) turns o 0 (0 == turn) within ∙ unset)

unset_or_past : (turns : List ℕ) (turn o : ℕ) → All (λ t. t < turn) turns → (o < length turns) ⊎ (length turns ≤ o)
    → get_or (map (λ t. t == turn) turns) o false ≡ false
unset_or_past turns turn o past (inl within) = get_or_from_slice_get (map (λ t. t == turn) turns) o false false (none_set turns turn o past within)
unset_or_past turns turn o past (inr out) =
    let none : length (map (λ t. t == turn) turns) ≤ o = simp length-map out in
    get_or_past (map (λ t. t == turn) turns) o false none

pub unset : (turns : List ℕ) (turn o : ℕ) → All (λ t. t < turn) turns → get_or (map (λ t. t == turn) turns) o false ≡ false
unset turns turn o past = unset_or_past turns turn o past (cases_lt o (length turns))

-- the marks of objects in a row, as the turns of their places tell
pub set_from : (turns : List ℕ) (turn first n i : ℕ) → i < n → first + n ≤ length turns - 1
    → (get_or (take (first + n - first) (drop first turns)) i 0 == turn) ≡ get_or (marks_in turn turns) (first + i) false
set_from turns turn first n i within marked =
    ap (λ t. t == turn) (get_or-take (first + n - first) (drop first turns) i 0 (omega (arith, within)) ∙ get_or-drop first turns i 0
    ∙ sym (get_or-take (length turns - 1) turns (first + i) 0 (omega (arith, within, marked))))
    ∙ sym (get_or-map (λ t. t == turn) (but_last turns) (first + i) 0 false (omega (arith, within, marked, length-but_last turns)))

-- marks that are set in two turns
pub marks_more : (before last all : ℕ → Bool) (old mid new : ℕ → Option Bool) → Marks before old mid → Marks last mid new
    → ((o : ℕ) → all o ≡ (before o || last o)) → Marks all old new
marks_more before last all old mid new was now both o =
    now o ∙ ap (option_map (λ m. m || last o)) (was o) ∙ marked_twice (before o) (last o) (old o) ∙ ap (λ b. option_map (λ m. m || b) (old o)) (sym (both o))

-- the marks of what one more item of a list names
pub marks_item : {X : Type 0} (test : X → ℕ → Bool) (xs : List X) (i : ℕ) (d : X) (old mid new : ℕ → Option Bool) → i < length xs
    → Marks (λ o. list_any (λ x. test x o) (take i xs)) old mid
    → Marks (test (get_or xs i d)) mid new
    → Marks (λ o. list_any (λ x. test x o) (take (i + 1) xs)) old new
marks_item test xs i d old mid new within was now =
    marks_more (λ o. list_any (λ x. test x o) (take i xs)) (test (get_or xs i d)) (λ o. list_any (λ x. test x o) (take (i + 1) xs)) old mid new was now
    (λ o. list_any_more (λ x. test x o) xs i d within)

-- those of all items
pub marks_all : {X : Type 0} (test : X → ℕ → Bool) (xs : List X) (i : ℕ) (old new : ℕ → Option Bool) → length xs ≤ i
    → Marks (λ o. list_any (λ x. test x o) (take i xs)) old new
    → Marks (λ o. list_any (λ x. test x o) xs) old new
marks_all test xs i old new past was o = was o ∙ ap (λ l. option_map (λ m. m || list_any (λ x. test x o) l) (old o)) (take_all i xs past)

-- what is past a turn is not after it
pub at_most : (turns : List ℕ) (turn : ℕ) → All (λ t. t < turn) turns → All (λ t. t ≤ turn) turns
at_most turns turn past i d within = omega (arith, past i d within)

-- an object without a mark has none set
pub none_of_it : (turns : List ℕ) (turn i : ℕ) → slice_get turns i ≡ None → get_or (map (λ t. t == turn) turns) i false ≡ false
none_of_it turns turn i none =
    let out : length (map (λ t. t == turn) turns) ≤ i = simp length-map (past_of_none turns 0 i none) in
    get_or_past (map (λ t. t == turn) turns) i false out

-- ---- how many marks there are

none_before : (b : Bool) (mark : Option Bool) → option_map (λ m. m || b) mark ≡ None → mark ≡ None
none_before b None none = refl
none_before b (Some m) none = cc

-- to set marks makes none
pub marks_length : (test : ℕ → Bool) (old new : List Bool) → Marks test (slice_get old) (slice_get new) → length new ≡ length old
marks_length test old new are =
    let fewer : length new ≤ length old =
    past_of_none new false (length old) (are (length old) ∙ ap (option_map (λ m. m || test (length old))) (slice_get_past old (length old) (omega arith)))
    in
    let more : length old ≤ length new =
    past_of_none old false (length new)
    (none_before (test (length new)) (slice_get old (length new)) (sym (are (length new)) ∙ slice_get_past new (length new) (omega arith))) in
    omega (arith, fewer, more)
