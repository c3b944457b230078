-- Where a mark stands between two spaces.
use Rattle.std.proofs.Common.{Some, ◌≡◌, ◌==◌, ◌<◌, ◌≤◌, ◌+◌, ◌-◌, ◌∙◌, ◌∷◌, ◌++◌, ℕ, Bool, true, false, List, length, take, drop, slice_index, refl, sym, ap, subst, arith, get_or-drop, length-take-le, take-append-drop, eqb-true}
use Rattle.std.specs.Prelude.{nat_lt}
use Rattle.std.proofs.lemmas.Bool.Decides.{nat_tests}
use Rattle.std.proofs.lemmas.List.{drop_more}
use Rattle.memchr.specs.Find.{Nowhere, Passes, is_byte}
use Rattle.jg_record.specs.Parts.{IsApart, IsMarkAt, NoMark, IsFirstMark, CutsAt}

-- the byte found behind a place stands so far behind it
pub here : (mark : ℕ) (text : List ℕ) (from k : ℕ) → Passes (is_byte mark) (drop from text) k → slice_index text (from + k) ≡ mark
here mark text from k passes = sym (get_or-drop from text k 0) ∙ eqb-true (slice_index (drop from text) k) mark passes

before_or : (mark : ℕ) (text : List ℕ) (from k j : ℕ) (b : Bool) → nat_lt j from ≡ b → NoMark mark text from
    → Nowhere (Passes (is_byte mark) (drop from text)) 0 k → j < from + k
    → ¬ IsMarkAt mark text j
before_or mark text from k j true low old none lt = old j (grind (arith, nat_tests, low))
before_or mark text from k j false high old none lt = λ mark_at.
    let past : from ≤ j = grind (arith, nat_tests, high) in
    let place : from + (j - from) ≡ j = omega (arith, past) in
    let is : slice_index (drop from text) (j - from) ≡ mark = get_or-drop from text (j - from) 0 ∙ ap (slice_index text) place ∙ mark_at.0 in
    none (j - from) (omega arith) (omega (arith, past, lt)) (let same : (slice_index (drop from text) (j - from) == mark) ≡ true = grind (arith, nat_tests, is)
    in same)

-- where none was found so far, and none comes up to there, there is none before it
pub none_ahead : (mark : ℕ) (text : List ℕ) (from k : ℕ) → NoMark mark text from → Nowhere (Passes (is_byte mark) (drop from text)) 0 k
    → NoMark mark text (from + k)
none_ahead mark text from k old none j lt = before_or mark text from k j (nat_lt j from) refl old none lt

here_or : (mark : ℕ) (text : List ℕ) (place j : ℕ) (b : Bool) → nat_lt j place ≡ b → NoMark mark text place → ¬ IsApart text place → j < place + 1
    → ¬ IsMarkAt mark text j
here_or mark text place j true low old alone lt = old j (grind (arith, nat_tests, low))
here_or mark text place j false high old alone lt = λ mark_at.
    let same : j ≡ place = grind (arith, nat_tests, high, lt) in
    alone (subst (IsApart text) same mark_at.1)

-- nor at this place, since no two spaces stand round it
pub none_here : (mark : ℕ) (text : List ℕ) (place : ℕ) → NoMark mark text place → ¬ IsApart text place → NoMark mark text (place + 1)
none_here mark text place old alone j lt = here_or mark text place j (nat_lt j place) refl old alone lt

-- a text round a mark
round : (mark : ℕ) (text : List ℕ) (before : ℕ) → IsMarkAt mark text (before + 1) → text ≡ take before text ++ 32 ∷ mark ∷ 32 ∷ drop (before + 3) text
round mark text before (is, (some, front, within, behind)) =
    let one : before + 1 - 1 ≡ before = omega arith in
    let first : slice_index text before ≡ 32 = ap (slice_index text) (sym one) ∙ front in
    let second : drop (before + 1) text ≡ mark ∷ drop (before + 2) text =
    drop_more text (before + 1) 0 (omega (arith, within)) ∙ ap (λ b. b ∷ drop (before + 1 + 1) text) is
    ∙ ap (λ n. mark ∷ drop n text) (let n : before + 1 + 1 ≡ before + 2 = omega arith in n) in
    let third : drop (before + 2) text ≡ 32 ∷ drop (before + 3) text =
    ap (λ n. drop n text) (let n : before + 2 ≡ before + 1 + 1 = omega arith in n) ∙ drop_more text (before + 1 + 1) 0 within
    ∙ ap (λ b. b ∷ drop (before + 1 + 1 + 1) text) behind
    ∙ ap (λ n. 32 ∷ drop n text) (let n : before + 1 + 1 + 1 ≡ before + 3 = omega arith in n) in
    sym (take-append-drop before text) ∙ ap (λ (rest : List ℕ). take before text ++ rest)
    (drop_more text before 0 (omega (arith, within)) ∙ ap (λ b. b ∷ drop (before + 1) text) first
    ∙ ap (λ (rest : List ℕ). 32 ∷ rest) (second ∙ ap (λ (rest : List ℕ). mark ∷ rest) third))

pub cut_round : (mark : ℕ) (text front back : List ℕ) (place : ℕ) → IsFirstMark mark text place → front ≡ take (place - 1) text → back ≡ drop (place + 2) text
    → CutsAt mark text front (Some back)
cut_round mark text front back place first front_is back_is =
    let some : 0 < place = first.is.1.0 in
    let within : place + 1 < length text = first.is.1.2 in
    let before : place - 1 + 1 ≡ place = omega (arith, some) in
    let behind : place - 1 + 3 ≡ place + 2 = omega (arith, some) in
    let long : length front ≡ place - 1 = ap length front_is ∙ length-take-le (place - 1) text (omega (arith, within)) in
    let counted : place ≡ length front + 1 = omega (arith, long, some) in (
      subst (IsFirstMark mark text) counted first,
      round mark text (place - 1) (subst (IsMarkAt mark text) (sym before) first.is) ∙ ap (λ n. take (place - 1) text ++ 32 ∷ mark ∷ 32 ∷ drop n text) behind
          ∙ ap (λ (f : List ℕ). f ++ 32 ∷ mark ∷ 32 ∷ drop (place + 2) text) (sym front_is) ∙ ap (λ (b : List ℕ). front ++ 32 ∷ mark ∷ 32 ∷ b) (sym back_is),
    )
