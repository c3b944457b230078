-- Lines taken one after another.
use Rattle.std.proofs.Common.{◌≡◌, ℕ, ◌<◌, ◌==◌, Bool, false, List, [], ◌∷◌, ◌++◌, length, Option, Some, None, ap, sym, ◌∙◌, append_assoc, refl, arith, length-append, subst}
use Rattle.std.specs.Io.KnownBytes.{Consumes, IsAtEnd}
use Rattle.std.specs.List.{slice_split, onto_first, AllByRecursion}
use Rattle.std.proofs.lemmas.List.{append-nil}
use Rattle.std.proofs.lemmas.List.Elements.{recursion_from_All}
use Rattle.std.proofs.lemmas.List.Splits.{slice_split_none, slice_split_at, length-slice_split, slice_split-cons_no}
use Rattle.std.proofs.lemmas.Bool.{ne_eqb}
use Rattle.std.proofs.KnownBytes.{Consumes-trans}
use Rattle.jg_lines.specs.Devices.{IsOneLine, TakesFront}
use Rattle.jg_lines.specs.TextLines.{lines_of, without_empty_last, LinesTaken, BeginsTooLong, HoldsLines, BeginsWith, AreFollowedBy, ReadsOneMore}

abbrev is_feed : ℕ → Bool
is_feed b = b == 10

wel_cons : (x : List ℕ) (ps : List (List ℕ)) → 0 < length ps → without_empty_last (x ∷ ps) ≡ x ∷ without_empty_last ps
wel_cons x [] h = absurd (omega arith)
wel_cons x (p ∷ ps) h = refl

wel_one : (x : List ℕ) → 0 < length x → without_empty_last (x ∷ []) ≡ x ∷ []
wel_one x h = rw (ne_eqb (length x) 0 (λ e. absurd (omega arith))) refl

first_line : (line rest : List ℕ) → IsOneLine line → lines_of (line ++ 10 ∷ rest) ≡ line ∷ lines_of rest
first_line line rest clean =
    ap without_empty_last (slice_split_at is_feed line 10 rest clean refl)
    ∙ wel_cons line (slice_split is_feed rest) (omega (arith, length-slice_split is_feed rest))

only_line : (line : List ℕ) → IsOneLine line → 0 < length line → lines_of line ≡ line ∷ []
only_line line clean some = ap without_empty_last (slice_split_none is_feed line clean) ∙ wel_one line some

pub line_taken : (old new : Option (List ℕ)) (line : List ℕ) → Consumes old new (line ++ 10 ∷ []) → IsOneLine line → LinesTaken old new (line ∷ [])
line_taken None new line e clean = tt
line_taken (Some text) None line e clean = absurd e
line_taken (Some text) (Some rest) line e clean = ap lines_of (e ∙ append_assoc line (10 ∷ []) rest) ∙ first_line line rest clean

pub last_taken : (old new : Option (List ℕ)) (line : List ℕ) → Consumes old new line → IsAtEnd new → IsOneLine line → 0 < length line
    → LinesTaken old new (line ∷ [])
last_taken None new line e done clean some = tt
last_taken (Some text) None line e done clean some = absurd e
last_taken (Some text) (Some rest) line e done clean some =
    ap lines_of (e ∙ ap (λ r. line ++ r) done ∙ append-nil line) ∙ only_line line clean some ∙ ap (λ r. line ∷ lines_of r) (sym done)

none_taken : (old new : Option (List ℕ)) (line : List ℕ) → Consumes old new line → line ≡ [] → LinesTaken old new []
none_taken None new line e none = tt
none_taken (Some text) None line e none = absurd e
none_taken (Some text) (Some rest) line e none = ap lines_of (e ∙ ap (λ l. l ++ rest) none)

pub lines_more : (a b c : Option (List ℕ)) (xs ys : List (List ℕ)) → LinesTaken a b xs → LinesTaken b c ys → LinesTaken a c (xs ++ ys)
lines_more None b c xs ys p q = tt
lines_more (Some ta) None c xs ys p q = absurd p
lines_more (Some ta) (Some tb) None xs ys p q = absurd q
lines_more (Some ta) (Some tb) (Some tc) xs ys p q = p ∙ ap (λ zs. xs ++ zs) q ∙ sym (append_assoc xs ys (lines_of tc))

-- a text goes on with what doesn't end its first piece
long_first : (xs rest : List ℕ) (q : List ℕ) (ps : List (List ℕ)) → AllByRecursion (λ b. is_feed b ≡ false) xs → slice_split is_feed rest ≡ q ∷ ps
    → slice_split is_feed (xs ++ rest) ≡ (xs ++ q) ∷ ps
long_first [] rest q ps clean e = e
long_first (x ∷ xs) rest q ps clean e =
    slice_split-cons_no is_feed x (xs ++ rest) clean.0 ∙ ap (onto_first x) (long_first xs rest q ps clean.1 e)

parts_of : (rest : List ℕ) (parts : List (List ℕ)) → 0 < length parts → (q : List ℕ) × (ps : List (List ℕ)) × (parts ≡ q ∷ ps)
parts_of rest [] h = absurd (omega arith)
parts_of rest (q ∷ ps) h = (q, ps, refl)

wel_first : (x : List ℕ) (ps : List (List ℕ)) → 0 < length x → (more : List (List ℕ)) × (without_empty_last (x ∷ ps) ≡ x ∷ more)
wel_first x [] h = ([], wel_one x h)
wel_first x (p ∷ ps) h = (without_empty_last (p ∷ ps), refl)

-- a front of the first line is too long, so the line is
long_line : (front rest q : List ℕ) (ps : List (List ℕ)) → slice_split is_feed rest ≡ q ∷ ps → IsOneLine front → length front ≡ 65537
    → BeginsTooLong (Some (front ++ rest))
long_line front rest q ps split clean long =
    let len = length-append front q in
    let more = wel_first (front ++ q) ps (omega arith) in
    (front ++ q, more.0, ap without_empty_last (long_first front rest q ps (recursion_from_All _ front clean) split) ∙ more.1, omega arith)

pub too_long : (old new : Option (List ℕ)) (line : List ℕ) → Consumes old new line → IsOneLine line → length line ≡ 65537 → BeginsTooLong old
too_long None new line e clean long = tt
too_long (Some text) None line e clean long = absurd e
too_long (Some text) (Some rest) line e clean long =
    let parts = parts_of rest (slice_split is_feed rest) (omega (arith, length-slice_split is_feed rest)) in
    subst (λ (t : List ℕ). BeginsTooLong (Some t)) (sym e) (long_line line rest parts.0 parts.1 parts.2 clean long)

-- what is known of the lines taken
pub followed : (a c : Option (List ℕ)) (xs : List (List ℕ)) (line : List ℕ) (P : List ℕ → Type 0) → LinesTaken a c (xs ++ line ∷ []) → P line
    → AreFollowedBy a xs P
followed None c xs line P e p = tt
followed (Some text) None xs line P e p = absurd e
followed (Some text) (Some rest) xs line P e p = (line, lines_of rest, e ∙ append_assoc xs (line ∷ []) (lines_of rest), p)

pub begun : (a c : Option (List ℕ)) (xs : List (List ℕ)) → LinesTaken a c xs → BeginsWith a xs
begun None c xs e = tt
begun (Some text) None xs e = absurd e
begun (Some text) (Some rest) xs e = (lines_of rest, e)

pub begun_before : (a c : Option (List ℕ)) (xs : List (List ℕ)) (line : List ℕ) → LinesTaken a c (xs ++ line ∷ []) → BeginsWith a xs
begun_before None c xs line e = tt
begun_before (Some text) None xs line e = absurd e
begun_before (Some text) (Some rest) xs line e = (line ∷ lines_of rest, e ∙ append_assoc xs (line ∷ []) (lines_of rest))

pub ended : (a c : Option (List ℕ)) (xs : List (List ℕ)) → LinesTaken a c xs → IsAtEnd c → HoldsLines a xs
ended None c xs e done = tt
ended (Some text) None xs e done = absurd e
ended (Some text) (Some rest) xs e done = e ∙ ap (λ r. xs ++ lines_of r) done ∙ append-nil xs

pub followed_by_more : (a : Option (List ℕ)) (xs : List (List ℕ)) (P Q : List ℕ → Type 0) → ((next : List ℕ) → P next → Q next) → AreFollowedBy a xs P
    → AreFollowedBy a xs Q
followed_by_more None xs P Q f p = tt
followed_by_more (Some text) xs P Q f (next, more, split, p) = (next, more, split, f next p)

-- what was read is a text that was read before, and a front of one more line
pub one_more : (input mid input' : Option (List ℕ)) (text : List ℕ) → Consumes input mid text → TakesFront mid input' → ReadsOneMore input input' text
one_more input mid input' text e (bytes, front, taken) = (bytes, front, Consumes-trans input mid input' text bytes e taken)
