-- The text of an event is one line, no comment, and has no mark: it is its own event.
use Rattle.std.proofs.Common.{◌≡◌, ◌≢◌, ◌∙◌, ◌==◌, ◌<◌, ◌≤◌, ◌+◌, ◌-◌, ◌∷◌, ◌++◌, ℕ, Bool, true, false, List, [], All, get_or, length, length-append, take, drop, Option, Some, None, refl, sym, ap, subst, arith, inl, inr, ◌⊎◌}
use Rattle.std.specs.Prelude.{zero, suc, nat_lt, slice_index}
use Rattle.std.specs.Int.{IsInRange}
use Rattle.std.specs.List.{AllByRecursion, onto_first, slice_split}
use Rattle.std.specs.Fmt.{decimal}
use Rattle.std.proofs.lemmas.Bool.Decides.{nat_tests}
use Rattle.std.proofs.lemmas.List.{get_or_append_left}
use Rattle.std.proofs.Math.Seq.{get_or-append_seam}
use Rattle.std.proofs.lemmas.List.Splits.{length-slice_split, slice_split-cons_yes, slice_split-cons_no}
use Rattle.jg_policy.specs.Stated.{StatedSetup}
use Rattle.jg_words.specs.declared.object.ObjId.{ObjId}
use Rattle.jg_text.specs.Words.{tid_text}
use Rattle.jg_text.specs.Faults.{fields}
use Rattle.jg_text.specs.Pieces.{after_spaces}
use Rattle.jg_text.proofs.Cuts.{IsClean, join_fields}
use Rattle.jg_text.proofs.Laws.{IsVisible}
use Rattle.jg_judge.specs.declared.argument.Argument.{Argument}
use Rattle.jg_record.specs.declared.event.Event.{Event}
use Rattle.jg_record.specs.Events.{SpellsEvent}
use Rattle.jg_record.specs.Parts.{AreParts, CutsAt, IsFirstMark, IsMarkAt, NoMark}
use Rattle.jg_record.proofs.Appending.{fields_after, printable_after}
use Rattle.jg_record.proofs.Cutting.{cut_round}
use Rattle.jg_record_laws.specs.Laws.{FitsSetup}
use Rattle.jg_record_laws.proofs.Cut.{cut_once}
use Rattle.jg_record_laws.proofs.Parts.{HasParts, IsPart, has_parts}

-- it stands nowhere in the text between two spaces
pub record NoMarks (text : List ℕ) : Type 0 where
  pub equals : NoMark 61 text (length text)
  pub at : NoMark 64 text (length text)

-- a text begins with `T`, is printable, so that it has no line feed, and has no mark
pub record IsOwnLine (text : List ℕ) : Type 0 where
  pub rest : List ℕ
  pub begins : text ≡ 84 ∷ rest
  pub printable : All (λ b. IsInRange 32 126 b) text
  pub clean : IsClean 10 text
  pub marks : NoMarks text

-- ---- fields round a byte

onto_more : (x : ℕ) (parts more : List (List ℕ)) → 0 < length parts → onto_first x (parts ++ more) ≡ onto_first x parts ++ more
onto_more x [] more some = absurd (omega (arith, some))
onto_more x (part ∷ parts) more some = refl

split_more : (p : ℕ → Bool) (c : ℕ) (xs ys : List ℕ) → p c ≡ true → slice_split p (xs ++ c ∷ ys) ≡ slice_split p xs ++ slice_split p ys
split_more p c [] ys is = slice_split-cons_yes p c ys is
split_more p c (x ∷ xs) ys is = by (split_more p c xs ys is) (p x) refl
  where
    by : slice_split p (xs ++ c ∷ ys) ≡ slice_split p xs ++ slice_split p ys → (b : Bool) → p x ≡ b
        → slice_split p (x ∷ (xs ++ c ∷ ys)) ≡ slice_split p (x ∷ xs) ++ slice_split p ys
    by more true cut = slice_split-cons_yes p x (xs ++ c ∷ ys) cut
        ∙ (ap (λ (parts : List (List ℕ)). [] ∷ parts) more ∙ ap (λ (parts : List (List ℕ)). parts ++ slice_split p ys) (sym (slice_split-cons_yes p x xs cut)))
    by more false other = slice_split-cons_no p x (xs ++ c ∷ ys) other
        ∙ (ap (onto_first x) more
        ∙ (onto_more x (slice_split p xs) (slice_split p ys) (omega (arith, length-slice_split p xs))
        ∙ ap (λ (parts : List (List ℕ)). parts ++ slice_split p ys) (sym (slice_split-cons_no p x xs other))))

among : (P : List ℕ → Type 0) (front : List (List ℕ)) (word : List ℕ) (back : List (List ℕ)) → AllByRecursion P (front ++ word ∷ back) → P word
among P [] word back all = all.0
among P (x ∷ front) word back all = among P front word back all.1

-- ---- marks

last : (k n : ℕ) → nat_lt k n ≡ false → k < suc n → k ≡ n
last k n high lt = grind (arith, nat_tests, high, lt)

earlier : (k n : ℕ) → nat_lt k n ≡ true → k < n
earlier k n low = grind (arith, nat_tests, low)

-- where it can stand nowhere first, it stands nowhere
nowhere : (mark : ℕ) (text : List ℕ) → ((place : ℕ) → ¬ IsFirstMark mark text place) → (n : ℕ) → NoMark mark text n
nowhere mark text none zero k lt = absurd (omega (arith, lt))
nowhere mark text none (suc n) k lt = λ is.
    elim (nat_lt k n) as (λ b. nat_lt k n ≡ b → ⊥) [
      | true ↦ λ low. nowhere mark text none n k (earlier k n low) is
      | false ↦ λ high. let same = last k n high lt in
          none n (record { is = subst (IsMarkAt mark text) same is; first = nowhere mark text none n })
    ] refl

-- what stands between two spaces is a field
no_first : (mark : ℕ) (text : List ℕ) → ((back : List ℕ) → fields (mark ∷ 32 ∷ back) ≡ (mark ∷ []) ∷ fields back)
    → (words : List (List ℕ)) → fields text ≡ words → ((back : List (List ℕ)) (front : List (List ℕ)) → words ≢ front ++ (mark ∷ []) ∷ back)
    → (place : ℕ) → ¬ IsFirstMark mark text place
no_first mark text alone words split none place first =
    let cut = cut_round mark text (take (place - 1) text) (drop (place + 2) text) place first refl refl in
    let whole : fields text ≡ fields (take (place - 1) text) ++ (mark ∷ []) ∷ fields (drop (place + 2) text) =
    ap fields cut.1
    ∙ (split_more (λ b. b == 32) 32 (take (place - 1) text) (mark ∷ 32 ∷ drop (place + 2) text) refl
    ∙ ap (λ (parts : List (List ℕ)). fields (take (place - 1) text) ++ parts) (alone (drop (place + 2) text))) in
    none (fields (drop (place + 2) text)) (fields (take (place - 1) text)) (sym split ∙ whole)

no_marks : (text : List ℕ) → HasParts text → NoMarks text
no_marks text has = record {
  equals = nowhere 61 text
      (no_first 61 text (λ back. refl) (tid_text has.by ∷ has.words) has.split
      (λ back front is. (among IsPart front (61 ∷ []) back (subst (AllByRecursion IsPart) is has.parts)).no_equals refl))
      (length text);
  at = nowhere 64 text
      (no_first 64 text (λ back. refl) (tid_text has.by ∷ has.words) has.split
      (λ back front is. (among IsPart front (64 ∷ []) back (subst (AllByRecursion IsPart) is has.parts)).no_at refl))
      (length text);
}

-- ---- all

seen_parts : (words : List (List ℕ)) → AllByRecursion IsPart words → AllByRecursion IsVisible words
seen_parts [] parts = tt
seen_parts (word ∷ words) parts = (parts.0.seen, seen_parts words parts.1)

text_of_parts : (text : List ℕ) (has : HasParts text) → text ≡ tid_text has.by ++ after_spaces has.words
text_of_parts text has =
    join_fields text (tid_text has.by ∷ has.words) has.split
    ∙ sym (join_fields (tid_text has.by ++ after_spaces has.words) (tid_text has.by ∷ has.words)
    (fields_after (tid_text has.by) has.words has.parts.0.seen (seen_parts has.words has.parts.1)))

clean_printable : (text : List ℕ) → All (λ b. IsInRange 32 126 b) text → IsClean 10 text
clean_printable text all = λ k d within. let v = all k d within in grind (arith, nat_tests, v)

pub own_line : (s : StatedSetup) (text : List ℕ) (e : Event) (xs : List Argument) (gone : List ObjId) → FitsSetup s → SpellsEvent s text e xs gone
    → IsOwnLine text
own_line s text e xs gone few spelt =
    let has = has_parts s text e xs gone few spelt in
    let is = text_of_parts text has in
    let printable : All (λ b. IsInRange 32 126 b) text =
    subst (λ (t : List ℕ). All (λ b. IsInRange 32 126 b) t) (sym is)
    (printable_after (tid_text has.by) has.words has.parts.0.seen (seen_parts has.words has.parts.1)) in
    record {
      rest = decimal has.by.0 ++ after_spaces has.words;
      begins = is;
      printable = printable;
      clean = clean_printable text printable;
      marks = no_marks text has;
    }

-- it is cut nowhere
pub own_parts : (text event : List ℕ) (answer note : Option (List ℕ)) → IsOwnLine text → AreParts text event answer note
    → (event ≡ text) × (answer ≡ None) × (note ≡ None)
own_parts text event answer note own parts =
    cut_once text event text answer None note None parts (text, (refl, own.marks.at), (refl, own.marks.equals))

-- ---- a text that begins with such a line and goes on behind its line feed

module _ (own more : List ℕ) where
  not_break : (k b : ℕ) → slice_index (own ++ 10 ∷ more) k ≡ b → b ≢ 10 → k ≢ length own
  not_break k b is other same = other (sym is ∙ (ap (λ i. get_or (own ++ 10 ∷ more) i 0) same ∙ get_or-append_seam own 10 more 0))

  within : (k b : ℕ) → k < length own → slice_index (own ++ 10 ∷ more) k ≡ b → slice_index own k ≡ b
  within k b lt is = sym (get_or_append_left own (10 ∷ more) 0 k lt) ∙ is

  -- a mark of the whole stands behind the line feed
  mark_behind : (mark place : ℕ) → mark ≢ 10 → NoMark mark own (length own) → IsMarkAt mark (own ++ 10 ∷ more) (place + 1) → length own < place
  mark_behind mark place other none (is, (some, before, short, after)) = by (nat_lt (length own) place) refl
    where
      front : slice_index (own ++ 10 ∷ more) place ≡ 32
      front = ap (slice_index (own ++ 10 ∷ more)) (let same : place ≡ place + 1 - 1 = omega arith in same) ∙ before

      behind : slice_index (own ++ 10 ∷ more) (place + 2) ≡ 32
      behind = ap (slice_index (own ++ 10 ∷ more)) (let same : place + 2 ≡ place + 1 + 1 = omega arith in same) ∙ after

      in_own : place + 2 < length own → ⊥
      in_own lt = none (place + 1) (omega (arith, lt)) (
        within (place + 1) mark (omega (arith, lt)) is,
        (
          some,
          within (place + 1 - 1) 32 (omega (arith, lt)) before,
          omega (arith, lt),
          within (place + 1 + 1) 32 (omega (arith, lt)) after,
        ),
      )

      by : (b : Bool) → nat_lt (length own) place ≡ b → length own < place
      by true low = grind (arith, nat_tests, low)
      by false high =
          let past : place ≤ length own = grind (arith, nat_tests, high) in
          let a = not_break place 32 front (omega arith) in
          let b = not_break (place + 1) mark is other in
          let c = not_break (place + 2) 32 behind (omega arith) in
          absurd (in_own (omega (arith, past, a, b, c)))

pub longer : (own front a b : List ℕ) (x : ℕ) → own ++ x ∷ a ≡ front ++ b → length own < length front → (tail : List ℕ) × (front ≡ own ++ x ∷ tail)
longer own [] a b x same lt = absurd (omega (arith, lt))
longer [] (f ∷ front) a b x same lt =
    let first : f ≡ x = cc in
    (front, ap (λ (c : ℕ). c ∷ front) first)
longer (o ∷ own) (f ∷ front) a b x same lt =
    let first : f ≡ o = cc in
    let rest : own ++ x ∷ a ≡ front ++ b = cc in
    let (tail, is) = longer own front a b x rest (omega (arith, lt)) in
    (tail, ap (λ (c : ℕ). c ∷ front) first ∙ ap (λ (bs : List ℕ). o ∷ bs) is)

-- so what is cut off it goes on behind the line feed too
cut_behind : (mark : ℕ) (own more front : List ℕ) (back : Option (List ℕ)) → mark ≢ 10 → NoMark mark own (length own)
    → CutsAt mark (own ++ 10 ∷ more) front back
    → (tail : List ℕ) × (front ≡ own ++ 10 ∷ tail)
cut_behind mark own more front None other none (is, _) = (more, is)
cut_behind mark own more front (Some back) other none (first, is) =
    longer own front more (32 ∷ mark ∷ 32 ∷ back) 10 is (mark_behind own more mark (length front) other none first.is)

event_behind : (own more event : List ℕ) (answer note : Option (List ℕ)) → NoMarks own → AreParts (own ++ 10 ∷ more) event answer note
    → (tail : List ℕ) × (event ≡ own ++ 10 ∷ tail)
event_behind own more event answer note marks (front, by_note, by_answer) =
    let (tail, front_is) = cut_behind 64 own more front note (omega arith) marks.at by_note in
    cut_behind 61 own tail event answer (omega arith) marks.equals (subst (λ (f : List ℕ). CutsAt 61 f event answer) front_is by_answer)

-- a text without a line feed doesn't go on behind one
pub has_feed : (text own tail : List ℕ) → IsClean 10 text → text ≡ own ++ 10 ∷ tail → ⊥
has_feed text own tail clean is =
    let all : IsClean 10 (own ++ 10 ∷ tail) = subst (IsClean 10) is clean in
    let no : (get_or (own ++ 10 ∷ tail) (length own) 0 == 10) ≡ false = all (length own) 0 (omega (arith, length-append own (10 ∷ tail))) in
    let feed : (get_or (own ++ 10 ∷ tail) (length own) 0 == 10) ≡ true = ap (λ b. b == 10) (get_or-append_seam own 10 tail 0) in
    cc

-- so it is no event
pub no_event_behind : (own more event : List ℕ) (answer note : Option (List ℕ)) → NoMarks own → AreParts (own ++ 10 ∷ more) event answer note
    → IsClean 10 event → ⊥
no_event_behind own more event answer note marks parts clean =
    let (tail, is) = event_behind own more event answer note marks parts in
    has_feed event own tail clean is

-- ---- lines one behind the other

-- with a line feed in it a text is some
pub no_text : (line rest : List ℕ) → line ++ 10 ∷ rest ≡ [] → ⊥
no_text [] rest is = let no : ⊥ = cc in no
no_text (b ∷ line) rest is = let no : ⊥ = cc in no

-- where a clean line and another one stand in front of the same, they are one, or the other goes on
pub meets : (own line rest more : List ℕ) → IsClean 10 own → line ++ 10 ∷ rest ≡ own ++ 10 ∷ more
    → ((line ≡ own) × (rest ≡ more)) ⊎ ((tail : List ℕ) × (line ≡ own ++ 10 ∷ tail))
meets [] [] rest more clean same = inl (refl, let is : rest ≡ more = cc in is)
meets [] (b ∷ line) rest more clean same =
    let first : b ≡ 10 = cc in
    inr (line, ap (λ (c : ℕ). c ∷ line) first)
meets (o ∷ own) [] rest more clean same =
    let first : o ≡ 10 = cc in
    let no : (o == 10) ≡ false = clean 0 0 (omega arith) in
    let yes : (o == 10) ≡ true = ap (λ b. b == 10) first in
    absurd (let it : ⊥ = cc in it)
meets (o ∷ own) (b ∷ line) rest more clean same =
    let first : b ≡ o = cc in
    let behind : line ++ 10 ∷ rest ≡ own ++ 10 ∷ more = cc in
    by first (meets own line rest more (λ k d lt. clean (suc k) d (omega (arith, lt))) behind)
  where
    by : b ≡ o → ((line ≡ own) × (rest ≡ more)) ⊎ ((tail : List ℕ) × (line ≡ own ++ 10 ∷ tail))
        → ((b ∷ line ≡ o ∷ own) × (rest ≡ more)) ⊎ ((tail : List ℕ) × (b ∷ line ≡ o ∷ (own ++ 10 ∷ tail)))
    by first (inl (is, rests)) = inl (ap (λ (c : ℕ). c ∷ line) first ∙ ap (λ (bs : List ℕ). o ∷ bs) is, rests)
    by first (inr (tail, is)) = inr (tail, ap (λ (c : ℕ). c ∷ line) first ∙ ap (λ (bs : List ℕ). o ∷ bs) is)
