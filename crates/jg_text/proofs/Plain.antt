-- An entry's line is printable and has at most 65,536 bytes.
use Rattle.std.proofs.Common.{◌≡◌, ℕ, ◌<◌, ◌≤◌, ◌+◌, ◌^◌, List, [], ◌∷◌, ◌++◌, length, All, Bool, true, false, arith, codes, refl, length-append, Option, Result, Ok, Err, OnOk, inl, inr}
use Rattle.std.specs.Int.{IsInRange}
use Rattle.std.specs.Prelude.{nat_lt, ◌&&◌, ◌⊎◌, slice_index}
use Rattle.std.specs.Str.{IsUtf8}
use Rattle.std.specs.List.{list_all, AllByRecursion}
use Rattle.std.specs.Fmt.{decimal, signed_decimal}
use Rattle.std.proofs.lemmas.Fmt.{length-decimal-le}
use Rattle.std.proofs.lemmas.Bool.{cases_lt, and_parts, ltb-true}
use Rattle.std.proofs.lemmas.List.{get_or_past}
use Rattle.std.proofs.lemmas.Str.{IsUtf8-from_ascii}
use Rattle.std.proofs.lemmas.List.Elements.{All-append, All-cons, All-from_recursion}
use Rattle.jg_words.specs.declared.call.Call.{Call}
use Rattle.jg_words.specs.declared.thread.EnvId.{EnvId}
use Rattle.jg_words.specs.declared.thread.Tid.{Tid}
use Rattle.jg_words.specs.Entry.{Entry}
use Rattle.jg_words.specs.declared.entry.Outcome.{Outcome}
use Rattle.jg_words.specs.declared.entry.Outcome.TheVariants.{Passed, Denied}
use Rattle.jg_words.specs.declared.rule.Rule.{Rule}
use Rattle.jg_words.specs.declared.rule.Rule.TheVariants.{WrongThread, Detached, InCritical, Pending, ForeignLocal, DeadReference, WrongRefKind, NullReference, WrongType, BadField, BadBuffer, BadArgument, Pinned, NotOwner, BadFrame, NoNativeAccess, NotLinked}
use Rattle.jg_words.specs.Rule.{number_of, name_of}
use Rattle.jg_words.specs.declared.reference.Ref.{Ref}
use Rattle.jg_words.specs.declared.reference.Ref.TheVariants.{Null, To}
use Rattle.jg_words.specs.declared.value.Thrown.{Thrown}
use Rattle.jg_words.specs.declared.value.Thrown.TheVariants.{ArrayIndexOutOfBounds, StringIndexOutOfBounds, NoClassDefFound, NoSuchField, NoSuchMethod}
use Rattle.jg_words.specs.declared.value.Value.{Value}
use Rattle.jg_words.specs.declared.value.Value.TheVariants as value
use Rattle.jg_words.proofs.Common.{rule_number}
use Rattle.jg_text.specs.Words.{FitsTid, FitsEnv, ref_text, items_text, FitsRef, of_ref, of_items, dotted_text}
use Rattle.jg_text.specs.Operands.{FitsCall}
use Rattle.jg_text.specs.Spelling.{Spells}
use Rattle.jg_text.specs.Journal.{value_text, notice_text, warning_text, outcome_text, thrown_name, entry_text, call_line, FitsValue, FitsOutcome}
use Rattle.jg_text.proofs.Laws.{dotted_short, signed_short, joined_short, short_call, printable_line, seen_word, seen_number, seen_signed, seen_dotted, wide}

pub always : {T E P : Type 0} (r : Result T E) → P → OnOk r P
always (Ok x) p = p
always (Err e) p = tt

-- printable, and short
pub record IsPlainText (most : ℕ) (bs : List ℕ) : Type 0 where
  pub printable : All (λ b. IsInRange 32 126 b) bs
  pub short : length bs ≤ most

abbrev is_printable : ℕ → Bool
is_printable b = nat_lt 31 b && nat_lt b 127

by_test : (bs : List ℕ) → list_all is_printable bs ≡ true → AllByRecursion (λ b. IsInRange 32 126 b) bs
by_test [] h = tt
by_test (b ∷ bs) h =
    let parts = and_parts (is_printable b) (list_all is_printable bs) h in
    let two = and_parts (nat_lt 31 b) (nat_lt b 127) parts.0 in
    let low = ltb-true 31 b two.0 in
    let high = ltb-true b 127 two.1 in
    (omega (arith, low, high), by_test bs parts.1)

-- a text that is known
known : (most : ℕ) (bs : List ℕ) → list_all is_printable bs ≡ true → length bs ≤ most → IsPlainText most bs
known most bs h short = record { printable = All-from_recursion (λ b. IsInRange 32 126 b) bs (by_test bs h); short = short }

both : (m n : ℕ) (bs cs : List ℕ) → IsPlainText m bs → IsPlainText n cs → IsPlainText (m + n) (bs ++ cs)
both m n bs cs h k =
    let left = h.short in
    let right = k.short in
    record {
      printable = All-append (λ b. IsInRange 32 126 b) bs cs h.printable k.printable;
      short = omega (arith, length-append bs cs, left, right);
    }

more : (m n : ℕ) (bs : List ℕ) → IsPlainText m bs → m ≤ n → IsPlainText n bs
more m n bs h le = let short = h.short in record { printable = h.printable; short = omega (arith, short, le) }

lettered : (letter a b : ℕ) → IsInRange 33 126 letter → a < 2 ^ 64 → b < 2 ^ 64 → IsPlainText 42 (letter ∷ dotted_text a b)
lettered letter a b seen ha hb =
    let short = dotted_short a b ha hb in
    record {
      printable = All-cons (λ x. IsInRange 32 126 x) letter (dotted_text a b) (omega (arith, seen)) (wide (dotted_text a b) (seen_dotted a b ha hb));
      short = omega (arith, short);
    }

notice_plain : (n : Bool) → IsPlainText 7 (notice_text n)
notice_plain true = known 7 (notice_text true) refl (omega arith)
notice_plain false = known 7 (notice_text false) refl (omega arith)

warning_plain : (w : Bool) → IsPlainText 5 (warning_text w)
warning_plain true = known 5 (warning_text true) refl (omega arith)
warning_plain false = known 5 (warning_text false) refl (omega arith)

thrown_plain : (t : Thrown) → IsPlainText 60 (codes "throw " ++ thrown_name t)
thrown_plain ArrayIndexOutOfBounds = known 60 (codes "throw " ++ thrown_name ArrayIndexOutOfBounds) refl (omega arith)
thrown_plain StringIndexOutOfBounds = known 60 (codes "throw " ++ thrown_name StringIndexOutOfBounds) refl (omega arith)
thrown_plain NoClassDefFound = known 60 (codes "throw " ++ thrown_name NoClassDefFound) refl (omega arith)
thrown_plain NoSuchField = known 60 (codes "throw " ++ thrown_name NoSuchField) refl (omega arith)
thrown_plain NoSuchMethod = known 60 (codes "throw " ++ thrown_name NoSuchMethod) refl (omega arith)

ref_short : (r : Ref) → FitsRef r → length (ref_text r) ≤ 21002
ref_short Null h = omega arith
ref_short (To kind maker n) h = omega (arith, dotted_short maker.0 n (omega (arith, h.0)) h.1)

value_plain : (v : Value) → FitsValue v → IsPlainText 21002 (value_text v)
value_plain value.Ok h = known 21002 (value_text value.Ok) refl (omega arith)
value_plain (value.Number n) h = let short = signed_short n h in record { printable = wide (signed_decimal n) (seen_signed n h); short = omega (arith, short) }
value_plain (value.Truth true) h = known 21002 (value_text (value.Truth true)) refl (omega arith)
value_plain (value.Truth false) h = known 21002 (value_text (value.Truth false)) refl (omega arith)
value_plain value.Null h = known 21002 (value_text value.Null) refl (omega arith)
value_plain (value.Reference r) h = record { printable = wide (ref_text r) (seen_word (of_ref r) h); short = ref_short r h }
value_plain (value.Buffer b) h = more 42 21002 (value_text (value.Buffer b)) (lettered 66 b.maker.0 b.n (omega arith) (omega (arith, h.0)) h.1) (omega arith)
value_plain (value.Field f) h =
    more 42 21002 (value_text (value.Field f)) (lettered 70 f.class f.field (omega arith) (omega (arith, h.0)) (omega (arith, h.1))) (omega arith)
value_plain (value.Environment e) h =
    more 42 21002 (value_text (value.Environment e)) (lettered 69 e.tid.0 e.session (omega arith) (omega (arith, h.0)) h.1) (omega arith)
value_plain (value.List xs) h =
    record { printable = wide (items_text xs) (seen_word (of_items xs) h); short = simp length-append (omega (arith, joined_short xs h.1, h.0)) }
value_plain value.Busy h = known 21002 (value_text value.Busy) refl (omega arith)
value_plain value.Detached h = known 21002 (value_text value.Detached) refl (omega arith)
value_plain (value.Throw t) h = more 60 21002 (value_text (value.Throw t)) (thrown_plain t) (omega arith)

rule_plain : (rule : Rule) → IsPlainText 20 (name_of rule)
rule_plain WrongThread = known 20 (name_of WrongThread) refl (omega arith)
rule_plain Detached = known 20 (name_of Detached) refl (omega arith)
rule_plain InCritical = known 20 (name_of InCritical) refl (omega arith)
rule_plain Pending = known 20 (name_of Pending) refl (omega arith)
rule_plain ForeignLocal = known 20 (name_of ForeignLocal) refl (omega arith)
rule_plain DeadReference = known 20 (name_of DeadReference) refl (omega arith)
rule_plain WrongRefKind = known 20 (name_of WrongRefKind) refl (omega arith)
rule_plain NullReference = known 20 (name_of NullReference) refl (omega arith)
rule_plain WrongType = known 20 (name_of WrongType) refl (omega arith)
rule_plain BadField = known 20 (name_of BadField) refl (omega arith)
rule_plain BadBuffer = known 20 (name_of BadBuffer) refl (omega arith)
rule_plain BadArgument = known 20 (name_of BadArgument) refl (omega arith)
rule_plain Pinned = known 20 (name_of Pinned) refl (omega arith)
rule_plain NotOwner = known 20 (name_of NotOwner) refl (omega arith)
rule_plain BadFrame = known 20 (name_of BadFrame) refl (omega arith)
rule_plain NoNativeAccess = known 20 (name_of NoNativeAccess) refl (omega arith)
rule_plain NotLinked = known 20 (name_of NotLinked) refl (omega arith)

outcome_plain : (o : Outcome) → FitsOutcome o → IsPlainText 21040 (outcome_text o)
outcome_plain (Passed r) h =
    let noticed = both 21002 7 (value_text r.value) (notice_text r.noticed) (value_plain r.value h) (notice_plain r.noticed) in
    more ((21002 + 7) + 5) 21040 (outcome_text (Passed r))
    (both (21002 + 7) 5 (value_text r.value ++ notice_text r.noticed) (warning_text r.warned) noticed (warning_plain r.warned)) (omega arith)
outcome_plain (Denied rule) h =
    let n = number_of rule in
    let small = (rule_number rule).1 in
    let few : IsPlainText 2 (decimal n) = record {
      printable = wide (decimal n) (seen_number n (omega (arith, small)));
      short = length-decimal-le 2 n (omega arith) (omega arith) (omega (arith, small));
    } in
    let name = both 1 20 (32 ∷ []) (name_of rule) (known 1 (32 ∷ []) refl (omega arith)) (rule_plain rule) in
    more ((5 + 2) + (1 + 20)) 21040 (outcome_text (Denied rule))
    (both (5 + 2) (1 + 20) (codes "deny " ++ decimal n) (32 ∷ name_of rule)
    (both 5 2 (codes "deny ") (decimal n) (known 5 (codes "deny ") refl (omega arith)) few) name) (omega arith)

-- the line of an entry, without its line feed
pub line_plain : (x : Entry) → FitsTid x.tid → FitsEnv x.env → FitsCall x.call → FitsOutcome x.outcome
    → (line : List ℕ) × (entry_text x ≡ line ++ 10 ∷ []) × IsPlainText 65536 line
unfolding entry_text
line_plain x ht he hc ho =
    let call : IsPlainText 22000 (call_line x) =
    record { printable = printable_line x.tid x.env x.call ht he hc; short = short_call x.tid x.env x.call ht he hc } in
    let begun = both 22000 3 (call_line x) (codes " = ") call (known 3 (codes " = ") refl (omega arith)) in (
      (call_line x ++ codes " = ") ++ outcome_text x.outcome,
      refl,
      more ((22000 + 3) + 21040) 65536 _ (both (22000 + 3) 21040 (call_line x ++ codes " = ") (outcome_text x.outcome) begun (outcome_plain x.outcome ho))
          (omega arith),
    )

ascii_at : (bs : List ℕ) (i : ℕ) → All (λ b. IsInRange 32 126 b) bs → (i < length bs) ⊎ (length bs ≤ i) → slice_index bs i < 128
ascii_at bs i printable (inl within) = omega (arith, printable i 0 within)
ascii_at bs i printable (inr past) = rw (get_or_past bs i 0 past) (omega arith)

-- the line of a call is text
pub line_is_text : (line : List ℕ) (t : Tid) (e : Option EnvId) (c : Call) → Spells line t e c → IsUtf8 line
line_is_text line t e c spelt =
    let printable : All (λ b. IsInRange 32 126 b) line = rw spelt.text (printable_line t e c spelt.tid spelt.env spelt.call) in
    IsUtf8-from_ascii line (λ i. ascii_at line i printable (cases_lt i (length line)))
