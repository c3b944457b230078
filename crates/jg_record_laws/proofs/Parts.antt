-- The words of an event are seen, and none is a mark of a line.
use Rattle.std.proofs.Common.{◌≡◌, ◌≢◌, ◌∙◌, ◌<◌, ◌^◌, ◌∷◌, ◌++◌, ℕ, ℤ, pos, negsuc, Bool, true, false, List, [], get_or, map, codes, Option, Some, None, FitsSigned, w32, w64, refl, sym, ap, subst, arith, inl, inr}
use Rattle.std.specs.Prelude.{zero, suc, slice_get, ◌&&◌, not, if◌then◌else◌}
use Rattle.std.specs.Int.{IsInRange}
use Rattle.std.specs.List.{AllByRecursion, list_all}
use Rattle.std.specs.Fmt.{decimal, signed_decimal}
use Rattle.std.proofs.lemmas.Bool.{and_parts}
use Rattle.std.proofs.lemmas.List.Elements.{All-append}
use Rattle.jg_words.specs.Name.{IsName}
use Rattle.jg_words.specs.declared.thread.Tid.{Tid}
use Rattle.jg_words.specs.declared.thread.EnvId.{EnvId}
use Rattle.jg_words.specs.declared.object.ObjId.{ObjId}
use Rattle.jg_words.specs.declared.buffer.BufId.{BufId}
use Rattle.jg_words.specs.declared.reference.Kind.{Kind}
use Rattle.jg_words.specs.declared.reference.Kind.TheVariants.{Local, Global, Weak}
use Rattle.jg_words.specs.declared.reference.Ref.{Ref}
use Rattle.jg_words.specs.declared.reference.Ref.TheVariants.{Null, To}
use Rattle.jg_policy.specs.Stated.{StatedSetup}
use Rattle.jg_table_buffers.specs.declared.family.Family.{Family}
use Rattle.jg_text.specs.Words.{tid_text, env_text, ref_text, buf_text, dotted_text, FitsTid, FitsEnv, FitsRef, FitsBuf, of_name}
use Rattle.jg_text.specs.Faults.{fields}
use Rattle.jg_text.proofs.Laws.{IsVisible, seen_number, seen_signed, seen_tid, seen_env, seen_word}
use Rattle.jg_rows.specs.declared.row.Takes.{Takes}
use Rattle.jg_rows.specs.Columns.{Columns}
use Rattle.jg_rows.specs.Table.{functions}
use Rattle.jg_judge.specs.declared.argument.Argument.{Argument}
use Rattle.jg_judge.specs.declared.kinds.OwnKind.{OwnKind}
use Rattle.jg_judge.specs.Asked.{is_last}
use Rattle.jg_record.specs.declared.event.Event.{Event}
use Rattle.jg_record.specs.declared.operands.Sort.{Sort}
use Rattle.jg_record.specs.declared.operands.Sort.TheVariants as sort
use Rattle.jg_record.specs.declared.verb.Verb.{Verb}
use Rattle.jg_record.specs.declared.verb.Verb.TheVariants as verb
use Rattle.jg_record.specs.Words.{object_text, kept_text, stated_text, id_text, list_text, kind_named, family_named, own_named, verb_of_run, verb_of_calls, verb_named, FitsObject, FitsKept, FitsStated}
use Rattle.jg_record.specs.Operands.{Asks, Spells, sort_of, is_mark}
use Rattle.jg_record.specs.Events.{MeansClass, SpellsEvent, Tells}
use Rattle.jg_record.proofs.Seen.{is_seen, known, seen_object, seen_ref, seen_buf}
use Rattle.jg_record_laws.specs.Laws.{FitsSetup}
use Rattle.jg_record_laws.proofs.Words.{chosen, digit_first}

-- a word is seen, and no mark
pub record IsPart (word : List ℕ) : Type 0 where
  pub seen : IsVisible word
  pub no_equals : word ≢ 61 ∷ []
  pub no_at : word ≢ 64 ∷ []

-- ---- words that are known, and those that begin with a letter

abbrev is_part : List ℕ → Bool
is_part word = list_all is_seen word && not (is_mark word)

not_equals : (word : List ℕ) → is_mark word ≡ false → word ≢ 61 ∷ []
not_equals word other same = let no : ⊥ = cc (ap is_mark same, other) in no

not_at : (word : List ℕ) → is_mark word ≡ false → word ≢ 64 ∷ []
not_at word other same = let no : ⊥ = cc (ap is_mark same, other) in no

not_true : (b : Bool) → not b ≡ true → b ≡ false
not_true false is = refl
not_true true is = absurd (let no : ⊥ = cc in no)

tested : (word : List ℕ) → is_part word ≡ true → IsPart word
tested word passes =
    let parts = and_parts (list_all is_seen word) (not (is_mark word)) passes in
    let other = not_true (is_mark word) parts.1 in
    record { seen = known word parts.0; no_equals = not_equals word other; no_at = not_at word other }

letter : (b : ℕ) (rest : List ℕ) → IsVisible (b ∷ rest) → b ≢ 61 → b ≢ 64 → IsPart (b ∷ rest)
letter b rest seen one other = record {
  seen = seen;
  no_equals = λ same. one (ap (λ bs. get_or bs 0 0) same);
  no_at = λ same. other (ap (λ bs. get_or bs 0 0) same);
}

-- ---- words that are chosen by a test

abbrev Passes : List ℕ → Type 0
Passes word = is_part word ≡ true

none : {A : Type 0} (word : List ℕ) (x : A) → None ≡ Some x → Passes word
none word x is = absurd (let no : ⊥ = cc in no)

kind_part : (word : List ℕ) (x : Kind) → kind_named word ≡ Some x → Passes word
kind_part word x named =
    chosen Passes word (codes "local") _ x _ refl
    (chosen Passes word (codes "global") _ x _ refl
    (chosen Passes word (codes "weak") _ x None refl (none word x))) named

family_part : (word : List ℕ) (x : Family) → family_named word ≡ Some x → Passes word
family_part word x named =
    chosen Passes word (codes "booleans") _ x _ refl
    (chosen Passes word (codes "bytes") _ x _ refl
    (chosen Passes word (codes "chars") _ x _ refl
    (chosen Passes word (codes "shorts") _ x _ refl
    (chosen Passes word (codes "ints") _ x _ refl
    (chosen Passes word (codes "longs") _ x _ refl
    (chosen Passes word (codes "floats") _ x _ refl
    (chosen Passes word (codes "doubles") _ x _ refl
    (chosen Passes word (codes "string") _ x _ refl
    (chosen Passes word (codes "utf") _ x _ refl
    (chosen Passes word (codes "critical") _ x _ refl
    (chosen Passes word (codes "critical-string") _ x None refl (none word x)))))))))))) named

own_part : (word : List ℕ) (x : OwnKind) → own_named word ≡ Some x → Passes word
own_part word x named =
    chosen Passes word (codes "object") _ x _ refl
    (chosen Passes word (codes "throwable") _ x _ refl
    (chosen Passes word (codes "class") _ x _ refl
    (chosen Passes word (codes "array-class") _ x _ refl
    (chosen Passes word (codes "floats") _ x _ refl
    (chosen Passes word (codes "doubles") _ x None refl (none word x)))))) named

run_part : (word : List ℕ) (x : Verb) → verb_of_run word ≡ Some x → Passes word
run_part word x named =
    chosen Passes word (codes "begins") _ x _ refl
    (chosen Passes word (codes "ends") _ x _ refl
    (chosen Passes word (codes "linked") _ x _ refl
    (chosen Passes word (codes "unlinked") _ x _ refl
    (chosen Passes word (codes "warned") _ x _ refl
    (chosen Passes word (codes "local") _ x _ refl
    (chosen Passes word (codes "pending") _ x _ refl
    (chosen Passes word (codes "length") _ x _ refl
    (chosen Passes word (codes "bounds") _ x None refl (none word x))))))))) named

calls_part : (word : List ℕ) (x : Verb) → verb_of_calls word ≡ Some x → Passes word
calls_part word x named =
    chosen Passes word (codes "enters") _ x _ refl
    (chosen Passes word (codes "leaves") _ x _ refl
    (chosen Passes word (codes "pushed") _ x _ refl
    (chosen Passes word (codes "popped") _ x _ refl
    (chosen Passes word (codes "ensured") _ x _ refl
    (chosen Passes word (codes "raised") _ x _ refl
    (chosen Passes word (codes "calmed") _ x (verb_of_run word) refl (run_part word x))))))) named

verb_part : (word : List ℕ) (x : Verb) → verb_named word ≡ Some x → Passes word
verb_part word x named =
    chosen Passes word (codes "got") _ x _ refl
    (chosen Passes word (codes "lost") _ x _ refl
    (chosen Passes word (codes "met") _ x _ refl
    (chosen Passes word (codes "gone") _ x _ refl
    (chosen Passes word (codes "lent") _ x _ refl
    (chosen Passes word (codes "gave") _ x _ refl
    (chosen Passes word (codes "owns") _ x _ refl
    (chosen Passes word (codes "freed") _ x (verb_of_calls word) refl (calls_part word x)))))))) named

-- ---- the others

no_digit : (n : ℕ) → n < 2 ^ 64 → (b : ℕ) (rest : List ℕ) → decimal n ≡ b ∷ rest → 57 < b → ⊥
no_digit n small b rest is past = let digit = digit_first n small b rest is in omega (arith, digit, past)

long_part : (n : ℕ) → n < 2 ^ 64 → IsPart (decimal n)
long_part n small = record {
  seen = seen_number n small;
  no_equals = λ same. no_digit n small 61 [] same (omega arith);
  no_at = λ same. no_digit n small 64 [] same (omega arith);
}

natural_part : (n : ℕ) → n < 2 ^ 32 → IsPart (decimal n)
natural_part n small = long_part n (omega (arith, small))

value_part : (n : ℤ) → FitsSigned w64 n → IsPart (signed_decimal n)
value_part (pos n) fits = long_part n (omega (arith, fits))
value_part (negsuc n) fits = letter 45 (decimal (suc n)) (seen_signed (negsuc n) fits) (omega arith) (omega arith)

wider : (n : ℤ) → FitsSigned w32 n → FitsSigned w64 n
wider (pos n) fits = omega (arith, fits)
wider (negsuc n) fits = omega (arith, fits)

signed_part : (n : ℤ) → FitsSigned w32 n → IsPart (signed_decimal n)
signed_part n fits = value_part n (wider n fits)

object_part : (o : ObjId) → FitsObject o → IsPart (object_text o)
object_part o fits = letter 79 (decimal o.0) (seen_object o fits) (omega arith) (omega arith)

kept_part : (o : Option ObjId) → FitsKept o → IsPart (kept_text o)
kept_part None fits = tested (codes "null") refl
kept_part (Some o) fits = object_part o fits

stated_part : (n : Option ℕ) → FitsStated n → IsPart (stated_text n)
stated_part None fits = tested (codes "-") refl
stated_part (Some n) fits = natural_part n fits

ref_part : (r : Ref) → FitsRef r → IsPart (ref_text r)
ref_part Null fits = tested (codes "null") refl
ref_part (To Local maker n) fits = letter 76 (dotted_text maker.0 n) (seen_ref (To Local maker n) fits) (omega arith) (omega arith)
ref_part (To Global maker n) fits = letter 71 (dotted_text maker.0 n) (seen_ref (To Global maker n) fits) (omega arith) (omega arith)
ref_part (To Weak maker n) fits = letter 87 (dotted_text maker.0 n) (seen_ref (To Weak maker n) fits) (omega arith) (omega arith)

buf_part : (b : BufId) → FitsBuf b → IsPart (buf_text b)
buf_part b fits = letter 66 (dotted_text b.maker.0 b.n) (seen_buf b fits) (omega arith) (omega arith)

tid_part : (t : Tid) → FitsTid t → IsPart (tid_text t)
tid_part t fits = letter 84 (decimal t.0) (seen_tid t fits) (omega arith) (omega arith)

env_part : (env : Option EnvId) → FitsEnv env → IsPart (env_text env)
env_part None fits = tested (codes "-") refl
env_part (Some e) fits = letter 69 (dotted_text e.tid.0 e.session) (seen_env (Some e) fits) (omega arith) (omega arith)

id_part : (fits : Bool) → IsPart (id_text fits)
id_part true = tested (codes "id") refl
id_part false = tested (codes "id!") refl

-- a number with `!` behind it is no mark
no_short : (n : ℕ) → n < 2 ^ 64 → (bs : List ℕ) → decimal n ≡ bs → (b : ℕ) → 57 < b → bs ++ codes "!" ≢ b ∷ []
no_short n small [] is b past same = let first : 33 ≡ b = ap (λ xs. get_or xs 0 0) same in omega (arith, first, past)
no_short n small (c ∷ bs) is b past same =
    let first : c ≡ b = ap (λ xs. get_or xs 0 0) same in
    no_digit n small c bs is (omega (arith, first, past))

list_part : (count : ℕ) (fits : Bool) → count < 2 ^ 64 → IsPart (list_text count fits)
list_part count true small = long_part count small
list_part count false small = record {
  seen = All-append (λ b. IsInRange 33 126 b) (decimal count) (codes "!") (seen_number count small) (known (codes "!") refl);
  no_equals = no_short count small (decimal count) refl 61 (omega arith);
  no_at = no_short count small (decimal count) refl 64 (omega arith);
}

name_part : (word : List ℕ) → IsName word → is_mark word ≡ false → IsPart word
name_part word name other = record { seen = seen_word (of_name word) name; no_equals = not_equals word other; no_at = not_at word other }

along : (word other : List ℕ) → word ≡ other → IsPart other → IsPart word
along word other is part = subst IsPart (sym is) part

-- what each row passes, this one passes
pub row_passes : (test : Columns → Bool) (rows : List Columns) (place : ℕ) (row : Columns) → list_all test rows ≡ true → slice_get rows place ≡ Some row
    → test row ≡ true
row_passes test [] place row all at = absurd (let no : ⊥ = cc in no)
row_passes test (r ∷ rows) zero row all at =
    let same : r ≡ row = cc in
    ap test (sym same) ∙ (and_parts (test r) (list_all test rows) all).0
row_passes test (r ∷ rows) (suc place) row all at = row_passes test rows place row (and_parts (test r) (list_all test rows) all).1 at

function_part : (place : ℕ) (row : Columns) → slice_get functions place ≡ Some row → IsPart row.name
function_part place row at = tested row.name (row_passes (λ r. is_part r.name) functions place row refl at)

-- ---- the operands of a question

operand_part : (s : Sort) (word : List ℕ) (x : Argument) → Spells s word x → IsPart word
operand_part sort.Reference word x (r, fits, is, _) = along word _ is (ref_part r fits)
operand_part sort.Buffer word x (b, fits, is, _) = along word _ is (buf_part b fits)
operand_part sort.Bounded word x (n, fits, is, _) = along word _ is (signed_part n fits)
operand_part sort.Number word x (inl (n, fits, is, _)) = along word _ is (signed_part n fits)
operand_part sort.Number word x (inr (v, fits, _, is, _)) = along word _ is (value_part v fits)
operand_part sort.Value word x (v, fits, is, _) = along word _ is (value_part v fits)
operand_part sort.Id word x (fits, is, _) = along word _ is (id_part fits)
operand_part sort.Class word x (n, fits, is, _) = along word _ is (stated_part n fits)
operand_part sort.Native word x (n, fits, is, _) = along word _ is (stated_part n fits)
operand_part sort.Name word x (name, other, _) = name_part word name other
operand_part sort.List word x (count, fits, small, is, _) = along word _ is (list_part count fits small)

operand_parts : (takes : List Takes) (words : List (List ℕ)) (xs : List Argument) → Asks takes words xs → AllByRecursion IsPart words
operand_parts takes [] xs asks = tt
operand_parts [] (word ∷ words) xs asks = absurd asks
operand_parts (t ∷ takes) (word ∷ words) [] asks = absurd asks
operand_parts (t ∷ takes) (word ∷ words) (x ∷ xs) asks =
    (operand_part (sort_of t) word x asks.0, operand_parts (if is_last t then t ∷ takes else takes) words xs asks.1)

-- ---- the words of a fact

object_parts : (gone : List ObjId) → AllByRecursion FitsObject gone → AllByRecursion IsPart (map object_text gone)
object_parts [] fits = tt
object_parts (o ∷ gone) fits = (object_part o fits.0, object_parts gone fits.1)

class_part : (s : StatedSetup) (word : List ℕ) (class : ℕ) → FitsSetup s → MeansClass s word class → IsPart word
class_part s word class few (inl (below, is)) = along word _ is (natural_part class (omega (arith, few, below)))
class_part s word class few (inr (kind, named, _)) = tested word (own_part word kind named)

abbrev Are : List (List ℕ) → Type 0
Are words = AllByRecursion IsPart words

fact_parts : (s : StatedSetup) (v : Verb) (t : Tid) (words : List (List ℕ)) (e : Event) (gone : List ObjId) → FitsSetup s → Tells s v t words e gone → Are words
fact_parts s verb.Begins t words e gone few (is, _) = subst Are (sym is) tt
fact_parts s verb.Ends t words e gone few (is, _) = subst Are (sym is) tt
fact_parts s verb.Enters t words e gone few (is, _) = subst Are (sym is) tt
fact_parts s verb.Leaves t words e gone few (o, fits, is, _) = subst Are (sym is) (kept_part o fits, tt)
fact_parts s verb.Pushed t words e gone few (n, small, is, _) = subst Are (sym is) (natural_part n small, tt)
fact_parts s verb.Popped t words e gone few (o, fits, is, _) = subst Are (sym is) (kept_part o fits, tt)
fact_parts s verb.Ensured t words e gone few (n, small, is, _) = subst Are (sym is) (natural_part n small, tt)
fact_parts s verb.Raised t words e gone few (o, fits, is, _) = subst Are (sym is) (object_part o fits, tt)
fact_parts s verb.Calmed t words e gone few (is, _) = subst Are (sym is) tt
fact_parts s verb.Got t words e gone few (word, kind, named, o, fits, is, _) =
    subst Are (sym is) (tested word (kind_part word kind named), (object_part o fits, tt))
fact_parts s verb.Lost t words e gone few (r, fits, is, _) = subst Are (sym is) (ref_part r fits, tt)
fact_parts s verb.Lent t words e gone few (word, family, named, o, fits, r, fit, n, small, is, _) =
    subst Are (sym is) (tested word (family_part word family named), (object_part o fits, (ref_part r fit, (natural_part n small, tt))))
fact_parts s verb.Gave t words e gone few (b, fits, is, _) = subst Are (sym is) (buf_part b fits, tt)
fact_parts s verb.Owns t words e gone few (o, fits, is, _) = subst Are (sym is) (object_part o fits, tt)
fact_parts s verb.Freed t words e gone few (o, fits, is, _) = subst Are (sym is) (object_part o fits, tt)
fact_parts s verb.Met t words e gone few (word, class, means, n, small, is, _) =
    subst Are (sym is) (class_part s word class few means, (natural_part n small, tt))
fact_parts s verb.Gone t words e gone few ((fits, some, is), _) = subst Are (sym is) (object_parts gone fits)
fact_parts s verb.Linked t words e gone few (class, small, n, less, is, _) = subst Are (sym is) (natural_part class small, (natural_part n less, tt))
fact_parts s verb.Unlinked t words e gone few (class, small, is, _) = subst Are (sym is) (natural_part class small, tt)
fact_parts s verb.Warned t words e gone few (home, small, is, _) = subst Are (sym is) (natural_part home small, tt)
fact_parts s verb.Local t words e gone few (n, small, o, fits, is, _) = subst Are (sym is) (long_part n small, (kept_part o fits, tt))
fact_parts s verb.Pending t words e gone few (o, fits, is, _) = subst Are (sym is) (kept_part o fits, tt)
fact_parts s verb.Length t words e gone few (o, fits, n, small, is, _) = subst Are (sym is) (object_part o fits, (natural_part n small, tt))
fact_parts s verb.Bounds t words e gone few (a, ha, b, hb, c, hc, is, _) =
    subst Are (sym is) (signed_part a ha, (signed_part b hb, (signed_part c hc, tt)))

-- ---- events

-- the fields of a text: a thread's, and such words
pub record HasParts (text : List ℕ) : Type 0 where
  pub by : Tid
  pub fits : FitsTid by
  pub words : List (List ℕ)
  pub split : fields text ≡ tid_text by ∷ words
  pub parts : AllByRecursion IsPart (tid_text by ∷ words)

pub has_parts : (s : StatedSetup) (text : List ℕ) (e : Event) (xs : List Argument) (gone : List ObjId) → FitsSetup s → SpellsEvent s text e xs gone
    → HasParts text
has_parts s text e xs gone few (inl (t, env, place, row, words, h, asks, _)) = record {
  by = t;
  fits = h.fits_tid;
  words = env_text env ∷ row.name ∷ words;
  split = h.split;
  parts = (
    tid_part t h.fits_tid,
    (env_part env h.fits_env, (function_part place row h.at, operand_parts row.takes words xs asks)),
  );
}
has_parts s text e xs gone few (inr (t, v, words, h, tells)) = record {
  by = t;
  fits = h.tid;
  words = h.word ∷ words;
  split = h.split;
  parts = (tid_part t h.tid, (tested h.word (verb_part h.word v h.verb), fact_parts s v t words e gone few tells));
}
