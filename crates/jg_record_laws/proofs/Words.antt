-- No two values have one word.
use Rattle.std.proofs.Common.{◌≡◌, ◌<◌, ◌^◌, ◌∷◌, ◌++◌, ℕ, ℤ, Bool, true, false, List, [], get_or, map, codes, Option, Some, None, FitsSigned, w32, w64, refl, sym, ap, subst, arith}
use Rattle.std.specs.Prelude.{if◌then◌else◌}
use Rattle.std.specs.Int.{IsInRange}
use Rattle.std.specs.List.{AllByRecursion}
use Rattle.std.specs.Fmt.{decimal, signed_decimal}
use Rattle.std.specs.Str.{bytes_eq}
use Rattle.std.specs.Str.Parse.{AllDigits}
use Rattle.std.specs.Cmp.Lexicographic.{same_text}
use Rattle.std.proofs.lemmas.Fmt.{decimal_injective, signed_decimal_injective, digits_decimal}
use Rattle.std.proofs.lemmas.Str.Parse.{digit_from_value}
use Rattle.jg_words.specs.declared.thread.Tid.{Tid}
use Rattle.jg_words.specs.declared.thread.EnvId.{EnvId}
use Rattle.jg_words.specs.declared.object.ObjId.{ObjId}
use Rattle.jg_words.specs.declared.buffer.BufId.{BufId}
use Rattle.jg_words.specs.declared.reference.Ref.{Ref}
use Rattle.jg_words.specs.declared.reference.Ref.TheVariants.{Null}
use Rattle.jg_words.specs.declared.call.Call.{Call}
use Rattle.jg_words.specs.declared.call.Call.TheVariants.{Refs, Buffers}
use Rattle.jg_words.specs.declared.call.refs.RefsCall.TheVariants.{DeleteLocalRef}
use Rattle.jg_words.specs.declared.call.buffers.BuffersCall.TheVariants.{ReleaseStringChars}
use Rattle.jg_words.specs.Fun.{name_of}
use Rattle.jg_words.specs.Call.{fun_of}
use Rattle.std.specs.List.{join_with_byte}
use Rattle.jg_text.specs.Words.{tid_text, env_text, ref_text, buf_text, FitsEnv, FitsRef, FitsBuf}
use Rattle.jg_text.specs.Spelling.{spelling}
use Rattle.jg_text.proofs.Cuts.{no_cut, same_cut}
use Rattle.jg_text.proofs.Laws.{spelt_once}
use Rattle.jg_text.proofs.Numbers.{own, clean_decimal, mag_fits, mag_fits_small}
use Rattle.jg_record.specs.Words.{object_text, kept_text, stated_text, id_text, list_text, FitsObject, FitsKept, FitsStated}

-- ---- what a word of a list of words is

-- a word that is chosen by a test is the one that is tested for, or is chosen by a later test
pub chosen : {A : Type 0} (P : List ℕ → Type 0) (word known : List ℕ) (x y : A) (rest : Option A) → P known → (rest ≡ Some y → P word)
    → (if bytes_eq word known then Some x else rest) ≡ Some y → P word
chosen {A} P word known x y rest here more is = by (bytes_eq word known) refl is
  where
    by : (b : Bool) → bytes_eq word known ≡ b → (if b then Some x else rest) ≡ Some y → P word
    by true same found = subst P (sym (same_text word known (sym same))) here
    by false other found = more found

-- ---- numbers

-- a number begins with a digit
pub digit_first : (n : ℕ) → n < 2 ^ 64 → (b : ℕ) (rest : List ℕ) → decimal n ≡ b ∷ rest → IsInRange 48 57 b
digit_first n small b rest is = let digits : AllDigits 10 (b ∷ rest) = subst (AllDigits 10) is (digits_decimal own n small) in digit_from_value b digits.0

pub signed_same : (m n : ℤ) → FitsSigned w32 m → FitsSigned w32 n → signed_decimal m ≡ signed_decimal n → m ≡ n
signed_same m n h k same = signed_decimal_injective m n (mag_fits_small m h) (mag_fits_small n k) same

pub long_same : (m n : ℤ) → FitsSigned w64 m → FitsSigned w64 n → signed_decimal m ≡ signed_decimal n → m ≡ n
long_same m n h k same = signed_decimal_injective m n (mag_fits m h) (mag_fits n k) same

-- what 32 bits hold and what they don't hold have two words
pub short_or_long : (m n : ℤ) → FitsSigned w32 m → FitsSigned w64 n → ¬ FitsSigned w32 n → signed_decimal m ≡ signed_decimal n → ⊥
short_or_long m n h k long same =
    long (subst (FitsSigned w32) (signed_decimal_injective m n (mag_fits_small m h) (mag_fits n k) same) h)

pub natural_same : (m n : ℕ) → m < 2 ^ 32 → n < 2 ^ 32 → decimal m ≡ decimal n → m ≡ n
natural_same m n h k same = decimal_injective m n (omega (arith, h)) (omega (arith, k)) same

-- ---- objects, numbers that may be none, IDs and lists

pub object_same : (o q : ObjId) → FitsObject o → FitsObject q → object_text o ≡ object_text q → o ≡ q
object_same o q h k same =
    let numbers : decimal o.0 ≡ decimal q.0 = cc in
    ap (λ (m : ℕ). let v : ObjId = record { 0 = m } in v) (decimal_injective o.0 q.0 h k numbers)

pub objects_same : (os qs : List ObjId) → AllByRecursion FitsObject os → AllByRecursion FitsObject qs → map object_text os ≡ map object_text qs → os ≡ qs
objects_same [] [] h k same = refl
objects_same [] (q ∷ qs) h k same = absurd (let no : ⊥ = cc in no)
objects_same (o ∷ os) [] h k same = absurd (let no : ⊥ = cc in no)
objects_same (o ∷ os) (q ∷ qs) h k same =
    let head : object_text o ≡ object_text q = cc in
    let tail : map object_text os ≡ map object_text qs = cc in
    let first = object_same o q h.0 k.0 head in
    let rest = objects_same os qs h.1 k.1 tail in
    cc (first, rest)

pub kept_same : (o q : Option ObjId) → FitsKept o → FitsKept q → kept_text o ≡ kept_text q → o ≡ q
kept_same None None h k same = refl
kept_same None (Some q) h k same = absurd (omega (arith, ap (λ bs. get_or bs 0 0) same))
kept_same (Some o) None h k same = absurd (omega (arith, ap (λ bs. get_or bs 0 0) same))
kept_same (Some o) (Some q) h k same = ap (λ (x : ObjId). Some x) (object_same o q h k same)

no_dash : (n : ℕ) → n < 2 ^ 32 → codes "-" ≡ decimal n → ⊥
no_dash n small same = let digit = digit_first n (omega (arith, small)) 45 [] (sym same) in absurd (omega (arith, digit))

pub stated_same : (m n : Option ℕ) → FitsStated m → FitsStated n → stated_text m ≡ stated_text n → m ≡ n
stated_same None None h k same = refl
stated_same None (Some n) h k same = absurd (no_dash n k same)
stated_same (Some m) None h k same = absurd (no_dash m h (sym same))
stated_same (Some m) (Some n) h k same = ap (λ (x : ℕ). Some x) (natural_same m n h k same)

pub id_same : (a b : Bool) → id_text a ≡ id_text b → a ≡ b
id_same true true same = refl
id_same true false same = absurd (let no : ⊥ = cc in no)
id_same false true same = absurd (let no : ⊥ = cc in no)
id_same false false same = refl

no_mark : (m n : ℕ) → m < 2 ^ 64 → n < 2 ^ 64 → decimal m ≡ decimal n ++ codes "!" → ⊥
no_mark m n h k same = no_cut 33 (decimal m) (decimal n) [] (clean_decimal 33 m (omega arith) h) (clean_decimal 33 n (omega arith) k) same

pub list_same : (m n : ℕ) (a b : Bool) → m < 2 ^ 64 → n < 2 ^ 64 → list_text m a ≡ list_text n b → (m ≡ n) × (a ≡ b)
list_same m n true true h k same = (decimal_injective m n h k same, refl)
list_same m n true false h k same = absurd (no_mark m n h k same)
list_same m n false true h k same = absurd (no_mark n m k h (sym same))
list_same m n false false h k same =
    let cut = same_cut 33 (decimal m) [] (decimal n) [] (clean_decimal 33 m (omega arith) h) (clean_decimal 33 n (omega arith) k) same in
    (decimal_injective m n h k cut.0, refl)

-- ---- references, buffers and environments: lines of scripts that differ in them alone are two

abbrev first_tid : Tid
first_tid = record { 0 = 0 }

abbrev deletion : Ref → Call
deletion r = Refs (DeleteLocalRef r)

abbrev release : BufId → Call
release b = Buffers (ReleaseStringChars Null b)

abbrev line_of : Option EnvId → Call → List ℕ → List ℕ
line_of e c word = join_with_byte 32 (tid_text first_tid ∷ env_text e ∷ name_of (fun_of c) ∷ word ∷ [])

pub ref_same : (r q : Ref) → FitsRef r → FitsRef q → ref_text r ≡ ref_text q → r ≡ q
unfolding spelling
ref_same r q h k same =
    let once = spelt_once (spelling first_tid None (deletion r)) first_tid first_tid None None (deletion r) (deletion q)
    (record { tid = omega arith; env = tt; call = (h, tt); text = refl })
    (record { tid = omega arith; env = tt; call = (k, tt); text = ap (line_of None (deletion r)) same }) in
    let calls : deletion r ≡ deletion q = once.2 in
    cc

pub buf_same : (b c : BufId) → FitsBuf b → FitsBuf c → buf_text b ≡ buf_text c → b ≡ c
unfolding spelling
buf_same b c h k same =
    let once = spelt_once (spelling first_tid None (release b)) first_tid first_tid None None (release b) (release c)
    (record { tid = omega arith; env = tt; call = (tt, (h, tt)); text = refl })
    (record {
      tid = omega arith;
      env = tt;
      call = (tt, (k, tt));
      text = ap (λ (word : List ℕ). join_with_byte 32 (tid_text first_tid ∷ env_text None ∷ name_of (fun_of (release b)) ∷ ref_text Null ∷ word ∷ [])) same;
    }) in
    let calls : release b ≡ release c = once.2 in
    cc

pub env_same : (e f : Option EnvId) → FitsEnv e → FitsEnv f → env_text e ≡ env_text f → e ≡ f
unfolding spelling
env_same e f h k same =
    (spelt_once (spelling first_tid e (deletion Null)) first_tid first_tid e f (deletion Null) (deletion Null)
    (record { tid = omega arith; env = h; call = (tt, tt); text = refl })
    (record {
      tid = omega arith;
      env = k;
      call = (tt, tt);
      text = ap (λ (word : List ℕ). join_with_byte 32 (tid_text first_tid ∷ word ∷ name_of (fun_of (deletion Null)) ∷ ref_text Null ∷ [])) same;
    })).1
