-- Each line spells one thread, one environment and one call, and has no fault.
use Rattle.std.proofs.Common.{◌≡◌, ◌≢◌, ℕ, ℤ, pos, negsuc, suc, ◌+◌, ◌*◌, length-append, ◌<◌, ◌≤◌, ◌^◌, List, [], ◌∷◌, ◌++◌, length, get_or, map, All, FitsSigned, w64, ◌==◌, true, Option, Some, None, refl, sym, ◌∙◌, ap, arith, subst, append_assoc}
use Rattle.std.specs.Int.{IsInRange}
use Rattle.std.specs.List.{join_with_byte, AllByRecursion}
use Rattle.std.specs.Fmt.{decimal, signed_decimal}
use Rattle.std.proofs.lemmas.Bool.{ne_eqb, and_parts, ltb-true}
use Rattle.std.proofs.lemmas.Bool.Decides.{nat_tests}
use Rattle.std.specs.Prelude.{nat_eq, nat_lt, Bool, ◌&&◌}
use Rattle.std.specs.List.{list_all}
use Rattle.std.specs.Cmp.Lexicographic.{pointwise}
use Rattle.std.specs.Str.Parse.{AllDigits}
use Rattle.std.proofs.lemmas.Str.Parse.{digit_from_value}
use Rattle.std.proofs.lemmas.Fmt.{decimal_injective, signed_decimal_injective, digits_decimal, decimal_nonempty, length-decimal-le, length_signed_le}
use Rattle.std.proofs.lemmas.List.Elements.{All-cons, All-append, All-nil, All-from_recursion}
use Rattle.std.proofs.lemmas.List.Splits.{slice_split_none}
use Rattle.jg_words.specs.declared.thread.Tid.{Tid}
use Rattle.jg_words.specs.declared.thread.EnvId.{EnvId}
use Rattle.jg_words.specs.declared.object.FieldId.{FieldId}
use Rattle.jg_words.specs.declared.buffer.BufId.{BufId}
use Rattle.jg_words.specs.declared.reference.Kind.{Kind}
use Rattle.jg_words.specs.declared.reference.Kind.TheVariants.{Local, Global, Weak}
use Rattle.jg_words.specs.declared.reference.Ref.{Ref}
use Rattle.jg_words.specs.declared.reference.Ref.TheVariants.{Null, To}
use Rattle.jg_words.specs.declared.fun.Fun.{Fun}
use Rattle.jg_words.specs.Fun.{name_of, all}
use Rattle.jg_words.proofs.Names.{named-name_of}
use Rattle.jg_words.specs.declared.call.Call.{Call}
use Rattle.jg_words.specs.Call.{fun_of}
use Rattle.jg_text.specs.Kinds.{OperandKind}
use Rattle.jg_text.specs.Words.{SpellsOperand, SpellOperands, tid_text, env_text, ref_text, dotted_text, kind_letter, buf_text, field_text, FitsTid, FitsEnv, FitsRef, FitsBuf, FitsField, Word, of_ref, of_number, of_long_number, of_items, of_name, of_field, of_buffer, kind_of, text_of, FitsWord}
use Rattle.jg_text.specs.Operands.{operands, operand_texts, operand_kinds, FitsCall}
use Rattle.jg_text.specs.Spelling.{spelling, line_fields, Spells}
use Rattle.jg_text.specs.Faults.{fields, HasFault}
use Rattle.jg_text.specs.Pieces.{after_spaces}
use Rattle.jg_text.proofs.Numbers.{own, mag_fits, mag_fits_small}
use Rattle.jg_text.proofs.Cuts.{IsClean, split_first, dotted_same}
use Rattle.jg_text.proofs.Lists.{Fit, pieces, commas_split, same_inner}
use Rattle.jg_words.proofs.ByName.{names_injective, each_passes}
use Rattle.jg_text.proofs.Calls.{same_call, same_kinds, few_operands, longest, room}
use Rattle.jg_text.proofs.Faulty.{HasHead, no_fault}
use Rattle.jg_text.proofs.Writing.{join_operands}
use Rattle.jg_text.specs.declared.fault.ScriptFault.{ScriptFault}
use Rattle.std.proofs.lemmas.List.{length-map}

-- bytes that are seen: no space among them
abbrev pub IsVisible : List ℕ → Type 0
IsVisible bs = All (λ b. IsInRange 33 126 b) bs

pub clean_of : (bs : List ℕ) → IsVisible bs → IsClean 32 bs
clean_of bs h = λ k d within. let v = h k d within in ne_eqb (get_or bs k d) 32 (λ e. absurd (omega (arith, v, e)))

seen_cons : (b : ℕ) (bs : List ℕ) → IsInRange 33 126 b → IsVisible bs → IsVisible (b ∷ bs)
seen_cons b bs h k = All-cons (λ x. IsInRange 33 126 x) b bs h k

seen_append : (bs cs : List ℕ) → IsVisible bs → IsVisible cs → IsVisible (bs ++ cs)
seen_append bs cs h k = All-append (λ x. IsInRange 33 126 x) bs cs h k

seen_digits : (bs : List ℕ) → AllDigits 10 bs → AllByRecursion (λ b. IsInRange 33 126 b) bs
seen_digits [] h = tt
seen_digits (b ∷ bs) h = let digit = digit_from_value b h.0 in (omega (arith, digit), seen_digits bs h.1)

pub seen_number : (n : ℕ) → n < 2 ^ 64 → IsVisible (decimal n)
seen_number n small = All-from_recursion (λ b. IsInRange 33 126 b) (decimal n) (seen_digits (decimal n) (digits_decimal own n small))

pub seen_signed : (z : ℤ) → FitsSigned w64 z → IsVisible (signed_decimal z)
seen_signed (pos n) fits = seen_number n (omega (arith, fits))
seen_signed (negsuc m) fits = seen_cons 45 (decimal (suc m)) (omega arith) (seen_number (suc m) (omega (arith, fits)))

pub seen_dotted : (a b : ℕ) → a < 2 ^ 64 → b < 2 ^ 64 → IsVisible (dotted_text a b)
seen_dotted a b ha hb = seen_append (decimal a) (46 ∷ decimal b) (seen_number a ha) (seen_cons 46 (decimal b) (omega arith) (seen_number b hb))

seen_joined : (xs : List ℤ) → Fit xs → IsVisible (join_with_byte 44 (map signed_decimal xs))
seen_joined [] f = All-nil (λ b. IsInRange 33 126 b)
seen_joined (x ∷ []) f = seen_signed x (f 0 x (omega arith))
seen_joined (x ∷ y ∷ ys) f =
    seen_append (signed_decimal x) (44 ∷ join_with_byte 44 (map signed_decimal (y ∷ ys))) (seen_signed x (f 0 x (omega arith)))
    (seen_cons 44 (join_with_byte 44 (map signed_decimal (y ∷ ys))) (omega arith) (seen_joined (y ∷ ys) (λ k d within. f (suc k) d (omega arith))))

-- fields that have no space are what the line splits into
fields_join : (part : List ℕ) (parts : List (List ℕ)) → AllByRecursion (IsClean 32) (part ∷ parts) → fields (join_with_byte 32 (part ∷ parts)) ≡ part ∷ parts
fields_join part [] h = slice_split_none (λ b. b == 32) part h.0
fields_join part (next ∷ parts) h = split_first 32 part (join_with_byte 32 (next ∷ parts)) h.0 ∙ ap (λ ps. part ∷ ps) (fields_join next parts h.1)

letters_same : (k l : Kind) → kind_letter k ≡ kind_letter l → k ≡ l
letters_same Local Local e = refl
letters_same Global Global e = refl
letters_same Weak Weak e = refl
letters_same Local Global e = absurd (omega (arith, e))
letters_same Local Weak e = absurd (omega (arith, e))
letters_same Global Local e = absurd (omega (arith, e))
letters_same Global Weak e = absurd (omega (arith, e))
letters_same Weak Local e = absurd (omega (arith, e))
letters_same Weak Global e = absurd (omega (arith, e))

null_other : (k : Kind) (rest : List ℕ) → ref_text Null ≡ kind_letter k ∷ rest → ⊥
null_other Local rest e = absurd (omega (arith, ap (λ xs. get_or xs 0 0) e))
null_other Global rest e = absurd (omega (arith, ap (λ xs. get_or xs 0 0) e))
null_other Weak rest e = absurd (omega (arith, ap (λ xs. get_or xs 0 0) e))

refs_same : (r q : Ref) → FitsRef r → FitsRef q → ref_text r ≡ ref_text q → r ≡ q
refs_same Null Null h k e = refl
refs_same Null (To kind maker n) h k e = absurd (null_other kind (dotted_text maker.0 n) e)
refs_same (To kind maker n) Null h k e = absurd (null_other kind (dotted_text maker.0 n) (sym e))
refs_same (To kind maker n) (To kind' maker' n') h k e =
    let letter : kind_letter kind ≡ kind_letter kind' = cc in
    let numbers : dotted_text maker.0 n ≡ dotted_text maker'.0 n' = cc in
    let same = dotted_same maker.0 n maker'.0 n' (omega (arith, h.0)) h.1 (omega (arith, k.0)) k.1 numbers in
    let kinds = letters_same kind kind' letter in
    let makers : maker ≡ maker' = ap (λ (m : ℕ). let t : Tid = record { 0 = m } in t) same.0 in
    cc (kinds, makers, same.1)

field_ids_same : (f g : FieldId) → FitsField f → FitsField g → field_text f ≡ field_text g → f ≡ g
field_ids_same f g h k e =
    let numbers : dotted_text f.class f.field ≡ dotted_text g.class g.field = cc in
    let same = dotted_same f.class f.field g.class g.field (omega (arith, h.0)) (omega (arith, h.1)) (omega (arith, k.0)) (omega (arith, k.1)) numbers in
    ap (λ (m : ℕ). let v : FieldId = record { class = m; field = f.field } in v) same.0
    ∙ ap (λ (n : ℕ). let v : FieldId = record { class = g.class; field = n } in v) same.1

buf_ids_same : (b c : BufId) → FitsBuf b → FitsBuf c → buf_text b ≡ buf_text c → b ≡ c
buf_ids_same b c h k e =
    let numbers : dotted_text b.maker.0 b.n ≡ dotted_text c.maker.0 c.n = cc in
    let same = dotted_same b.maker.0 b.n c.maker.0 c.n (omega (arith, h.0)) h.1 (omega (arith, k.0)) k.1 numbers in
    ap (λ (m : ℕ). let v : BufId = record { maker = record { 0 = m }; n = b.n } in v) same.0
    ∙ ap (λ (n : ℕ). let v : BufId = record { maker = c.maker; n = n } in v) same.1

numbers_same : (xs ys : List ℤ) → Fit xs → Fit ys → map signed_decimal xs ≡ map signed_decimal ys → xs ≡ ys
numbers_same [] [] f g e = refl
numbers_same [] (y ∷ ys) f g e = absurd (cc)
numbers_same (x ∷ xs) [] f g e = absurd (cc)
numbers_same (x ∷ xs) (y ∷ ys) f g e =
    let head : signed_decimal x ≡ signed_decimal y = cc in
    let tail : map signed_decimal xs ≡ map signed_decimal ys = cc in
    let one = signed_decimal_injective x y (mag_fits x (f 0 x (omega arith))) (mag_fits y (g 0 y (omega arith))) head in
    let more = numbers_same xs ys (λ k d within. f (suc k) d (omega arith)) (λ k d within. g (suc k) d (omega arith)) tail in
    cc (one, more)

some_digits : (z : ℤ) → FitsSigned w64 z → [] ≢ signed_decimal z
some_digits (pos n) fits e = let some = decimal_nonempty n (omega (arith, fits)) in absurd (omega (arith, some, ap length e))
some_digits (negsuc m) fits e = absurd (cc)

no_join : (y : ℤ) (ys : List ℤ) → Fit (y ∷ ys) → [] ≢ join_with_byte 44 (map signed_decimal (y ∷ ys))
no_join y ys g e =
    let split : [] ∷ [] ≡ signed_decimal y ∷ map signed_decimal ys = ap pieces e ∙ commas_split y ys g in
    let head : [] ≡ signed_decimal y = cc in
    some_digits y (g 0 y (omega arith)) head

joined_same : (xs ys : List ℤ) → Fit xs → Fit ys → join_with_byte 44 (map signed_decimal xs) ≡ join_with_byte 44 (map signed_decimal ys) → xs ≡ ys
joined_same [] [] f g e = refl
joined_same [] (y ∷ ys) f g e = absurd (no_join y ys g e)
joined_same (x ∷ xs) [] f g e = absurd (no_join x xs f (sym e))
joined_same (x ∷ xs) (y ∷ ys) f g e = numbers_same (x ∷ xs) (y ∷ ys) f g (sym (commas_split x xs f) ∙ ap pieces e ∙ commas_split y ys g)

word_same : (a b : Word) → kind_of a ≡ kind_of b → FitsWord a → FitsWord b → text_of a ≡ text_of b → a ≡ b
word_same (of_ref r) (of_ref q) e h k t = ap of_ref (refs_same r q h k t)
word_same (of_number i) (of_number j) e h k t = ap of_number (signed_decimal_injective i j (mag_fits_small i h) (mag_fits_small j k) t)
word_same (of_long_number i) (of_long_number j) e h k t = ap of_long_number (signed_decimal_injective i j (mag_fits i h) (mag_fits j k) t)
word_same (of_items xs) (of_items ys) e h k t = ap of_items (joined_same xs ys h.1 k.1 (same_inner _ _ t))
word_same (of_name a) (of_name b) e h k t = ap of_name t
word_same (of_field f) (of_field g) e h k t = ap of_field (field_ids_same f g h k t)
word_same (of_buffer b) (of_buffer c) e h k t = ap of_buffer (buf_ids_same b c h k t)
word_same _ _ e h k t = absurd (cc)

words_same : (us vs : List Word) → map kind_of us ≡ map kind_of vs → AllByRecursion FitsWord us → AllByRecursion FitsWord vs → map text_of us ≡ map text_of vs
    → us ≡ vs
words_same [] [] e h k t = refl
words_same [] (b ∷ vs) e h k t = absurd (cc)
words_same (a ∷ us) [] e h k t = absurd (cc)
words_same (a ∷ us) (b ∷ vs) e h k t =
    let kind : kind_of a ≡ kind_of b = cc in
    let kinds : map kind_of us ≡ map kind_of vs = cc in
    let text : text_of a ≡ text_of b = cc in
    let texts : map text_of us ≡ map text_of vs = cc in
    let one = word_same a b kind h.0 k.0 text in
    let more = words_same us vs kinds h.1 k.1 texts in
    cc (one, more)

abbrev is_seen : ℕ → Bool
is_seen b = nat_lt 32 b && nat_lt b 127

in_range : (b : ℕ) → nat_lt 32 b ≡ true → nat_lt b 127 ≡ true → IsInRange 33 126 b
in_range b h k = grind (arith, nat_tests)

seen_by_test : (bs : List ℕ) → list_all is_seen bs ≡ true → AllByRecursion (λ b. IsInRange 33 126 b) bs
seen_by_test [] h = tt
seen_by_test (b ∷ bs) h =
    let parts = and_parts (is_seen b) (list_all is_seen bs) h in
    let two = and_parts (nat_lt 32 b) (nat_lt b 127) parts.0 in
    (in_range b two.0 two.1, seen_by_test bs parts.1)

-- each operand is seen
pub seen_word : (a : Word) → FitsWord a → IsVisible (text_of a)
seen_word (of_ref Null) h = All-from_recursion (λ b. IsInRange 33 126 b) (ref_text Null) (seen_by_test (ref_text Null) refl)
seen_word (of_ref (To Local maker n)) h = seen_cons 76 (dotted_text maker.0 n) (omega arith) (seen_dotted maker.0 n (omega (arith, h.0)) h.1)
seen_word (of_ref (To Global maker n)) h = seen_cons 71 (dotted_text maker.0 n) (omega arith) (seen_dotted maker.0 n (omega (arith, h.0)) h.1)
seen_word (of_ref (To Weak maker n)) h = seen_cons 87 (dotted_text maker.0 n) (omega arith) (seen_dotted maker.0 n (omega (arith, h.0)) h.1)
seen_word (of_number (pos n)) h = seen_number n (omega (arith, h))
seen_word (of_number (negsuc m)) h = seen_cons 45 (decimal (suc m)) (omega arith) (seen_number (suc m) (omega (arith, h)))
seen_word (of_long_number i) h = seen_signed i h
seen_word (of_items xs) h = seen_cons 91 (join_with_byte 44 (map signed_decimal xs)
    ++ 93 ∷ []) (omega arith)
    (seen_append (join_with_byte 44 (map signed_decimal xs)) (93 ∷ []) (seen_joined xs h.1)
    (seen_cons 93 [] (omega arith) (All-nil (λ b. IsInRange 33 126 b))))
seen_word (of_name name) h = λ k d within. let v = h.2 k d within in omega (arith, v)
seen_word (of_field f) h = seen_cons 70 (dotted_text f.class f.field) (omega arith) (seen_dotted f.class f.field (omega (arith, h.0)) (omega (arith, h.1)))
seen_word (of_buffer b) h = seen_cons 66 (dotted_text b.maker.0 b.n) (omega arith) (seen_dotted b.maker.0 b.n (omega (arith, h.0)) h.1)

seen_words : (us : List Word) → AllByRecursion FitsWord us → AllByRecursion IsVisible (map text_of us)
seen_words [] h = tt
seen_words (u ∷ us) h = (seen_word u h.0, seen_words us h.1)

pub seen_tid : (t : Tid) → FitsTid t → IsVisible (tid_text t)
seen_tid t h = seen_cons 84 (decimal t.0) (omega arith) (seen_number t.0 (omega (arith, h)))

pub seen_env : (e : Option EnvId) → FitsEnv e → IsVisible (env_text e)
seen_env None h = seen_cons 45 [] (omega arith) (All-nil (λ b. IsInRange 33 126 b))
seen_env (Some e) h = seen_cons 69 (dotted_text e.tid.0 e.session) (omega arith) (seen_dotted e.tid.0 e.session (omega (arith, h.0)) h.1)

seen_name : (f : Fun) → IsVisible (name_of f)
seen_name f = All-from_recursion (λ b. IsInRange 33 126 b) (name_of f)
    (seen_by_test (name_of f) (each_passes (λ g. pointwise nat_eq (name_of g) (name_of f)) (λ g. list_all is_seen (name_of g)) all f (named-name_of f) refl))

clean_all : (parts : List (List ℕ)) → AllByRecursion IsVisible parts → AllByRecursion (IsClean 32) parts
clean_all [] h = tt
clean_all (part ∷ parts) h = (clean_of part h.0, clean_all parts h.1)

seen_fields : (t : Tid) (e : Option EnvId) (c : Call) → FitsTid t → FitsEnv e → FitsCall c → AllByRecursion IsVisible (line_fields t e c)
seen_fields t e c ht he hc = (seen_tid t ht, (seen_env e he, (seen_name (fun_of c), seen_words (operands c) hc)))

-- a line that is spelt splits into its fields
pub fields_spelling : (t : Tid) (e : Option EnvId) (c : Call) → FitsTid t → FitsEnv e → FitsCall c → fields (spelling t e c) ≡ line_fields t e c
unfolding spelling
fields_spelling t e c ht he hc =
    fields_join (tid_text t) (env_text e ∷ name_of (fun_of c) ∷ operand_texts c) (clean_all (line_fields t e c) (seen_fields t e c ht he hc))

pub tids_same : (t u : Tid) → FitsTid t → FitsTid u → tid_text t ≡ tid_text u → t ≡ u
tids_same t u h k e =
    let numbers : decimal t.0 ≡ decimal u.0 = cc in
    ap (λ (m : ℕ). let v : Tid = record { 0 = m } in v) (decimal_injective t.0 u.0 (omega (arith, h)) (omega (arith, k)) numbers)

envs_same : (e f : Option EnvId) → FitsEnv e → FitsEnv f → env_text e ≡ env_text f → e ≡ f
envs_same None None h k s = refl
envs_same None (Some f) h k s = absurd (omega (arith, ap (λ xs. get_or xs 0 0) s))
envs_same (Some e) None h k s = absurd (omega (arith, ap (λ xs. get_or xs 0 0) s))
envs_same (Some e) (Some f) h k s =
    let numbers : dotted_text e.tid.0 e.session ≡ dotted_text f.tid.0 f.session = cc in
    let same = dotted_same e.tid.0 e.session f.tid.0 f.session (omega (arith, h.0)) h.1 (omega (arith, k.0)) k.1 numbers in
    ap (λ (m : ℕ). let v : Option EnvId = Some (record { tid = record { 0 = m }; session = e.session }) in v) same.0
    ∙ ap (λ (n : ℕ). let v : Option EnvId = Some (record { tid = f.tid; session = n }) in v) same.1

-- one line spells one call at most
pub spelt_once : (line : List ℕ) (t u : Tid) (e f : Option EnvId) (c d : Call) → Spells line t e c → Spells line u f d → (t ≡ u) × (e ≡ f) × (c ≡ d)
spelt_once line t u e f c d h k =
    let split : line_fields t e c ≡ line_fields u f d =
    sym (fields_spelling t e c h.tid h.env h.call) ∙ ap fields (sym h.text ∙ k.text) ∙ fields_spelling u f d k.tid k.env k.call in
    let first : tid_text t ≡ tid_text u = cc in
    let second : env_text e ≡ env_text f = cc in
    let third : name_of (fun_of c) ≡ name_of (fun_of d) = cc in
    let rest : operand_texts c ≡ operand_texts d = cc in
    let funs = names_injective (fun_of c) (fun_of d) third in
    let kinds : map kind_of (operands c) ≡ map kind_of (operands d) = same_kinds c ∙ ap operand_kinds funs ∙ sym (same_kinds d) in (
      tids_same t u h.tid k.tid first,
      envs_same e f h.env k.env second,
      same_call c d funs (words_same (operands c) (operands d) kinds h.call k.call rest),
    )

-- bounds
pub dotted_short : (a b : ℕ) → a < 2 ^ 64 → b < 2 ^ 64 → length (dotted_text a b) ≤ 41
dotted_short a b ha hb = simp length-append
    (omega (arith, length-decimal-le 20 a (omega arith) (omega arith) ha, length-decimal-le 20 b (omega arith) (omega arith) hb))

pub signed_short : (z : ℤ) → FitsSigned w64 z → length (signed_decimal z) ≤ 20
signed_short z h = let small = mag_fits z h in length_signed_le 19 z (omega arith) small

pub joined_short : (xs : List ℤ) → Fit xs → length (join_with_byte 44 (map signed_decimal xs)) ≤ 21 * length xs
joined_short [] f = omega arith
joined_short (x ∷ []) f = omega (arith, signed_short x (f 0 x (omega arith)))
joined_short (x ∷ y ∷ ys) f =
    let more = joined_short (y ∷ ys) (λ k d within. f (suc k) d (omega arith)) in
    simp length-append (omega (arith, signed_short x (f 0 x (omega arith)), more))

word_short : (a : Word) → FitsWord a → length (text_of a) ≤ longest (kind_of a)
word_short (of_ref Null) h = omega arith
word_short (of_ref (To kind maker n)) h = omega (arith, dotted_short maker.0 n (omega (arith, h.0)) h.1)
word_short (of_number i) h = let short = length_signed_le 19 i (omega (arith, mag_fits_small i h)) (mag_fits_small i h) in omega (arith, short)
word_short (of_long_number i) h = omega (arith, signed_short i h)
word_short (of_items xs) h = simp length-append (omega (arith, joined_short xs h.1, h.0))
word_short (of_name name) h = omega (arith, h.1)
word_short (of_field f) h = omega (arith, dotted_short f.class f.field (omega (arith, h.0)) (omega (arith, h.1)))
word_short (of_buffer b) h = omega (arith, dotted_short b.maker.0 b.n (omega (arith, h.0)) h.1)

words_short : (us : List Word) → AllByRecursion FitsWord us → length (after_spaces (map text_of us)) ≤ room (map kind_of us)
words_short [] h = omega arith
words_short (u ∷ us) h = simp length-append (omega (arith, word_short u h.0, words_short us h.1))

name_short : (f : Fun) → length (name_of f) < 40
name_short f = ltb-true (length (name_of f)) 40
    (each_passes (λ g. pointwise nat_eq (name_of g) (name_of f)) (λ g. nat_lt (length (name_of g)) 40) all f (named-name_of f) refl)

env_short : (e : Option EnvId) → FitsEnv e → length (env_text e) ≤ 42
env_short None h = omega arith
env_short (Some e) h = omega (arith, dotted_short e.tid.0 e.session (omega (arith, h.0)) h.1)

few_words : (c : Call) → room (map kind_of (operands c)) ≤ 21600
few_words c = rw (same_kinds c) (few_operands (fun_of c))

total : (a b c d : List ℕ) → length (84 ∷ (a ++ 32 ∷ (b ++ 32 ∷ (c ++ d)))) ≡ length a + length b + length c + length d + 3
total a b c d = omega (arith, length-append a (32 ∷ (b ++ 32 ∷ (c ++ d))), length-append b (32 ∷ (c ++ d)), length-append c d)

pub short_call : (t : Tid) (e : Option EnvId) (c : Call) → FitsTid t → FitsEnv e → FitsCall c → length (spelling t e c) ≤ 22000
unfolding spelling
short_call t e c ht he hc =
    let rest = words_short (operands c) hc in
    rw (join_operands (name_of (fun_of c)) (operand_texts c))
    (omega (
      arith,
      total (decimal t.0) (env_text e) (name_of (fun_of c)) (after_spaces (operand_texts c)),
      length-decimal-le 20 t.0 (omega arith) (omega (arith, ht)) (omega (arith, ht)),
      env_short e he,
      name_short (fun_of c),
      rest,
      few_words c,
    ))

pub wide : (bs : List ℕ) → IsVisible bs → All (λ b. IsInRange 32 126 b) bs
wide bs h = λ k d within. let v = h k d within in omega (arith, v)

printable_join : (parts : List (List ℕ)) → AllByRecursion IsVisible parts → All (λ b. IsInRange 32 126 b) (join_with_byte 32 parts)
printable_join [] h = All-nil (λ b. IsInRange 32 126 b)
printable_join (part ∷ []) h = wide part h.0
printable_join (part ∷ next ∷ parts) h =
    All-append (λ b. IsInRange 32 126 b) part (32 ∷ join_with_byte 32 (next ∷ parts)) (wide part h.0)
    (All-cons (λ b. IsInRange 32 126 b) 32 (join_with_byte 32 (next ∷ parts)) (omega arith) (printable_join (next ∷ parts) h.1))

pub printable_line : (t : Tid) (e : Option EnvId) (c : Call) → FitsTid t → FitsEnv e → FitsCall c → All (λ b. IsInRange 32 126 b) (spelling t e c)
unfolding spelling
printable_line t e c ht he hc = printable_join (line_fields t e c) (seen_fields t e c ht he hc)

word_spelt : (a : Word) → FitsWord a → SpellsOperand (kind_of a) (text_of a)
word_spelt (of_ref r) h = (r, h, refl)
word_spelt (of_number i) h = (i, h, refl)
word_spelt (of_long_number i) h = (i, h, refl)
word_spelt (of_items xs) h = (xs, h, refl)
word_spelt (of_name name) h = (name, h, refl)
word_spelt (of_field f) h = (f, h, refl)
word_spelt (of_buffer b) h = (b, h, refl)

words_spelt : (us : List Word) → AllByRecursion FitsWord us → SpellOperands (map kind_of us) (map text_of us)
words_spelt [] h = tt
words_spelt (u ∷ us) h = (word_spelt u h.0, words_spelt us h.1)

spelt_head : (t : Tid) (e : Option EnvId) (c : Call) → FitsTid t → FitsEnv e → FitsCall c → HasHead (spelling t e c) t e (fun_of c) (operand_texts c)
spelt_head t e c ht he hc = record {
  short = (let short = short_call t e c ht he hc in omega (arith, short));
  printable = printable_line t e c ht he hc;
  tid = ht;
  env = he;
  split = fields_spelling t e c ht he hc;
}

pub same_count : (c : Call) → length (operand_texts c) ≡ length (operand_kinds (fun_of c))
same_count c = let count = simp length-map at (ap length (same_kinds c)) in simp length-map count

pub spelt_faultless : (line : List ℕ) (t : Tid) (e : Option EnvId) (c : Call) (f : ScriptFault) → Spells line t e c → ¬ HasFault f line
spelt_faultless line t e c f h = λ bad.
    let kinds = same_kinds c in
    let count : length (operand_texts c) ≡ length (operand_kinds (fun_of c)) = same_count c in
    let spelt = subst (λ (ks : List OperandKind). SpellOperands ks (operand_texts c)) kinds (words_spelt (operands c) h.call) in
    no_fault (spelling t e c) t e (fun_of c) (operand_texts c) (spelt_head t e c h.tid h.env h.call) count spelt f
    (subst (λ (l : List ℕ). HasFault f l) h.text bad)

-- a line that goes on after its call
fields_more : (part : List ℕ) (parts : List (List ℕ)) (more : List ℕ) → AllByRecursion (IsClean 32) (part ∷ parts)
    → fields (join_with_byte 32 (part ∷ parts) ++ 32 ∷ more) ≡ (part ∷ parts) ++ fields more
fields_more part [] more h = split_first 32 part more h.0
fields_more part (next ∷ parts) more h =
    ap fields (append_assoc part (32 ∷ join_with_byte 32 (next ∷ parts)) (32 ∷ more))
    ∙ split_first 32 part (join_with_byte 32 (next ∷ parts) ++ 32 ∷ more) h.0
    ∙ ap (λ ps. part ∷ ps) (fields_more next parts more h.1)

pub fields_longer : (t : Tid) (e : Option EnvId) (c : Call) (more : List ℕ) → FitsTid t → FitsEnv e → FitsCall c
    → fields (spelling t e c ++ 32 ∷ more) ≡ line_fields t e c ++ fields more
unfolding spelling
fields_longer t e c more ht he hc =
    fields_more (tid_text t) (env_text e ∷ name_of (fun_of c) ∷ operand_texts c) more (clean_all (line_fields t e c) (seen_fields t e c ht he hc))

same_front : (xs us ys vs : List (List ℕ)) → length xs ≡ length us → xs ++ ys ≡ us ++ vs → xs ≡ us
same_front [] [] ys vs n e = refl
same_front [] (u ∷ us) ys vs n e = absurd (omega (arith, n))
same_front (x ∷ xs) [] ys vs n e = absurd (omega (arith, n))
same_front (x ∷ xs) (u ∷ us) ys vs n e =
    let head : x ≡ u = cc in
    let tail : xs ++ ys ≡ us ++ vs = cc in
    let more = same_front xs us ys vs (omega (arith, n)) tail in
    cc (head, more)

-- a line that begins with a call and a space begins with one such call alone
pub begins_once : (t u : Tid) (e f : Option EnvId) (c d : Call) (x y : List ℕ) → FitsTid t → FitsEnv e → FitsCall c → FitsTid u → FitsEnv f → FitsCall d
    → spelling t e c ++ 32 ∷ x ≡ spelling u f d ++ 32 ∷ y → (t ≡ u) × (e ≡ f) × (c ≡ d)
begins_once t u e f c d x y ht he hc hu hf hd same =
    let split : line_fields t e c ++ fields x ≡ line_fields u f d ++ fields y =
    sym (fields_longer t e c x ht he hc) ∙ ap fields same ∙ fields_longer u f d y hu hf hd in
    let first : tid_text t ≡ tid_text u = cc in
    let second : env_text e ≡ env_text f = cc in
    let third : name_of (fun_of c) ≡ name_of (fun_of d) = cc in
    let behind : operand_texts c ++ fields x ≡ operand_texts d ++ fields y = cc in
    let funs = names_injective (fun_of c) (fun_of d) third in
    let count : length (operand_texts c) ≡ length (operand_texts d) = same_count c ∙ ap (λ k. length (operand_kinds k)) funs ∙ sym (same_count d) in
    let rest = same_front (operand_texts c) (operand_texts d) (fields x) (fields y) count behind in
    let kinds : map kind_of (operands c) ≡ map kind_of (operands d) = same_kinds c ∙ ap operand_kinds funs ∙ sym (same_kinds d) in (
      tids_same t u ht hu first,
      envs_same e f he hf second,
      same_call c d funs (words_same (operands c) (operands d) kinds hc hd rest),
    )
