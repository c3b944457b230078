-- A text spells one event at most.
use Rattle.std.proofs.Common.{◌≡◌, ◌∙◌, ◌<◌, ◌≤◌, ◌^◌, ◌∷◌, ℕ, ℤ, true, List, [], get_or, codes, Option, Some, None, refl, sym, ap, subst, arith, inl, inr}
use Rattle.std.specs.Prelude.{slice_get, if◌then◌else◌}
use Rattle.std.specs.Fmt.{decimal, signed_decimal}
use Rattle.std.proofs.lemmas.Fmt.{decimal_injective}
use Rattle.jg_words.specs.declared.thread.Tid.{Tid}
use Rattle.jg_words.specs.declared.thread.EnvId.{EnvId}
use Rattle.jg_words.specs.declared.object.ObjId.{ObjId}
use Rattle.jg_words.specs.declared.reference.Kind.{Kind}
use Rattle.jg_policy.specs.Stated.{StatedSetup}
use Rattle.jg_text.specs.Words.{tid_text, env_text, ref_text, buf_text}
use Rattle.jg_text.proofs.Laws.{tids_same}
use Rattle.jg_rows.specs.declared.row.Takes.{Takes}
use Rattle.jg_rows.specs.Columns.{Columns}
use Rattle.jg_rows.specs.Table.{functions}
use Rattle.jg_judge.specs.declared.argument.Argument.{Argument}
use Rattle.jg_judge.specs.declared.argument.Argument.TheVariants as argument
use Rattle.jg_judge.specs.declared.kinds.OwnKind.{OwnKind}
use Rattle.jg_judge.specs.Asked.{is_last}
use Rattle.jg_judge.specs.Kinds.{own_class}
use Rattle.jg_core.specs.declared.fact.Fact.{Fact as FactOf}
use Rattle.jg_core.specs.declared.fact.Fact.TheVariants as fact
use Rattle.jg_core.specs.declared.fact.Checked.TheVariants as checked
use Rattle.jg_record.specs.declared.event.Event.{Event}
use Rattle.jg_record.specs.declared.event.Event.TheVariants.{Question, Fact, Gone, Bounds}
use Rattle.jg_record.specs.declared.operands.Sort.{Sort}
use Rattle.jg_record.specs.declared.operands.Sort.TheVariants as sort
use Rattle.jg_record.specs.declared.verb.Verb.{Verb}
use Rattle.jg_record.specs.declared.verb.Verb.TheVariants as verb
use Rattle.jg_record.specs.Words.{object_text, kept_text, kind_named, family_named, own_named, verb_named}
use Rattle.jg_record.specs.Operands.{Asks, Spells, sort_of}
use Rattle.jg_record.specs.Events.{AsksFor, MeansClass, Tells, TellsOf}
use Rattle.jg_record.proofs.Faulty.{no_verb}
use Rattle.jg_record.proofs.Telling.{has_told, told_has}
use Rattle.jg_record_laws.specs.Laws.{FitsSetup, IsSpeltOnce}
use Rattle.jg_record_laws.proofs.Names.{one_function}
use Rattle.jg_record_laws.proofs.Words.{chosen, digit_first, signed_same, long_same, short_or_long, natural_same, object_same, objects_same, kept_same, stated_same, id_same, list_same, ref_same, buf_same, env_same}

-- ---- the operands of a question

one_operand : (s : Sort) (word : List ℕ) (x y : Argument) → Spells s word x → Spells s word y → x ≡ y
one_operand sort.Reference word x y (r, h, is, x_is) (q, k, es, y_is) =
    x_is ∙ (ap argument.Reference (ref_same r q h k (sym is ∙ es)) ∙ sym y_is)
one_operand sort.Buffer word x y (b, h, is, x_is) (c, k, es, y_is) = x_is ∙ (ap argument.Buffer (buf_same b c h k (sym is ∙ es)) ∙ sym y_is)
one_operand sort.Bounded word x y (m, h, is, x_is) (n, k, es, y_is) = x_is ∙ (ap argument.Number (signed_same m n h k (sym is ∙ es)) ∙ sym y_is)
one_operand sort.Number word x y (inl (m, h, is, x_is)) (inl (n, k, es, y_is)) =
    x_is ∙ (ap argument.Number (signed_same m n h k (sym is ∙ es)) ∙ sym y_is)
one_operand sort.Number word x y (inl (m, h, is, x_is)) (inr (n, k, long, es, y_is)) = absurd (short_or_long m n h k long (sym is ∙ es))
one_operand sort.Number word x y (inr (m, h, long, is, x_is)) (inl (n, k, es, y_is)) = absurd (short_or_long n m k h long (sym es ∙ is))
one_operand sort.Number word x y (inr (m, h, long, is, x_is)) (inr (n, k, wide, es, y_is)) =
    x_is ∙ (ap argument.Value (long_same m n h k (sym is ∙ es)) ∙ sym y_is)
one_operand sort.Value word x y (m, h, is, x_is) (n, k, es, y_is) = x_is ∙ (ap argument.Value (long_same m n h k (sym is ∙ es)) ∙ sym y_is)
one_operand sort.Id word x y (a, is, x_is) (b, es, y_is) = x_is ∙ (ap argument.Id (id_same a b (sym is ∙ es)) ∙ sym y_is)
one_operand sort.Class word x y (m, h, is, x_is) (n, k, es, y_is) = x_is ∙ (ap argument.Class (stated_same m n h k (sym is ∙ es)) ∙ sym y_is)
one_operand sort.Native word x y (m, h, is, x_is) (n, k, es, y_is) = x_is ∙ (ap argument.Native (stated_same m n h k (sym is ∙ es)) ∙ sym y_is)
one_operand sort.Name word x y (name, other, x_is) (_, _, y_is) = x_is ∙ sym y_is
one_operand sort.List word x y (m, a, h, is, x_is) (n, b, k, es, y_is) =
    let same = list_same m n a b h k (sym is ∙ es) in
    x_is ∙ (ap (λ (count : ℕ). argument.List count a) same.0 ∙ (ap (argument.List n) same.1 ∙ sym y_is))

same_operands : (takes : List Takes) (words : List (List ℕ)) (xs ys : List Argument) → Asks takes words xs → Asks takes words ys → xs ≡ ys
same_operands takes [] [] [] h k = refl
same_operands takes [] (x ∷ xs) ys h k = absurd h
same_operands takes [] [] (y ∷ ys) h k = absurd k
same_operands [] (word ∷ words) xs ys h k = absurd h
same_operands (t ∷ takes) (word ∷ words) [] ys h k = absurd h
same_operands (t ∷ takes) (word ∷ words) (x ∷ xs) [] h k = absurd k
same_operands (t ∷ takes) (word ∷ words) (x ∷ xs) (y ∷ ys) h k =
    let one = one_operand (sort_of t) word x y h.0 k.0 in
    let rest = same_operands (if is_last t then t ∷ takes else takes) words xs ys h.1 k.1 in
    cc (one, rest)

-- ---- the words of a fact

-- the events are one, and where they are of objects that are gone, these are the same
abbrev AreSame : Event → List ObjId → Event → List ObjId → Type 0
AreSame e gone f left = (e ≡ f) × (e ≡ Gone → gone ≡ left)

same_fact : (a b : FactOf) (e f : Event) (gone left : List ObjId) → e ≡ Fact a → f ≡ Fact b → a ≡ b → AreSame e gone f left
same_fact a b e f gone left is es same = (is ∙ (ap Fact same ∙ sym es), λ none. absurd (let no : ⊥ = cc in no))

-- a word of a kind whose class no setup states begins with a small letter
abbrev Small : List ℕ → Type 0
Small bs = 97 ≤ get_or bs 0 0

begins_small : (word : List ℕ) (kind : OwnKind) → own_named word ≡ Some kind → 97 ≤ get_or word 0 0
begins_small word kind named =
    chosen Small word (codes "object") _ kind _ (omega arith)
    (chosen Small word (codes "throwable") _ kind _ (omega arith)
    (chosen Small word (codes "class") _ kind _ (omega arith)
    (chosen Small word (codes "array-class") _ kind _ (omega arith)
    (chosen Small word (codes "floats") _ kind _ (omega arith)
    (chosen Small word (codes "doubles") _ kind None (omega arith) (λ none. absurd (let no : ⊥ = cc in no))))))) named

no_number : (n : ℕ) → n < 2 ^ 32 → (kind : OwnKind) → own_named (decimal n) ≡ Some kind → ⊥
no_number n small kind named = first (decimal n) refl (begins_small (decimal n) kind named)
  where
    first : (bs : List ℕ) → decimal n ≡ bs → 97 ≤ get_or bs 0 0 → ⊥
    first [] is low = omega (arith, low)
    first (b ∷ rest) is low = let digit = digit_first n (omega (arith, small)) b rest is in omega (arith, digit, low)

one_class : (s : StatedSetup) (word : List ℕ) (c d : ℕ) → FitsSetup s → MeansClass s word c → MeansClass s word d → c ≡ d
one_class s word c d few (inl (h, is)) (inl (k, es)) = natural_same c d (omega (arith, few, h)) (omega (arith, few, k)) (sym is ∙ es)
one_class s word c d few (inl (h, is)) (inr (kind, named, es)) = absurd (no_number c (omega (arith, few, h)) kind (ap own_named (sym is) ∙ named))
one_class s word c d few (inr (kind, named, is)) (inl (k, es)) = absurd (no_number d (omega (arith, few, k)) kind (ap own_named (sym es) ∙ named))
one_class s word c d few (inr (kind, named, is)) (inr (other, also, es)) =
    let both : Some kind ≡ Some other = sym named ∙ also in
    let same : kind ≡ other = cc in
    is ∙ (ap (own_class s) same ∙ sym es)

module _ (s : StatedSetup) (few : FitsSetup s) (t : Tid) (words : List (List ℕ)) (e f : Event) (gone left : List ObjId) where
  one_fact : (v : Verb) → Tells s v t words e gone → Tells s v t words f left → AreSame e gone f left
  one_fact verb.Begins (ws, is) (vs, es) = same_fact _ _ e f gone left is es refl
  one_fact verb.Ends (ws, is) (vs, es) = same_fact _ _ e f gone left is es refl
  one_fact verb.Enters (ws, is) (vs, es) = same_fact _ _ e f gone left is es refl
  one_fact verb.Leaves (o, h, ws, is) (q, k, vs, es) =
      let same : kept_text o ≡ kept_text q = cc in
      same_fact _ _ e f gone left is es (ap (fact.Leave t) (kept_same o q h k same))
  one_fact verb.Pushed (m, h, ws, is) (n, k, vs, es) =
      let same : decimal m ≡ decimal n = cc in
      same_fact _ _ e f gone left is es (ap (fact.Push t) (natural_same m n h k same))
  one_fact verb.Popped (o, h, ws, is) (q, k, vs, es) =
      let same : kept_text o ≡ kept_text q = cc in
      same_fact _ _ e f gone left is es (ap (fact.Pop t) (kept_same o q h k same))
  one_fact verb.Ensured (m, h, ws, is) (n, k, vs, es) =
      let same : decimal m ≡ decimal n = cc in
      same_fact _ _ e f gone left is es (ap (fact.Ensure t) (natural_same m n h k same))
  one_fact verb.Raised (o, h, ws, is) (q, k, vs, es) =
      let same : object_text o ≡ object_text q = cc in
      same_fact _ _ e f gone left is es (ap (fact.Raise t) (object_same o q h k same))
  one_fact verb.Calmed (ws, is) (vs, es) = same_fact _ _ e f gone left is es refl
  one_fact verb.Got (word, a, named, o, h, ws, is) (other, b, also, q, k, vs, es) =
      let both : Some a ≡ Some b = sym named ∙ (ap kind_named (let it : word ≡ other = cc in it) ∙ also) in
      let kinds : a ≡ b = cc in
      let same : object_text o ≡ object_text q = cc in
      same_fact _ _ e f gone left is es (ap (λ (kind : Kind). fact.Hand t kind o) kinds ∙ ap (fact.Hand t b) (object_same o q h k same))
  one_fact verb.Lost (r, h, ws, is) (q, k, vs, es) =
      let same : ref_text r ≡ ref_text q = cc in
      same_fact _ _ e f gone left is es (ap fact.Lost (ref_same r q h k same))
  one_fact verb.Lent (word, a, named, o, h, r, fits, m, small, ws, is) (other, b, also, q, k, u, fit, n, less, vs, es) =
      let both : Some a ≡ Some b = sym named ∙ (ap family_named (let it : word ≡ other = cc in it) ∙ also) in
      let families : a ≡ b = cc in
      let objects : o ≡ q = object_same o q h k (let it : object_text o ≡ object_text q = cc in it) in
      let refs : r ≡ u = ref_same r u fits fit (let it : ref_text r ≡ ref_text u = cc in it) in
      let counts : m ≡ n = natural_same m n small less (let it : decimal m ≡ decimal n = cc in it) in
      same_fact _ _ e f gone left is es (let it : fact.Lend t a o r m ≡ fact.Lend t b q u n = cc (families, objects, refs, counts) in it)
  one_fact verb.Gave (b, h, ws, is) (c, k, vs, es) =
      let same : buf_text b ≡ buf_text c = cc in
      same_fact _ _ e f gone left is es (ap fact.Back (buf_same b c h k same))
  one_fact verb.Owns (o, h, ws, is) (q, k, vs, es) =
      let same : object_text o ≡ object_text q = cc in
      same_fact _ _ e f gone left is es (ap (fact.Own t) (object_same o q h k same))
  one_fact verb.Freed (o, h, ws, is) (q, k, vs, es) =
      let same : object_text o ≡ object_text q = cc in
      same_fact _ _ e f gone left is es (ap (fact.Free t) (object_same o q h k same))
  one_fact verb.Met (word, c, means, m, h, ws, is) (other, d, meant, n, k, vs, es) =
      let words_same : other ≡ word = cc in
      let classes : c ≡ d = one_class s word c d few means (subst (λ (w : List ℕ). MeansClass s w d) words_same meant) in
      let counts : m ≡ n = natural_same m n h k (let it : decimal m ≡ decimal n = cc in it) in
      same_fact _ _ e f gone left is es (let it : fact.Meet c m ≡ fact.Meet d n = cc (classes, counts) in it)
  one_fact verb.Gone ((h, some, ws), is) ((k, any, vs), es) = (is ∙ sym es, λ all. objects_same gone left h k (sym ws ∙ vs))
  one_fact verb.Linked (a, h, m, small, ws, is) (b, k, n, less, vs, es) =
      let classes : a ≡ b = natural_same a b h k (let it : decimal a ≡ decimal b = cc in it) in
      let natives : m ≡ n = natural_same m n small less (let it : decimal m ≡ decimal n = cc in it) in
      same_fact _ _ e f gone left is es (let it : fact.Link a m ≡ fact.Link b n = cc (classes, natives) in it)
  one_fact verb.Unlinked (m, h, ws, is) (n, k, vs, es) =
      let same : decimal m ≡ decimal n = cc in
      same_fact _ _ e f gone left is es (ap fact.Unlink (natural_same m n h k same))
  one_fact verb.Warned (m, h, ws, is) (n, k, vs, es) =
      let same : decimal m ≡ decimal n = cc in
      same_fact _ _ e f gone left is es (ap fact.Warn (natural_same m n h k same))
  one_fact verb.Local (m, small, o, h, ws, is) (n, less, q, k, vs, es) =
      let numbers : m ≡ n = decimal_injective m n small less (let it : decimal m ≡ decimal n = cc in it) in
      let objects : o ≡ q = kept_same o q h k (let it : kept_text o ≡ kept_text q = cc in it) in
      same_fact _ _ e f gone left is es (let it : fact.Checked (checked.Local t m o) ≡ fact.Checked (checked.Local t n q) = cc (numbers, objects) in it)
  one_fact verb.Pending (o, h, ws, is) (q, k, vs, es) =
      let same : kept_text o ≡ kept_text q = cc in
      same_fact _ _ e f gone left is es (ap (λ (x : Option ObjId). fact.Checked (checked.Pending t x)) (kept_same o q h k same))
  one_fact verb.Length (o, h, m, small, ws, is) (q, k, n, less, vs, es) =
      let objects : o ≡ q = object_same o q h k (let it : object_text o ≡ object_text q = cc in it) in
      let counts : m ≡ n = natural_same m n small less (let it : decimal m ≡ decimal n = cc in it) in
      same_fact _ _ e f gone left is es (let it : fact.Checked (checked.Length o m) ≡ fact.Checked (checked.Length q n) = cc (objects, counts) in it)
  one_fact verb.Bounds (a, ha, b, hb, c, hc, ws, is) (i, hi, j, hj, k, hk, vs, es) =
      let first : a ≡ i = signed_same a i ha hi (let it : signed_decimal a ≡ signed_decimal i = cc in it) in
      let second : b ≡ j = signed_same b j hb hj (let it : signed_decimal b ≡ signed_decimal j = cc in it) in
      let third : c ≡ k = signed_same c k hc hk (let it : signed_decimal c ≡ signed_decimal k = cc in it) in (
        is ∙ (ap (λ (x : ℤ). Bounds (record { capacity = x; length = b; items = c })) first
            ∙ (ap (λ (x : ℤ). Bounds (record { capacity = i; length = x; items = c })) second
            ∙ (ap (λ (x : ℤ). Bounds (record { capacity = i; length = j; items = x })) third ∙ sym es))),
        λ none. absurd (let no : ⊥ = cc in no),
      )

-- ---- events

module _ (s : StatedSetup) (text : List ℕ) where
  question_and_fact : (t u : Tid) (env : Option EnvId) (place : ℕ) (row : Columns) (words : List (List ℕ)) (v : Verb) (others : List (List ℕ))
      → AsksFor text t env place row words → TellsOf text u v others → ⊥
  question_and_fact t u env place row words v others asks tells =
      let both : tid_text t ∷ env_text env ∷ row.name ∷ words ≡ tid_text u ∷ tells.word ∷ others = sym asks.split ∙ tells.split in
      let word : env_text env ≡ tells.word = cc in
      no_verb env v (ap verb_named word ∙ tells.verb)

  one_question : (t u : Tid) (env other : Option EnvId) (place at : ℕ) (row line : Columns) (words ws : List (List ℕ)) (xs ys : List Argument)
      → AsksFor text t env place row words → AsksFor text u other at line ws → Asks row.takes words xs → Asks line.takes ws ys
      → (Question t env place ≡ Question u other at) × (xs ≡ ys)
  one_question t u env other place at row line words ws xs ys h k asks asked =
      let both : tid_text t ∷ env_text env ∷ row.name ∷ words ≡ tid_text u ∷ env_text other ∷ line.name ∷ ws = sym h.split ∙ k.split in
      let tids : t ≡ u = tids_same t u h.fits_tid k.fits_tid (let it : tid_text t ≡ tid_text u = cc in it) in
      let envs : env ≡ other = env_same env other h.fits_env k.fits_env (let it : env_text env ≡ env_text other = cc in it) in
      let places : place ≡ at = one_function place at row line h.at k.at (let it : row.name ≡ line.name = cc in it) in
      let rows : Some line ≡ Some row = sym k.at ∙ (ap (slice_get functions) (sym places) ∙ h.at) in
      let row_is : line ≡ row = cc in
      let words_are : ws ≡ words = cc in
      let as_well : Asks row.takes words ys =
      subst (λ (r : Columns). Asks r.takes words ys) row_is (subst (λ (w : List (List ℕ)). Asks line.takes w ys) words_are asked) in
      let same : Question t env place ≡ Question u other at = cc (tids, envs, places) in
      (same, same_operands row.takes words xs ys asks as_well)

  one_told : (few : FitsSetup s) (t u : Tid) (v w : Verb) (words ws : List (List ℕ)) (e f : Event) (gone left : List ObjId)
      → TellsOf text t v words → TellsOf text u w ws → Tells s v t words e gone → Tells s w u ws f left → AreSame e gone f left
  one_told few t u v w words ws e f gone left h k tells told =
      let both : tid_text t ∷ h.word ∷ words ≡ tid_text u ∷ k.word ∷ ws = sym h.split ∙ k.split in
      let tids : u ≡ t = sym (tids_same t u h.tid k.tid (let it : tid_text t ≡ tid_text u = cc in it)) in
      let word : k.word ≡ h.word = cc in
      let verbs : Some w ≡ Some v = sym k.verb ∙ (ap verb_named word ∙ h.verb) in
      let verb_is : w ≡ v = cc in
      let words_are : ws ≡ words = cc in
      one_fact s few t words e f gone left v tells
      (subst (λ (x : Tid). Tells s v x words f left) tids
      (subst (λ (x : Verb). Tells s x u words f left) verb_is (subst (λ (x : List (List ℕ)). Tells s w u x f left) words_are told)))

no_question : (s : StatedSetup) (v : Verb) (t : Tid) (words : List (List ℕ)) (e : Event) (gone : List ObjId) → Tells s v t words e gone
    → (u : Tid) (env : Option EnvId) (place : ℕ) → e ≡ Question u env place → ⊥
no_question s v t words e gone tells u env place is =
    let has : has_told s (Question u env place) gone ≡ true = ap (λ x. has_told s x gone) (sym is) ∙ told_has s v t words e gone tells in
    cc

pub spelt_once : IsSpeltOnce
spelt_once s text e f xs ys gone left few
    (inl (t, env, place, row, words, h, asks, is)) (inl (u, other, at, line, ws, k, asked, es)) =
    let same = one_question s text t u env other place at row line words ws xs ys h k asks asked in
    (is ∙ (same.0 ∙ sym es), (λ _ _ _ _. same.1), λ all. absurd (let no : ⊥ = cc in no))
spelt_once s text e f xs ys gone left few (inl (t, env, place, row, words, h, asks, is)) (inr (u, w, ws, k, told)) =
    absurd (question_and_fact s text t u env place row words w ws h k)
spelt_once s text e f xs ys gone left few (inr (t, v, words, h, tells)) (inl (u, env, place, row, ws, k, asked, es)) =
    absurd (question_and_fact s text u t env place row ws v words k h)
spelt_once s text e f xs ys gone left few (inr (t, v, words, h, tells)) (inr (u, w, ws, k, told)) =
    let same = one_told s text few t u v w words ws e f gone left h k tells told in
    (same.0, (λ u env place is. absurd (no_question s v t words e gone tells u env place is)), same.1)
