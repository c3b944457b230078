-- The words that are written of a fact tell it, and what is told has words.
use Rattle.std.proofs.Common.{◌≡◌, ◌∙◌, ◌==◌, ◌<◌, ◌≤◌, ◌+◌, ◌-◌, ◌^◌, ◌∷◌, ℕ, Bool, true, false, not, List, [], length, codes, if◌then◌else◌, refl, ap, arith, inl, inr}
use Rattle.std.specs.Prelude.{Some, nat_lt, zero, suc}
use Rattle.std.specs.List.{AllByRecursion, list_all}
use Rattle.std.specs.Fmt.{decimal}
use Rattle.std.proofs.lemmas.Bool.Decides.{nat_tests}
use Rattle.jg_words.specs.declared.thread.Tid.{Tid}
use Rattle.jg_words.specs.declared.object.ObjId.{ObjId}
use Rattle.jg_words.specs.declared.object.Primitive.TheVariants.{Boolean, Byte, Char, Short, Int, Long}
use Rattle.jg_words.specs.declared.object.ItemType.TheVariants.{Of, Float, Double}
use Rattle.jg_words.specs.declared.reference.Kind.{Kind}
use Rattle.jg_words.specs.declared.reference.Kind.TheVariants as kind
use Rattle.jg_policy.specs.Stated.{StatedSetup, class_count}
use Rattle.jg_table_buffers.specs.declared.family.Family.{Family}
use Rattle.jg_table_buffers.specs.declared.family.Family.TheVariants as family
use Rattle.jg_text.specs.Words.{ref_text, buf_text}
use Rattle.jg_text.proofs.Laws.{IsVisible, seen_number}
use Rattle.jg_judge.specs.declared.kinds.OwnKind.{OwnKind}
use Rattle.jg_judge.specs.declared.kinds.OwnKind.TheVariants as own
use Rattle.jg_judge.specs.Kinds.{own_place, is_class}
use Rattle.jg_core.specs.declared.fact.Fact.{Fact as FactOf}
use Rattle.jg_core.specs.declared.fact.Fact.TheVariants as fact
use Rattle.jg_core.specs.declared.fact.Checked.TheVariants as checked
use Rattle.jg_record.specs.declared.event.Event.{Event}
use Rattle.jg_record.specs.declared.event.Event.TheVariants.{Question, Fact, Gone, Bounds}
use Rattle.jg_record.specs.declared.verb.Verb.{Verb}
use Rattle.jg_record.specs.declared.verb.Verb.TheVariants as verb
use Rattle.jg_record.specs.Words.{object_text, kept_text, kind_named, family_named, own_named, verb_named}
use Rattle.jg_record.specs.Events.{MeansClass, Tells}
use Rattle.jg_record.specs.Texts.{kind_word, family_word, own_word, class_word, fact_words, is_told, FitsFact}
use Rattle.jg_record.specs.Writing.{teller_of}
use Rattle.jg_record.proofs.Seen.{is_seen, known, seen_object, seen_kept, seen_natural, seen_ref, seen_buf, seen_kind, seen_family}

-- the words tell the event, and each is seen
pub record ToldAs (s : StatedSetup) (words : List (List ℕ)) (t : Tid) (e : Event) (gone : List ObjId) : Type 0 where
  pub v : Verb
  pub word : List ℕ
  pub rest : List (List ℕ)
  pub split : words ≡ word ∷ rest
  pub named : verb_named word ≡ Some v
  pub tells : Tells s v t rest e gone
  pub seen : AllByRecursion IsVisible words

pub spoken : (s : StatedSetup) (t : Tid) (e : Event) (gone : List ObjId) (v : Verb) (word : List ℕ) (rest : List (List ℕ)) → verb_named word ≡ Some v
    → list_all is_seen word ≡ true
    → AllByRecursion IsVisible rest → Tells s v t rest e gone → ToldAs s (word ∷ rest) t e gone
spoken s t e gone v word rest named seen others tells =
    record { v = v; word = word; rest = rest; split = refl; named = named; tells = tells; seen = (known word seen, others) }

-- ---- words of kinds, families and classes

kind_meant : (kind : Kind) → kind_named (kind_word kind) ≡ Some kind
kind_meant kind.Local = refl
kind_meant kind.Global = refl
kind_meant kind.Weak = refl

family_meant : (family : Family) → family_named (family_word family) ≡ Some family
family_meant (family.Elements (Of Boolean)) = refl
family_meant (family.Elements (Of Byte)) = refl
family_meant (family.Elements (Of Char)) = refl
family_meant (family.Elements (Of Short)) = refl
family_meant (family.Elements (Of Int)) = refl
family_meant (family.Elements (Of Long)) = refl
family_meant (family.Elements Float) = refl
family_meant (family.Elements Double) = refl
family_meant family.Chars = refl
family_meant family.UtfChars = refl
family_meant family.ArrayCritical = refl
family_meant family.StringCritical = refl

-- the word is that of the kind whose class stands so far behind those of the setup
record IsOwnWord (place : ℕ) : Type 0 where
  pub kind : OwnKind
  pub named : own_named (own_word place) ≡ Some kind
  pub is : own_place kind ≡ place
  pub seen : IsVisible (own_word place)

own_meant : (place : ℕ) → place ≤ 5 → IsOwnWord place
own_meant zero below = record { kind = own.Object; named = refl; is = refl; seen = known (codes "object") refl }
own_meant (suc zero) below = record { kind = own.Throwable; named = refl; is = refl; seen = known (codes "throwable") refl }
own_meant (suc (suc zero)) below = record { kind = own.Class; named = refl; is = refl; seen = known (codes "class") refl }
own_meant (suc (suc (suc zero))) below = record { kind = own.ClassOfArrays; named = refl; is = refl; seen = known (codes "array-class") refl }
own_meant (suc (suc (suc (suc zero)))) below = record { kind = own.Floats; named = refl; is = refl; seen = known (codes "floats") refl }
own_meant (suc (suc (suc (suc (suc zero))))) below = record { kind = own.Doubles; named = refl; is = refl; seen = known (codes "doubles") refl }
own_meant (suc (suc (suc (suc (suc (suc n)))))) below = absurd (omega (arith, below))

record IsClassWord (s : StatedSetup) (word : List ℕ) (class : ℕ) : Type 0 where
  pub means : MeansClass s word class
  pub seen : IsVisible word

class_by : (s : StatedSetup) (class : ℕ) (b : Bool) → nat_lt class (class_count s) ≡ b → class < 2 ^ 32 → is_class s class ≡ true
    → IsClassWord s (if b then decimal class else own_word (class - class_count s)) class
class_by s class true low below has = record { means = inl (grind (arith, nat_tests, low), refl); seen = seen_natural class below }
class_by s class false high below has =
    let past : class_count s ≤ class = grind (arith, nat_tests, high) in
    let few : class ≤ class_count s + 5 = grind (arith, nat_tests, has) in
    let meant = own_meant (class - class_count s) (omega (arith, past, few)) in
    let place = meant.is in
    record { means = inr (meant.kind, meant.named, omega (arith, past, place)); seen = meant.seen }

class_meant : (s : StatedSetup) (class : ℕ) → class < 2 ^ 32 → is_class s class ≡ true → IsClassWord s (class_word s class) class
class_meant s class below has = class_by s class (nat_lt class (class_count s)) refl below has

-- ---- facts

pub told : (s : StatedSetup) (by : Tid) (f : FactOf) (gone : List ObjId) → is_told s f ≡ true → FitsFact f
    → ToldAs s (fact_words s f) (teller_of by f) (Fact f) gone
told s by (fact.Begin t) gone has fits = spoken s t _ gone verb.Begins (codes "begins") [] refl refl tt (refl, refl)
told s by (fact.End t) gone has fits = spoken s t _ gone verb.Ends (codes "ends") [] refl refl tt (refl, refl)
told s by (fact.Enter t) gone has fits = spoken s t _ gone verb.Enters (codes "enters") [] refl refl tt (refl, refl)
told s by (fact.Leave t kept) gone has fits =
    spoken s t _ gone verb.Leaves (codes "leaves") (kept_text kept ∷ []) refl refl (seen_kept kept fits, tt) (kept, fits, refl, refl)
told s by (fact.Push t room) gone has fits =
    spoken s t _ gone verb.Pushed (codes "pushed") (decimal room ∷ []) refl refl (seen_natural room fits, tt) (room, fits, refl, refl)
told s by (fact.Pop t kept) gone has fits =
    spoken s t _ gone verb.Popped (codes "popped") (kept_text kept ∷ []) refl refl (seen_kept kept fits, tt) (kept, fits, refl, refl)
told s by (fact.Ensure t room) gone has fits =
    spoken s t _ gone verb.Ensured (codes "ensured") (decimal room ∷ []) refl refl (seen_natural room fits, tt) (room, fits, refl, refl)
told s by (fact.Raise t o) gone has fits =
    spoken s t _ gone verb.Raised (codes "raised") (object_text o ∷ []) refl refl (seen_object o fits, tt) (o, fits, refl, refl)
told s by (fact.Calm t) gone has fits = spoken s t _ gone verb.Calmed (codes "calmed") [] refl refl tt (refl, refl)
told s by (fact.Hand t kind o) gone has fits =
    spoken s t _ gone verb.Got (codes "got") (kind_word kind ∷ object_text o ∷ []) refl refl (seen_kind kind, (seen_object o fits, tt))
    (kind_word kind, kind, kind_meant kind, o, fits, refl, refl)
told s by (fact.Lost r) gone has fits =
    spoken s by _ gone verb.Lost (codes "lost") (ref_text r ∷ []) refl refl (seen_ref r fits, tt) (r, fits, refl, refl)
told s by (fact.Lend t family o via n) gone has fits =
    spoken s t _ gone verb.Lent (codes "lent") (family_word family ∷ object_text o ∷ ref_text via ∷ decimal n ∷ []) refl refl
    (seen_family family, (seen_object o fits.0, (seen_ref via fits.1, (seen_natural n fits.2, tt))))
    (family_word family, family, family_meant family, o, fits.0, via, fits.1, n, fits.2, refl, refl)
told s by (fact.Back b) gone has fits =
    spoken s by _ gone verb.Gave (codes "gave") (buf_text b ∷ []) refl refl (seen_buf b fits, tt) (b, fits, refl, refl)
told s by (fact.Own t o) gone has fits =
    spoken s t _ gone verb.Owns (codes "owns") (object_text o ∷ []) refl refl (seen_object o fits, tt) (o, fits, refl, refl)
told s by (fact.Free t o) gone has fits =
    spoken s t _ gone verb.Freed (codes "freed") (object_text o ∷ []) refl refl (seen_object o fits, tt) (o, fits, refl, refl)
told s by (fact.Meet class n) gone has fits =
    let meant = class_meant s class fits.0 has in
    spoken s by _ gone verb.Met (codes "met") (class_word s class ∷ decimal n ∷ []) refl refl (meant.seen, (seen_natural n fits.1, tt))
    (class_word s class, class, meant.means, n, fits.1, refl, refl)
told s by (fact.Gone o) gone has fits = absurd (let no : ⊥ = cc in no)
told s by (fact.Link class native) gone has fits =
    spoken s by _ gone verb.Linked (codes "linked") (decimal class ∷ decimal native ∷ []) refl refl
    (seen_natural class fits.0, (seen_natural native fits.1, tt))
    (class, fits.0, native, fits.1, refl, refl)
told s by (fact.Unlink class) gone has fits =
    spoken s by _ gone verb.Unlinked (codes "unlinked") (decimal class ∷ []) refl refl (seen_natural class fits, tt) (class, fits, refl, refl)
told s by (fact.Warn home) gone has fits =
    spoken s by _ gone verb.Warned (codes "warned") (decimal home ∷ []) refl refl (seen_natural home fits, tt) (home, fits, refl, refl)
told s by (fact.Checked (checked.Local t n o)) gone has fits =
    spoken s t _ gone verb.Local (codes "local") (decimal n ∷ kept_text o ∷ []) refl refl (seen_number n fits.0, (seen_kept o fits.1, tt))
    (n, fits.0, o, fits.1, refl, refl)
told s by (fact.Checked (checked.Pending t o)) gone has fits =
    spoken s t _ gone verb.Pending (codes "pending") (kept_text o ∷ []) refl refl (seen_kept o fits, tt) (o, fits, refl, refl)
told s by (fact.Checked (checked.Length o n)) gone has fits =
    spoken s by _ gone verb.Length (codes "length") (object_text o ∷ decimal n ∷ []) refl refl (seen_object o fits.0, (seen_natural n fits.1, tt))
    (o, fits.0, n, fits.1, refl, refl)

-- ---- and back

abbrev pub has_told : StatedSetup → Event → List ObjId → Bool
has_told s (Question t env place) gone = false
has_told s (Fact f) gone = is_told s f
has_told s Gone gone = not (length gone == 0)
has_told s (Bounds b) gone = true

own_below : (kind : OwnKind) → own_place kind ≤ 5
own_below own.Object = omega arith
own_below own.Throwable = omega arith
own_below own.Class = omega arith
own_below own.ClassOfArrays = omega arith
own_below own.Floats = omega arith
own_below own.Doubles = omega arith

class_is : (s : StatedSetup) (word : List ℕ) (class : ℕ) → MeansClass s word class → is_class s class ≡ true
class_is s word class (inl (below, is)) = grind (arith, nat_tests, below)
class_is s word class (inr (kind, named, at)) = let few = own_below kind in grind (arith, nat_tests, few, at)

some_gone : (gone : List ObjId) → 0 < length gone → not (length gone == 0) ≡ true
some_gone gone some = grind (arith, nat_tests, some)

pub told_has : (s : StatedSetup) (v : Verb) (t : Tid) (words : List (List ℕ)) (e : Event) (gone : List ObjId) → Tells s v t words e gone
    → has_told s e gone ≡ true
told_has s verb.Begins t words e gone (none, is) = ap (λ x. has_told s x gone) is
told_has s verb.Ends t words e gone (none, is) = ap (λ x. has_told s x gone) is
told_has s verb.Enters t words e gone (none, is) = ap (λ x. has_told s x gone) is
told_has s verb.Leaves t words e gone (kept, fits, split, is) = ap (λ x. has_told s x gone) is
told_has s verb.Pushed t words e gone (room, below, split, is) = ap (λ x. has_told s x gone) is
told_has s verb.Popped t words e gone (kept, fits, split, is) = ap (λ x. has_told s x gone) is
told_has s verb.Ensured t words e gone (room, below, split, is) = ap (λ x. has_told s x gone) is
told_has s verb.Raised t words e gone (o, fits, split, is) = ap (λ x. has_told s x gone) is
told_has s verb.Calmed t words e gone (none, is) = ap (λ x. has_told s x gone) is
told_has s verb.Got t words e gone (word, kind, named, o, fits, split, is) = ap (λ x. has_told s x gone) is
told_has s verb.Lost t words e gone (r, fits, split, is) = ap (λ x. has_told s x gone) is
told_has s verb.Lent t words e gone (word, family, named, o, fits, via, fits_via, n, below, split, is) = ap (λ x. has_told s x gone) is
told_has s verb.Gave t words e gone (b, fits, split, is) = ap (λ x. has_told s x gone) is
told_has s verb.Owns t words e gone (o, fits, split, is) = ap (λ x. has_told s x gone) is
told_has s verb.Freed t words e gone (o, fits, split, is) = ap (λ x. has_told s x gone) is
told_has s verb.Met t words e gone (word, class, means, n, below, split, is) = ap (λ x. has_told s x gone) is ∙ class_is s word class means
told_has s verb.Gone t words e gone ((fits, some, split), is) = ap (λ x. has_told s x gone) is ∙ some_gone gone some
told_has s verb.Linked t words e gone (class, below, native, low, split, is) = ap (λ x. has_told s x gone) is
told_has s verb.Unlinked t words e gone (class, below, split, is) = ap (λ x. has_told s x gone) is
told_has s verb.Warned t words e gone (home, below, split, is) = ap (λ x. has_told s x gone) is
told_has s verb.Local t words e gone (n, below, kept, fits, split, is) = ap (λ x. has_told s x gone) is
told_has s verb.Pending t words e gone (kept, fits, split, is) = ap (λ x. has_told s x gone) is
told_has s verb.Length t words e gone (o, fits, n, below, split, is) = ap (λ x. has_told s x gone) is
told_has s verb.Bounds t words e gone (a, fits_a, b, fits_b, i, fits_i, split, is) = ap (λ x. has_told s x gone) is
