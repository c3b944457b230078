-- What is written is a text of the event, and what has no such words has no text.
use Rattle.std.proofs.Common.{◌≡◌, ◌∙◌, ◌==◌, ◌+◌, ◌∷◌, ◌++◌, ℕ, true, false, not, List, [], length, take, map, codes, Option, Some, None, refl, sym, ap, arith, inl, inr, append_assoc, length-append}
use Rattle.std.specs.Prelude.{slice_get, slice_index}
use Rattle.std.specs.List.{AllByRecursion}
use Rattle.std.specs.Fmt.{decimal, signed_decimal}
use Rattle.std.specs.String.Boundary.{IsSplitPoint}
use Rattle.std.proofs.lemmas.Bool.Decides.{nat_tests}
use Rattle.jg_words.specs.declared.thread.Tid.{Tid}
use Rattle.jg_words.specs.declared.thread.EnvId.{EnvId}
use Rattle.jg_words.specs.declared.object.ObjId.{ObjId}
use Rattle.jg_policy.specs.Stated.{StatedSetup}
use Rattle.jg_text.specs.Words.{tid_text, env_text, FitsTid}
use Rattle.jg_text.specs.Pieces.{after_spaces}
use Rattle.jg_text.proofs.Laws.{IsVisible, seen_tid, seen_env}
use Rattle.jg_rows.specs.ByName.{name_at}
use Rattle.jg_rows.specs.Columns.{Columns}
use Rattle.jg_rows.specs.Table.{functions}
use Rattle.jg_judge.specs.declared.argument.Argument.{Argument}
use Rattle.jg_judge.specs.declared.argument.Bounds.{Bounds as BoundsOf}
use Rattle.jg_record.specs.declared.event.Event.{Event}
use Rattle.jg_record.specs.declared.event.Event.TheVariants.{Question, Fact, Gone, Bounds}
use Rattle.jg_record.specs.declared.verb.Verb.TheVariants as verb
use Rattle.jg_record.specs.Words.{object_text, FitsObject}
use Rattle.jg_record.specs.Events.{SpellsEvent}
use Rattle.jg_record.specs.Texts.{argument_text, appended, event_words, has_text, suits_row, FitsEvent}
use Rattle.jg_record.specs.Writing.{IsTextOf, AppendsText, teller}
use Rattle.jg_record.proofs.Reading.{name_of_row}
use Rattle.jg_record.proofs.Appending.{appended_is, fields_after, printable_after}
use Rattle.jg_record.proofs.Seen.{seen_name, seen_arguments, seen_objects, seen_small}
use Rattle.jg_record.proofs.Sorting.{asks_of, sorted_of}
use Rattle.jg_record.proofs.Telling.{ToldAs, spoken, told, told_has, has_told}

-- the text of these words of this thread
abbrev pub text_of : Tid → List (List ℕ) → List ℕ
text_of t words = tid_text t ++ after_spaces words

-- a thread's words that tell an event are a text of it
told_text : (s : StatedSetup) (by t : Tid) (words : List (List ℕ)) (e : Event) (xs : List Argument) (gone : List ObjId) → teller by e ≡ t → FitsTid t
    → ToldAs s words t e gone
    → IsTextOf s by e xs gone (text_of t words)
told_text s by t words e xs gone teller_is fits as_told =
    let seen = seen_tid t fits in
    let split = fields_after (tid_text t) words seen as_told.seen in
    record {
      spelt = inr (
        t,
        as_told.v,
        as_told.rest,
        record {
          tid = fits;
          word = as_told.word;
          verb = as_told.named;
          split = split ∙ ap (λ ws. tid_text t ∷ ws) as_told.split;
        },
        as_told.tells,
      );
      told = ap (λ fs. slice_get fs 0) split ∙ ap (λ u. Some (tid_text u)) (sym teller_is);
      printable = printable_after (tid_text t) words seen as_told.seen;
    }

-- a question's, for a row that suits its operands
question_text : (s : StatedSetup) (by t : Tid) (env : Option EnvId) (place : ℕ) (xs : List Argument) (gone : List ObjId) (r : Option Columns)
    → slice_get functions place ≡ r → suits_row r xs ≡ true
    → FitsTid t → FitsEvent (Question t env place) xs gone
    → IsTextOf s by (Question t env place) xs gone (text_of t (env_text env ∷ name_at place ∷ map argument_text xs))
question_text s by t env place xs gone None at suits fits_tid fits = absurd (let no : ⊥ = cc in no)
question_text s by t env place xs gone (Some row) at suits fits_tid fits =
    let tid_seen = seen_tid t fits_tid in
    let named = name_of_row place row at in
    let name_seen : IsVisible (name_at place) = rw named (seen_name place row at) in
    let seen : AllByRecursion IsVisible (env_text env ∷ name_at place ∷ map argument_text xs) = (seen_env env fits.0, (name_seen, seen_arguments xs fits.1)) in
    let split = fields_after (tid_text t) (env_text env ∷ name_at place ∷ map argument_text xs) tid_seen seen in
    record {
      spelt = inl (
        t,
        env,
        place,
        row,
        map argument_text xs,
        record {
          fits_tid = fits_tid;
          fits_env = fits.0;
          at = at;
          split = split ∙ ap (λ (n : List ℕ). tid_text t ∷ env_text env ∷ n ∷ map argument_text xs) named;
        },
        asks_of row.takes xs suits fits.1,
        refl,
      );
      told = ap (λ fs. slice_get fs 0) split;
      printable = printable_after (tid_text t) (env_text env ∷ name_at place ∷ map argument_text xs) tid_seen seen;
    }

gone_told : (s : StatedSetup) (t : Tid) (gone : List ObjId) → not (length gone == 0) ≡ true → AllByRecursion FitsObject gone
    → ToldAs s (codes "gone" ∷ map object_text gone) t Gone gone
gone_told s t gone some fits =
    spoken s t Gone gone verb.Gone (codes "gone") (map object_text gone) refl refl (seen_objects gone fits) ((fits, grind (arith, nat_tests, some), refl), refl)

bounds_told : (s : StatedSetup) (t : Tid) (b : BoundsOf) (xs : List Argument) (gone : List ObjId) → FitsEvent (Bounds b) xs gone
    → ToldAs s (codes "bounds" ∷ signed_decimal b.capacity ∷ signed_decimal b.length ∷ signed_decimal b.items ∷ []) t (Bounds b) gone
bounds_told s t b xs gone fits =
    spoken s t (Bounds b) gone verb.Bounds (codes "bounds") (signed_decimal b.capacity ∷ signed_decimal b.length ∷ signed_decimal b.items ∷ []) refl refl
    (seen_small b.capacity fits.0, (seen_small b.length fits.1, (seen_small b.items fits.2, tt)))
    (b.capacity, fits.0, b.length, fits.1, b.items, fits.2, refl, refl)

pub event_text : (s : StatedSetup) (by : Tid) (e : Event) (xs : List Argument) (gone : List ObjId) → has_text s e xs gone ≡ true → FitsTid (teller by e)
    → FitsEvent e xs gone
    → IsTextOf s by e xs gone (text_of (teller by e) (event_words s e xs gone))
event_text s by (Question t env place) xs gone has fits_tid fits = question_text s by t env place xs gone (slice_get functions place) refl has fits_tid fits
event_text s by (Fact f) xs gone has fits_tid fits = told_text s by (teller by (Fact f)) _ (Fact f) xs gone refl fits_tid (told s by f gone has fits)
event_text s by Gone xs gone has fits_tid fits = told_text s by by _ Gone xs gone refl fits_tid (gone_told s by gone has fits)
event_text s by (Bounds b) xs gone has fits_tid fits = told_text s by by _ (Bounds b) xs gone refl fits_tid (bounds_told s by b xs gone fits)

-- ---- what has no text

has_of_told : (s : StatedSetup) (e : Event) (xs : List Argument) (gone : List ObjId) → has_told s e gone ≡ true → has_text s e xs gone ≡ true
has_of_told s (Question t env place) xs gone has = absurd (let no : ⊥ = cc in no)
has_of_told s (Fact f) xs gone has = has
has_of_told s Gone xs gone has = has
has_of_told s (Bounds b) xs gone has = has

has_of : (s : StatedSetup) (text : List ℕ) (e : Event) (xs : List Argument) (gone : List ObjId) → SpellsEvent s text e xs gone → has_text s e xs gone ≡ true
has_of s text e xs gone (inl (t, env, place, row, words, asks, operands, is)) =
    ap (λ x. has_text s x xs gone) is ∙ (ap (λ r. suits_row r xs) asks.at ∙ sorted_of row.takes words xs operands)
has_of s text e xs gone (inr (t, v, words, as_told, tells)) = has_of_told s e xs gone (told_has s v t words e gone tells)

pub no_text : (s : StatedSetup) (e : Event) (xs : List Argument) (gone : List ObjId) → has_text s e xs gone ≡ false → (text : List ℕ)
    → ¬ SpellsEvent s text e xs gone
no_text s e xs gone none text spelt = let has = has_of s text e xs gone spelt in let no : ⊥ = cc (none, has) in no

-- ---- behind what stands there

pub writes : (s : StatedSetup) (by : Tid) (e : Event) (xs : List Argument) (gone : List ObjId) (old first new : List ℕ) → has_text s e xs gone ≡ true
    → FitsTid (teller by e)
    → FitsEvent e xs gone → first ≡ old ++ tid_text (teller by e) → new ≡ appended first (event_words s e xs gone) → AppendsText s by e xs gone old new
writes s by e xs gone old first new has fits_tid fits tid written = record {
  tail = decimal (teller by e).0 ++ after_spaces (event_words s e xs gone);
  is = event_text s by e xs gone has fits_tid fits;
  appended = written ∙ appended_is first (event_words s e xs gone) ∙ ap (λ bs. bs ++ after_spaces (event_words s e xs gone)) tid
      ∙ append_assoc old (tid_text (teller by e)) (after_spaces (event_words s e xs gone));
}

-- it is as long as the string has grown
pub longer : (s : StatedSetup) (by : Tid) (e : Event) (xs : List Argument) (gone : List ObjId) (old new : List ℕ) (h : AppendsText s by e xs gone old new)
    → length new ≡ length old + length (84 ∷ h.tail)
longer s by e xs gone old new h = ap length h.appended ∙ length-append old (84 ∷ h.tail)

behind : (old tail : List ℕ) (b : ℕ) → slice_index (old ++ b ∷ tail) (length old) ≡ b
behind [] tail b = refl
behind (x ∷ old) tail b = behind old tail b

-- the text can be cut off again
pub cut_place : (old new tail : List ℕ) (n : ℕ) → new ≡ old ++ 84 ∷ tail → n ≡ length old → IsSplitPoint new n
cut_place old new tail n is at = rw (is, at) (
  omega (arith, length-append old (84 ∷ tail)),
  λ some within high. let byte = behind old tail 84 in absurd (omega (arith, byte, high)),
)

front : (old tail : List ℕ) → take (length old) (old ++ tail) ≡ old
front [] tail = refl
front (x ∷ old) tail = ap (λ bs. x ∷ bs) (front old tail)

pub cut_off : (old new tail : List ℕ) (n : ℕ) → new ≡ old ++ 84 ∷ tail → n ≡ length old → take n new ≡ old
cut_off old new tail n is at = rw (is, at) (front old (84 ∷ tail))
