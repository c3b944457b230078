-- References and buffers come to be so once, and are so no more once.
use Rattle.std.proofs.Common.{◌≡◌, ◌++◌, ◌∙◌, ℕ, Bool, true, false, List, [], Option, Some, None, refl, ap, sym, subst, arith}
use Rattle.std.specs.Prelude.{◌==◌, if◌then◌else◌, not}
use Rattle.std.specs.Option.{is_some, option_map}
use Rattle.std.proofs.option.Match.{None-if_not_some}
use Rattle.jg_words.specs.Entry.{Entry}
use Rattle.jg_words.specs.declared.buffer.BufId.{BufId}
use Rattle.jg_words.specs.declared.reference.Kind.{Kind}
use Rattle.jg_words.specs.declared.reference.Kind.TheVariants.{Local, Global, Weak}
use Rattle.jg_words.specs.declared.reference.Ref.TheVariants.{To}
use Rattle.jg_words.specs.declared.thread.Tid.{Tid}
use Rattle.jg_policy.specs.Stated.{StatedSetup}
use Rattle.jg_table_buffers.specs.History.{Buffer, opened, info_of}
use Rattle.jg_rules.specs.Parts.{nothing_yet}
use Rattle.jg_rules.specs.declared.named.Named.TheVariants.{Nothing}
use Rattle.jg_rules.specs.Names.{object_in, object_named}
use Rattle.jg_rules.specs.Rules.{is_nothing}
use Rattle.jg_rules.specs.Effects.{parts}
use Rattle.jg_rules.specs.Legal.{Legal}
use Rattle.jg_laws.proofs.Fresh.{no_reference_revived}
use Rattle.jg_breaches.specs.declared.condition.Condition.{Condition}
use Rattle.jg_breaches.specs.declared.condition.Condition.TheVariants.{IsOpen, Names, NamesObject}
use Rattle.jg_breaches.specs.Conditions.{holds}
use Rattle.jg_breaches.proofs.Making.{ends_once}
use Rattle.jg_lists.proofs.Oldest.{oldest}
use Rattle.jg_explain.specs.Explained.{after}
use Rattle.jg_explain.proofs.Closing.{closes_once}
use Rattle.jg_explain.proofs.Once.{HoldsOnce}
use Rattle.jg_explain.proofs.Splits.{behind, front_legal}

-- from the oldest part on: it held, then not; then it never holds again
abbrev EndsForGood : StatedSetup → Condition → Type 0
EndsForGood s c = (newest later first : List Entry) → Legal s (newest ++ (later ++ first)) → after s c first ≡ true → after s c (later ++ first) ≡ false
    → after s c (newest ++ (later ++ first)) ≡ false

once_by : (s : StatedSetup) (c : Condition) → after s c [] ≡ false → EndsForGood s c → (h : List Entry) → Legal s h → HoldsOnce (after s c) h
once_by s c lacks law h legal = record {
  first = lacks;
  over = λ i j k low high within held ceased.
      let a = behind i j h low (omega (arith, high, within)) in
      let b = behind j k h high within in
      let whole = b.is ∙ ap (λ l. b.later ++ l) a.is in
      let own = subst (λ (l : List Entry). Legal s l) whole (front_legal s h k within legal) in
      let over = law b.later a.later (oldest i h) own held (subst (λ (l : List Entry). after s c l ≡ false) a.is ceased) in
      subst (λ (l : List Entry). after s c l ≡ false) (sym whole) over;
}

names_none : (t maker : Tid) (kind : Kind) (n : ℕ) → holds nothing_yet (Names t (To kind maker n)) ≡ false
names_none t maker Local n = by (maker.0 == t.0)
  where
    by : (b : Bool) → not (is_nothing (if b then Nothing else Nothing)) ≡ false
    by true = refl
    by false = refl
names_none t maker Global n = refl
names_none t maker Weak n = refl

object_none : (t maker : Tid) (kind : Kind) (n : ℕ) → holds nothing_yet (NamesObject t (To kind maker n)) ≡ false
object_none t maker Local n = by (maker.0 == t.0)
  where
    by : (b : Bool) → is_some (object_in (if b then Nothing else Nothing)) ≡ false
    by true = refl
    by false = refl
object_none t maker Global n = refl
object_none t maker Weak n = refl

pub is_there : {X : Type 0} (found : Option X) → is_some found ≡ true → (x : X) × (found ≡ Some x)
is_there None is = absurd cc
is_there (Some x) is = (x, refl)

object_ends : (s : StatedSetup) (t maker : Tid) (kind : Kind) (n : ℕ) → EndsForGood s (NamesObject t (To kind maker n))
object_ends s t maker kind n newest later first legal held ceased =
    let r = To kind maker n in
    let some = is_there (object_named (parts s first) t.0 r) held in
    let none = None-if_not_some (object_named (parts s (later ++ first)) t.0 r) ceased in
    ap is_some (no_reference_revived s newest later first t.0 some.0 r legal some.1 none)

pub open_there : (found : Option Buffer) → is_some (option_map info_of found) ≡ true → (b : Buffer) × (found ≡ Some b)
open_there None is = absurd cc
open_there (Some b) is = (b, refl)

pub open_none : (found : Option Buffer) → is_some (option_map info_of found) ≡ false → found ≡ None
open_none None is = refl
open_none (Some b) is = absurd cc

open_ends : (s : StatedSetup) (b : BufId) → EndsForGood s (IsOpen b)
open_ends s b newest later first legal held ceased =
    let some = open_there (opened (parts s first).buffers b.maker.0 b.n) held in
    let none = open_none (opened (parts s (later ++ first)).buffers b.maker.0 b.n) ceased in
    ap (λ found. is_some (option_map info_of found)) (closes_once s newest later first b.maker.0 b.n some.0 legal some.1 none)

pub names_once : (s : StatedSetup) (t maker : Tid) (kind : Kind) (n : ℕ) (h : List Entry) → Legal s h → HoldsOnce (after s (Names t (To kind maker n))) h
names_once s t maker kind n h legal =
    once_by s (Names t (To kind maker n)) (names_none t maker kind n) (λ newest later first. ends_once s newest later first t (To kind maker n)) h legal

pub object_once : (s : StatedSetup) (t maker : Tid) (kind : Kind) (n : ℕ) (h : List Entry) → Legal s h → HoldsOnce (after s (NamesObject t (To kind maker n))) h
object_once s t maker kind n h legal = once_by s (NamesObject t (To kind maker n)) (object_none t maker kind n) (object_ends s t maker kind n) h legal

pub open_once : (s : StatedSetup) (b : BufId) (h : List Entry) → Legal s h → HoldsOnce (after s (IsOpen b)) h
open_once s b h legal = once_by s (IsOpen b) refl (open_ends s b) h legal
