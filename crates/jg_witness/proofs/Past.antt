-- What words mean as events go on.
use Rattle.std.proofs.Common.{ℕ, ◌≡◌, Bool, true, false, List, [], ◌∷◌, Option, Some, None, inl, inr, refl, sym, ◌∙◌, subst}
use Rattle.std.specs.Prelude.{◌==◌, if◌then◌else◌}
use Rattle.jg_words.specs.declared.object.ObjId.{ObjId}
use Rattle.jg_words.specs.declared.reference.Ref.{Ref}
use Rattle.jg_policy.specs.Stated.{StatedSetup}
use Rattle.jg_rules.specs.Parts.{Parts}
use Rattle.jg_core.specs.declared.fact.Fact.{Fact}
use Rattle.jg_core.specs.declared.fact.Fact.TheVariants.{Lost, Gone}
use Rattle.jg_core.specs.Facts.{on, parts_of, can_be, is_in_being, all_gone, History}
use Rattle.jg_witness.specs.Events.{Event, Told, Handed, Lapsed, AreNamed, IsCounted, facts_of, if_in_being, lost_after, meaning, newest, told_gone}
use Rattle.jg_witness.specs.Standing.{Keeps}
use Rattle.jg_witness.proofs.Alive.{counted_stays, dead_stays, lost_dead}

-- ---- a name that isn't in being

none_if : (b : Bool) (r : Ref) → (if b then Some r else None) ≡ None → b ≡ false
none_if true r is = absurd cc
none_if false r is = refl

if_none : (b : Bool) (r : Ref) → b ≡ false → (if b then Some r else None) ≡ None
if_none true r is = absurd cc
if_none false r is = refl

-- a counted name that means nothing means nothing once this is told
abbrev IsCountedIn : Parts → Option Ref → Type 0
IsCountedIn p x = (r : Ref) → x ≡ Some r → IsCounted p r

nothing_stays : (s : StatedSetup) (p : Parts) (x : Fact) (name : Option Ref) → can_be s p x ≡ true → IsCountedIn p name → if_in_being p name ≡ None
    → if_in_being (on x p) name ≡ None
nothing_stays s p x None can counted none = refl
nothing_stays s p x (Some r) can counted none =
    if_none (is_in_being (on x p) r) r (dead_stays s p x r can (counted r refl) (none_if (is_in_being p r) r none))

nothing_after : (s : StatedSetup) (w : List Fact) (lost name : Option Ref) → History s (lost_after lost w) → IsCountedIn (parts_of w) name
    → if_in_being (parts_of w) name ≡ None
    → if_in_being (parts_of (lost_after lost w)) name ≡ None
nothing_after s w None name could counted none = none
nothing_after s w (Some r) name could counted none = nothing_stays s (parts_of w) (Lost r) name could.0 counted none

-- what a word meant is nothing once that is told to be lost
lost_if : (w : List Fact) (r : Ref) (b : Bool) → is_in_being (parts_of w) r ≡ b
    → if_in_being (parts_of (lost_after (if b then Some r else None) w)) (Some r) ≡ None
lost_if w r true is = if_none (is_in_being (on (Lost r) (parts_of w)) r) r (lost_dead (parts_of w) r)
lost_if w r false is = if_none (is_in_being (parts_of w) r) r is

pub lost_means_nothing : (w : List Fact) (name : Option Ref) → if_in_being (parts_of (lost_after (if_in_being (parts_of w) name) w)) name ≡ None
lost_means_nothing w None = refl
lost_means_nothing w (Some r) = lost_if w r (is_in_being (parts_of w) r) refl

-- ---- each name that a word was handed out for has a number that was given

pub before_lost : (s : StatedSetup) (lost : Option Ref) (w : List Fact) → History s (lost_after lost w) → History s w
before_lost s None w could = could
before_lost s (Some r) w could = could.1

counted_after : (s : StatedSetup) (lost : Option Ref) (w : List Fact) (r : Ref) → History s (lost_after lost w) → IsCounted (parts_of w) r
    → IsCounted (parts_of (lost_after lost w)) r
counted_after s None w r could counted = counted
counted_after s (Some q) w r could counted = counted_stays s (parts_of w) (Lost q) r could.0 counted

handed_counted : (p : Parts) (b : Bool) (name : Ref) (older : Option Ref) → IsCounted p name → IsCountedIn p older → IsCountedIn p (if b then Some name else older)
handed_counted p true name older own rest r is = subst (λ (q : Ref). IsCounted p q) (one name r is) own
  where
    one : (q r : Ref) → Some q ≡ Some r → q ≡ r
    one q r is = cc
handed_counted p false name older own rest r is = rest r is

pub newest_counted : (s : StatedSetup) (e : List Event) → History s (facts_of e) → AreNamed e → (word : ℕ) → IsCountedIn (parts_of (facts_of e)) (newest word e)
newest_counted s [] could named word r is = absurd cc
newest_counted s (Told x ∷ e) could named word r is =
    counted_stays s (parts_of (facts_of e)) x r could.0 (newest_counted s e could.1 named word r is)
newest_counted s (Lapsed u ∷ e) could named word r is =
    let lost = meaning u e in
    counted_after s lost (facts_of e) r could (newest_counted s e (before_lost s lost (facts_of e) could) named word r is)
newest_counted s (Handed u name ∷ e) could named word r is =
    let lost = meaning u e in
    let older = newest_counted s e (before_lost s lost (facts_of e) could) named.1 word in
    counted_after s lost (facts_of e) r could (handed_counted (parts_of (facts_of e)) (u == word) name (newest word e) named.0 older r is)

-- ---- what is kept for a word

pub keeps_meaning : (word : ℕ) (e : List Event) (kept : Option Ref) → Keeps word e kept → if_in_being (parts_of (facts_of e)) kept ≡ meaning word e
keeps_meaning word e kept (inl same) = rw same refl
keeps_meaning word e kept (inr none) = rw (none.0, none.1) refl

pub keeps_told : (s : StatedSetup) (x : Fact) (e : List Event) → History s (x ∷ facts_of e) → AreNamed e → (word : ℕ) (kept : Option Ref) → Keeps word e kept
    → Keeps word (Told x ∷ e) kept
keeps_told s x e could named word kept (inl same) = inl same
keeps_told s x e could named word kept (inr none) =
    inr (none.0, nothing_stays s (parts_of (facts_of e)) x (newest word e) could.0 (newest_counted s e could.1 named word) none.1)

-- a word that isn't the one that is told of
pub keeps_lapsed : (s : StatedSetup) (u : ℕ) (e : List Event) → History s (facts_of (Lapsed u ∷ e)) → AreNamed e → (word : ℕ) (kept : Option Ref)
    → Keeps word e kept → Keeps word (Lapsed u ∷ e) kept
keeps_lapsed s u e could named word kept (inl same) = inl same
keeps_lapsed s u e could named word kept (inr none) =
    let lost = meaning u e in
    inr (
      none.0,
      nothing_after s (facts_of e) lost (newest word e) could
          (newest_counted s e (before_lost s lost (facts_of e) could) named word) none.1,
    )

pub lapsed_nothing : (word : ℕ) (e : List Event) → meaning word (Lapsed word ∷ e) ≡ None
lapsed_nothing word e = lost_means_nothing (facts_of e) (newest word e)

other_newest : (b : Bool) (name : Ref) (older : Option Ref) → b ≡ false → (if b then Some name else older) ≡ older
other_newest true name older is = absurd cc
other_newest false name older is = refl

pub keeps_handed : (s : StatedSetup) (u : ℕ) (name : Ref) (e : List Event) → History s (facts_of (Lapsed u ∷ e)) → AreNamed e → (word : ℕ) (kept : Option Ref)
    → (u == word) ≡ false → Keeps word e kept → Keeps word (Handed u name ∷ e) kept
keeps_handed s u name e could named word kept other old = other_word (keeps_lapsed s u e could named word kept old)
  where
    other_word : Keeps word (Lapsed u ∷ e) kept → Keeps word (Handed u name ∷ e) kept
    other_word (inl same) = inl (same ∙ sym (other_newest (u == word) name (newest word e) other))
    other_word (inr none) = inr (none.0, rw other none.1)

-- ---- objects that are gone

pub facts_gone : (objects : List ObjId) (e : List Event) → facts_of (told_gone objects e) ≡ all_gone objects (facts_of e)
facts_gone [] e = refl
facts_gone (o ∷ objects) e = facts_gone objects (Told (Gone o) ∷ e)

before_gone : (s : StatedSetup) (objects : List ObjId) (e : List Event) → History s (facts_of (told_gone objects e)) → History s (facts_of e)
before_gone s [] e could = could
before_gone s (o ∷ objects) e could = (before_gone s objects (Told (Gone o) ∷ e) could).1

pub named_gone : (objects : List ObjId) (e : List Event) → AreNamed e → AreNamed (told_gone objects e)
named_gone [] e named = named
named_gone (o ∷ objects) e named = named_gone objects (Told (Gone o) ∷ e) named

pub keeps_gone : (s : StatedSetup) (objects : List ObjId) (e : List Event) → History s (facts_of (told_gone objects e)) → AreNamed e → (word : ℕ)
    (kept : Option Ref) → Keeps word e kept → Keeps word (told_gone objects e) kept
keeps_gone s [] e could named word kept old = old
keeps_gone s (o ∷ objects) e could named word kept old =
    keeps_gone s objects (Told (Gone o) ∷ e) could named word kept
    (keeps_told s (Gone o) e (before_gone s objects (Told (Gone o) ∷ e) could) named word kept old)
