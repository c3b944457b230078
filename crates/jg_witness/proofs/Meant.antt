-- The laws of specs/Laws.
use Rattle.std.proofs.Common.{ℕ, ◌≡◌, ◌≢◌, ◌<◌, ◌-◌, ◌^◌, Bool, true, false, List, [], ◌∷◌, ◌++◌, Option, Some, None, inr, refl, ap, sym, ◌∙◌, arith, eqb-true}
use Rattle.std.specs.Prelude.{◌==◌, if◌then◌else◌}
use Rattle.std.specs.Option.{is_some}
use Rattle.std.proofs.lemmas.Bool.Decides.{nat_tests}
use Rattle.jg_words.specs.declared.thread.Tid.{Tid}
use Rattle.jg_words.specs.declared.reference.Ref.{Ref}
use Rattle.jg_words.specs.declared.reference.Ref.TheVariants.{Null, To}
use Rattle.jg_words.specs.declared.reference.Kind.{Kind}
use Rattle.jg_words.specs.declared.reference.Kind.TheVariants.{Local, Global, Weak}
use Rattle.jg_policy.specs.Stated.{StatedSetup}
use Rattle.jg_table_threads.specs.History as threads
use Rattle.jg_table_locals.specs.History.{Act, Delete, Making, acts_of, by, live, local_if_live, making, object_of, seen_after, survives, IsMadeBelow}
use Rattle.jg_table_locals.proofs.Callers.{acts_more, acts_same, each_thread, live_below}
use Rattle.jg_table_globals.specs.History as globals
use Rattle.jg_rules.specs.Parts.{Parts}
use Rattle.jg_rules.specs.Names.{next_ref}
use Rattle.jg_laws.proofs.Fresh.{same_pair}
use Rattle.jg_core.specs.declared.fact.Fact.{Fact}
use Rattle.jg_core.specs.Facts.{lost_on, parts_of, is_in_being, History}
use Rattle.jg_core.proofs.Few.{references_most}
use Rattle.jg_core.proofs.Due.{ordinary}
use Rattle.jg_core_laws.proofs.Meanings.{level}
use Rattle.jg_witness.specs.Events.{Event, Told, Handed, Lapsed, AreNamed, facts_of, if_in_being, lost_after, meaning, newest}
use Rattle.jg_witness.specs.Standing.{Keeps}
use Rattle.jg_witness.specs.Laws.{LapsedMeansNothing, HandedMeans, HandNoneOut, NoWordRevived, NamelessIsDead}
use Rattle.jg_witness.proofs.Alive.{being_found, found, same_number}
use Rattle.jg_witness.proofs.Past.{before_lost, keeps_handed, keeps_lapsed, keeps_meaning, keeps_told, lapsed_nothing}

pub lapsed_law : LapsedMeansNothing
lapsed_law e word = lapsed_nothing word e

-- ---- another name's end leaves a reference in being

survives_if : (b : Bool) (i n : ℕ) (later : List Act) → survives n later ≡ b → (i == n) ≡ false → survives n (Delete i ∷ later) ≡ b
survives_if true i n later is other = let both = level n later is in rw (is, other, both.0, both.1) refl
survives_if false i n later is other = rw is refl

live_if : (b : Bool) (i n : ℕ) (m : Making) → survives n m.later ≡ b → (i == n) ≡ false
    → object_of (local_if_live n (seen_after (Delete i) (Some m))) ≡ object_of (local_if_live n (Some m))
live_if true i n m is other = let both = level n m.later is in rw (is, other, both.0, both.1) refl
live_if false i n m is other = rw is refl

live_still : (i n : ℕ) (found : Option Making) → (i == n) ≡ false
    → object_of (local_if_live n (seen_after (Delete i) found)) ≡ object_of (local_if_live n found)
live_still i n None other = refl
live_still i n (Some m) other = live_if (survives n m.later) i n m refl other

other_local : (p : Parts) (u i t n : ℕ) → (u ≡ t → (i == n) ≡ false) → live n (acts_of t (by u (Delete i) ∷ p.locals)) ≡ live n (acts_of t p.locals)
other_local p u i t n other =
    each_thread (λ v. (u ≡ v → (i == n) ≡ false) → live n (acts_of v (by u (Delete i) ∷ p.locals)) ≡ live n (acts_of v p.locals)) u
    (λ differ. rw (acts_more u u (Delete i) p.locals refl) (live_still i n (making n (acts_of u p.locals)) (differ refl)))
    (λ v apart differ. rw (acts_same v u (Delete i) p.locals apart) refl)
    t other

other_if : (b : Bool) (old : Option ℕ) → b ≡ false → (if b then None else old) ≡ old
other_if true old is = absurd cc
other_if false old is = refl

same_tid : (m maker : Tid) → m.0 ≡ maker.0 → m ≡ maker
same_tid m maker is = ap (λ (t : ℕ). let tid : Tid = record { 0 = t } in tid) is

same_to : (kind : Kind) (m maker : Tid) (i n : ℕ) → m ≡ maker → i ≡ n → To kind m i ≡ To kind maker n
same_to kind m maker i n a b = cc

not_true : (b : Bool) → (b ≡ true → ⊥) → b ≡ false
not_true true isnt = absurd (isnt refl)
not_true false isnt = refl

other_number : (kind : Kind) (m maker : Tid) (i n : ℕ) → To kind m i ≢ To kind maker n → m.0 ≡ maker.0 → (i == n) ≡ false
other_number kind m maker i n differ same =
    not_true (i == n) (λ is. differ (same_to kind m maker i n (same_tid m maker same) (eqb-true i n is)))

other_pair : (kind : Kind) (m maker : Tid) (i n : ℕ) → To kind m i ≢ To kind maker n → globals.is_same maker.0 n m.0 i ≡ false
other_pair kind m maker i n differ =
    not_true (globals.is_same maker.0 n m.0 i)
    (λ is. let both = same_pair maker.0 n m.0 i is in differ (same_to kind m maker i n (same_tid m maker both.0) both.1))

other_found : (k kind : Kind) (p : Parts) (m maker : Tid) (i n : ℕ) → To k m i ≢ To kind maker n
    → found kind (lost_on (To k m i) p) maker.0 n ≡ found kind p maker.0 n
other_found Local Local p m maker i n differ = other_local p m.0 i maker.0 n (other_number Local m maker i n differ)
other_found Local Global p m maker i n differ = refl
other_found Local Weak p m maker i n differ = refl
other_found Global Local p m maker i n differ = refl
other_found Global Global p m maker i n differ = other_if (globals.is_same maker.0 n m.0 i) (globals.strong p.globals maker.0 n) (other_pair Global m maker i n differ)
other_found Global Weak p m maker i n differ = refl
other_found Weak Local p m maker i n differ = refl
other_found Weak Global p m maker i n differ = refl
other_found Weak Weak p m maker i n differ = other_if (globals.is_same maker.0 n m.0 i) (globals.weak p.globals maker.0 n) (other_pair Weak m maker i n differ)

other_lost : (p : Parts) (q r : Ref) → q ≢ r → is_in_being p r ≡ true → is_in_being (lost_on q p) r ≡ true
other_lost p Null r differ is = is
other_lost p (To k m i) Null differ is = absurd cc
other_lost p (To k m i) (To kind maker n) differ is =
    being_found kind (lost_on (To k m i) p) maker n
    ∙ (ap is_some (other_found k kind p m maker i n differ) ∙ (sym (being_found kind p maker n) ∙ is))

-- ---- a word that was handed out just now

name_if : (b : Bool) (name : Ref) → b ≡ true → (if b then Some name else None) ≡ Some name
name_if true name is = refl
name_if false name is = absurd cc

still_if : (b : Bool) (w : List Fact) (q name : Ref) → is_in_being (parts_of w) name ≡ true → q ≢ name
    → is_in_being (parts_of (lost_after (if b then Some q else None) w)) name ≡ true
still_if true w q name is differ = other_lost (parts_of w) q name differ is
still_if false w q name is differ = is

some_differ : (q name : Ref) → Some q ≢ Some name → q ≢ name
some_differ q name differ is = differ (ap Some is)

still_there : (w : List Fact) (older : Option Ref) (name : Ref) → is_in_being (parts_of w) name ≡ true → older ≢ Some name
    → is_in_being (parts_of (lost_after (if_in_being (parts_of w) older) w)) name ≡ true
still_there w None name is differ = is
still_there w (Some q) name is differ = still_if (is_in_being (parts_of w) q) w q name is (some_differ q name differ)

pub handed_law : HandedMeans
handed_law e word name is differ =
    rw (same_number word) (name_if _ name (still_there (facts_of e) (newest word e) name is differ))

-- ---- a word that means nothing

differ_word : (u word : ℕ) → u ≢ word → (u == word) ≡ false
differ_word u word differ = grind (arith, nat_tests, differ)

keeps_none : (s : StatedSetup) (later e : List Event) (word : ℕ) → History s (facts_of (later ++ e)) → AreNamed (later ++ e) → HandNoneOut word later
    → Keeps word e None → Keeps word (later ++ e) None
keeps_none s [] e word could named none old = old
keeps_none s (Told x ∷ later) e word could named none old =
    keeps_told s x (later ++ e) could named word None (keeps_none s later e word could.1 named none old)
keeps_none s (Handed u name ∷ later) e word could named none old =
    let before = before_lost s (meaning u (later ++ e)) (facts_of (later ++ e)) could in
    keeps_handed s u name (later ++ e) could named.1 word None (differ_word u word none.0) (keeps_none s later e word before named.1 none.1 old)
keeps_none s (Lapsed u ∷ later) e word could named none old =
    let before = before_lost s (meaning u (later ++ e)) (facts_of (later ++ e)) could in
    keeps_lapsed s u (later ++ e) could named word None (keeps_none s later e word before named none old)

pub revived_law : NoWordRevived
revived_law s later e word could named none is =
    sym (keeps_meaning word (later ++ e) None (keeps_none s later e word could named none (inr (refl, is))))

-- ---- what it is asked as

-- no local has so great a number
none_live : (m n : ℕ) (acts : List Act) (x : Option ℕ) → IsMadeBelow m acts → m < n → live n acts ≡ x → live n acts ≡ None
none_live m n acts None below greater is = is
none_live m n acts (Some o) below greater is = let made = live_below m n o acts below is in absurd (omega (arith, made, greater))

pub nameless_law : NamelessIsDead
nameless_law s w t could few =
    let p : Parts = parts_of w in
    let own = ordinary s w could few in
    let small : next_ref p t.0 < 2 ^ 64 - 1 = omega (arith, references_most (threads.acts_of t.0 p.threads), own.few.threads t.0) in
    let none = none_live (next_ref p t.0) (2 ^ 64 - 1) (acts_of t.0 p.locals) (live (2 ^ 64 - 1) (acts_of t.0 p.locals)) (own.below t.0) small refl in
    rw (same_number t.0, none) refl
