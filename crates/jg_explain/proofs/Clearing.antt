-- A reference comes to name an object at the entry alone that hands it out: what was cleared stays so.
use Rattle.std.proofs.Common.{◌≡◌, ◌⊎◌, ◌++◌, ◌∙◌, ℕ, Bool, true, false, List, [], ◌∷◌, Option, Some, None, refl, ap, sym, arith, inl, inr}
use Rattle.std.specs.Prelude.{◌==◌, ◌||◌, if◌then◌else◌}
use Rattle.std.specs.List.{list_any}
use Rattle.jg_words.specs.declared.thread.Tid.{Tid}
use Rattle.jg_words.specs.declared.object.ObjId.{ObjId}
use Rattle.jg_words.specs.declared.reference.Ref.TheVariants.{Null, To}
use Rattle.jg_words.specs.declared.reference.Kind.TheVariants.{Local, Global, Weak}
use Rattle.jg_table_globals.specs.History as globals
use Rattle.jg_table_globals.specs.declared.target.Target.TheVariants.{Object, Cleared}
use Rattle.jg_rules.specs.Names.{named_by_target, object_in}
use Rattle.jg_words.specs.declared.value.Value.{Value}
use Rattle.jg_words.specs.declared.value.Value.TheVariants.{Ok as Done, Number, Truth, Null as NullAnswer, Reference, Buffer, Field, Environment, List as Listed, Busy, Detached, Throw}
use Rattle.jg_rules.specs.Effects.{value_globals}
use Rattle.std.proofs.lemmas.Bool.Decides.{nat_tests}
use Rattle.std.proofs.Math.Bool.{or-true}
use Rattle.jg_breaches.proofs.Making.{no_some}
use Rattle.jg_laws.proofs.Steps.{make_no_global}

-- the weak reference is not in being, or it is cleared
abbrev NamesNone : ℕ → ℕ → List globals.Event → Type 0
NamesNone m n e = (globals.weak e m n ≡ None) ⊎ ((o : ℕ) × (globals.weak e m n ≡ Some o) × (list_any (globals.clears o) (globals.after_making m n e) ≡ true))

if_kept : (b : Bool) (old : Option ℕ) → old ≡ None → (if b then None else old) ≡ None
if_kept true old none = refl
if_kept false old none = none

-- events that make no reference leave it so
pub none_kept : (m n : ℕ) (e old : List globals.Event) → make_no_global e ≡ true → NamesNone m n old → NamesNone m n (e ++ old)
none_kept m n [] old none was = was
none_kept m n (globals.MakeStrong k i p ∷ e) old none was = absurd cc
none_kept m n (globals.MakeWeak k i p ∷ e) old none was = absurd cc
none_kept m n (globals.DeleteStrong k i ∷ e) old none was = by (none_kept m n e old none was)
  where
    by : NamesNone m n (e ++ old) → NamesNone m n (globals.DeleteStrong k i ∷ (e ++ old))
    by (inl gone) = inl gone
    by (inr (o, there, cleared)) = inr (o, there, cleared)
none_kept m n (globals.Clear p ∷ e) old none was = by (none_kept m n e old none was)
  where
    by : NamesNone m n (e ++ old) → NamesNone m n (globals.Clear p ∷ (e ++ old))
    by (inl gone) = inl gone
    by (inr (o, there, cleared)) = inr (o, there, ap (λ b. (p == o) || b) cleared ∙ or-true (p == o))
none_kept m n (globals.DeleteWeak k i ∷ e) old none was = by (none_kept m n e old none was) (globals.is_same m n k i) refl
  where
    by : NamesNone m n (e ++ old) → (b : Bool) → globals.is_same m n k i ≡ b → NamesNone m n (globals.DeleteWeak k i ∷ (e ++ old))
    by below true is = inl (ap (λ (b : Bool). if b then None else globals.weak (e ++ old) m n) is)
    by (inl gone) false is = inl (ap (λ (b : Bool). if b then None else globals.weak (e ++ old) m n) is ∙ gone)
    by (inr (o, there, cleared)) false is = inr (o, ap (λ (b : Bool). if b then None else globals.weak (e ++ old) m n) is ∙ there, cleared)

-- what it names then is no object
names_none : (later : List globals.Event) (found : Option ℕ) → (found ≡ None) ⊎ ((o : ℕ) × (found ≡ Some o) × (list_any (globals.clears o) later ≡ true))
    → object_in (named_by_target (globals.unless_cleared later found)) ≡ None
names_none later found (inl gone) = ap (λ (f : Option ℕ). object_in (named_by_target (globals.unless_cleared later f))) gone
names_none later found (inr (o, there, cleared)) =
    ap (λ (f : Option ℕ). object_in (named_by_target (globals.unless_cleared later f))) there
    ∙ ap (λ (b : Bool). object_in (named_by_target (Some (if b then Cleared else Object (record { 0 = o }))))) cleared

-- and where it names no object it is so
pub none_names : (later : List globals.Event) (found : Option ℕ) → object_in (named_by_target (globals.unless_cleared later found)) ≡ None
    → (found ≡ None) ⊎ ((o : ℕ) × (found ≡ Some o) × (list_any (globals.clears o) later ≡ true))
none_names later None is = inl refl
none_names later (Some o) is = by (list_any (globals.clears o) later) refl is
  where
    by : (b : Bool) → list_any (globals.clears o) later ≡ b → object_in (named_by_target (Some (if b then Cleared else Object (record { 0 = o })))) ≡ None
        → (Some o ≡ None) ⊎ ((p : ℕ) × (Some o ≡ Some p) × (list_any (globals.clears p) later ≡ true))
    by true cleared is = inr (o, refl, cleared)
    by false live is = absurd cc

-- the value is the weak reference of that maker and number
abbrev HandsWeak : ℕ → ℕ → Value → Type 0
HandsWeak m n v = (maker : Tid) × ((k : ℕ) × ((maker.0 ≡ m) × ((k ≡ n) × (v ≡ Reference (To Weak maker k)))))

module _ (m n : ℕ) (g : List globals.Event) (none : NamesNone m n g) where
  abbrev pub named_after : List globals.Event → Option ℕ
  named_after e = object_in (named_by_target (globals.weak_target e m n))

  as_it_is : (o : ℕ) → named_after g ≡ Some o → ⊥
  as_it_is o some = no_some (named_after g) o (names_none (globals.after_making m n g) (globals.weak g m n) none) some

  strong_made : (k i p o : ℕ) → named_after (globals.MakeStrong k i p ∷ g) ≡ Some o → ⊥
  strong_made k i p o some =
      no_some (named_after (globals.MakeStrong k i p ∷ g)) o (names_none (globals.after_making m n (globals.MakeStrong k i p ∷ g)) (globals.weak g m n) none)
      some

  weak_made : (maker : Tid) (k p o : ℕ) (b : Bool) → globals.is_same m n maker.0 k ≡ b → named_after (globals.MakeWeak maker.0 k p ∷ g) ≡ Some o
      → HandsWeak m n (Reference (To Weak maker k))
  weak_made maker k p o true same some = (maker, (k, (grind (arith, nat_tests, same), (grind (arith, nat_tests, same), refl))))
  weak_made maker k p o false other some =
      let e = globals.MakeWeak maker.0 k p ∷ g in
      let kept : globals.weak e m n ≡ globals.weak g m n = ap (λ (b : Bool). if b then Some p else globals.weak g m n) other in
      let behind : globals.after_making m n e ≡ globals.MakeWeak maker.0 k p ∷ globals.after_making m n g =
      ap (λ (b : Bool). if b then [] else globals.MakeWeak maker.0 k p ∷ globals.after_making m n g) other in
      let same : named_after e ≡ named_after (globals.MakeStrong maker.0 k p ∷ g) =
      ap (λ found. object_in (named_by_target (globals.unless_cleared (globals.after_making m n e) found))) kept
      ∙ ap (λ later. object_in (named_by_target (globals.unless_cleared later (globals.weak g m n)))) behind
      ∙ unmoved (globals.weak g m n) in
      absurd (strong_made maker.0 k p o (sym same ∙ some))
    where
      -- neither making clears anything
      unmoved : (found : Option ℕ) → object_in (named_by_target (globals.unless_cleared (globals.MakeWeak maker.0 k p ∷ globals.after_making m n g) found))
          ≡ object_in (named_by_target (globals.unless_cleared (globals.MakeStrong maker.0 k p ∷ globals.after_making m n g) found))
      unmoved None = refl
      unmoved (Some q) = refl

  pub by_value : (o : ℕ) (v : Value) (object : Option ObjId) → named_after (value_globals v object ++ g) ≡ Some o → HandsWeak m n v
  by_value o (Reference (To Weak maker k)) (Some p) some = weak_made maker k p.0 o (globals.is_same m n maker.0 k) refl some
  by_value o (Reference (To Weak maker k)) None some = absurd (as_it_is o some)
  by_value o (Reference (To Global maker k)) (Some p) some = absurd (strong_made maker.0 k p.0 o some)
  by_value o (Reference (To Global maker k)) None some = absurd (as_it_is o some)
  by_value o (Reference (To Local maker k)) object some = absurd (as_it_is o some)
  by_value o (Reference Null) object some = absurd (as_it_is o some)
  by_value o Done object some = absurd (as_it_is o some)
  by_value o (Number i) object some = absurd (as_it_is o some)
  by_value o (Truth b) object some = absurd (as_it_is o some)
  by_value o NullAnswer object some = absurd (as_it_is o some)
  by_value o (Buffer b) object some = absurd (as_it_is o some)
  by_value o (Field f) object some = absurd (as_it_is o some)
  by_value o (Environment env) object some = absurd (as_it_is o some)
  by_value o (Listed items) object some = absurd (as_it_is o some)
  by_value o Busy object some = absurd (as_it_is o some)
  by_value o Detached object some = absurd (as_it_is o some)
  by_value o (Throw kind) object some = absurd (as_it_is o some)
