-- A reference comes to name something at the entry alone that hands it out, and ends once.
use Rattle.std.proofs.Common.{◌≡◌, ◌≢◌, ◌⊎◌, ◌++◌, ℕ, Bool, true, false, List, [], ◌∷◌, Option, Some, None, refl, ap, sym, ◌∙◌, subst, arith, inl, inr}
use Rattle.std.specs.Prelude.{◌==◌, ◌&&◌, not, if◌then◌else◌, map}
use Rattle.std.specs.List.{list_any}
use Rattle.std.proofs.lemmas.Bool.Decides.{nat_tests}
use Rattle.std.proofs.lemmas.Bool.{not-true, not-false}
use Rattle.jg_words.specs.Entry.{Entry}
use Rattle.jg_words.specs.declared.thread.Tid.{Tid}
use Rattle.jg_words.specs.declared.thread.EnvId.{EnvId}
use Rattle.jg_words.specs.declared.object.ObjId.{ObjId}
use Rattle.jg_words.specs.declared.reference.Ref.{Ref}
use Rattle.jg_words.specs.declared.reference.Ref.TheVariants.{Null, To}
use Rattle.jg_words.specs.declared.reference.Kind.TheVariants.{Local, Global, Weak}
use Rattle.jg_words.specs.declared.rule.Rule.{Rule}
use Rattle.jg_words.specs.declared.call.Call.{Call}
use Rattle.jg_words.specs.declared.entry.Outcome.TheVariants.{Passed}
use Rattle.jg_words.specs.declared.entry.Reply.{Reply}
use Rattle.jg_words.specs.declared.value.Value.{Value}
use Rattle.jg_words.specs.declared.value.Value.TheVariants.{Ok as Done, Number, Truth, Null as NullAnswer, Reference, Buffer, Field, Environment, List as Listed, Busy, Detached, Throw}
use Rattle.jg_words.proofs.Common.{clash, not_and_parts}
use Rattle.jg_policy.specs.Stated.{StatedSetup}
use Rattle.jg_table_locals.specs.History.{Act, Event, Make, by, acts_of, live, making, local_if_live, object_of, seen_after}
use Rattle.jg_table_locals.proofs.Callers.{acts_more, acts_same}
use Rattle.jg_table_globals.specs.History as globals
use Rattle.jg_table_globals.specs.declared.target.Target.TheVariants.{Object, Cleared}
use Rattle.jg_rules.specs.declared.named.Named.TheVariants.{Nothing}
use Rattle.jg_rules.specs.Parts.{Parts, nothing_yet}
use Rattle.jg_rules.specs.Names.{names, named_by, named_by_target}
use Rattle.jg_rules.specs.Rules.{is_nothing, verdict}
use Rattle.jg_rules.specs.Effects.{parts, after, call_locals, call_globals, if_effective, is_effective, value_locals, value_globals}
use Rattle.jg_rules.specs.Answers.{answer}
use Rattle.jg_rules.specs.Legal.{Legal, entry_by}
use Rattle.jg_laws.specs.Histories.{WasHandedOut, reference_of, reference_in}
use Rattle.jg_laws.specs.Proper.{IsProper}
use Rattle.jg_laws.proofs.Fresh.{Legal-before, no_reference_twice, same_pair}
use Rattle.jg_laws.proofs.HandsHere.{call_makes_none}
use Rattle.jg_laws.proofs.Proper.{proper}
use Rattle.jg_laws.proofs.Referring.{is_make, make_none, live_still, seen_still}
use Rattle.jg_laws.proofs.Steps.{make_no_global, makes_none}
use Rattle.jg_breaches.specs.declared.condition.Condition.TheVariants.{Names}
use Rattle.jg_breaches.specs.Conditions.{holds}
use Rattle.jg_breaches.specs.Laws.{MadeByItsAnswer, EndsOnce}

-- ---- locals

none_of : (found : Option ℕ) → is_nothing (named_by found) ≡ true → found ≡ None
none_of None is = refl
none_of (Some o) is = absurd cc

some_of : (found : Option ℕ) → is_nothing (named_by found) ≡ false → (o : ℕ) × (found ≡ Some o)
some_of None is = absurd cc
some_of (Some o) is = (o, refl)

pub no_some : (found : Option ℕ) (o : ℕ) → found ≡ None → found ≡ Some o → ⊥
no_some found o none some = cc

acts_own : (t u : ℕ) (acts : List Act) (e : List Event) → t ≡ u → acts_of t (map (by u) acts ++ e) ≡ acts ++ acts_of t e
acts_own t u [] e is = refl
acts_own t u (a ∷ acts) e is = acts_more t u a (map (by u) acts ++ e) is ∙ ap (λ l. a ∷ l) (acts_own t u acts e is)

acts_other : (t u : ℕ) (acts : List Act) (e : List Event) → t ≢ u → acts_of t (map (by u) acts ++ e) ≡ acts_of t e
acts_other t u [] e differ = refl
acts_other t u (a ∷ acts) e differ = acts_same t u a (map (by u) acts ++ e) differ ∙ acts_other t u acts e differ

quiet : (n o : ℕ) (acts old : List Act) → make_none acts ≡ true → live n (acts ++ old) ≡ Some o → live n old ≡ Some o
quiet n o [] old none is = is
quiet n o (a ∷ acts) old none is =
    let each = not_and_parts (is_make a) (make_none acts) none in
    quiet n o acts old each.1 (live_still n o a (acts ++ old) each.0 is)

-- acts that make none make nothing live
still : (t u n o : ℕ) (acts : List Act) (e : List Event) → make_none acts ≡ true → live n (acts_of t (map (by u) acts ++ e)) ≡ Some o
    → live n (acts_of t e) ≡ Some o
still t u n o acts e none is = by_thread (t == u) refl
  where
    by_thread : (b : Bool) → (t == u) ≡ b → live n (acts_of t e) ≡ Some o
    by_thread true same = quiet n o acts (acts_of t e) none (ap (live n) (sym (acts_own t u acts e (grind (arith, nat_tests, same)))) ∙ is)
    by_thread false other = ap (live n) (sym (acts_other t u acts e (grind (arith, nat_tests, other)))) ∙ is

none_if : (b : Bool) (acts : List Act) → make_none acts ≡ true → make_none (if_effective b acts) ≡ true
none_if true acts none = none
none_if false acts none = refl

-- the value is a reference to a local of that number, made by the thread
abbrev MakesLocal : ℕ → ℕ → ℕ → Value → Type 0
MakesLocal t u n v = (t ≡ u) × ((maker : Tid) × (v ≡ Reference (To Local maker n)))

made_seen : (n k p o : ℕ) (acts : List Act) (b : Bool) → b ≡ false
    → object_of (local_if_live n (if b then Some (record { later = []; object = p; before = acts }) else seen_after (Make k p) (making n acts))) ≡ Some o
    → live n acts ≡ Some o
made_seen n k p o acts true other is = absurd cc
made_seen n k p o acts false other is = seen_still n o (Make k p) (making n acts) is

made_if : (n k p o : ℕ) (acts : List Act) → live n acts ≡ None → live n (Make k p ∷ acts) ≡ Some o → k ≡ n
made_if n k p o acts none is = by_number (k == n) refl
  where
    by_number : (b : Bool) → (k == n) ≡ b → k ≡ n
    by_number true same = grind (arith, nat_tests, same)
    by_number false other = absurd (no_some (live n acts) o none (made_seen n k p o acts (k == n) other is))

made_by : (t u n k p o : ℕ) (maker : Tid) (e : List Event) → live n (acts_of t e) ≡ None → live n (acts_of t (by u (Make k p) ∷ e)) ≡ Some o
    → MakesLocal t u n (Reference (To Local maker k))
made_by t u n k p o maker e none is = by_thread (t == u) refl
  where
    by_thread : (b : Bool) → (t == u) ≡ b → MakesLocal t u n (Reference (To Local maker k))
    by_thread true same =
        let own : t ≡ u = grind (arith, nat_tests, same) in
        let number : k ≡ n = made_if n k p o (acts_of t e) none (ap (live n) (sym (acts_more t u (Make k p) e own)) ∙ is) in
        (own, (maker, ap (λ i. Reference (To Local maker i)) number))
    by_thread false other = absurd
        (no_some (live n (acts_of t e)) o none (ap (live n) (sym (acts_same t u (Make k p) e (grind (arith, nat_tests, other)))) ∙ is))

-- what an answer makes live
by_value : (t u n o : ℕ) (v : Value) (object : Option ObjId) (e : List Event) → live n (acts_of t e) ≡ None
    → live n (acts_of t (map (by u) (value_locals v object) ++ e)) ≡ Some o
    → MakesLocal t u n v
by_value t u n o (Reference (To Local maker k)) (Some p) e none is = made_by t u n k p.0 o maker e none is
by_value t u n o (Reference (To Local maker k)) None e none is = absurd (no_some (live n (acts_of t e)) o none is)
by_value t u n o (Reference (To Global maker k)) object e none is = absurd (no_some (live n (acts_of t e)) o none is)
by_value t u n o (Reference (To Weak maker k)) object e none is = absurd (no_some (live n (acts_of t e)) o none is)
by_value t u n o (Reference Null) object e none is = absurd (no_some (live n (acts_of t e)) o none is)
by_value t u n o Done object e none is = absurd (no_some (live n (acts_of t e)) o none is)
by_value t u n o (Number i) object e none is = absurd (no_some (live n (acts_of t e)) o none is)
by_value t u n o (Truth b) object e none is = absurd (no_some (live n (acts_of t e)) o none is)
by_value t u n o NullAnswer object e none is = absurd (no_some (live n (acts_of t e)) o none is)
by_value t u n o (Buffer b) object e none is = absurd (no_some (live n (acts_of t e)) o none is)
by_value t u n o (Field f) object e none is = absurd (no_some (live n (acts_of t e)) o none is)
by_value t u n o (Environment env) object e none is = absurd (no_some (live n (acts_of t e)) o none is)
by_value t u n o (Listed items) object e none is = absurd (no_some (live n (acts_of t e)) o none is)
by_value t u n o Busy object e none is = absurd (no_some (live n (acts_of t e)) o none is)
by_value t u n o Detached object e none is = absurd (no_some (live n (acts_of t e)) o none is)
by_value t u n o (Throw kind) object e none is = absurd (no_some (live n (acts_of t e)) o none is)

-- ---- global and weak references

strong_none : (found : Option ℕ) → is_nothing (named_by_target (globals.strong_target found)) ≡ true → found ≡ None
strong_none None is = refl
strong_none (Some o) is = absurd cc

strong_some : (found : Option ℕ) → is_nothing (named_by_target (globals.strong_target found)) ≡ false → (o : ℕ) × (found ≡ Some o)
strong_some None is = absurd cc
strong_some (Some o) is = (o, refl)

weak_none : (later : List globals.Event) (found : Option ℕ) → is_nothing (named_by_target (globals.unless_cleared later found)) ≡ true → found ≡ None
weak_none later None is = refl
weak_none later (Some o) is = by (list_any (globals.clears o) later) is
  where
    by : (b : Bool) → is_nothing (named_by_target (Some (if b then Cleared else Object (record { 0 = o })))) ≡ true → Some o ≡ None
    by true is = absurd cc
    by false is = absurd cc

weak_some : (later : List globals.Event) (found : Option ℕ) → is_nothing (named_by_target (globals.unless_cleared later found)) ≡ false
    → (o : ℕ) × (found ≡ Some o)
weak_some later None is = absurd cc
weak_some later (Some o) is = (o, refl)

unless : (b : Bool) (old : Option ℕ) (o : ℕ) → (if b then None else old) ≡ Some o → old ≡ Some o
unless true old o is = absurd cc
unless false old o is = is

strong_quiet : (m n o : ℕ) (e g : List globals.Event) → make_no_global e ≡ true → globals.strong (e ++ g) m n ≡ Some o → globals.strong g m n ≡ Some o
strong_quiet m n o [] g none is = is
strong_quiet m n o (globals.MakeStrong k i p ∷ e) g none is = absurd cc
strong_quiet m n o (globals.MakeWeak k i p ∷ e) g none is = absurd cc
strong_quiet m n o (globals.DeleteStrong k i ∷ e) g none is = strong_quiet m n o e g none (unless (globals.is_same m n k i) (globals.strong (e ++ g) m n) o is)
strong_quiet m n o (globals.DeleteWeak k i ∷ e) g none is = strong_quiet m n o e g none is
strong_quiet m n o (globals.Clear p ∷ e) g none is = strong_quiet m n o e g none is

weak_quiet : (m n o : ℕ) (e g : List globals.Event) → make_no_global e ≡ true → globals.weak (e ++ g) m n ≡ Some o → globals.weak g m n ≡ Some o
weak_quiet m n o [] g none is = is
weak_quiet m n o (globals.MakeStrong k i p ∷ e) g none is = absurd cc
weak_quiet m n o (globals.MakeWeak k i p ∷ e) g none is = absurd cc
weak_quiet m n o (globals.DeleteStrong k i ∷ e) g none is = weak_quiet m n o e g none is
weak_quiet m n o (globals.DeleteWeak k i ∷ e) g none is = weak_quiet m n o e g none (unless (globals.is_same m n k i) (globals.weak (e ++ g) m n) o is)
weak_quiet m n o (globals.Clear p ∷ e) g none is = weak_quiet m n o e g none is

pub no_global_if : (b : Bool) (e : List globals.Event) → make_no_global e ≡ true → make_no_global (if_effective b e) ≡ true
no_global_if true e none = none
no_global_if false e none = refl

-- the value is a reference of that kind, maker and number
abbrev Hands : (Tid → ℕ → Ref) → ℕ → ℕ → Value → Type 0
Hands kind m n v = (maker : Tid) × ((k : ℕ) × ((maker.0 ≡ m) × ((k ≡ n) × (v ≡ Reference (kind maker k)))))

abbrev a_global : Tid → ℕ → Ref
a_global maker n = To Global maker n

abbrev a_weak : Tid → ℕ → Ref
a_weak maker n = To Weak maker n

hands_if : (kind : Tid → ℕ → Ref) (m n k o : ℕ) (maker : Tid) (p : ℕ) (old : Option ℕ) → old ≡ None → (b : Bool) → globals.is_same m n maker.0 k ≡ b
    → (if b then Some p else old) ≡ Some o
    → Hands kind m n (Reference (kind maker k))
hands_if kind m n k o maker p old none true same is = let each = same_pair m n maker.0 k same in (maker, (k, (each.0, (each.1, refl))))
hands_if kind m n k o maker p old none false other is = absurd (no_some old o none is)

strong_by : (m n o : ℕ) (v : Value) (object : Option ObjId) (g : List globals.Event) → globals.strong g m n ≡ None
    → globals.strong (value_globals v object ++ g) m n ≡ Some o → Hands a_global m n v
strong_by m n o (Reference (To Global maker k)) (Some p) g none is =
    hands_if a_global m n k o maker p.0 (globals.strong g m n) none (globals.is_same m n maker.0 k) refl is
strong_by m n o (Reference (To Global maker k)) None g none is = absurd (no_some (globals.strong g m n) o none is)
strong_by m n o (Reference (To Weak maker k)) (Some p) g none is = absurd (no_some (globals.strong g m n) o none is)
strong_by m n o (Reference (To Weak maker k)) None g none is = absurd (no_some (globals.strong g m n) o none is)
strong_by m n o (Reference (To Local maker k)) object g none is = absurd (no_some (globals.strong g m n) o none is)
strong_by m n o (Reference Null) object g none is = absurd (no_some (globals.strong g m n) o none is)
strong_by m n o Done object g none is = absurd (no_some (globals.strong g m n) o none is)
strong_by m n o (Number i) object g none is = absurd (no_some (globals.strong g m n) o none is)
strong_by m n o (Truth b) object g none is = absurd (no_some (globals.strong g m n) o none is)
strong_by m n o NullAnswer object g none is = absurd (no_some (globals.strong g m n) o none is)
strong_by m n o (Buffer b) object g none is = absurd (no_some (globals.strong g m n) o none is)
strong_by m n o (Field f) object g none is = absurd (no_some (globals.strong g m n) o none is)
strong_by m n o (Environment env) object g none is = absurd (no_some (globals.strong g m n) o none is)
strong_by m n o (Listed items) object g none is = absurd (no_some (globals.strong g m n) o none is)
strong_by m n o Busy object g none is = absurd (no_some (globals.strong g m n) o none is)
strong_by m n o Detached object g none is = absurd (no_some (globals.strong g m n) o none is)
strong_by m n o (Throw kind) object g none is = absurd (no_some (globals.strong g m n) o none is)

weak_by : (m n o : ℕ) (v : Value) (object : Option ObjId) (g : List globals.Event) → globals.weak g m n ≡ None
    → globals.weak (value_globals v object ++ g) m n ≡ Some o → Hands a_weak m n v
weak_by m n o (Reference (To Weak maker k)) (Some p) g none is =
    hands_if a_weak m n k o maker p.0 (globals.weak g m n) none (globals.is_same m n maker.0 k) refl is
weak_by m n o (Reference (To Weak maker k)) None g none is = absurd (no_some (globals.weak g m n) o none is)
weak_by m n o (Reference (To Global maker k)) (Some p) g none is = absurd (no_some (globals.weak g m n) o none is)
weak_by m n o (Reference (To Global maker k)) None g none is = absurd (no_some (globals.weak g m n) o none is)
weak_by m n o (Reference (To Local maker k)) object g none is = absurd (no_some (globals.weak g m n) o none is)
weak_by m n o (Reference Null) object g none is = absurd (no_some (globals.weak g m n) o none is)
weak_by m n o Done object g none is = absurd (no_some (globals.weak g m n) o none is)
weak_by m n o (Number i) object g none is = absurd (no_some (globals.weak g m n) o none is)
weak_by m n o (Truth b) object g none is = absurd (no_some (globals.weak g m n) o none is)
weak_by m n o NullAnswer object g none is = absurd (no_some (globals.weak g m n) o none is)
weak_by m n o (Buffer b) object g none is = absurd (no_some (globals.weak g m n) o none is)
weak_by m n o (Field f) object g none is = absurd (no_some (globals.weak g m n) o none is)
weak_by m n o (Environment env) object g none is = absurd (no_some (globals.weak g m n) o none is)
weak_by m n o (Listed items) object g none is = absurd (no_some (globals.weak g m n) o none is)
weak_by m n o Busy object g none is = absurd (no_some (globals.weak g m n) o none is)
weak_by m n o Detached object g none is = absurd (no_some (globals.weak g m n) o none is)
weak_by m n o (Throw kind) object g none is = absurd (no_some (globals.weak g m n) o none is)

-- ---- one entry

none_still : (now old : Option ℕ) → ((o : ℕ) → now ≡ Some o → old ≡ Some o) → old ≡ None → now ≡ None
none_still None old kept none = refl
none_still (Some o) old kept none = absurd (no_some old o none (kept o refl))

tid_is : (a b : Tid) → a.0 ≡ b.0 → a ≡ b
tid_is a b is = ap (λ (k : ℕ). record { 0 = k }) is

module _ (s : StatedSetup) (p : Parts) (u : Tid) (call : Call) (reply : Reply) (object : Option ObjId) where
  -- a local is handed to the thread that calls
  own_maker : (maker : Tid) (n : ℕ) (o : Option ObjId) → IsProper s p u call (Reference (To Local maker n)) reply.warned o → maker ≡ u
  own_maker maker n None own = absurd own
  own_maker maker n (Some o) own = own.1

  module _ (own : IsProper s p u call reply.value reply.warned object) (t : ℕ) where
    abbrev called : List Event
    called = map (by u.0) (if_effective (is_effective reply.value) (call_locals s p u.0 call)) ++ p.locals

    handed_local : (maker : Tid) (n : ℕ) → maker.0 ≡ t → live n (acts_of t p.locals) ≡ None → (o : ℕ)
        → live n (acts_of t (map (by u.0) (value_locals reply.value object) ++ called)) ≡ Some o
        → reference_in reply.value ≡ Some (To Local maker n)
    handed_local maker n same none o some =
        let acts = if_effective (is_effective reply.value) (call_locals s p u.0 call) in
        let silent = none_if (is_effective reply.value) (call_locals s p u.0 call) (call_makes_none s p u.0 call) in
        let mid : live n (acts_of t called) ≡ None =
        none_still (live n (acts_of t called)) (live n (acts_of t p.locals)) (λ k is. still t u.0 n k acts p.locals silent is) none in
        let made = by_value t u.0 n o reply.value object called mid some in
        let is : reply.value ≡ Reference (To Local made.1.0 n) = made.1.1 in
        let theirs : made.1.0 ≡ u = own_maker made.1.0 n object (subst (λ v. IsProper s p u call v reply.warned object) is own) in
        let one : made.1.0 ≡ maker = theirs ∙ tid_is u maker (sym made.0 ∙ sym same) in
        ap reference_in is ∙ ap (λ m. Some (To Local m n)) one

    comes_local : (maker : Tid) (n : ℕ) (b : Bool) → (maker.0 == t) ≡ b → is_nothing (if b then named_by (live n (acts_of t p.locals)) else Nothing) ≡ true
        → is_nothing (if b then named_by (live n (acts_of t (map (by u.0) (value_locals reply.value object) ++ called))) else Nothing) ≡ false
        → reference_in reply.value ≡ Some (To Local maker n)
    comes_local maker n true same none some =
        let now = some_of (live n (acts_of t (map (by u.0) (value_locals reply.value object) ++ called))) some in
        handed_local maker n (grind (arith, nat_tests, same)) (none_of (live n (acts_of t p.locals)) none) now.0 now.1
    comes_local maker n false other none some = absurd cc

    comes : (r : Ref) → is_nothing (names p t r) ≡ true → is_nothing (names (after s u.0 call (Passed reply) object p) t r) ≡ false
        → reference_in reply.value ≡ Some r
    comes Null none some = absurd cc
    comes (To Local maker n) none some = comes_local maker n (maker.0 == t) refl none some
    comes (To Global maker n) none some =
        let e = if_effective (is_effective reply.value) (call_globals s p u.0 call) in
        let silent = no_global_if (is_effective reply.value) (call_globals s p u.0 call) (makes_none s p u.0 call) in
        let old = strong_none (globals.strong p.globals maker.0 n) none in
        let mid = none_still (globals.strong (e ++ p.globals) maker.0 n) (globals.strong p.globals maker.0 n)
        (λ o is. strong_quiet maker.0 n o e p.globals silent is) old in
        let now = strong_some (globals.strong (value_globals reply.value object ++ (e ++ p.globals)) maker.0 n) some in
        let made = strong_by maker.0 n now.0 reply.value object (e ++ p.globals) mid now.1 in
        ap reference_in made.1.1.1.1 ∙ ap (λ m. Some (To Global m made.1.0)) (tid_is made.0 maker made.1.1.0) ∙ ap (λ k. Some (To Global maker k)) made.1.1.1.0
    comes (To Weak maker n) none some =
        let e = if_effective (is_effective reply.value) (call_globals s p u.0 call) in
        let silent = no_global_if (is_effective reply.value) (call_globals s p u.0 call) (makes_none s p u.0 call) in
        let all = value_globals reply.value object ++ (e ++ p.globals) in
        let old = weak_none (globals.after_making maker.0 n p.globals) (globals.weak p.globals maker.0 n) none in
        let mid = none_still (globals.weak (e ++ p.globals) maker.0 n) (globals.weak p.globals maker.0 n) (λ o is. weak_quiet maker.0 n o e p.globals silent is)
        old in
        let now = weak_some (globals.after_making maker.0 n all) (globals.weak all maker.0 n) some in
        let made = weak_by maker.0 n now.0 reply.value object (e ++ p.globals) mid now.1 in
        ap reference_in made.1.1.1.1 ∙ ap (λ m. Some (To Weak m made.1.0)) (tid_is made.0 maker made.1.1.0) ∙ ap (λ k. Some (To Weak maker k)) made.1.1.1.0

entry_hands : (s : StatedSetup) (p : Parts) (u : Tid) (env : Option EnvId) (call : Call) (t : ℕ) (r : Ref) (verdict : Option Rule) (y : Entry)
    → y ≡ entry_by verdict (answer s p u call) u env call
    → is_nothing (names p t r) ≡ true → is_nothing (names (after s y.tid.0 y.call y.outcome y.object p) t r) ≡ false → reference_of y.outcome ≡ Some r
entry_hands s p u env call t r (Some rule) y is none some =
    absurd (clash (is_nothing (names p t r)) none (sym (ap (λ (x : Entry). is_nothing (names (after s x.tid.0 x.call x.outcome x.object p) t r)) is) ∙ some))
entry_hands s p u env call t r None y is none some =
    let a = answer s p u call in
    let here = sym (ap (λ (x : Entry). is_nothing (names (after s x.tid.0 x.call x.outcome x.object p) t r)) is) ∙ some in
    ap (λ (x : Entry). reference_of x.outcome) is ∙ comes s p u call a.reply a.object (proper s p u call) t r none here

comes_to_name : (s : StatedSetup) (h : List Entry) (x : Entry) (t : Tid) (r : Ref) → Legal s (x ∷ h) → holds (parts s h) (Names t r) ≡ false
    → holds (parts s (x ∷ h)) (Names t r) ≡ true
    → reference_of x.outcome ≡ Some r
comes_to_name s h x t r legal none some =
    entry_hands s (parts s h) x.tid x.env x.call t.0 r (verdict s (parts s h) x.tid.0 x.env x.call) x legal.0
    (not-false (is_nothing (names (parts s h) t.0 r)) none) (not-true (is_nothing (names (parts s (x ∷ h)) t.0 r)) some)

pub made_by_its_answer : MadeByItsAnswer
made_by_its_answer s later x before t r legal none some = comes_to_name s before x t r (Legal-before s later (x ∷ before) legal) none some

-- ---- all later entries

at_first : (t : Tid) (r : Ref) → holds nothing_yet (Names t r) ≡ true → r ≡ Null
at_first t Null is = refl
at_first t (To Local maker n) is = by (maker.0 == t.0) is
  where
    by : (b : Bool) → not (is_nothing (if b then Nothing else Nothing)) ≡ true → To Local maker n ≡ Null
    by true is = absurd cc
    by false is = absurd cc
at_first t (To Global maker n) is = absurd cc
at_first t (To Weak maker n) is = absurd cc

handed_before : (r : Ref) (x : Entry) (h : List Entry) → (r ≡ Null) ⊎ WasHandedOut r h → (r ≡ Null) ⊎ WasHandedOut r (x ∷ h)
handed_before r x h (inl null) = inl null
handed_before r x h (inr was) = inr (inr was)

handed_or_here : (s : StatedSetup) (h : List Entry) (x : Entry) (t : Tid) (r : Ref) (b : Bool) → Legal s (x ∷ h) → holds (parts s h) (Names t r) ≡ b
    → holds (parts s (x ∷ h)) (Names t r) ≡ true
    → (holds (parts s h) (Names t r) ≡ true → (r ≡ Null) ⊎ WasHandedOut r h) → (r ≡ Null) ⊎ WasHandedOut r (x ∷ h)
handed_or_here s h x t r true legal before is old = handed_before r x h (old before)
handed_or_here s h x t r false legal before is old = inr (inl (comes_to_name s h x t r legal before is))

was_handed : (s : StatedSetup) (h : List Entry) (t : Tid) (r : Ref) → Legal s h → holds (parts s h) (Names t r) ≡ true → (r ≡ Null) ⊎ WasHandedOut r h
was_handed s [] t r legal is = inl (at_first t r is)
was_handed s (x ∷ h) t r legal is = handed_or_here s h x t r (holds (parts s h) (Names t r)) legal refl is (λ before. was_handed s h t r legal.1 before)

handed_later : (r : Ref) (later h : List Entry) → WasHandedOut r h → WasHandedOut r (later ++ h)
handed_later r [] h was = was
handed_later r (x ∷ later) h was = inr (handed_later r later h was)

not_again : (s : StatedSetup) (h : List Entry) (x : Entry) (t : Tid) (r : Ref) (b : Bool) → Legal s (x ∷ h) → WasHandedOut r h
    → holds (parts s h) (Names t r) ≡ false
    → holds (parts s (x ∷ h)) (Names t r) ≡ b → b ≡ false
not_again s h x t r false legal was ended is = refl
not_again s h x t r true legal was ended is = absurd (no_reference_twice s [] x h r legal (comes_to_name s h x t r legal ended is) was)

never_again : (s : StatedSetup) (newest h : List Entry) (t : Tid) (r : Ref) → Legal s (newest ++ h) → WasHandedOut r h → holds (parts s h) (Names t r) ≡ false
    → holds (parts s (newest ++ h)) (Names t r) ≡ false
never_again s [] h t r legal was ended = ended
never_again s (x ∷ newest) h t r legal was ended =
    not_again s (newest ++ h) x t r (holds (parts s (x ∷ newest ++ h)) (Names t r)) legal (handed_later r newest h was)
    (never_again s newest h t r legal.1 was ended) refl

names_null : (p : Parts) (t : Tid) (r : Ref) → r ≡ Null → holds p (Names t r) ≡ true
names_null p t r null = ap (λ q. holds p (Names t q)) null

pub ends_once : EndsOnce
ends_once s newest later first t r legal named ended =
    by (was_handed s first t r (Legal-before s later first (Legal-before s newest (later ++ first) legal)) named)
  where
    by : (r ≡ Null) ⊎ WasHandedOut r first → holds (parts s (newest ++ (later ++ first))) (Names t r) ≡ false
    by (inl null) = absurd (clash (holds (parts s (later ++ first)) (Names t r)) (names_null (parts s (later ++ first)) t r null) ended)
    by (inr was) = never_again s newest (later ++ first) t r legal (handed_later r later first was) ended
