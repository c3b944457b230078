-- When a reference is in being, over facts that could be.
use Rattle.std.proofs.Common.{ℕ, ◌≡◌, ◌+◌, ◌≤◌, ◌<◌, Bool, true, false, List, [], ◌∷◌, ◌++◌, Option, Some, None, refl, ap, sym, ◌∙◌, arith}
use Rattle.std.specs.Prelude.{◌==◌, ◌&&◌, not, if◌then◌else◌}
use Rattle.std.specs.Option.{is_some}
use Rattle.std.specs.List.{list_any}
use Rattle.std.proofs.lemmas.Bool.Decides.{nat_tests}
use Rattle.jg_words.specs.declared.thread.Tid.{Tid}
use Rattle.jg_words.specs.declared.reference.Ref.{Ref}
use Rattle.jg_words.specs.declared.reference.Ref.TheVariants.{Null, To}
use Rattle.jg_words.specs.declared.reference.Kind.{Kind}
use Rattle.jg_words.specs.declared.reference.Kind.TheVariants.{Local, Global, Weak}
use Rattle.jg_policy.specs.Stated.{StatedSetup}
use Rattle.jg_table_locals.specs.History.{Act, Delete, Making, acts_of, live, local_if_live, making, object_of, seen_after, survives}
use Rattle.jg_table_locals.proofs.Callers.{acts_more, live_below}
use Rattle.jg_table_globals.specs.declared.target.Target.TheVariants.{Object as ToObject, Cleared}
use Rattle.jg_table_globals.specs.History as globals
use Rattle.jg_table_globals.specs.Laws as global_laws
use Rattle.jg_rules.specs.declared.named.Named.{Named}
use Rattle.jg_rules.specs.declared.named.Named.TheVariants.{Nothing}
use Rattle.jg_rules.specs.Parts.{Parts}
use Rattle.jg_rules.specs.Names.{named_by, named_by_target, next_ref}
use Rattle.jg_rules.specs.Rules.{is_nothing}
use Rattle.jg_laws.proofs.Steps.{Steps, make_no_global}
use Rattle.jg_laws.proofs.Kept.{AtLeast, Below, GlobalsBelow, at_least_steps}
use Rattle.jg_laws.proofs.Fresh.{Gone as NotLive, Ended as NoTarget, kind_below, not_same, same_pair, target_object}
use Rattle.jg_core.specs.declared.fact.Fact.{Fact}
use Rattle.jg_core.specs.Facts.{on, lost_on, parts_of, can_be, is_in_being, History}
use Rattle.jg_core.proofs.Each.{Keeps, each_fact, each_told, keeps_at_least, keeps_below, keeps_globals_below, keeps_gone, keeps_ended}
use Rattle.jg_witness.specs.Events.{IsCounted}

-- ---- what the tables have of a reference: the object that it was made for, while it is in being

abbrev pub found : Kind → Parts → ℕ → ℕ → Option ℕ
found Local p t n = live n (acts_of t p.locals)
found Global p t n = globals.strong p.globals t n
found Weak p t n = globals.weak p.globals t n

own_being : (mine : Bool) (x : Option ℕ) → mine ≡ true → not (is_nothing (if◌then◌else◌ {A = Named} mine (named_by x) Nothing)) ≡ is_some x
own_being true None is = refl
own_being true (Some o) is = refl
own_being false x is = absurd cc

strong_being : (x : Option ℕ) → not (is_nothing (named_by_target (globals.strong_target x))) ≡ is_some x
strong_being None = refl
strong_being (Some o) = refl

cleared_being : (c : Bool) (o : ℕ) → not (is_nothing (named_by_target (Some (if c then Cleared else ToObject (record { 0 = o }))))) ≡ true
cleared_being true o = refl
cleared_being false o = refl

weak_being : (later : List globals.Event) (x : Option ℕ) → not (is_nothing (named_by_target (globals.unless_cleared later x))) ≡ is_some x
weak_being later None = refl
weak_being later (Some o) = cleared_being (list_any (globals.clears o) later) o

pub same_number : (t : ℕ) → (t == t) ≡ true
same_number t = grind (arith, nat_tests)

pub being_found : (kind : Kind) (p : Parts) (maker : Tid) (n : ℕ) → is_in_being p (To kind maker n) ≡ is_some (found kind p maker.0 n)
being_found Local p maker n = own_being (maker.0 == maker.0) (live n (acts_of maker.0 p.locals)) (same_number maker.0)
being_found Global p maker n = strong_being (globals.strong p.globals maker.0 n)
being_found Weak p maker n = weak_being (globals.after_making maker.0 n p.globals) (globals.weak p.globals maker.0 n)

none_found : (x : Option ℕ) → is_some x ≡ false → x ≡ None
none_found None is = refl
none_found (Some o) is = absurd cc

-- ---- none comes back

weak_if : (b : Bool) (old : Option ℕ) → old ≡ None → (if b then None else old) ≡ None
weak_if true old gone = refl
weak_if false old gone = gone

weak_still : (ev : globals.Event) (e : List globals.Event) (maker n : ℕ) → global_laws.makes maker n ev ≡ false → globals.weak e maker n ≡ None
    → globals.weak (ev ∷ e) maker n ≡ None
weak_still (globals.MakeStrong k i o) e maker n other gone = gone
weak_still (globals.MakeWeak k i o) e maker n other gone = rw other gone
weak_still (globals.DeleteStrong k i) e maker n other gone = gone
weak_still (globals.DeleteWeak k i) e maker n other gone = weak_if (globals.is_same maker n k i) (globals.weak e maker n) gone
weak_still (globals.Clear o) e maker n other gone = gone

weak_none : (e g : List globals.Event) (maker n : ℕ) → make_no_global e ≡ true → globals.weak g maker n ≡ None → globals.weak (e ++ g) maker n ≡ None
weak_none [] g maker n none gone = gone
weak_none (globals.MakeStrong k i o ∷ e) g maker n none gone = absurd cc
weak_none (globals.MakeWeak k i o ∷ e) g maker n none gone = absurd cc
weak_none (globals.DeleteStrong k i ∷ e) g maker n none gone = weak_none e g maker n none gone
weak_none (globals.DeleteWeak k i ∷ e) g maker n none gone =
    weak_if (globals.is_same maker n k i) (globals.weak (e ++ g) maker n) (weak_none e g maker n none gone)
weak_none (globals.Clear o ∷ e) g maker n none gone = weak_none e g maker n none gone

-- the weak reference was handed out, and isn't in being
abbrev NoWeak : ℕ → ℕ → Parts → Type 0
NoWeak t n p = (n + 1 ≤ next_ref p t) × (globals.weak p.globals t n ≡ None)

no_weak_steps : (s : StatedSetup) (t n : ℕ) → Steps s (NoWeak t n)
no_weak_steps s t n =
    let counts = at_least_steps s t (n + 1) in
    record {
      begins = λ p u is old. (counts.begins p u is old.0, old.1);
      begun = λ p u is old. (counts.begun p u is old.0, old.1);
      ends = λ p u old. (counts.ends p u old.0, old.1);
      enters = λ p u on old. (counts.enters p u on old.0, old.1);
      leaves = λ p u on deep old. (counts.leaves p u on deep old.0, old.1);
      deletes = λ p u k old. old;
      pushes = λ p u room old. old;
      widens = λ p u c old. old;
      pops = λ p u some old. old;
      to_globals = λ p e none old. (old.0, weak_none e p.globals t n none old.1);
      to_buffers = λ p e none old. old;
      to_monitors = λ p e old. old;
      to_heap = λ p e all old. old;
      to_links = λ p e old. old;
      hands = λ p u k o is old. (counts.hands p u k o is old.0, old.1);
      hands_strong = λ p u k o is
          old. (counts.hands_strong p u k o is old.0, weak_still (globals.MakeStrong u k o) p.globals t n (not_same p u k t n is old.0) old.1);
      hands_weak = λ p u k o is
          old. (counts.hands_weak p u k o is old.0, weak_still (globals.MakeWeak u k o) p.globals t n (not_same p u k t n is old.0) old.1);
      lends = λ p u b own old. (counts.lends p u b own old.0, old.1);
      raises = λ p u o old. (counts.raises p u o old.0, old.1);
      calms = λ p u old. (counts.calms p u old.0, old.1);
    }

keeps_no_weak : (s : StatedSetup) (t n : ℕ) → Keeps s (NoWeak t n)
keeps_no_weak s t n =
    let counts = keeps_at_least s t (n + 1) in
    record {
      steps = no_weak_steps s t n;
      lends = λ p u b own next old. (counts.lends p u b own next old.0, old.1);
      meets = λ p class m old. old;
    }

no_target : (x : Option ℕ) → x ≡ None → target_object (globals.strong_target x) ≡ None
no_target None is = refl
no_target (Some o) is = absurd cc

no_strong : (x : Option ℕ) → target_object (globals.strong_target x) ≡ None → x ≡ None
no_strong None is = refl
no_strong (Some o) is = absurd cc

-- one that isn't found, of a number that was given, isn't found later
found_stays : (kind : Kind) (s : StatedSetup) (p : Parts) (x : Fact) (t n : ℕ) → can_be s p x ≡ true → n + 1 ≤ next_ref p t → found kind p t n ≡ None
    → found kind (on x p) t n ≡ None
found_stays Local s p x t n can counted gone = (each_fact (NotLive t n) s (keeps_gone s t n) p x can (counted, gone)).1
found_stays Global s p x t n can counted gone =
    no_strong (globals.strong (on x p).globals t n)
    (each_fact (NoTarget Global t n) s (keeps_ended s Global t n) p x can (counted, no_target (globals.strong p.globals t n) gone)).1
found_stays Weak s p x t n can counted gone = (each_fact (NoWeak t n) s (keeps_no_weak s t n) p x can (counted, gone)).1

pub counted_stays : (s : StatedSetup) (p : Parts) (x : Fact) (r : Ref) → can_be s p x ≡ true → IsCounted p r → IsCounted (on x p) r
counted_stays s p x Null can counted = counted
counted_stays s p x (To kind maker n) can counted =
    let still = each_fact (AtLeast maker.0 (n + 1)) s (keeps_at_least s maker.0 (n + 1)) p x can (omega (arith, counted)) in
    omega (arith, still)

pub dead_stays : (s : StatedSetup) (p : Parts) (x : Fact) (r : Ref) → can_be s p x ≡ true → IsCounted p r → is_in_being p r ≡ false
    → is_in_being (on x p) r ≡ false
dead_stays s p x Null can counted dead = refl
dead_stays s p x (To kind maker n) can counted dead =
    let gone = none_found (found kind p maker.0 n) (sym (being_found kind p maker n) ∙ dead) in
    being_found kind (on x p) maker n ∙ ap is_some (found_stays kind s p x maker.0 n can (omega (arith, counted)) gone)

-- ---- what is in being has a number that was given

weak_made_if : (b : Bool) (old : Option ℕ) (m t n k i p o : ℕ) → globals.is_same t n k i ≡ b → (k ≡ t → i < m) → (old ≡ Some o → n < m)
    → (if b then Some p else old) ≡ Some o → n < m
weak_made_if true old m t n k i p o same below rest is = let both = same_pair t n k i same in omega (arith, below both.0, both.1)
weak_made_if false old m t n k i p o same below rest is = rest is

weak_deleted : (b : Bool) (old : Option ℕ) (m n o : ℕ) → (old ≡ Some o → n < m) → (if b then None else old) ≡ Some o → n < m
weak_deleted true old m n o rest is = absurd cc
weak_deleted false old m n o rest is = rest is

weak_made : (e : List globals.Event) (m t n o : ℕ) → global_laws.IsMadeBelow t m e → globals.weak e t n ≡ Some o → n < m
weak_made [] m t n o below is = absurd cc
weak_made (globals.MakeWeak k i p ∷ e) m t n o below is =
    weak_made_if (globals.is_same t n k i) (globals.weak e t n) m t n k i p o refl below.0 (λ rest. weak_made e m t n o below.1 rest) is
weak_made (globals.MakeStrong k i p ∷ e) m t n o below is = weak_made e m t n o below.1 is
weak_made (globals.DeleteWeak k i ∷ e) m t n o below is =
    weak_deleted (globals.is_same t n k i) (globals.weak e t n) m n o (λ rest. weak_made e m t n o below rest) is
weak_made (globals.DeleteStrong k i ∷ e) m t n o below is = weak_made e m t n o below is
weak_made (globals.Clear p ∷ e) m t n o below is = weak_made e m t n o below is

found_below : (kind : Kind) (s : StatedSetup) (w : List Fact) (t n o : ℕ) → History s w → found kind (parts_of w) t n ≡ Some o
    → n < next_ref (parts_of w) t
found_below Local s w t n o could is =
    live_below (next_ref (parts_of w) t) n o (acts_of t (parts_of w).locals) (each_told Below s (keeps_below s) (λ u. tt) w could t) is
found_below Global s w t n o could is =
    kind_below Global (parts_of w).globals (next_ref (parts_of w) t) t n o (each_told GlobalsBelow s (keeps_globals_below s) (λ u. tt) w could t)
    (ap (λ (x : Option ℕ). target_object (globals.strong_target x)) is)
found_below Weak s w t n o could is =
    weak_made (parts_of w).globals (next_ref (parts_of w) t) t n o (each_told GlobalsBelow s (keeps_globals_below s) (λ u. tt) w could t) is

being_below : (kind : Kind) (s : StatedSetup) (w : List Fact) (t n : ℕ) (x : Option ℕ) → History s w → found kind (parts_of w) t n ≡ x → is_some x ≡ true
    → n < next_ref (parts_of w) t
being_below kind s w t n None could is some = absurd cc
being_below kind s w t n (Some o) could is some = found_below kind s w t n o could is

pub being_counted : (s : StatedSetup) (w : List Fact) (r : Ref) → History s w → is_in_being (parts_of w) r ≡ true → IsCounted (parts_of w) r
being_counted s w Null could is = absurd cc
being_counted s w (To kind maker n) could is =
    being_below kind s w maker.0 n (found kind (parts_of w) maker.0 n) could refl (sym (being_found kind (parts_of w) maker n) ∙ is)

-- ---- what ended by name isn't in being

dead_and : (a b c : Bool) → b ≡ true → ((a && not b) && c) ≡ false
dead_and true b c is = rw is refl
dead_and false b c is = refl

ended_if : (b : Bool) (n : ℕ) (m : Making) → survives n m.later ≡ b → b ≡ false → object_of (local_if_live n (Some m)) ≡ None
ended_if true n m is isnt = absurd cc
ended_if false n m is isnt = rw is refl

deleted_made : (n : ℕ) (m : Option Making) → object_of (local_if_live n (seen_after (Delete n) m)) ≡ None
deleted_made n None = refl
deleted_made n (Some m) =
    ended_if (survives n (Delete n ∷ m.later)) n (record m { later = Delete n ∷ m.later }) refl
    (dead_and (survives n m.later) (n == n) _ (same_number n))

deleted_local : (n : ℕ) (acts : List Act) → live n (Delete n ∷ acts) ≡ None
deleted_local n acts = deleted_made n (making n acts)

same_name : (t n : ℕ) → globals.is_same t n t n ≡ true
same_name t n = grind (arith, nat_tests)

lost_found : (kind : Kind) (p : Parts) (maker : Tid) (n : ℕ) → found kind (lost_on (To kind maker n) p) maker.0 n ≡ None
lost_found Local p maker n = rw (acts_more maker.0 maker.0 (Delete n) p.locals refl) (deleted_local n (acts_of maker.0 p.locals))
lost_found Global p maker n = rw (same_name maker.0 n) refl
lost_found Weak p maker n = rw (same_name maker.0 n) refl

pub lost_dead : (p : Parts) (r : Ref) → is_in_being (lost_on r p) r ≡ false
lost_dead p Null = refl
lost_dead p (To kind maker n) = being_found kind (lost_on (To kind maker n) p) maker n ∙ ap is_some (lost_found kind p maker n)
