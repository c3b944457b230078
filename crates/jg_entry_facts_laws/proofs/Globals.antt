-- What global and weak references name: the same events keep it the same, and so does a collection however it is told.
use Rattle.std.proofs.Common.{ℕ, ◌≡◌, Bool, true, false, List, [], ◌∷◌, ◌++◌, map, Option, Some, None, refl, ap, sym, ◌∙◌, if◌then◌else◌}
use Rattle.std.specs.Prelude.{◌==◌, ◌||◌}
use Rattle.std.specs.List.{list_any}
use Rattle.jg_words.specs.declared.object.ObjId.{ObjId}
use Rattle.jg_words.specs.declared.reference.Ref.{Ref}
use Rattle.jg_words.specs.declared.reference.Ref.TheVariants.{Null, To}
use Rattle.jg_words.specs.declared.reference.Kind.TheVariants.{Local, Global, Weak}
use Rattle.jg_table_globals.specs.declared.target.Target.{Target}
use Rattle.jg_table_globals.specs.declared.target.Target.TheVariants.{Object, Cleared}
use Rattle.jg_table_globals.specs.History.{Event, MakeStrong, MakeWeak, DeleteStrong, DeleteWeak, Clear, strong, weak, is_same, after_making, clears, unless_cleared, weak_target, strong_target, target_of}
use Rattle.jg_table_globals.proofs.Callers.{strong-clear, weak_target-clear, cleared_by}

pub record SameGlobals (e f : List Event) : Type 0 where
  pub strong : (maker n : ℕ) → strong e maker n ≡ strong f maker n
  pub weak : (maker n : ℕ) → weak_target e maker n ≡ weak_target f maker n

pub same_target : (e f : List Event) (r : Ref) → SameGlobals e f → target_of e r ≡ target_of f r
same_target e f Null same = refl
same_target e f (To Local maker n) same = refl
same_target e f (To Global maker n) same = ap strong_target (same.strong maker.0 n)
same_target e f (To Weak maker n) same = same.weak maker.0 n

same_if : {A : Type 0} (b : Bool) (x a c : A) → a ≡ c → (if b then x else a) ≡ (if b then x else c)
same_if true x a c same = refl
same_if false x a c same = same

-- an event that clears nothing
kept : (later : List Event) (ev : Event) (found : Option ℕ) → ((o : ℕ) → clears o ev ≡ false) → unless_cleared (ev ∷ later) found ≡ unless_cleared later found
kept later ev None quiet = refl
kept later ev (Some o) quiet = rw (quiet o) refl

pub strong_made : (k i o : ℕ) (e f : List Event) → SameGlobals e f → SameGlobals (MakeStrong k i o ∷ e) (MakeStrong k i o ∷ f)
strong_made k i o e f same = record {
  strong = λ maker n. same_if (is_same maker n k i) (Some o) (strong e maker n) (strong f maker n) (same.strong maker n);
  weak =
      λ maker n. kept (after_making maker n e) (MakeStrong k i o) (weak e maker n) (λ p. refl)
      ∙ (same.weak maker n ∙ sym (kept (after_making maker n f) (MakeStrong k i o) (weak f maker n) (λ p. refl)));
}

weak_if : (b : Bool) (k i o : ℕ) (la lb : List Event) (a c : Option ℕ) → unless_cleared la a ≡ unless_cleared lb c
    → unless_cleared (if b then [] else MakeWeak k i o ∷ la) (if b then Some o else a)
    ≡ unless_cleared (if b then [] else MakeWeak k i o ∷ lb) (if b then Some o else c)
weak_if true k i o la lb a c same = refl
weak_if false k i o la lb a c same = kept la (MakeWeak k i o) a (λ p. refl) ∙ (same ∙ sym (kept lb (MakeWeak k i o) c (λ p. refl)))

pub weak_made : (k i o : ℕ) (e f : List Event) → SameGlobals e f → SameGlobals (MakeWeak k i o ∷ e) (MakeWeak k i o ∷ f)
weak_made k i o e f same = record {
  strong = same.strong;
  weak = λ maker n. weak_if (is_same maker n k i) k i o (after_making maker n e) (after_making maker n f) (weak e maker n) (weak f maker n) (same.weak maker n);
}

pub strong_deleted : (k i : ℕ) (e f : List Event) → SameGlobals e f → SameGlobals (DeleteStrong k i ∷ e) (DeleteStrong k i ∷ f)
strong_deleted k i e f same = record {
  strong = λ maker n. same_if (is_same maker n k i) None (strong e maker n) (strong f maker n) (same.strong maker n);
  weak =
      λ maker n. kept (after_making maker n e) (DeleteStrong k i) (weak e maker n) (λ p. refl)
      ∙ (same.weak maker n ∙ sym (kept (after_making maker n f) (DeleteStrong k i) (weak f maker n) (λ p. refl)));
}

deleted_if : (b : Bool) (k i : ℕ) (la lb : List Event) (a c : Option ℕ) → unless_cleared la a ≡ unless_cleared lb c
    → unless_cleared (DeleteWeak k i ∷ la) (if b then None else a) ≡ unless_cleared (DeleteWeak k i ∷ lb) (if b then None else c)
deleted_if true k i la lb a c same = refl
deleted_if false k i la lb a c same = kept la (DeleteWeak k i) a (λ p. refl) ∙ (same ∙ sym (kept lb (DeleteWeak k i) c (λ p. refl)))

pub weak_deleted : (k i : ℕ) (e f : List Event) → SameGlobals e f → SameGlobals (DeleteWeak k i ∷ e) (DeleteWeak k i ∷ f)
weak_deleted k i e f same = record {
  strong = same.strong;
  weak = λ maker n. deleted_if (is_same maker n k i) k i (after_making maker n e) (after_making maker n f) (weak e maker n) (weak f maker n)
      (same.weak maker n);
}

-- ---- a collection

-- cleared one after the other, the first of the list first
abbrev pub clear_each : List ℕ → List Event → List Event
clear_each [] e = e
clear_each (o ∷ objects) e = clear_each objects (Clear o ∷ e)

cleared_if : (a b : Bool) (x : ℕ) (objects : List ℕ) (o : ObjId) → (x == o.0) ≡ a → list_any (λ p. p == o.0) objects ≡ b
    → cleared_by objects (Some (if a || false then Cleared else Object o)) ≡ Some (if a || b then Cleared else Object o)
cleared_if true b x objects o is rest = refl
cleared_if false b x objects o is rest = rw rest refl

cleared_more : (x : ℕ) (objects : List ℕ) (found : Option Target) → cleared_by objects (cleared_by (x ∷ []) found) ≡ cleared_by (x ∷ objects) found
cleared_more x objects None = refl
cleared_more x objects (Some Cleared) = refl
cleared_more x objects (Some (Object o)) = cleared_if (x == o.0) (list_any (λ p. p == o.0) objects) x objects o refl refl

weak_each : (maker n : ℕ) (objects : List ℕ) (e : List Event) → weak_target (clear_each objects e) maker n ≡ cleared_by objects (weak_target e maker n)
weak_each maker n [] e = weak_target-clear maker n [] e
weak_each maker n (x ∷ objects) e =
    weak_each maker n objects (Clear x ∷ e)
    ∙ (ap (cleared_by objects) (weak_target-clear maker n (x ∷ []) e) ∙ cleared_more x objects (weak_target e maker n))

strong_each : (maker n : ℕ) (objects : List ℕ) (e : List Event) → strong (clear_each objects e) maker n ≡ strong e maker n
strong_each maker n [] e = refl
strong_each maker n (x ∷ objects) e = strong_each maker n objects (Clear x ∷ e)

pub all_cleared : (objects : List ℕ) (e f : List Event) → SameGlobals e f → SameGlobals (clear_each objects e) (map (λ o. Clear o) objects ++ f)
all_cleared objects e f same = record {
  strong = λ maker n. strong_each maker n objects e ∙ (same.strong maker n ∙ sym (strong-clear maker n objects f));
  weak = λ maker n. weak_each maker n objects e ∙ (ap (cleared_by objects) (same.weak maker n) ∙ sym (weak_target-clear maker n objects f));
}
