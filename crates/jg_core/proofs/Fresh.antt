-- No reference is handed out twice, and none that ended is live again.
use Rattle.std.proofs.Common.{ℕ, ◌≡◌, ◌+◌, ◌<◌, true, List, [], ◌∷◌, ◌++◌, Some, None, inl, inr, refl, sym, ◌∙◌, subst, arith}
use Rattle.std.specs.Prelude.{◌==◌}
use Rattle.jg_words.specs.declared.thread.Tid.{Tid}
use Rattle.jg_words.specs.declared.reference.Ref.{Ref}
use Rattle.jg_words.specs.declared.reference.Ref.TheVariants.{Null, To}
use Rattle.jg_words.specs.declared.reference.Kind.{Kind}
use Rattle.jg_words.specs.declared.reference.Kind.TheVariants.{Local, Global, Weak}
use Rattle.jg_policy.specs.Stated.{StatedSetup}
use Rattle.jg_table_threads.specs.History as threads
use Rattle.jg_table_locals.specs.History as locals
use Rattle.jg_table_locals.specs.History.{acts_of, live}
use Rattle.jg_table_locals.proofs.Callers.{live_below}
use Rattle.jg_rules.specs.Parts.{Parts}
use Rattle.jg_rules.specs.Names.{next_ref}
use Rattle.jg_laws.proofs.Kept.{AtLeast, Below, GlobalsBelow, next_more, next_same}
use Rattle.jg_laws.proofs.Fresh.{Counted, Gone as NotLive, own_gone, target_object, kind_target, Ended as NoTarget, kind_below, no_reference, one_reference, not_next}
use Rattle.jg_core.specs.declared.fact.Fact.{Fact}
use Rattle.jg_core.specs.declared.fact.Fact.TheVariants.{Leave, Pop, Hand}
use Rattle.jg_core.specs.Facts.{handed_on, parts_of, can_be, History}
use Rattle.jg_core.specs.Laws.{handed_out, WasHandedOut, ReferencesCounted, NoReferenceTwice, NoReferenceRevived}
use Rattle.jg_core.proofs.Each.{each_fact, each_told, each_later, before, keeps_at_least, keeps_below, keeps_globals_below, keeps_gone, keeps_ended}

-- ---- a reference that is handed out is its thread's next

pub record IsNext (w : List Fact) (x : Fact) (r : Ref) : Type 0 where
  pub t : Tid
  pub kind : Kind
  pub is : r ≡ To kind t (next_ref (parts_of w) t.0)
  pub counts : next_ref (parts_of w) t.0 < next_ref (parts_of (x ∷ w)) t.0

next_handed : (t : ℕ) (kind : Kind) (o : ℕ) (p : Parts) → next_ref (handed_on t kind o p) t ≡ next_ref p t + 1
next_handed t Local o p = next_more p t
next_handed t Global o p = next_more p t
next_handed t Weak o p = next_more p t

next_left : (t : ℕ) (p : Parts)
    → next_ref (record p { threads = threads.by t threads.Calm ∷ threads.by t threads.Leave ∷ p.threads; locals = locals.by t locals.Leave ∷ p.locals }) t
    ≡ next_ref p t
next_left t p = next_same (record p { threads = threads.by t threads.Leave ∷ p.threads }) t threads.Calm refl t ∙ next_same p t threads.Leave refl t

is_next : (w : List Fact) (x : Fact) (r : Ref) → handed_out w x ≡ Some r → IsNext w x r
is_next w (Hand t kind o) r is = record {
  t = t;
  kind = kind;
  is = one_reference (To kind t (next_ref (parts_of w) t.0)) r is;
  counts = omega (arith, next_handed t.0 kind o.0 (parts_of w));
}
is_next w (Leave t (Some o)) r is =
    let p : Parts = parts_of w in
    let q : Parts = record p {
      threads = threads.by t.0 threads.Calm ∷ threads.by t.0 threads.Leave ∷ p.threads;
      locals =
          locals.by t.0 locals.Leave ∷ p.locals;
    } in
    record {
      t = t;
      kind = Local;
      is = one_reference (To Local t (next_ref p t.0)) r is;
      counts = omega (arith, next_handed t.0 Local o.0 q, next_left t.0 p);
    }
is_next w (Leave t None) r is = absurd (no_reference is)
is_next w (Pop t (Some o)) r is =
    let p : Parts = parts_of w in
    record {
      t = t;
      kind = Local;
      is = one_reference (To Local t (next_ref p t.0)) r is;
      counts = omega (arith, next_handed t.0 Local o.0 (record p { locals = locals.by t.0 locals.Pop ∷ p.locals }));
    }
is_next w (Pop t None) r is = absurd (no_reference is)
is_next w x r is = absurd (no_reference is)

-- ---- numbers of references are below the next

counted_more : (s : StatedSetup) (r : Ref) (w : List Fact) (x : Fact) → can_be s (parts_of w) x ≡ true → Counted r (parts_of w) → Counted r (parts_of (x ∷ w))
counted_more s Null w x can old = old
counted_more s (To kind maker n) w x can old =
    let still = each_fact (AtLeast maker.0 (n + 1)) s (keeps_at_least s maker.0 (n + 1)) (parts_of w) x can (omega (arith, old)) in
    omega (arith, still)

counted : (s : StatedSetup) (w : List Fact) → History s w → (r : Ref) → WasHandedOut r w → Counted r (parts_of w)
counted s [] could r was = absurd was
counted s (x ∷ w) could r (inl is) =
    let next = is_next w x r is in
    subst (λ (q : Ref). Counted q (parts_of (x ∷ w))) (sym next.is) next.counts
counted s (x ∷ w) could r (inr was) = counted_more s r w x could.0 (counted s w could.1 r was)

pub references_counted : ReferencesCounted
references_counted s w kind maker n could was = counted s w could (To kind maker n) was

pub no_reference_twice : NoReferenceTwice
no_reference_twice s later x w r could is was =
    let own = before s later (x ∷ w) could in
    let next = is_next w x r is in
    not_next (parts_of w) next.t next.kind (subst (λ (q : Ref). Counted q (parts_of w)) next.is (counted s w own.1 r was))

-- ---- none that ended is live again

local_gone : (s : StatedSetup) (newer later w : List Fact) (t n o : ℕ) → History s (newer ++ (later ++ w))
    → live n (acts_of t (parts_of w).locals) ≡ Some o → live n (acts_of t (parts_of (later ++ w)).locals) ≡ None
    → live n (acts_of t (parts_of (newer ++ (later ++ w))).locals) ≡ None
local_gone s newer later w t n o could was gone =
    let middle = before s newer (later ++ w) could in
    let old = before s later w middle in
    let first = live_below (next_ref (parts_of w) t) n o (acts_of t (parts_of w).locals) (each_told Below s (keeps_below s) (λ u. tt) w old t) was in
    let counted = each_later (AtLeast t (n + 1)) s (keeps_at_least s t (n + 1)) later w middle (omega (arith, first)) in
    (each_later (NotLive t n) s (keeps_gone s t n) newer (later ++ w) could (counted, gone)).1

global_gone : (kind : Kind) (s : StatedSetup) (newer later w : List Fact) (t n o : ℕ) → History s (newer ++ (later ++ w))
    → target_object (kind_target kind (parts_of w).globals t n) ≡ Some o → target_object (kind_target kind (parts_of (later ++ w)).globals t n) ≡ None
    → target_object (kind_target kind (parts_of (newer ++ (later ++ w))).globals t n) ≡ None
global_gone kind s newer later w t n o could was gone =
    let middle = before s newer (later ++ w) could in
    let old = before s later w middle in
    let first = kind_below kind (parts_of w).globals (next_ref (parts_of w) t) t n o (each_told GlobalsBelow s (keeps_globals_below s) (λ u. tt) w old t) was in
    let counted = each_later (AtLeast t (n + 1)) s (keeps_at_least s t (n + 1)) later w middle (omega (arith, first)) in
    (each_later (NoTarget kind t n) s (keeps_ended s kind t n) newer (later ++ w) could (counted, gone)).1

pub no_reference_revived : NoReferenceRevived
no_reference_revived s newest later first t o Null could was is = refl
no_reference_revived s newest later first t o (To Global maker n) could was is = global_gone Global s newest later first maker.0 n o could was is
no_reference_revived s newest later first t o (To Weak maker n) could was is = global_gone Weak s newest later first maker.0 n o could was is
no_reference_revived s newest later first t o (To Local maker n) could was is =
    own_gone (maker.0 == t) o (live n (acts_of t (parts_of first).locals)) (live n (acts_of t (parts_of (later ++ first)).locals))
    (live n (acts_of t (parts_of (newest ++ (later ++ first))).locals))
    (local_gone s newest later first t n o could) was is
