-- What a live reference names, in every legal history, isn't gone.
use Rattle.std.proofs.Common.{ℕ, ◌≡◌, ◌++◌, Bool, true, false, List, [], ◌∷◌, map, Option, Some, None, refl, subst}
use Rattle.std.specs.Prelude.{◌==◌, ◌||◌, if◌then◌else◌}
use Rattle.std.proofs.lemmas.Option.{same_Some}
use Rattle.jg_words.specs.declared.object.ObjId.{ObjId}
use Rattle.jg_words.specs.declared.reference.Ref.{Ref}
use Rattle.jg_words.specs.declared.reference.Ref.TheVariants.{Null, To}
use Rattle.jg_words.specs.declared.reference.Kind.TheVariants.{Local, Global, Weak}
use Rattle.jg_words.proofs.Common.{or_first, or_second, or_third}
use Rattle.jg_table_globals.specs.declared.target.Target.{Target}
use Rattle.jg_table_globals.specs.declared.target.Target.TheVariants.{Object as ToObject, Cleared}
use Rattle.jg_table_globals.specs.History as globals
use Rattle.jg_table_globals.proofs.Callers.{holds_law}
use Rattle.jg_table_threads.specs.History as threads
use Rattle.jg_table_threads.proofs.Callers.{is_pending_law}
use Rattle.jg_table_locals.specs.History as locals
use Rattle.jg_table_locals.proofs.Callers.{held_law as local_held_law}
use Rattle.jg_table_heap.specs.History as heap
use Rattle.jg_table_buffers.specs.History as buffers
use Rattle.jg_table_monitors.specs.History as monitors
use Rattle.jg_policy.specs.Stated.{StatedSetup, class_count}
use Rattle.jg_rules.specs.declared.named.Named.TheVariants.{Nothing}
use Rattle.jg_rules.specs.Parts.{Parts}
use Rattle.jg_rules.specs.Names.{named_by, named_by_target, object_in, object_named}
use Rattle.jg_rules.specs.Holding.{is_root, roots, going}
use Rattle.jg_laws.proofs.Here.{Here, SlotsMeet, AreKnown, here_rooted, here_kept, slots_collected}
use Rattle.jg_laws.proofs.Referring.{LocalsMeet, PendingMeets, StrongMeets, WeakMeets, spared}

-- all that is named, pending, or in a slot of an object that isn't gone was made and isn't gone
pub record AllHere (s : StatedSetup) (p : Parts) : Type 0 where
  pub locals : LocalsMeet (Here (class_count s) p.heap) p.locals
  pub pending : PendingMeets (Here (class_count s) p.heap) p.threads
  pub strong : StrongMeets (Here (class_count s) p.heap) p.globals
  pub weak : WeakMeets (Here (class_count s) p.heap) p.globals
  pub slots : SlotsMeet (class_count s) p.heap
  pub known : AreKnown (class_count s) p.heap

-- ---- what a reference names

local_in : (found : Option ℕ) (o : ℕ) → object_in (named_by found) ≡ Some o → found ≡ Some o
local_in None o is = absurd cc
local_in (Some x) o is = is

local_named : (b : Bool) (found : Option ℕ) (o : ℕ) → object_in (if b then named_by found else Nothing) ≡ Some o → found ≡ Some o
local_named true found o is = local_in found o is
local_named false found o is = absurd cc

strong_named : (H : ℕ → Type 0) (found : Option ℕ) (o : ℕ) → (found ≡ Some o → H o) → object_in (named_by_target (globals.strong_target found)) ≡ Some o → H o
strong_named H None o old is = absurd cc
strong_named H (Some x) o old is = old is

weak_named : (H : ℕ → Type 0) (found : Option Target) (o : ℕ) → ((x : ObjId) → found ≡ Some (ToObject x) → H x.0) → object_in (named_by_target found) ≡ Some o
    → H o
weak_named H None o old is = absurd cc
weak_named H (Some (ToObject x)) o old is = subst H (same_Some x.0 o is) (old x refl)
weak_named H (Some Cleared) o old is = absurd cc

pub reference_here : (s : StatedSetup) (p : Parts) (t o : ℕ) (r : Ref) → LocalsMeet (Here (class_count s) p.heap) p.locals
    → StrongMeets (Here (class_count s) p.heap) p.globals
    → WeakMeets (Here (class_count s) p.heap) p.globals → object_named p t r ≡ Some o → Here (class_count s) p.heap o
reference_here s p t o Null locals_meet strong weak is = absurd cc
reference_here s p t o (To Local maker n) locals_meet strong weak is =
    locals_meet t n o (local_named (maker.0 == t) (locals.live n (locals.acts_of t p.locals)) o is)
reference_here s p t o (To Global maker n) locals_meet strong weak is =
    strong_named (Here (class_count s) p.heap) (globals.strong p.globals maker.0 n) o (strong maker.0 n o) is
reference_here s p t o (To Weak maker n) locals_meet strong weak is =
    weak_named (Here (class_count s) p.heap) (globals.weak_target p.globals maker.0 n) o (λ x found. weak maker.0 n x found) is

pub named_here : (s : StatedSetup) (p : Parts) (t o : ℕ) (r : Ref) → AllHere s p → object_named p t r ≡ Some o → Here (class_count s) p.heap o
named_here s p t o r all is = reference_here s p t o r all.locals all.strong all.weak is

-- ---- a collection

-- a clearing leaves global references
unclear : (objects : List ℕ) (e : List globals.Event) (m n o : ℕ) → globals.strong (map (λ p. globals.Clear p) objects ++ e) m n ≡ Some o
    → globals.strong e m n ≡ Some o
unclear [] e m n o is = is
unclear (p ∷ objects) e m n o is = unclear objects e m n o is

pub collected_here : (s : StatedSetup) (p : Parts) → AllHere s p
    → AllHere s (record p { globals = map (λ o. globals.Clear o) (going s p) ++ p.globals; heap = heap.Collected (roots s p) ∷ p.heap })
collected_here s p all =
    let k : ℕ = class_count s in
    let kept : (o : ℕ) → Here k p.heap o → is_root p o ≡ true → Here k (heap.Collected (roots s p) ∷ p.heap) o =
    λ o here is. here_rooted k (is_root p) p.heap o here is in
    record {
      locals =
          λ t n o is. kept o (all.locals t n o is)
          (or_first (locals.holds_object p.locals o) (globals.holds_object p.globals o) (threads.is_pending p.threads o)
          (buffers.pins_object p.buffers o) (monitors.held p.monitors o) ((local_held_law p.locals o).1 (t, n, is)));
      pending =
          λ t o is. kept o (all.pending t o is)
          (or_third (locals.holds_object p.locals o) (globals.holds_object p.globals o) (threads.is_pending p.threads o)
          (buffers.pins_object p.buffers o) (monitors.held p.monitors o) ((is_pending_law p.threads o).1 (t, is)));
      strong = λ m n o is.
          let before = unclear (going s p) p.globals m n o is in
          kept o (all.strong m n o before)
          (or_second (locals.holds_object p.locals o) (globals.holds_object p.globals o)
          (threads.is_pending p.threads o) (buffers.pins_object p.buffers o) (monitors.held p.monitors o)
          ((holds_law p.globals o).1 (m, n, before)));
      weak = λ m n o is.
          let both = spared (going s p) p.globals m n o is in
          here_kept k (roots s p) p.heap o.0 (all.weak m n o both.1) both.0;
      slots = slots_collected k (roots s p) p.heap all.slots;
      known = all.known;
    }
