-- What the events of facts keep, each list of facts that could be has.
use Rattle.std.proofs.Common.{ℕ, ◌≡◌, Bool, true, false, List, [], ◌∷◌, ◌++◌, Option, Some, None, refl, arith}
use Rattle.std.specs.Prelude.{◌==◌, ◌&&◌, not, nat_lt, if◌then◌else◌, replicate, pos}
use Rattle.std.proofs.lemmas.Bool.Decides.{nat_tests}
use Rattle.std.proofs.lemmas.Bool.{not-true}
use Rattle.jg_words.specs.declared.object.ObjId.{ObjId}
use Rattle.jg_words.specs.declared.object.Primitive.TheVariants.{Int}
use Rattle.jg_words.specs.declared.reference.Ref.{Ref}
use Rattle.jg_words.specs.declared.reference.Ref.TheVariants.{Null, To}
use Rattle.jg_words.specs.declared.reference.Kind.{Kind}
use Rattle.jg_words.specs.declared.reference.Kind.TheVariants.{Local, Global, Weak}
use Rattle.jg_words.proofs.Common.{and_first, and_second}
use Rattle.jg_words.specs.declared.object.ItemType.TheVariants.{Of}
use Rattle.jg_policy.specs.Stated.{StatedSetup, class_count}
use Rattle.jg_policy.specs.Links as links
use Rattle.jg_table_threads.specs.History as threads
use Rattle.jg_table_locals.specs.History as locals
use Rattle.jg_table_globals.specs.History as globals
use Rattle.jg_table_buffers.specs.History as buffers
use Rattle.jg_table_buffers.specs.declared.family.Family.{Family}
use Rattle.jg_table_buffers.specs.declared.family.Family.TheVariants.{Elements}
use Rattle.jg_table_monitors.specs.History as monitors
use Rattle.jg_table_heap.specs.History as heap
use Rattle.jg_table_heap.specs.Making.{Filled, Opaque}
use Rattle.jg_table_heap.specs.declared.object.Slot.TheVariants.{Number}
use Rattle.jg_rules.specs.Parts.{Parts, nothing_yet}
use Rattle.jg_rules.specs.Names.{next_ref, next_buffer, depth, open_frames}
use Rattle.jg_laws.proofs.Lent.{IsLent}
use Rattle.jg_laws.proofs.Steps.{Steps}
use Rattle.jg_laws.proofs.Kept.{Agreed, agree_steps, Below, below_steps, GlobalsBelow, global_steps, AtLeast, at_least_steps}
use Rattle.jg_laws.proofs.Lending.{LentBelow, below_steps as lent_steps}
use Rattle.jg_laws.proofs.Fresh.{Gone as NotLive, gone_steps, Ended as NoTarget, ended_steps}
use Rattle.jg_core.specs.declared.fact.Fact.{Fact}
use Rattle.jg_core.specs.declared.fact.Fact.TheVariants.{Begin, End, Enter, Leave, Push, Pop, Ensure, Raise, Calm, Hand, Lost, Lend, Back, Own, Free, Meet, Gone, Link, Unlink, Warn, Checked}
use Rattle.jg_core.specs.Facts.{on, handed_on, kept_on, lost_on, parts_of, can_be, is_attached, is_kept_here, History}

-- what the events of facts keep: those that a passed call can bring, any buffer that is lent, and any object that is met
pub record Keeps (s : StatedSetup) (P : Parts → Type 0) : Type 0 where
  pub steps : Steps s P
  pub lends : (p : Parts) (t : ℕ) (b : buffers.Buffer) → b.maker ≡ t → b.n ≡ next_buffer p t → P p
      → P (record p { threads = threads.by t threads.CountBuffer ∷ p.threads; buffers = buffers.Opened b ∷ p.buffers })
  pub meets : (p : Parts) (class n : ℕ) → P p → P (record p { heap = heap.Made (Opaque class n) ∷ p.heap })

module _ (P : Parts → Type 0) (s : StatedSetup) (keeps : Keeps s P) where
  handing : (p : Parts) (t : ℕ) (kind : Kind) (o : ℕ) → P p → P (handed_on t kind o p)
  handing p t Local o old = keeps.steps.hands p t (next_ref p t) o refl old
  handing p t Global o old = keeps.steps.hands_strong p t (next_ref p t) o refl old
  handing p t Weak o old = keeps.steps.hands_weak p t (next_ref p t) o refl old

  keeping : (p : Parts) (t : ℕ) (kept : Option ObjId) → P p → P (kept_on t kept p)
  keeping p t None old = old
  keeping p t (Some o) old = handing p t Local o.0 old

  losing : (p : Parts) (r : Ref) → P p → P (lost_on r p)
  losing p Null old = old
  losing p (To Local maker n) old = keeps.steps.deletes p maker.0 n old
  losing p (To Global maker n) old = keeps.steps.to_globals p (globals.DeleteStrong maker.0 n ∷ []) refl old
  losing p (To Weak maker n) old = keeps.steps.to_globals p (globals.DeleteWeak maker.0 n ∷ []) refl old

  lending : (p : Parts) (t : ℕ) (c : Bool) (o : ℕ) (family : Family) (via : Ref) (n : ℕ) → P p
      → P (record p {
        threads = threads.by t threads.CountBuffer ∷ p.threads;
        buffers = buffers.Opened
            (if c then buffers.pin_through t (next_buffer p t) o family via n else buffers.copy_with t (next_buffer p t) o family (replicate n (pos 0)))
            ∷ p.buffers;
      })
  lending p t true o family via n old = keeps.lends p t (buffers.pin_through t (next_buffer p t) o family via n) refl refl old
  lending p t false o family via n old = keeps.lends p t (buffers.copy_with t (next_buffer p t) o family (replicate n (pos 0))) refl refl old

  pub each_fact : (p : Parts) (x : Fact) → can_be s p x ≡ true → P p → P (on x p)
  each_fact p (Begin t) can old = keeps.steps.begins p t.0 (not-true (is_attached p t.0) (and_second (nat_lt 0 t.0) (not (is_attached p t.0)) can)) old
  each_fact p (End t) can old =
      let q : Parts = record p { threads = threads.by t.0 threads.Detach ∷ p.threads; locals = locals.by t.0 locals.End ∷ p.locals } in
      let r : Parts = record q { monitors = monitors.by t.0 monitors.ReleaseAll ∷ p.monitors } in
      keeps.steps.to_buffers r (buffers.ReleaseAll t.0 ∷ []) refl
      (keeps.steps.to_monitors q (monitors.by t.0 monitors.ReleaseAll ∷ []) (keeps.steps.ends p t.0 old))
  each_fact p (Enter t) can old =
      let q : Parts = record p { threads = threads.by t.0 threads.Enter ∷ p.threads; locals = locals.by t.0 locals.Enter ∷ p.locals } in
      keeps.steps.calms q t.0 (keeps.steps.enters p t.0 can old)
  each_fact p (Leave t kept) can old =
      let q : Parts = record p { threads = threads.by t.0 threads.Leave ∷ p.threads; locals = locals.by t.0 locals.Leave ∷ p.locals } in
      let deep = and_first (not (depth p t.0 == 0)) (is_kept_here s p kept)
      (and_second (is_attached p t.0) (not (depth p t.0 == 0) && is_kept_here s p kept) can) in
      keeping (record q { threads = threads.by t.0 threads.Calm ∷ q.threads }) t.0 kept
      (keeps.steps.calms q t.0 (keeps.steps.leaves p t.0 (and_first (is_attached p t.0) (not (depth p t.0 == 0) && is_kept_here s p kept) can)
      (not-true (depth p t.0 == 0) deep) old))
  each_fact p (Push t room) can old = keeps.steps.pushes p t.0 room old
  each_fact p (Pop t kept) can old =
      keeping (record p { locals = locals.by t.0 locals.Pop ∷ p.locals }) t.0 kept
      (keeps.steps.pops p t.0 (not-true (open_frames p t.0 == 0) (and_first (not (open_frames p t.0 == 0)) (is_kept_here s p kept)
      (and_second (is_attached p t.0) (not (open_frames p t.0 == 0) && is_kept_here s p kept) can))) old)
  each_fact p (Ensure t room) can old = keeps.steps.widens p t.0 room old
  each_fact p (Raise t o) can old = keeps.steps.raises p t.0 o.0 old
  each_fact p (Calm t) can old = keeps.steps.calms p t.0 old
  each_fact p (Hand t kind o) can old = handing p t.0 kind o.0 old
  each_fact p (Lost r) can old = losing p r old
  each_fact p (Lend t family o via n) can old = lending p t.0 (buffers.is_critical family) o.0 family via n old
  each_fact p (Back b) can old = keeps.steps.to_buffers p (buffers.Closed b.maker.0 b.n ∷ []) refl old
  each_fact p (Own t o) can old = keeps.steps.to_monitors p (monitors.by t.0 (monitors.Enter o.0) ∷ []) old
  each_fact p (Free t o) can old = keeps.steps.to_monitors p (monitors.by t.0 (monitors.Exit o.0) ∷ []) old
  each_fact p (Meet class n) can old = keeps.meets p class n old
  each_fact p (Gone o) can old =
      let q : Parts = record p { globals = globals.Clear o.0 ∷ p.globals } in
      keeps.steps.to_heap q (heap.Went o.0 ∷ []) (tt, tt) (keeps.steps.to_globals p (globals.Clear o.0 ∷ []) refl old)
  each_fact p (Link class native) can old = keeps.steps.to_links p (links.Linked class native ∷ []) old
  each_fact p (Unlink class) can old = keeps.steps.to_links p (links.UnlinkedAll class ∷ []) old
  each_fact p (Warn home) can old = keeps.steps.to_links p (links.Warned home ∷ []) old
  each_fact p (Checked check) can old = old

  -- what the events keep, each list of facts that could be has
  pub each_told : P nothing_yet → (w : List Fact) → History s w → P (parts_of w)
  each_told none [] could = none
  each_told none (x ∷ w) could = each_fact (parts_of w) x could.0 (each_told none w could.1)

  -- and what it had, it has later
  pub each_later : (newer w : List Fact) → History s (newer ++ w) → P (parts_of w) → P (parts_of (newer ++ w))
  each_later [] w could old = old
  each_later (x ∷ newer) w could old = each_fact (parts_of (newer ++ w)) x could.0 (each_later newer w could.1 old)

-- the older of a list of facts that could be could be, too
pub before : (s : StatedSetup) (newer w : List Fact) → History s (newer ++ w) → History s w
before s [] w could = could
before s (x ∷ newer) w could = before s newer w could.1

-- ---- what reads no objects and no more of a buffer than its number keeps any buffer that is lent

-- the same buffer, of the one array of another store
abbrev other : StatedSetup → buffers.Buffer → buffers.Buffer
other s b = record b { object = class_count s; family = Elements (Of Int); length = 0 }

abbrev one_array : List heap.Event
one_array = heap.Made (Filled 8 0 (Number (pos 0))) ∷ []

fits_other : (s : StatedSetup) (p : Parts) (t : ℕ) (b : buffers.Buffer) → b.maker ≡ t → b.n ≡ next_buffer p t
    → IsLent s (record p { heap = one_array }) t (other s b)
fits_other s p t b own next =
    let same : (class_count s == class_count s) ≡ true = grind (arith, nat_tests) in
    record { maker = own; number = next; fits = (omega arith, rw same (refl, refl)) }

pub keeps_agree : (s : StatedSetup) → Keeps s (λ p. (t : ℕ) → Agreed (threads.acts_of t p.threads) (locals.acts_of t p.locals))
keeps_agree s = record {
  steps = agree_steps s;
  lends = λ p t b own next old. (agree_steps s).lends (record p { heap = one_array }) t (other s b) (fits_other s p t b own next) old;
  meets = λ p class n old. old;
}

pub keeps_below : (s : StatedSetup) → Keeps s Below
keeps_below s = record {
  steps = below_steps s;
  lends = λ p t b own next old. (below_steps s).lends (record p { heap = one_array }) t (other s b) (fits_other s p t b own next) old;
  meets = λ p class n old. old;
}

pub keeps_globals_below : (s : StatedSetup) → Keeps s GlobalsBelow
keeps_globals_below s = record {
  steps = global_steps s;
  lends = λ p t b own next old. (global_steps s).lends (record p { heap = one_array }) t (other s b) (fits_other s p t b own next) old;
  meets = λ p class n old. old;
}

pub keeps_lent_below : (s : StatedSetup) → Keeps s LentBelow
keeps_lent_below s = record {
  steps = lent_steps s;
  lends = λ p t b own next old. (lent_steps s).lends (record p { heap = one_array }) t (other s b) (fits_other s p t b own next) old;
  meets = λ p class n old. old;
}

pub keeps_at_least : (s : StatedSetup) (t n : ℕ) → Keeps s (AtLeast t n)
keeps_at_least s t n = record {
  steps = at_least_steps s t n;
  lends = λ p u b own next old. (at_least_steps s t n).lends (record p { heap = one_array }) u (other s b) (fits_other s p u b own next) old;
  meets = λ p class n old. old;
}

pub keeps_gone : (s : StatedSetup) (t n : ℕ) → Keeps s (NotLive t n)
keeps_gone s t n = record {
  steps = gone_steps s t n;
  lends = λ p u b own next old. (gone_steps s t n).lends (record p { heap = one_array }) u (other s b) (fits_other s p u b own next) old;
  meets = λ p class n old. old;
}

pub keeps_ended : (s : StatedSetup) (kind : Kind) (t n : ℕ) → Keeps s (NoTarget kind t n)
keeps_ended s kind t n = record {
  steps = ended_steps s kind t n;
  lends = λ p u b own next old. (ended_steps s kind t n).lends (record p { heap = one_array }) u (other s b) (fits_other s p u b own next) old;
  meets = λ p class n old. old;
}
