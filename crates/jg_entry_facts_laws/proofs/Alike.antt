-- Parts whose tables read the same, table by table, so that the same events keep them so; and what that tells.
use Rattle.std.proofs.Common.{ℕ, ◌≡◌, ◌+◌, true, List, refl, ap, sym, ◌∙◌}
use Rattle.std.specs.Cmp.{both_ways}
use Rattle.jg_policy.specs.Stated.{StatedSetup, class_count}
use Rattle.jg_policy.specs.Links as links
use Rattle.jg_table_threads.specs.History as threads
use Rattle.jg_table_threads.proofs.Callers.{is_pending_law}
use Rattle.jg_table_locals.specs.History as locals
use Rattle.jg_table_locals.proofs.Callers.{held_law as local_held_law}
use Rattle.jg_table_globals.specs.History as globals
use Rattle.jg_table_globals.proofs.Callers.{holds_law}
use Rattle.jg_table_monitors.specs.Standing.{AllAllowed}
use Rattle.jg_rules.specs.Parts.{Parts}
use Rattle.jg_rules.specs.Holding.{is_root}
use Rattle.jg_entry_facts_laws.specs.Alike.{ReadAlike}
use Rattle.jg_entry_facts_laws.proofs.Threads.{SameThread}
use Rattle.jg_entry_facts_laws.proofs.Locals.{SameSession, same_live, same_frames}
use Rattle.jg_entry_facts_laws.proofs.Globals.{SameGlobals, same_target}
use Rattle.jg_entry_facts_laws.proofs.Buffers.{SameBuffers, same_pins}
use Rattle.jg_entry_facts_laws.proofs.Monitors.{SameMonitors, same_count, same_owner}
use Rattle.jg_entry_facts_laws.proofs.Heap.{SameHeap, same_there, same_class}

pub record Alike (s : StatedSetup) (p q : Parts) : Type 0 where
  pub threads : (t : ℕ) → SameThread (threads.acts_of t p.threads) (threads.acts_of t q.threads)
  pub locals : (t : ℕ) → SameSession (locals.acts_of t p.locals) (locals.acts_of t q.locals)
  pub globals : SameGlobals p.globals q.globals
  pub buffers : SameBuffers p.buffers q.buffers
  pub monitors : SameMonitors p.monitors q.monitors
  pub heap : SameHeap (class_count s) p.heap q.heap
  pub links : p.links ≡ q.links

pub reads : (s : StatedSetup) (p q : Parts) → AllAllowed p.monitors → AllAllowed q.monitors → Alike s p q → ReadAlike s p q
reads s p q all others same = record {
  present = λ t. rw ((same.threads t).attached, (same.threads t).sessions) refl;
  sessions = λ t. (same.threads t).sessions;
  natives = λ t. rw ((same.threads t).enters, (same.threads t).leaves) refl;
  raised = λ t. (same.threads t).pending;
  refs = λ t. ap (λ n. n + 1) (same.threads t).refs;
  buffers = λ t. ap (λ n. n + 1) (same.threads t).buffers;
  has_locals = λ t. (same.locals t).has;
  acts = λ t. (same.locals t).acts;
  locals = λ t n. same_live (locals.acts_of t p.locals) (locals.acts_of t q.locals) n (same.locals t);
  frames = λ t. same_frames (locals.acts_of t p.locals) (locals.acts_of t q.locals) (same.locals t);
  targets = λ r. same_target p.globals q.globals r same.globals;
  lent = λ b. same.buffers b.maker.0 b.n;
  counts = λ t o. same_count p.monitors q.monitors t o same.monitors;
  owners = λ o. same_owner p.monitors q.monitors o all others same.monitors;
  objects = same.heap.count;
  here = λ o. same_there (class_count s) p.heap q.heap o same.heap;
  classes = λ o. same_class (class_count s) p.heap q.heap o same.heap;
  lengths = λ o. same.heap.length o;
  linked = λ class native. ap (λ (e : List links.Event). links.linked e class native) same.links;
  warned = λ home. ap (λ (e : List links.Event). links.warned e home) same.links;
}

-- ---- what holds an object from outside

live_held : (s : StatedSetup) (p q : Parts) (o : ℕ) → Alike s p q → locals.holds_object p.locals o ≡ true → locals.holds_object q.locals o ≡ true
live_held s p q o same is =
    let there = (local_held_law p.locals o).0 is in
    (local_held_law q.locals o).1 (
      there.0,
      there.1,
      ap locals.object_of
          (sym (same_live (locals.acts_of there.0 p.locals) (locals.acts_of there.0 q.locals) there.1 (same.locals there.0))) ∙ there.2,
    )

strong_held : (s : StatedSetup) (p q : Parts) (o : ℕ) → Alike s p q → globals.holds_object p.globals o ≡ true → globals.holds_object q.globals o ≡ true
strong_held s p q o same is =
    let there = (holds_law p.globals o).0 is in
    (holds_law q.globals o).1 (there.0, there.1, sym (same.globals.strong there.0 there.1) ∙ there.2)

pending_held : (s : StatedSetup) (p q : Parts) (o : ℕ) → Alike s p q → threads.is_pending p.threads o ≡ true → threads.is_pending q.threads o ≡ true
pending_held s p q o same is =
    let there = (is_pending_law p.threads o).0 is in
    (is_pending_law q.threads o).1 (there.0, sym (same.threads there.0).pending ∙ there.1)

turn_thread : (a b : List threads.Act) → SameThread a b → SameThread b a
turn_thread a b same = record {
  attached = sym same.attached;
  sessions = sym same.sessions;
  enters = sym same.enters;
  leaves = sym same.leaves;
  pending = sym same.pending;
  refs = sym same.refs;
  buffers = sym same.buffers;
}

turned : (s : StatedSetup) (p q : Parts) → Alike s p q → Alike s q p
turned s p q same = record {
  threads = λ t. turn_thread (threads.acts_of t p.threads) (threads.acts_of t q.threads) (same.threads t);
  locals = λ t. record { has = sym (same.locals t).has; acts = sym (same.locals t).acts };
  globals = record { strong = λ maker n. sym (same.globals.strong maker n); weak = λ maker n. sym (same.globals.weak maker n) };
  buffers = λ maker n. sym (same.buffers maker n);
  monitors = λ t. sym (same.monitors t);
  heap = record {
    count = sym same.heap.count;
    gone = λ o. sym (same.heap.gone o);
    class = λ o. sym (same.heap.class o);
    length =
        λ o. sym (same.heap.length o);
  };
  links = sym same.links;
}

pub same_root : (s : StatedSetup) (p q : Parts) (o : ℕ) → AllAllowed p.monitors → AllAllowed q.monitors → Alike s p q → is_root p o ≡ is_root q o
same_root s p q o all others same =
    let back = turned s p q same in
    let a = both_ways (locals.holds_object p.locals o) (locals.holds_object q.locals o) (live_held s p q o same) (live_held s q p o back) in
    let b = both_ways (globals.holds_object p.globals o) (globals.holds_object q.globals o) (strong_held s p q o same) (strong_held s q p o back) in
    let c = both_ways (threads.is_pending p.threads o) (threads.is_pending q.threads o) (pending_held s p q o same) (pending_held s q p o back) in
    let d = same_pins p.buffers q.buffers o same.buffers in
    let e = same_owner p.monitors q.monitors o all others same.monitors in
    rw (a, b, c, d, e) refl
