-- Events that keep tables alike, a table at a time, and facts that could be told on the way.
use Rattle.std.proofs.Common.{ℕ, ◌≡◌, ◌+◌, true, List, [], ◌∷◌, ◌++◌, map, refl, ap, sym, subst, ◌∙◌}
use Rattle.jg_words.specs.declared.reference.Kind.{Kind}
use Rattle.jg_words.specs.declared.reference.Kind.TheVariants.{Local, Global, Weak}
use Rattle.jg_policy.specs.Stated.{StatedSetup, class_count}
use Rattle.jg_policy.specs.Links as links
use Rattle.jg_table_threads.specs.History as threads
use Rattle.jg_table_locals.specs.History as locals
use Rattle.jg_table_globals.specs.History as globals
use Rattle.jg_table_buffers.specs.History as buffers
use Rattle.jg_table_monitors.specs.History as monitors
use Rattle.jg_table_heap.specs.History as heap
use Rattle.jg_rules.specs.Parts.{Parts}
use Rattle.jg_rules.specs.Names.{next_ref, is_here}
use Rattle.jg_core.specs.declared.fact.Fact.{Fact}
use Rattle.jg_core.specs.Facts.{on, handed_on, parts_of, can_be, is_attached, History}
use Rattle.jg_entry_facts_laws.proofs.Acts.{both}
use Rattle.jg_entry_facts_laws.proofs.Threads.{SameThread, ref_both}
use Rattle.jg_entry_facts_laws.proofs.Locals.{SameSession, same_more as session_more}
use Rattle.jg_entry_facts_laws.proofs.Globals.{SameGlobals, strong_made, weak_made}
use Rattle.jg_entry_facts_laws.proofs.Buffers.{SameBuffers}
use Rattle.jg_entry_facts_laws.proofs.Monitors.{same_more as monitor_more}
use Rattle.jg_entry_facts_laws.proofs.Heap.{SameHeap, same_there}
use Rattle.jg_entry_facts_laws.proofs.Alike.{Alike}

-- ---- a table at a time

module _ (s : StatedSetup) (p q : Parts) (same : Alike s p q) where
  -- t did these acts on one side, and those on the other
  pub threads_on : (t : ℕ) (xs ys : List threads.Act)
      → (SameThread (threads.acts_of t p.threads) (threads.acts_of t q.threads)
      → SameThread (xs ++ threads.acts_of t p.threads) (ys ++ threads.acts_of t q.threads))
      → Alike s (record p { threads = map (threads.by t) xs ++ p.threads }) (record q { threads = map (threads.by t) ys ++ q.threads })
  threads_on t xs ys more = record {
    threads = both SameThread t xs ys p.threads q.threads more same.threads;
    locals = same.locals;
    globals = same.globals;
    buffers = same.buffers;
    monitors = same.monitors;
    heap = same.heap;
    links = same.links;
  }

  pub locals_on : (t : ℕ) (xs ys : List locals.Act)
      → (SameSession (locals.acts_of t p.locals) (locals.acts_of t q.locals)
      → SameSession (xs ++ locals.acts_of t p.locals) (ys ++ locals.acts_of t q.locals))
      → Alike s (record p { locals = map (locals.by t) xs ++ p.locals }) (record q { locals = map (locals.by t) ys ++ q.locals })
  locals_on t xs ys more = record {
    threads = same.threads;
    locals = both SameSession t xs ys p.locals q.locals more same.locals;
    globals = same.globals;
    buffers = same.buffers;
    monitors = same.monitors;
    heap = same.heap;
    links = same.links;
  }

  pub local_on : (t : ℕ) (x : locals.Act) → Alike s (record p { locals = locals.by t x ∷ p.locals }) (record q { locals = locals.by t x ∷ q.locals })
  local_on t x = locals_on t (x ∷ []) (x ∷ []) (session_more (locals.acts_of t p.locals) (locals.acts_of t q.locals) x)

  pub monitors_on : (t : ℕ) (xs ys : List monitors.Act) → (monitors.since (monitors.acts_of t p.monitors) ≡ monitors.since (monitors.acts_of t q.monitors)
      → monitors.since (xs ++ monitors.acts_of t p.monitors) ≡ monitors.since (ys ++ monitors.acts_of t q.monitors))
      → Alike s (record p { monitors = map (monitors.by t) xs ++ p.monitors }) (record q { monitors = map (monitors.by t) ys ++ q.monitors })
  monitors_on t xs ys more = record {
    threads = same.threads;
    locals = same.locals;
    globals = same.globals;
    buffers = same.buffers;
    monitors = both (λ a b. monitors.since a ≡ monitors.since b) t xs ys p.monitors q.monitors more same.monitors;
    heap = same.heap;
    links = same.links;
  }

  pub monitor_on : (t : ℕ) (x : monitors.Act)
      → Alike s (record p { monitors = monitors.by t x ∷ p.monitors }) (record q { monitors = monitors.by t x ∷ q.monitors })
  monitor_on t x = monitors_on t (x ∷ []) (x ∷ []) (monitor_more (monitors.acts_of t p.monitors) (monitors.acts_of t q.monitors) x)

  pub globals_on : (e f : List globals.Event) → SameGlobals e f → Alike s (record p { globals = e }) (record q { globals = f })
  globals_on e f now = record {
    threads = same.threads;
    locals = same.locals;
    globals = now;
    buffers = same.buffers;
    monitors = same.monitors;
    heap =
        same.heap;
    links = same.links;
  }

  pub buffers_on : (e f : List buffers.Event) → SameBuffers e f → Alike s (record p { buffers = e }) (record q { buffers = f })
  buffers_on e f now = record {
    threads = same.threads;
    locals = same.locals;
    globals = same.globals;
    buffers = now;
    monitors = same.monitors;
    heap =
        same.heap;
    links = same.links;
  }

  pub heap_on : (e f : List heap.Event) → SameHeap (class_count s) e f → Alike s (record p { heap = e }) (record q { heap = f })
  heap_on e f now = record {
    threads = same.threads;
    locals = same.locals;
    globals = same.globals;
    buffers = same.buffers;
    monitors = same.monitors;
    heap =
        now;
    links = same.links;
  }

  pub links_on : (x : links.Event) → Alike s (record p { links = x ∷ p.links }) (record q { links = x ∷ q.links })
  links_on x = record {
    threads = same.threads;
    locals = same.locals;
    globals = same.globals;
    buffers = same.buffers;
    monitors = same.monitors;
    heap =
        same.heap;
    links = ap (λ e. x ∷ e) same.links;
  }

  -- what is read of a thread and of an object
  pub same_attached : (t : ℕ) → is_attached p t ≡ is_attached q t
  same_attached t = (same.threads t).attached

  pub same_here : (o : ℕ) → is_here s p o ≡ is_here s q o
  same_here o = same_there (class_count s) p.heap q.heap o same.heap

  pub same_next : (t : ℕ) → next_ref p t ≡ next_ref q t
  same_next t = ap (λ n. n + 1) (same.threads t).refs

-- ---- a reference is handed out

-- as an entry hands it out, with this number
abbrev pub handed_by : ℕ → Kind → ℕ → ℕ → Parts → Parts
handed_by t Local n o q = record q { threads = threads.by t threads.CountRef ∷ q.threads; locals = locals.by t (locals.Make n o) ∷ q.locals }
handed_by t Global n o q = record q { threads = threads.by t threads.CountRef ∷ q.threads; globals = globals.MakeStrong t n o ∷ q.globals }
handed_by t Weak n o q = record q { threads = threads.by t threads.CountRef ∷ q.threads; globals = globals.MakeWeak t n o ∷ q.globals }

counted : (s : StatedSetup) (p q : Parts) (t : ℕ) → Alike s p q
    → Alike s (record p { threads = threads.by t threads.CountRef ∷ p.threads })
    (record q { threads = threads.by t threads.CountRef ∷ q.threads })
counted s p q t same = threads_on s p q same t (threads.CountRef ∷ []) (threads.CountRef ∷ [])
    (ref_both (threads.acts_of t p.threads) (threads.acts_of t q.threads))

handed_next : (s : StatedSetup) (p q : Parts) (t : ℕ) (kind : Kind) (o : ℕ) → Alike s p q → Alike s (handed_on t kind o p) (handed_by t kind (next_ref p t) o q)
handed_next s p q t Local o same =
    local_on s (record p { threads = threads.by t threads.CountRef ∷ p.threads })
    (record q { threads = threads.by t threads.CountRef ∷ q.threads }) (counted s p q t same) t
    (locals.Make (next_ref p t) o)
handed_next s p q t Global o same =
    globals_on s (record p { threads = threads.by t threads.CountRef ∷ p.threads }) (record q { threads = threads.by t threads.CountRef ∷ q.threads })
    (counted s p q t same)
    (globals.MakeStrong t (next_ref p t) o ∷ p.globals) (globals.MakeStrong t (next_ref p t) o ∷ q.globals)
    (strong_made t (next_ref p t) o p.globals q.globals same.globals)
handed_next s p q t Weak o same =
    globals_on s (record p { threads = threads.by t threads.CountRef ∷ p.threads }) (record q { threads = threads.by t threads.CountRef ∷ q.threads })
    (counted s p q t same)
    (globals.MakeWeak t (next_ref p t) o ∷ p.globals) (globals.MakeWeak t (next_ref p t) o ∷ q.globals)
    (weak_made t (next_ref p t) o p.globals q.globals same.globals)

pub handed_alike : (s : StatedSetup) (p q : Parts) (t : ℕ) (kind : Kind) (n o : ℕ) → next_ref q t ≡ n → Alike s p q
    → Alike s (handed_on t kind o p) (handed_by t kind n o q)
handed_alike s p q t kind n o next same =
    subst (λ (m : ℕ). Alike s (handed_on t kind o p) (handed_by t kind m o q)) (same_next s p q same t ∙ next) (handed_next s p q t kind o same)

-- ---- facts in turn

-- the parts after these facts, the newest first
abbrev pub on_all : List Fact → Parts → Parts
on_all [] p = p
on_all (x ∷ xs) p = on x (on_all xs p)

-- each could be when it was told
abbrev pub CanAll : StatedSetup → List Fact → Parts → Type 0
CanAll s [] p = Unit {0}
CanAll s (x ∷ xs) p = (can_be s (on_all xs p) x ≡ true) × CanAll s xs p

-- after these facts the parts are alike, and each could be
pub record Told (s : StatedSetup) (p q : Parts) (xs : List Fact) : Type 0 where
  pub can : CanAll s xs p
  pub alike : Alike s (on_all xs p) q

pub none : (s : StatedSetup) (p q : Parts) → Alike s p q → Told s p q []
none s p q same = record { can = tt; alike = same }

pub one : (s : StatedSetup) (p q : Parts) (x : Fact) → can_be s p x ≡ true → Alike s (on x p) q → Told s p q (x ∷ [])
one s p q x can same = record { can = (can, tt); alike = same }

pub next : (s : StatedSetup) (p r q : Parts) (x : Fact) (xs : List Fact) → Told s p r xs → can_be s (on_all xs p) x ≡ true → Alike s (on x (on_all xs p)) q
    → Told s p q (x ∷ xs)
next s p r q x xs told can same = record { can = (can, told.can); alike = same }

pub on_more : (xs ys : List Fact) (p : Parts) → on_all (xs ++ ys) p ≡ on_all xs (on_all ys p)
on_more [] ys p = refl
on_more (x ∷ xs) ys p = ap (on x) (on_more xs ys p)

pub can_more : (s : StatedSetup) (xs ys : List Fact) (p : Parts) → CanAll s xs (on_all ys p) → CanAll s ys p → CanAll s (xs ++ ys) p
can_more s [] ys p can old = old
can_more s (x ∷ xs) ys p can old = (subst (λ (r : Parts). can_be s r x ≡ true) (sym (on_more xs ys p)) can.0, can_more s xs ys p can.1 old)

pub parts_more : (xs w : List Fact) → parts_of (xs ++ w) ≡ on_all xs (parts_of w)
parts_more [] w = refl
parts_more (x ∷ xs) w = ap (on x) (parts_more xs w)

pub history_more : (s : StatedSetup) (xs w : List Fact) → CanAll s xs (parts_of w) → History s w → History s (xs ++ w)
history_more s [] w can could = could
history_more s (x ∷ xs) w can could = (subst (λ (r : Parts). can_be s r x ≡ true) (sym (parts_more xs w)) can.0, history_more s xs w can.1 could)
