-- What a virtual machine says is so: what each fact is to the tables, and where it can be. t is a thread, o an object.
-- A list of facts has the newest first.
use Rattle.std.specs.Prelude.{ℕ, pos, ◌≡◌, ◌+◌, ◌==◌, ◌&&◌, ◌||◌, not, nat_lt, if◌then◌else◌, length, replicate, Bool, true, false, List, [], ◌∷◌, Option, Some, None}
use Rattle.std.specs.Option.{is_some, option_map}
use Rattle.jg_words.specs.declared.object.ObjId.{ObjId}
use Rattle.jg_words.specs.declared.reference.Ref.{Ref}
use Rattle.jg_words.specs.declared.reference.Ref.TheVariants.{Null, To}
use Rattle.jg_words.specs.declared.reference.Kind.{Kind}
use Rattle.jg_words.specs.declared.reference.Kind.TheVariants.{Local, Global, Weak}
use Rattle.jg_policy.specs.Stated.{StatedSetup, class_count}
use Rattle.jg_policy.specs.Classes.{module_names, native_at}
use Rattle.jg_policy.specs.Links as links
use Rattle.jg_table_threads.specs.History as threads
use Rattle.jg_table_locals.specs.History as locals
use Rattle.jg_table_globals.specs.History as globals
use Rattle.jg_table_buffers.specs.History as buffers
use Rattle.jg_table_buffers.specs.declared.family.Family.{Family}
use Rattle.jg_table_monitors.specs.History as monitors
use Rattle.jg_table_heap.specs.History as heap
use Rattle.jg_table_heap.specs.Making.{Opaque}
use Rattle.jg_rules.specs.Parts.{Parts, nothing_yet}
use Rattle.jg_rules.specs.Names.{names, next_ref, next_buffer, depth, open_frames, pending, is_here, length_of}
use Rattle.jg_rules.specs.Buffers.{buffer_named}
use Rattle.jg_rules.specs.Rules.{is_nothing}
use Rattle.jg_rules.specs.Holding.{is_root}
use Rattle.jg_judge.specs.Kinds.{is_class}
use Rattle.jg_core.specs.declared.fact.Fact.{Fact}
use Rattle.jg_core.specs.declared.fact.Fact.TheVariants.{Begin, End, Enter, Leave, Push, Pop, Ensure, Raise, Calm, Hand, Lost, Lend, Back, Own, Free, Meet, Gone, Link, Unlink, Warn, Checked}
use Rattle.jg_core.specs.declared.fact.Checked.{Checked as Check}
use Rattle.jg_core.specs.declared.fact.Checked.TheVariants as checked

-- ---- what a fact is to each table

-- t is handed its next reference (chapter 2, "Global and Local References")
abbrev pub handed_on : ℕ → Kind → ℕ → Parts → Parts
handed_on t Local o p = record p {
  threads = threads.by t threads.CountRef ∷ p.threads;
  locals = locals.by t (locals.Make (next_ref p t) o) ∷ p.locals;
}
handed_on t Global o p = record p {
  threads = threads.by t threads.CountRef ∷ p.threads;
  globals = globals.MakeStrong t (next_ref p t) o ∷ p.globals;
}
handed_on t Weak o p = record p {
  threads = threads.by t threads.CountRef ∷ p.threads;
  globals = globals.MakeWeak t (next_ref p t) o ∷ p.globals;
}

-- the same of a local for an object that was kept, if one was
abbrev pub kept_on : ℕ → Option ObjId → Parts → Parts
kept_on t None p = p
kept_on t (Some o) p = handed_on t Local o.0 p

-- the reference ended; a local one is its maker's
abbrev pub lost_on : Ref → Parts → Parts
lost_on Null p = p
lost_on (To Local maker n) p = record p { locals = locals.by maker.0 (locals.Delete n) ∷ p.locals }
lost_on (To Global maker n) p = record p { globals = globals.DeleteStrong maker.0 n ∷ p.globals }
lost_on (To Weak maker n) p = record p { globals = globals.DeleteWeak maker.0 n ∷ p.globals }

-- the buffer that t is lent, its n-th: pinned, or a copy of items that nobody here knows, which count as zeros
abbrev pub lent : ℕ → ℕ → Family → ℕ → Ref → ℕ → buffers.Buffer
lent t n family o via count =
    if buffers.is_critical family then buffers.pin_through t n o family via count
    else buffers.copy_with t n o family (replicate count (pos 0))

-- the parts with the fact's events in front
abbrev pub on : Fact → Parts → Parts
on (Begin t) p = record p {
  threads = threads.by t.0 threads.Attach ∷ p.threads;
  locals = locals.by t.0 locals.Start ∷ p.locals;
}
on (End t) p = record p {
  threads = threads.by t.0 threads.Detach ∷ p.threads;
  locals = locals.by t.0 locals.End ∷ p.locals;
  buffers = buffers.ReleaseAll t.0 ∷ p.buffers;
  monitors = monitors.by t.0 monitors.ReleaseAll ∷ p.monitors;
}
-- what is pending when a native method is called or has ended is its caller's
on (Enter t) p = record p {
  threads = threads.by t.0 threads.Calm ∷ threads.by t.0 threads.Enter ∷ p.threads;
  locals = locals.by t.0 locals.Enter ∷ p.locals;
}
on (Leave t kept) p = kept_on t.0 kept (record p {
  threads = threads.by t.0 threads.Calm ∷ threads.by t.0 threads.Leave ∷ p.threads;
  locals = locals.by t.0 locals.Leave ∷ p.locals;
})
on (Push t room) p = record p { locals = locals.by t.0 (locals.Push room) ∷ p.locals }
on (Pop t kept) p = kept_on t.0 kept (record p { locals = locals.by t.0 locals.Pop ∷ p.locals })
on (Ensure t room) p = record p { locals = locals.by t.0 (locals.Ensure room) ∷ p.locals }
on (Raise t o) p = record p { threads = threads.by t.0 (threads.Raise o.0) ∷ p.threads }
on (Calm t) p = record p { threads = threads.by t.0 threads.Calm ∷ p.threads }
on (Hand t kind o) p = handed_on t.0 kind o.0 p
on (Lost r) p = lost_on r p
on (Lend t family o via n) p = record p {
  threads = threads.by t.0 threads.CountBuffer ∷ p.threads;
  buffers = buffers.Opened (lent t.0 (next_buffer p t.0) family o.0 via n) ∷ p.buffers;
}
on (Back b) p = record p { buffers = buffers.Closed b.maker.0 b.n ∷ p.buffers }
on (Own t o) p = record p { monitors = monitors.by t.0 (monitors.Enter o.0) ∷ p.monitors }
on (Free t o) p = record p { monitors = monitors.by t.0 (monitors.Exit o.0) ∷ p.monitors }
on (Meet class n) p = record p { heap = heap.Made (Opaque class n) ∷ p.heap }
on (Gone o) p = record p { globals = globals.Clear o.0 ∷ p.globals; heap = heap.Went o.0 ∷ p.heap }
on (Link class native) p = record p { links = links.Linked class native ∷ p.links }
on (Unlink class) p = record p { links = links.UnlinkedAll class ∷ p.links }
on (Warn home) p = record p { links = links.Warned home ∷ p.links }
on (Checked check) p = p

-- the events of a list of facts
abbrev pub parts_of : List Fact → Parts
parts_of [] = nothing_yet
parts_of (x ∷ w) = on x (parts_of w)

-- ---- where a fact can be

-- t has a session
abbrev pub is_attached : Parts → ℕ → Bool
is_attached p t = threads.attached (threads.acts_of t p.threads)

-- what is kept is there
abbrev pub is_kept_here : StatedSetup → Parts → Option ObjId → Bool
is_kept_here s p None = true
is_kept_here s p (Some o) = is_here s p o.0

-- the reference is in being, cleared or not
abbrev pub is_in_being : Parts → Ref → Bool
is_in_being p Null = false
is_in_being p (To kind maker n) = not (is_nothing (names p maker.0 (To kind maker n)))

-- a critical buffer was asked for by a reference
abbrev pub is_through : Family → Ref → Bool
is_through family via = not (buffers.is_critical family) || not (buffers.is_null via)

-- nobody but t owns the monitor
abbrev pub is_free_for : ℕ → Option ℕ → Bool
is_free_for t None = true
is_free_for t (Some u) = u == t

abbrev pub is_owner : ℕ → Option ℕ → Bool
is_owner t None = false
is_owner t (Some u) = u == t

-- the setup has a module of that number
abbrev pub is_home : StatedSetup → ℕ → Bool
is_home s home = nat_lt home (length (module_names s))

abbrev pub same_object : Option ObjId → Option ℕ → Bool
same_object None None = true
same_object None (Some q) = false
same_object (Some o) None = false
same_object (Some o) (Some q) = o.0 == q

-- the tables say the same
abbrev pub is_so : StatedSetup → Parts → Check → Bool
is_so s p (checked.Local t n object) =
    is_attached p t.0 && same_object object (locals.live n (locals.acts_of t.0 p.locals))
is_so s p (checked.Pending t object) = is_attached p t.0 && same_object object (pending p t.0)
is_so s p (checked.Length o n) = is_here s p o.0 && (not (nat_lt o.0 (class_count s)) && length_of s p o.0 == n)

abbrev pub can_be : StatedSetup → Parts → Fact → Bool
can_be s p (Begin t) = nat_lt 0 t.0 && not (is_attached p t.0)
can_be s p (End t) = is_attached p t.0
can_be s p (Enter t) = is_attached p t.0
can_be s p (Leave t kept) = is_attached p t.0 && (not (depth p t.0 == 0) && is_kept_here s p kept)
can_be s p (Push t room) = is_attached p t.0
can_be s p (Pop t kept) = is_attached p t.0 && (not (open_frames p t.0 == 0) && is_kept_here s p kept)
can_be s p (Ensure t room) = is_attached p t.0
can_be s p (Raise t o) = is_attached p t.0 && is_here s p o.0
can_be s p (Calm t) = is_attached p t.0
can_be s p (Hand t kind o) = is_attached p t.0 && is_here s p o.0
can_be s p (Lost r) = is_in_being p r
can_be s p (Lend t family o via n) = is_attached p t.0 && (is_here s p o.0 && is_through family via)
can_be s p (Back b) = is_some (buffer_named p b)
can_be s p (Own t o) = is_attached p t.0 && (is_here s p o.0 && is_free_for t.0 (monitors.owner p.monitors o.0))
can_be s p (Free t o) = is_owner t.0 (monitors.owner p.monitors o.0)
can_be s p (Meet class n) = is_class s class
-- it is no class object, and nothing holds it: no live strong reference, pending exception, critical buffer or monitor
can_be s p (Gone o) = is_here s p o.0 && (not (nat_lt o.0 (class_count s)) && not (is_root p o.0))
can_be s p (Link class native) = is_some (native_at s class native)
can_be s p (Unlink class) = nat_lt class (class_count s)
can_be s p (Warn home) = is_home s home
can_be s p (Checked check) = is_so s p check

-- the place in the list, from 0, of the first object that can't be gone once those before it are
abbrev pub first_held : StatedSetup → Parts → List ObjId → Option ℕ
first_held s p [] = None
first_held s p (o ∷ objects) =
    if can_be s p (Gone o) then option_map (λ n. n + 1) (first_held s (on (Gone o) p) objects) else Some 0

-- the facts with these gone in front, the first of the list told first
abbrev pub all_gone : List ObjId → List Fact → List Fact
all_gone [] w = w
all_gone (o ∷ objects) w = all_gone objects (Gone o ∷ w)

-- each fact could be when it was told
abbrev pub History : StatedSetup → List Fact → Type 0
History s [] = Unit {0}
History s (x ∷ w) = (can_be s (parts_of w) x ≡ true) × History s w

-- ---- how many facts

-- the fact makes something, and so may want memory
abbrev pub makes : Fact → Bool
makes (Begin t) = true
makes (End t) = false
makes (Enter t) = true
makes (Leave t kept) = is_some kept
makes (Push t room) = true
makes (Pop t kept) = is_some kept
makes (Ensure t room) = false
makes (Raise t o) = false
makes (Calm t) = false
makes (Hand t kind o) = true
makes (Lost r) = false
makes (Lend t family o via n) = true
makes (Back b) = false
makes (Own t o) = true
makes (Free t o) = false
makes (Meet class n) = true
makes (Gone o) = false
makes (Link class native) = true
makes (Unlink class) = false
makes (Warn home) = true
makes (Checked check) = false

-- how many of them made something
abbrev pub made_in : List Fact → ℕ
made_in [] = 0
made_in (x ∷ w) = if makes x then made_in w + 1 else made_in w
