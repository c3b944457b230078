-- A question that passed passes still, until a fact unsettles it; and a local reference that ended at once is as one
-- that was never handed out. t and u are threads, o an object. A list of facts has the newest first.
use Rattle.std.specs.Prelude.{ℕ, ◌≡◌, ◌+◌, ◌==◌, ◌&&◌, ◌||◌, Bool, true, false, List, [], ◌∷◌, ◌++◌, Option, None}
use Rattle.std.specs.List.{list_any}
use Rattle.jg_words.specs.declared.thread.EnvId.{EnvId}
use Rattle.jg_words.specs.declared.thread.Tid.{Tid}
use Rattle.jg_words.specs.declared.object.ObjId.{ObjId}
use Rattle.jg_words.specs.declared.reference.Ref.{Ref}
use Rattle.jg_words.specs.declared.reference.Ref.TheVariants.{Null, To}
use Rattle.jg_words.specs.declared.reference.Kind.TheVariants.{Local, Global, Weak}
use Rattle.jg_policy.specs.Stated.{StatedSetup}
use Rattle.jg_table_buffers.specs.History.{is_critical, same_ref}
use Rattle.jg_rows.specs.declared.row.Effect.{Effect}
use Rattle.jg_rows.specs.declared.row.Effect.TheVariants.{Ends, Pops, Frees, Detaches, Enters, Leaves, Loads, Links}
use Rattle.jg_rows.specs.Columns.{Columns}
use Rattle.jg_rows.specs.declared.row.Takes.TheVariants.{Nullable}
use Rattle.jg_rules.specs.declared.named.Named.TheVariants.{Nothing}
use Rattle.jg_rules.specs.Parts.{Parts}
use Rattle.jg_rules.specs.Names.{names, next_ref, next_buffer, session, pending, depth, open_frames}
use Rattle.jg_judge.specs.declared.argument.Argument.{Argument}
use Rattle.jg_judge.specs.declared.argument.Argument.TheVariants.{Reference, Buffer}
use Rattle.jg_judge.specs.declared.argument.Bounds.{Bounds}
use Rattle.jg_judge.specs.Broken.{verdict, by_caller}
use Rattle.jg_core.specs.declared.fact.Fact.{Fact}
use Rattle.jg_core.specs.declared.fact.Fact.TheVariants.{Begin, End, Leave, Pop, Raise, Hand, Lost, Lend, Gone, Checked}
use Rattle.jg_core.specs.declared.fact.Checked.TheVariants as checked
use Rattle.jg_core.specs.Facts.{parts_of, can_be, History}

-- the fact may take from t what its calls need: its session, a calm state, no critical region, its frame of locals
abbrev pub hinders : ℕ → Fact → Bool
hinders t (Begin u) = u.0 == t
hinders t (End u) = u.0 == t
hinders t (Leave u kept) = u.0 == t
hinders t (Pop u kept) = u.0 == t
hinders t (Raise u o) = u.0 == t
hinders t (Lend u family o via n) = (u.0 == t) && is_critical family
hinders t x = false

abbrev pub is_weak : Ref → Bool
is_weak Null = false
is_weak (To Local maker n) = false
is_weak (To Global maker n) = false
is_weak (To Weak maker n) = true

-- the fact ends the reference, or may clear it
abbrev pub clouds : Fact → Ref → Bool
clouds (Lost r) q = same_ref r q
clouds (Gone o) q = is_weak q
clouds x q = false

-- the references among the operands
abbrev pub references : List Argument → List Ref
references [] = []
references (Reference r ∷ xs) = r ∷ references xs
references (x ∷ xs) = references xs

-- the fact unsettles a question of t with these operands
abbrev pub unsettles : ℕ → List Argument → Fact → Bool
unsettles t xs x = hinders t x || list_any (clouds x) (references xs)

-- the rules ask nothing of the function but what they ask of its caller and its operands
abbrev pub is_plain : Effect → Bool
is_plain (Ends kind) = false
is_plain Pops = false
is_plain Frees = false
is_plain Detaches = false
is_plain Enters = false
is_plain Leaves = false
is_plain Loads = false
is_plain Links = false
is_plain effect = true

abbrev pub is_buffer : Argument → Bool
is_buffer (Buffer b) = true
is_buffer x = false

-- a question for a plain function, with no buffer among its operands, that passed after w passes after later facts,
-- none of which unsettles it
-- (proofs/Leases.antt)
abbrev pub PassesStill : Type 0
PassesStill = (bounds : Bounds) (s : StatedSetup) (t : ℕ) (env : Option EnvId) (row : Columns) (xs : List Argument)
    (later w : List Fact) → History s (later ++ w)
    → is_plain row.effect ≡ true → list_any is_buffer xs ≡ false → list_any (unsettles t xs) later ≡ false
    → verdict bounds s (parts_of w) t env row xs ≡ None → verdict bounds s (parts_of (later ++ w)) t env row xs ≡ None

-- ---- a local that ended at once

-- the local that t is handed next
abbrev pub next_local : Tid → List Fact → Ref
next_local t w = To Local t (next_ref (parts_of w) t.0)

-- it was handed out, for o
abbrev pub with_local : Tid → ObjId → List Fact → List Fact
with_local t o w = Hand t Local o ∷ w

-- and it ended
abbrev pub briefly : Tid → ObjId → List Fact → List Fact
briefly t o w = Lost (next_local t w) ∷ with_local t o w

-- it can end wherever it could be handed out
abbrev pub BriefCanBe : Type 0
BriefCanBe = (s : StatedSetup) (t : Tid) (o : ObjId) (w : List Fact) → History s (with_local t o w) → History s (briefly t o w)

-- no question sees it, of whatever thread and for whatever function, that doesn't name it
abbrev pub BriefIsUnseen : Type 0
BriefIsUnseen = (bounds : Bounds) (s : StatedSetup) (t : Tid) (o : ObjId) (w : List Fact) (u : ℕ) (env : Option EnvId)
    (row : Columns) (xs : List Argument) → list_any (same_ref (next_local t w)) (references xs) ≡ false
    → verdict bounds s (parts_of (briefly t o w)) u env row xs ≡ verdict bounds s (parts_of w) u env row xs

-- what is known is as before, but that t's next reference has the next number
pub record IsAsBefore (t : Tid) (r : Ref) (p q : Parts) : Type 0 where
  pub ended : (u : ℕ) → names q u r ≡ Nothing
  pub named : (u : ℕ) (other : Ref) → same_ref r other ≡ false → names q u other ≡ names p u other
  pub next : next_ref q t.0 ≡ next_ref p t.0 + 1
  pub others : (u : ℕ) → (t.0 == u) ≡ false → next_ref q u ≡ next_ref p u
  pub lent : (u : ℕ) → next_buffer q u ≡ next_buffer p u
  pub session : (u : ℕ) → session q u ≡ session p u
  pub pending : (u : ℕ) → pending q u ≡ pending p u
  pub depth : (u : ℕ) → depth q u ≡ depth p u
  pub frames : (u : ℕ) → open_frames q u ≡ open_frames p u
  pub globals : q.globals ≡ p.globals
  pub buffers : q.buffers ≡ p.buffers
  pub monitors : q.monitors ≡ p.monitors
  pub heap : q.heap ≡ p.heap
  pub links : q.links ≡ p.links

abbrev pub BriefLeavesAll : Type 0
BriefLeavesAll = (t : Tid) (o : ObjId) (w : List Fact) → IsAsBefore t (next_local t w) (parts_of w) (parts_of (briefly t o w))

-- the fact speaks of the reference
abbrev pub speaks_of : Ref → Fact → Bool
speaks_of r (Lost q) = same_ref r q
speaks_of r (Checked (checked.Local t n object)) = same_ref r (To Local t n)
speaks_of r x = false

-- what can be told next is what could be, but of it
abbrev pub BriefIsPassedBy : Type 0
BriefIsPassedBy = (s : StatedSetup) (t : Tid) (o : ObjId) (w : List Fact) (x : Fact) → History s w
    → speaks_of (next_local t w) x ≡ false → can_be s (parts_of (briefly t o w)) x ≡ can_be s (parts_of w) x

-- DeleteLocalRef of it passes wherever the thread may call DeleteLocalRef at all
abbrev pub BriefMayEnd : Type 0
BriefMayEnd = (bounds : Bounds) (s : StatedSetup) (t : Tid) (o : ObjId) (w : List Fact) (env : Option EnvId) (row : Columns)
    → row.effect ≡ Ends Local → row.takes ≡ Nullable ∷ [] → by_caller (parts_of w) t.0 env row ≡ None
    → verdict bounds s (parts_of (with_local t o w)) t.0 env row (Reference (next_local t w) ∷ []) ≡ None
