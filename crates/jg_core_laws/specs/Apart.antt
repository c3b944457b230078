-- Which facts an answer depends on. those says of each thread whether it is one of some threads. A list of facts has the
-- newest first.
use Rattle.std.specs.Prelude.{ℕ, ◌≡◌, Bool, true, false, not, if◌then◌else◌, slice_get, List, [], ◌∷◌, Option, Some, None}
use Rattle.std.specs.List.{list_any}
use Rattle.jg_words.specs.declared.thread.Tid.{Tid}
use Rattle.jg_words.specs.declared.thread.EnvId.{EnvId}
use Rattle.jg_words.specs.declared.reference.Ref.{Ref}
use Rattle.jg_words.specs.declared.reference.Ref.TheVariants.{Null, To}
use Rattle.jg_words.specs.declared.reference.Kind.TheVariants.{Local, Global, Weak}
use Rattle.jg_policy.specs.Stated.{StatedSetup}
use Rattle.jg_rows.specs.declared.row.Effect.{Effect}
use Rattle.jg_rows.specs.declared.row.Effect.TheVariants.{Ends, Frees}
use Rattle.jg_rows.specs.Columns.{Columns}
use Rattle.jg_rows.specs.Table.{functions}
use Rattle.jg_judge.specs.declared.argument.Argument.{Argument}
use Rattle.jg_judge.specs.declared.argument.Bounds.{Bounds}
use Rattle.jg_core.specs.declared.fact.Fact.{Fact}
use Rattle.jg_core.specs.declared.fact.Fact.TheVariants.{Begin, End, Enter, Leave, Push, Pop, Ensure, Raise, Calm, Hand, Lost, Lend, Back, Own, Free, Meet, Gone, Link, Unlink, Warn, Checked}
use Rattle.jg_core.specs.Facts.{parts_of}
use Rattle.jg_core.specs.Asking.{asked}
use Rattle.jg_core_laws.specs.Laws.{references, is_buffer}

-- one of those threads was handed the reference, if there is one
abbrev pub is_theirs : (ℕ → Bool) → Ref → Bool
is_theirs those Null = true
is_theirs those (To kind maker n) = those maker.0

-- the fact is of one of those threads, of a reference or a buffer that one of them was handed, or of no thread
abbrev pub concerns : (ℕ → Bool) → Fact → Bool
concerns those (Begin t) = those t.0
concerns those (End t) = those t.0
concerns those (Enter t) = those t.0
concerns those (Leave t kept) = those t.0
concerns those (Push t room) = those t.0
concerns those (Pop t kept) = those t.0
concerns those (Ensure t room) = those t.0
concerns those (Raise t o) = those t.0
concerns those (Calm t) = those t.0
concerns those (Hand t kind o) = those t.0
concerns those (Lost r) = is_theirs those r
concerns those (Lend t family o via n) = those t.0
concerns those (Back b) = those b.maker.0
concerns those (Own t o) = those t.0
concerns those (Free t o) = those t.0
concerns those (Meet class n) = true
concerns those (Gone o) = true
concerns those (Link class native) = true
concerns those (Unlink class) = true
concerns those (Warn home) = true
concerns those (Checked check) = true

-- the facts that concern those threads
abbrev pub concerning : (ℕ → Bool) → List Fact → List Fact
concerning those [] = []
concerning those (x ∷ w) = if concerns those x then x ∷ concerning those w else concerning those w

-- the rules ask nothing that all threads have in common: which buffers pin a reference, and who owns a monitor
abbrev pub is_apart : Effect → Bool
is_apart (Ends Local) = true
is_apart (Ends Global) = false
is_apart (Ends Weak) = false
is_apart Frees = false
is_apart effect = true

-- the environment, if there is one, is of one of those threads
abbrev pub is_of : (ℕ → Bool) → Option EnvId → Bool
is_of those None = true
is_of those (Some env) = those env.tid.0

-- the function of this row, if it is one, is such a function
abbrev pub is_apart_row : Option Columns → Bool
is_apart_row None = true
is_apart_row (Some row) = is_apart row.effect

-- a question of one of those threads, about references of theirs and no buffer, is answered alike after two lists of
-- facts, if the same concern those threads in both, in the same order: whatever other threads did, and when
-- (proofs/Apart.antt)
abbrev pub AnsweredApart : Type 0
AnsweredApart = (bounds : Bounds) (s : StatedSetup) (t : Tid) (env : Option EnvId) (function : ℕ) (xs : List Argument)
    (those : ℕ → Bool) (v w : List Fact) → is_apart_row (slice_get functions function) ≡ true
    → list_any is_buffer xs ≡ false → those t.0 ≡ true → is_of those env ≡ true
    → list_any (λ r. not (is_theirs those r)) (references xs) ≡ false → concerning those v ≡ concerning those w
    → asked bounds s (parts_of v) t env function xs ≡ asked bounds s (parts_of w) t env function xs
