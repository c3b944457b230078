-- After a local reference that ended at once all is judged as if it had never been handed out, but that its thread's later
-- references have numbers that are greater by one. k is its number, and t its thread. A list of facts has the newest
-- first.
use Rattle.std.specs.Prelude.{ℕ, ◌≡◌, ◌+◌, ◌==◌, false, true, if◌then◌else◌, nat_le, Bool, List, ◌++◌, map, Option}
use Rattle.jg_words.specs.declared.thread.Tid.{Tid}
use Rattle.jg_words.specs.declared.thread.EnvId.{EnvId}
use Rattle.jg_words.specs.declared.object.ObjId.{ObjId}
use Rattle.jg_words.specs.declared.reference.Ref.{Ref}
use Rattle.jg_words.specs.declared.reference.Ref.TheVariants.{Null, To}
use Rattle.jg_words.specs.declared.reference.Kind.TheVariants.{Local, Global, Weak}
use Rattle.jg_policy.specs.Stated.{StatedSetup}
use Rattle.jg_rows.specs.declared.row.Effect.{Effect}
use Rattle.jg_rows.specs.declared.row.Effect.TheVariants.{Ends}
use Rattle.jg_rows.specs.Columns.{Columns}
use Rattle.jg_rules.specs.Names.{next_ref}
use Rattle.jg_judge.specs.declared.argument.Argument.{Argument}
use Rattle.jg_judge.specs.declared.argument.Argument.TheVariants.{Reference}
use Rattle.jg_judge.specs.declared.argument.Bounds.{Bounds}
use Rattle.jg_judge.specs.Broken.{verdict}
use Rattle.jg_core.specs.declared.fact.Fact.{Fact}
use Rattle.jg_core.specs.declared.fact.Fact.TheVariants.{Hand, Lost, Lend, Checked}
use Rattle.jg_core.specs.declared.fact.Checked.{Checked as Check}
use Rattle.jg_core.specs.declared.fact.Checked.TheVariants as checked
use Rattle.jg_core.specs.Facts.{parts_of, can_be, History}
use Rattle.jg_core_laws.specs.Laws.{briefly}

-- the number of a reference that thread m was handed
abbrev pub raised_number : ℕ → ℕ → ℕ → ℕ → ℕ
raised_number t k m n = if m == t then (if nat_le k n then n + 1 else n) else n

abbrev pub raised : ℕ → ℕ → Ref → Ref
raised t k Null = Null
raised t k (To kind maker n) = To kind maker (raised_number t k maker.0 n)

abbrev pub raised_check : ℕ → ℕ → Check → Check
raised_check t k (checked.Local u n object) = checked.Local u (raised_number t k u.0 n) object
raised_check t k check = check

-- the fact, of the references by their raised numbers
abbrev pub raised_fact : ℕ → ℕ → Fact → Fact
raised_fact t k (Lost r) = Lost (raised t k r)
raised_fact t k (Lend u family o via n) = Lend u family o (raised t k via) n
raised_fact t k (Checked check) = Checked (raised_check t k check)
raised_fact t k x = x

abbrev pub raised_operand : ℕ → ℕ → Argument → Argument
raised_operand t k (Reference r) = Reference (raised t k r)
raised_operand t k x = x

-- the rules ask by which references buffers were asked for (rule 13)
abbrev pub asks_pins : Effect → Bool
asks_pins (Ends Local) = false
asks_pins (Ends Global) = true
asks_pins (Ends Weak) = true
asks_pins effect = false

-- a question after later facts has the verdict that it would have if the local had never been handed out
-- (proofs/Later.antt)
abbrev pub BriefIsForgotten : Type 0
BriefIsForgotten = (bounds : Bounds) (s : StatedSetup) (t : Tid) (o : ObjId) (later w : List Fact) (u : ℕ)
    (env : Option EnvId) (row : Columns) (xs : List Argument) → History s w → asks_pins row.effect ≡ false
    → verdict bounds s (parts_of (map (raised_fact t.0 (next_ref (parts_of w) t.0)) later ++ briefly t o w)) u env row
    (map (raised_operand t.0 (next_ref (parts_of w) t.0)) xs)
    ≡ verdict bounds s (parts_of (later ++ w)) u env row xs

-- and all later facts can be that could be then
-- (proofs/Later.antt)
abbrev pub BriefIsOutlived : Type 0
BriefIsOutlived = (s : StatedSetup) (t : Tid) (o : ObjId) (later w : List Fact) → History s (later ++ w)
    → can_be s (parts_of w) (Hand t Local o) ≡ true
    → History s (map (raised_fact t.0 (next_ref (parts_of w) t.0)) later ++ briefly t o w)
