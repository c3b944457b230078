-- Linked native methods and warned modules, told by looking back. A list of events has the newest first.
use Rattle.std.specs.Prelude.{ℕ, Bool, false, not, ◌==◌, ◌&&◌, ◌||◌, List, [], ◌∷◌}

-- a native method of a class was linked, all of a class were unlinked, or a module was warned of
pub data Event : Type 0 where
  Linked : (class : ℕ) → (native : ℕ) → Event
  UnlinkedAll : (class : ℕ) → Event
  Warned : (home : ℕ) → Event

-- the method was linked, and its class's methods weren't unlinked since (JNI Specification, chapter 4, RegisterNatives
-- and UnregisterNatives)
abbrev pub linked : List Event → ℕ → ℕ → Bool
linked [] class native = false
linked (Linked c n ∷ e) class native = (class == c && native == n) || linked e class native
linked (UnlinkedAll c ∷ e) class native = not (c == class) && linked e class native
linked (Warned home ∷ e) class native = linked e class native

-- the module was warned of (JEP 472: once for each module)
abbrev pub warned : List Event → ℕ → Bool
warned [] home = false
warned (Linked c n ∷ e) home = warned e home
warned (UnlinkedAll c ∷ e) home = warned e home
warned (Warned other ∷ e) home = (home == other) || warned e home
