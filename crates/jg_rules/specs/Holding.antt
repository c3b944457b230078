-- What keeps an object from the collector, and what goes at a collection.
use Rattle.std.specs.Prelude.{ℕ, ◌||◌, Bool, List}
use Rattle.jg_policy.specs.Stated.{StatedSetup, class_count}
use Rattle.jg_table_threads.specs.History as threads
use Rattle.jg_table_locals.specs.History as locals
use Rattle.jg_table_globals.specs.History as globals
use Rattle.jg_table_buffers.specs.History as buffers
use Rattle.jg_table_monitors.specs.History as monitors
use Rattle.jg_table_heap.specs.History as heap
use Rattle.jg_table_heap.specs.Standing.{held_objects}
use Rattle.jg_rules.specs.Parts.{Parts}
use Rattle.jg_rules.specs.Names.{object_count}

-- something outside the store holds the object: a live local of some thread, a global reference (JNI Specification,
-- chapter 2, "Global and Local References"), a pending exception, an open critical buffer, or its monitor's owner. A
-- weak global reference holds nothing (chapter 4, "Weak Global References")
abbrev pub is_root : Parts → ℕ → Bool
is_root p o = (((locals.holds_object p.locals o || globals.holds_object p.globals o) || threads.is_pending p.threads o)
    || buffers.pins_object p.buffers o)
    || monitors.held p.monitors o

-- the objects that are held so, ascending
abbrev pub roots : StatedSetup → Parts → List ℕ
roots s p = held_objects (is_root p) (object_count s p)

-- the objects that a collection finds not held, ascending: all are judged at once, as they are now
abbrev pub going : StatedSetup → Parts → List ℕ
going s p = heap.going (class_count s) (roots s p) p.heap
