-- What contracts see of a core.
use Rattle.std.specs.Prelude.{ℕ, ◌≡◌, ◌≤◌, ◌^◌, ◌↔◌, true, false, List, ◌∷◌, None, Some, nat_lt, ◌⊎◌}
use Rattle.jg_words.specs.declared.object.ObjId.{ObjId}
use Rattle.jg_policy.specs.Stated.{StatedSetup, class_count}
use Rattle.jg_table_locals.specs.History as locals
use Rattle.jg_table_globals.specs.History as globals
use Rattle.jg_table_buffers.specs.History as buffers
use Rattle.jg_table_monitors.specs.History as monitors
use Rattle.jg_table_objects.specs.Rows.{Rows, mark_in}
use Rattle.jg_table_objects.specs.Standing.{Tells}
use Rattle.jg_rules.specs.Parts.{Parts, RowsBeside, StandBeside}
use Rattle.jg_core.specs.declared.fact.Fact.{Fact}
use Rattle.jg_rules.specs.Holding.{is_root}
use Rattle.jg_rules.specs.Names.{pending}
use Rattle.jg_core.specs.declared.gone.Holder.{Holder}
use Rattle.jg_core.specs.declared.gone.Holder.TheVariants as holder
use Rattle.jg_core.specs.declared.kernel.Untold.{Untold}
use Rattle.jg_core.specs.declared.kernel.Untold.TheVariants.{Impossible, Full, NoMemory}
use Rattle.jg_core.specs.Facts.{all_gone, parts_of, can_be, makes, made_in, History}

-- what its setup states, what its tables keep, and how many facts it was told that made something
pub record CoreState : Type 0 where
  pub setup : StatedSetup
  pub rows : RowsBeside Rows
  pub made : ℕ

-- it stands for a list of facts: each could be when it was told, so many of them made something, and its tables stand
-- for their events
pub record CoreStands (c : CoreState) (w : List Fact) : Type 0 where
  pub history : History c.setup w
  pub counted : made_in w ≡ c.made
  pub tables : StandBeside Tells c.setup c.rows (parts_of w)

-- what every core keeps: it stands for some list of facts, of which not too many made something, and no object is
-- marked
pub record IsCore (c : CoreState) : Type 0 where
  pub told : List Fact
  pub stands : CoreStands c told
  pub few : c.made ≤ 2 ^ 60
  pub unmarked : (o : ℕ) → mark_in c.rows.heap o ≡ None

-- whatever it stood for, it stands for that with this told
pub record Took (old new : CoreState) (x : Fact) : Type 0 where
  pub setup : new.setup ≡ old.setup
  pub stands : (w : List Fact) → CoreStands old w → CoreStands new (x ∷ w)

-- whatever it stood for, it stands for that with all of these told to be gone
pub record TookAll (old new : CoreState) (objects : List ObjId) : Type 0 where
  pub setup : new.setup ≡ old.setup
  pub stands : (w : List Fact) → CoreStands old w → CoreStands new (all_gone objects w)

-- whatever it stood for, it stands for
pub record Stayed (old new : CoreState) : Type 0 where
  pub setup : new.setup ≡ old.setup
  pub stands : (w : List Fact) → CoreStands old w → CoreStands new w

-- why a fact was refused: exactly where it can't be; else exactly where it makes something and the core is full; else
-- where it makes something, for which memory ran out
pub record Refuses (c : CoreState) (x : Fact) (why : Untold) : Type 0 where
  pub impossible : (w : List Fact) → CoreStands c w → (why ≡ Impossible) ↔ (can_be c.setup (parts_of w) x ≡ false)
  pub full : (w : List Fact) → CoreStands c w
      → (why ≡ Full) ↔ ((can_be c.setup (parts_of w) x ≡ true) × (makes x ≡ true) × (c.made ≡ 2 ^ 60))
  pub wants : why ≡ NoMemory → makes x ≡ true

-- what keeps the object from being gone: it is a class object, a live local or global reference names it, it is
-- pending, a critical buffer of it is open, its monitor is owned; or none of these: then it isn't there
abbrev pub Keeps : StatedSetup → Parts → ℕ → Holder → Type 0
Keeps s p o holder.Nothing = (nat_lt o (class_count s) ≡ false) × (is_root p o ≡ false)
Keeps s p o holder.Setup = nat_lt o (class_count s) ≡ true
Keeps s p o (holder.Reference r) = locals.Holds p.locals o r ⊎ globals.Holds p.globals o r
Keeps s p o (holder.Pending t) = pending p t.0 ≡ Some o
Keeps s p o (holder.Buffer b) = buffers.IsPinOf p.buffers o b
Keeps s p o (holder.Monitor t) = monitors.owner p.monitors o ≡ Some t.0
