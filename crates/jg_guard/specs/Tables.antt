-- What the guard's helpers say of its tables.
use Rattle.std.specs.Prelude.{ℕ, ◌<◌, ◌≤◌, ◌^◌, ◌≡◌, Bool, true, false, Option, Some, None, IsTrue, All, length}
use Rattle.std.specs.List.{AllByRecursion}
use Rattle.jg_words.specs.Call.{fun_of}
use Rattle.jg_words.specs.Fun.{needs_env}
use Rattle.jg_words.specs.declared.thread.Tid.{Tid}
use Rattle.jg_words.specs.declared.thread.EnvId.{EnvId}
use Rattle.jg_words.specs.declared.object.ObjId.{ObjId}
use Rattle.jg_words.specs.declared.reference.Ref.TheVariants.{Null, To}
use Rattle.jg_words.specs.declared.reference.Kind.TheVariants.{Local, Global, Weak}
use Rattle.jg_words.specs.declared.value.Value.{Value}
use Rattle.jg_words.specs.declared.value.Value.TheVariants.{Ok as Done, Reference, Buffer as Lent, Busy, Throw as Threw}
use Rattle.jg_words.specs.declared.entry.Reply.{Reply}
use Rattle.jg_words.specs.declared.call.Call.{Call}
use Rattle.jg_policy.specs.Stated.{StatedSetup, class_count}
use Rattle.jg_table_threads.specs.History as threads
use Rattle.jg_table_threads.specs.Rows.{row_of, CanCount}
use Rattle.jg_table_locals.specs.History as locals
use Rattle.jg_table_locals.specs.Rows.{HasFrame, spare}
use Rattle.jg_table_globals.specs.Rows.{IsAbove}
use Rattle.jg_table_globals.specs.Laws as global_laws
use Rattle.jg_table_buffers.specs.Laws as buffer_laws
use Rattle.jg_table_buffers.specs.History as buffers
use Rattle.jg_rules.specs.Parts.{Parts, TableRows, TablesStand}
use Rattle.jg_rules.specs.Names.{next_ref, next_buffer}
use Rattle.jg_rules.specs.Effects.{is_effective}
use Rattle.jg_rules.specs.Unbroken.{Unbroken}
use Rattle.jg_rules.specs.Answers.{unnoticed}
pub use Rattle.jg_rules.specs.Answers.{makes_local}
use Rattle.jg_rules.specs.declared.answer.Answer.{Answer}
use Rattle.jg_laws.specs.Laws.{AgreeInNatives, MakesStated, FitsObject}
use Rattle.jg_guard.specs.declared.collect.Findings.{Findings}
use Rattle.jg_guard.specs.declared.tables.Tables.{Tables}
use Rattle.jg_guard.specs.Findings.{Finds}

-- what the tables keep
abbrev pub rows_of : {A : Type 0} → Tables A → TableRows
rows_of tables = record {
  threads = tables.threads;
  locals = tables.locals.rows;
  globals = tables.globals;
  buffers = tables.buffers;
  monitors = tables.monitors;
  heap = tables.heap;
  links = tables.links.rows;
}

-- the tables stand for what they stood for
abbrev pub StillStand : StatedSetup → TableRows → TableRows → Type 0
StillStand s old new = (p : Parts) → TablesStand s old p → TablesStand s new p

-- these events are a legal history's, and the counts that they give are small
pub record IsOrdinary (p : Parts) : Type 0 where
  pub agree : (t : ℕ) → AgreeInNatives (threads.acts_of t p.threads) (locals.acts_of t p.locals)
  pub below : (t : ℕ) → locals.IsMadeBelow (next_ref p t) (locals.acts_of t p.locals)
  pub globals_below : (t : ℕ) → global_laws.IsMadeBelow t (next_ref p t) p.globals
  pub buffers_below : (t : ℕ) → buffer_laws.IsOpenedBelow t (next_buffer p t) p.buffers
  pub few_threads : length p.threads < 2 ^ 62
  pub few_locals : length p.locals < 2 ^ 62
  pub few_monitors : length p.monitors < 2 ^ 62

-- each open buffer has as many items as its object, which is of the family's type
abbrev pub AllFit : StatedSetup → Parts → Type 0
AllFit s p = (maker n : ℕ) (b : buffers.Buffer) → buffers.opened p.buffers maker n ≡ Some b
    → FitsObject (class_count s) p.heap b

-- the tables stand for such events, which make objects with the fields that the setup states and lend buffers that fit
-- them, and a call of t that breaks no rule finds there what it needs
pub record IsDue (setup : StatedSetup) (rows : TableRows) (t : ℕ) (call : Call) : Type 0 where
  pub events : Parts
  pub env : Option EnvId
  pub ordinary : IsOrdinary events
  pub stated : AllByRecursion (MakesStated setup) events.heap
  pub lent : AllFit setup events
  pub stand : TablesStand setup rows events
  pub unbroken : Unbroken setup events t env call
  pub counts : CanCount rows.threads t

-- such a call, with its answer but for a notice, and what a collection found
pub record IsAnswered {A : Type 0} (setup : StatedSetup) (rows : TableRows) (t : Tid) (call : Call) (given : Answer)
    (findings : Findings A) : Type 0 where
  pub due : IsDue setup rows t.0 call
  pub answered : given ≡ unnoticed setup due.events t call
  pub found : Finds setup due.events call findings

-- such a call that does something of its own
pub record IsEffective (setup : StatedSetup) (rows : TableRows) (t : Tid) (call : Call) : Type 0 where
  pub due : IsDue setup rows t.0 call
  pub effective : is_effective (unnoticed setup due.events t call).reply.value ≡ true

-- n fits as t's next number, is above those of its locals, and there is a frame and room for it
pub record CanHandOut {A : Type 0} (tables : Tables A) (t n : ℕ) : Type 0 where
  pub counts : CanCount tables.threads t
  pub attached : IsTrue (row_of tables.threads t).attached
  pub started : HasFrame t tables.locals.rows
  pub above : All (λ row. row.tid ≡ t → row.n < n) tables.locals.rows.locals
  pub room : 0 < spare tables.locals t

-- n fits as t's next number, and is above those of the maker's global references
pub record CanMakeGlobal {A : Type 0} (tables : Tables A) (t maker n : ℕ) : Type 0 where
  pub counts : CanCount tables.threads t
  pub attached : IsTrue (row_of tables.threads t).attached
  pub above : IsAbove maker n tables.globals

-- t has a session, and may be lent a buffer
pub record CanLend {A : Type 0} (tables : Tables A) (t : ℕ) : Type 0 where
  pub counts : CanCount tables.threads t
  pub attached : IsTrue (row_of tables.threads t).attached

-- what an answer makes can be made at once
abbrev pub CanSettle : {A : Type 0} → Tables A → ℕ → Value → Option ObjId → Type 0
CanSettle tables t (Reference r) None = ⊥
CanSettle tables t (Reference Null) (Some o) = ⊥
CanSettle tables t (Reference (To Local maker n)) (Some o) = CanHandOut tables t n
CanSettle tables t (Reference (To Global maker n)) (Some o) = ⊥
CanSettle tables t (Reference (To Weak maker n)) (Some o) = ⊥
CanSettle tables t (Lent b) o = CanLend tables t
CanSettle tables t Busy o = ⊥
CanSettle tables t (Threw kind) o = ⊥
CanSettle tables t Done (Some o) = IsTrue (row_of tables.threads t).attached
CanSettle tables t value o = Unit {0}

abbrev pub CanSettleGlobal : {A : Type 0} → Tables A → ℕ → Value → Option ObjId → Type 0
CanSettleGlobal tables t (Reference (To Global maker n)) (Some o) = CanMakeGlobal tables t maker.0 n
CanSettleGlobal tables t (Reference (To Weak maker n)) (Some o) = CanMakeGlobal tables t maker.0 n
CanSettleGlobal tables t value o = ⊥

abbrev pub CanThrow : Value → Option ObjId → Type 0
CanThrow (Threw kind) None = ⊥
CanThrow (Threw kind) (Some o) = Unit {0}
CanThrow Busy o = Unit {0}
CanThrow value o = ⊥

-- a global or weak reference is handed out
abbrev pub makes_global : Value → Bool
makes_global (Reference (To Global maker n)) = true
makes_global (Reference (To Weak maker n)) = true
makes_global value = false

-- there is room for what the answer makes
pub record HasRoom {A : Type 0} (tables : Tables A) (t : ℕ) (reply : Reply) : Type 0 where
  pub locals : makes_local reply.value ≡ true → 0 < spare tables.locals t
  pub warnings : reply.warned ≡ true → 0 < tables.links.spare_warnings

-- a call took no room that its answer may need
pub record KeepsRoom {A : Type 0} (old new : Tables A) (t : ℕ) (call : Call) : Type 0 where
  pub locals : needs_env (fun_of call) ≡ true → spare old.locals t ≤ spare new.locals t
  pub warnings : old.links.spare_warnings ≤ new.links.spare_warnings
