-- What the words of an event mean.
use Rattle.std.specs.Prelude.{◌≡◌, ◌==◌, ◌<◌, ◌^◌, ◌⊎◌, ℕ, ℤ, Bool, List, [], ◌∷◌, length, map, slice_get, nat_le, Option, Some, FitsSigned}
use Rattle.std.specs.List.{AllByRecursion}
use Rattle.std.specs.Int.{w32}
use Rattle.std.specs.Fmt.{decimal, signed_decimal}
use Rattle.jg_words.specs.declared.thread.Tid.{Tid}
use Rattle.jg_words.specs.declared.thread.EnvId.{EnvId}
use Rattle.jg_words.specs.declared.object.ObjId.{ObjId}
use Rattle.jg_words.specs.declared.buffer.BufId.{BufId}
use Rattle.jg_words.specs.declared.reference.Kind.{Kind}
use Rattle.jg_words.specs.declared.reference.Ref.{Ref}
use Rattle.jg_policy.specs.Stated.{StatedSetup, class_count}
use Rattle.jg_table_buffers.specs.declared.family.Family.{Family}
use Rattle.jg_text.specs.Words.{tid_text, env_text, ref_text, buf_text, FitsTid, FitsEnv, FitsRef, FitsBuf}
use Rattle.jg_text.specs.Faults.{fields}
use Rattle.jg_rows.specs.Columns.{Columns}
use Rattle.jg_rows.specs.Table.{functions}
use Rattle.jg_judge.specs.declared.argument.Argument.{Argument}
use Rattle.jg_judge.specs.declared.kinds.OwnKind.{OwnKind}
use Rattle.jg_judge.specs.Kinds.{own_class}
use Rattle.jg_core.specs.declared.fact.Fact.TheVariants as fact
use Rattle.jg_core.specs.declared.fact.Checked.TheVariants as checked
use Rattle.jg_record.specs.declared.event.Event.{Event}
use Rattle.jg_record.specs.declared.event.Event.TheVariants.{Question, Fact, Gone, Bounds}
use Rattle.jg_record.specs.declared.verb.Verb.{Verb}
use Rattle.jg_record.specs.declared.verb.Verb.TheVariants as verb
use Rattle.jg_record.specs.Words.{object_text, kept_text, kind_named, family_named, own_named, verb_named, FitsObject, FitsKept}
use Rattle.jg_record.specs.Operands.{Asks}

-- the word means the class: one of the setup by its number, or that of a kind whose class the setup doesn't state
abbrev pub MeansClass : StatedSetup → List ℕ → ℕ → Type 0
MeansClass s word class = ((class < class_count s) × (word ≡ decimal class))
    ⊎ ((kind : OwnKind) × (own_named word ≡ Some kind) × (class ≡ own_class s kind))

-- the words are those of the objects, which are one or more
abbrev pub AreGone : List (List ℕ) → List ObjId → Type 0
AreGone words gone = AllByRecursion FitsObject gone × (0 < length gone) × (words ≡ map object_text gone)

-- the words of a fact, as its first word says, and what they tell where thread t told it; the objects are those that
-- are gone
abbrev pub Tells : StatedSetup → Verb → Tid → List (List ℕ) → Event → List ObjId → Type 0
Tells s verb.Begins t words e gone = (words ≡ []) × (e ≡ Fact (fact.Begin t))
Tells s verb.Ends t words e gone = (words ≡ []) × (e ≡ Fact (fact.End t))
Tells s verb.Enters t words e gone = (words ≡ []) × (e ≡ Fact (fact.Enter t))
Tells s verb.Leaves t words e gone =
    (kept : Option ObjId) × FitsKept kept × (words ≡ kept_text kept ∷ []) × (e ≡ Fact (fact.Leave t kept))
Tells s verb.Pushed t words e gone =
    (room : ℕ) × (room < 2 ^ 32) × (words ≡ decimal room ∷ []) × (e ≡ Fact (fact.Push t room))
Tells s verb.Popped t words e gone =
    (kept : Option ObjId) × FitsKept kept × (words ≡ kept_text kept ∷ []) × (e ≡ Fact (fact.Pop t kept))
Tells s verb.Ensured t words e gone =
    (room : ℕ) × (room < 2 ^ 32) × (words ≡ decimal room ∷ []) × (e ≡ Fact (fact.Ensure t room))
Tells s verb.Raised t words e gone =
    (o : ObjId) × FitsObject o × (words ≡ object_text o ∷ []) × (e ≡ Fact (fact.Raise t o))
Tells s verb.Calmed t words e gone = (words ≡ []) × (e ≡ Fact (fact.Calm t))
Tells s verb.Got t words e gone =
    (word : List ℕ) × (kind : Kind) × (kind_named word ≡ Some kind) × (o : ObjId) × FitsObject o
    × (words ≡ word ∷ object_text o ∷ []) × (e ≡ Fact (fact.Hand t kind o))
Tells s verb.Lost t words e gone =
    (r : Ref) × FitsRef r × (words ≡ ref_text r ∷ []) × (e ≡ Fact (fact.Lost r))
Tells s verb.Lent t words e gone =
    (word : List ℕ) × (family : Family) × (family_named word ≡ Some family) × (o : ObjId) × FitsObject o
    × (via : Ref) × FitsRef via × (n : ℕ) × (n < 2 ^ 32)
    × (words ≡ word ∷ object_text o ∷ ref_text via ∷ decimal n ∷ []) × (e ≡ Fact (fact.Lend t family o via n))
Tells s verb.Gave t words e gone =
    (b : BufId) × FitsBuf b × (words ≡ buf_text b ∷ []) × (e ≡ Fact (fact.Back b))
Tells s verb.Owns t words e gone =
    (o : ObjId) × FitsObject o × (words ≡ object_text o ∷ []) × (e ≡ Fact (fact.Own t o))
Tells s verb.Freed t words e gone =
    (o : ObjId) × FitsObject o × (words ≡ object_text o ∷ []) × (e ≡ Fact (fact.Free t o))
Tells s verb.Met t words e gone =
    (word : List ℕ) × (class : ℕ) × MeansClass s word class × (n : ℕ) × (n < 2 ^ 32)
    × (words ≡ word ∷ decimal n ∷ []) × (e ≡ Fact (fact.Meet class n))
Tells s verb.Gone t words e gone = AreGone words gone × (e ≡ Gone)
Tells s verb.Linked t words e gone =
    (class : ℕ) × (class < 2 ^ 32) × (native : ℕ) × (native < 2 ^ 32) × (words ≡ decimal class ∷ decimal native ∷ [])
    × (e ≡ Fact (fact.Link class native))
Tells s verb.Unlinked t words e gone =
    (class : ℕ) × (class < 2 ^ 32) × (words ≡ decimal class ∷ []) × (e ≡ Fact (fact.Unlink class))
Tells s verb.Warned t words e gone =
    (home : ℕ) × (home < 2 ^ 32) × (words ≡ decimal home ∷ []) × (e ≡ Fact (fact.Warn home))
Tells s verb.Local t words e gone =
    (n : ℕ) × (n < 2 ^ 64) × (kept : Option ObjId) × FitsKept kept × (words ≡ decimal n ∷ kept_text kept ∷ [])
    × (e ≡ Fact (fact.Checked (checked.Local t n kept)))
Tells s verb.Pending t words e gone =
    (kept : Option ObjId) × FitsKept kept × (words ≡ kept_text kept ∷ [])
    × (e ≡ Fact (fact.Checked (checked.Pending t kept)))
Tells s verb.Length t words e gone =
    (o : ObjId) × FitsObject o × (n : ℕ) × (n < 2 ^ 32) × (words ≡ object_text o ∷ decimal n ∷ [])
    × (e ≡ Fact (fact.Checked (checked.Length o n)))
Tells s verb.Bounds t words e gone =
    (a : ℤ) × FitsSigned w32 a × (b : ℤ) × FitsSigned w32 b × (c : ℤ) × FitsSigned w32 c
    × (words ≡ signed_decimal a ∷ signed_decimal b ∷ signed_decimal c ∷ [])
    × (e ≡ Bounds (record { capacity = a; length = b; items = c }))

-- how many words a fact has behind its first; of objects that are gone there may be any number but none
abbrev pub told_count : Verb → ℕ
told_count verb.Begins = 0
told_count verb.Ends = 0
told_count verb.Enters = 0
told_count verb.Leaves = 1
told_count verb.Pushed = 1
told_count verb.Popped = 1
told_count verb.Ensured = 1
told_count verb.Raised = 1
told_count verb.Calmed = 0
told_count verb.Got = 2
told_count verb.Lost = 1
told_count verb.Lent = 4
told_count verb.Gave = 1
told_count verb.Owns = 1
told_count verb.Freed = 1
told_count verb.Met = 2
told_count verb.Gone = 1
told_count verb.Linked = 2
told_count verb.Unlinked = 1
told_count verb.Warned = 1
told_count verb.Local = 2
told_count verb.Pending = 1
told_count verb.Length = 2
told_count verb.Bounds = 3

abbrev pub is_told_count : Verb → ℕ → Bool
is_told_count verb.Gone n = nat_le 1 n
is_told_count v n = n == told_count v

-- the fields of a question for the function of this row, with these words behind it
pub record AsksFor (text : List ℕ) (t : Tid) (env : Option EnvId) (place : ℕ) (row : Columns) (words : List (List ℕ))
    : Type 0 where
  pub fits_tid : FitsTid t
  pub fits_env : FitsEnv env
  pub at : slice_get functions place ≡ Some row
  pub split : fields text ≡ tid_text t ∷ env_text env ∷ row.name ∷ words

-- the fields of a fact
pub record TellsOf (text : List ℕ) (t : Tid) (v : Verb) (words : List (List ℕ)) : Type 0 where
  pub tid : FitsTid t
  pub word : List ℕ
  pub verb : verb_named word ≡ Some v
  pub split : fields text ≡ tid_text t ∷ word ∷ words

-- a question, with these operands
abbrev pub SpellsQuestion : List ℕ → Event → List Argument → Type 0
SpellsQuestion text e xs = (t : Tid) × (env : Option EnvId) × (place : ℕ) × (row : Columns) × (words : List (List ℕ))
    × AsksFor text t env place row words × Asks row.takes words xs × (e ≡ Question t env place)

-- a fact, with these objects that are gone
abbrev pub SpellsTold : StatedSetup → List ℕ → Event → List ObjId → Type 0
SpellsTold s text e gone = (t : Tid) × (v : Verb) × (words : List (List ℕ)) × TellsOf text t v words
    × Tells s v t words e gone

-- the text is that of the event
abbrev pub SpellsEvent : StatedSetup → List ℕ → Event → List Argument → List ObjId → Type 0
SpellsEvent s text e xs gone = SpellsQuestion text e xs ⊎ SpellsTold s text e gone
