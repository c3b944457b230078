-- What holds whatever happened. A list of events has the newest first; its facts could be when they were told.
use Rattle.std.specs.Prelude.{ℕ, ◌≡◌, ◌≢◌, ◌≤◌, ◌^◌, ◌==◌, ◌||◌, Bool, true, false, not, slice_get, List, [], ◌∷◌, ◌++◌, Option, Some, None}
use Rattle.std.specs.List.{list_any, AllByRecursion}
use Rattle.jg_words.specs.declared.thread.Tid.{Tid}
use Rattle.jg_words.specs.declared.thread.EnvId.{EnvId}
use Rattle.jg_words.specs.declared.reference.Ref.{Ref}
use Rattle.jg_words.specs.declared.reference.Ref.TheVariants.{Null, To}
use Rattle.jg_words.specs.declared.reference.Kind.TheVariants.{Local, Global, Weak}
use Rattle.jg_policy.specs.Stated.{StatedSetup}
use Rattle.jg_rules.specs.declared.named.Named.TheVariants.{Nothing}
use Rattle.jg_rules.specs.Names.{names}
use Rattle.jg_rows.specs.Columns.{Columns}
use Rattle.jg_rows.specs.Table.{functions}
use Rattle.jg_judge.specs.declared.argument.Argument.{Argument}
use Rattle.jg_judge.specs.declared.argument.Bounds.{Bounds}
use Rattle.jg_judge.specs.Broken.{verdict}
use Rattle.jg_core.specs.declared.fact.Fact.{Fact}
use Rattle.jg_core.specs.Facts.{History, parts_of, is_in_being, made_in}
use Rattle.jg_core.specs.Asking.{asked}
use Rattle.jg_core_laws.specs.Apart.{is_theirs, concerning, is_of, is_apart_row}
use Rattle.jg_core_laws.specs.Laws.{hinders, clouds, references, is_plain, is_buffer}
use Rattle.jg_witness.specs.declared.operand.Operand.{Operand}
use Rattle.jg_witness.specs.declared.operand.Operand.TheVariants.{Word, Other}
use Rattle.jg_witness.specs.Events.{Event, Told, Handed, Lapsed, AreNamed, facts_of, meaning, newest, lost_after}
use Rattle.jg_witness.specs.Words.{dead_of, arguments_of}

-- a word that lapsed means nothing
abbrev pub LapsedMeansNothing : Type 0
LapsedMeansNothing = (e : List Event) (word : ℕ) → meaning word (Lapsed word ∷ e) ≡ None

-- a word that was handed out just now for a reference in being means it, where that is another than the last one
abbrev pub HandedMeans : Type 0
HandedMeans = (e : List Event) (word : ℕ) (name : Ref) → is_in_being (parts_of (facts_of e)) name ≡ true
    → newest word e ≢ Some name → meaning word (Handed word name ∷ e) ≡ Some name

-- none of these events hands out the word
abbrev pub HandNoneOut : ℕ → List Event → Type 0
HandNoneOut word [] = Unit {0}
HandNoneOut word (Told x ∷ e) = HandNoneOut word e
HandNoneOut word (Handed u name ∷ e) = (u ≢ word) × HandNoneOut word e
HandNoneOut word (Lapsed u ∷ e) = HandNoneOut word e

-- a word that means nothing means nothing until it is handed out anew
abbrev pub NoWordRevived : Type 0
NoWordRevived = (s : StatedSetup) (later e : List Event) (word : ℕ) → History s (facts_of (later ++ e))
    → AreNamed (later ++ e) → HandNoneOut word later → meaning word e ≡ None → meaning word (later ++ e) ≡ None

-- what a word that means nothing is asked as names nothing: so the question breaks rule 6 at the latest
abbrev pub NamelessIsDead : Type 0
NamelessIsDead = (s : StatedSetup) (w : List Fact) (t : Tid) → History s w → made_in w ≤ 2 ^ 60
    → names (parts_of w) t.0 (dead_of t) ≡ Nothing

-- ---- how long a question that passed passes

-- the facts that the later events are, after e
abbrev pub facts_since : List Event → List Event → List Fact
facts_since [] e = []
facts_since (Told x ∷ later) e = x ∷ facts_since later e
facts_since (Handed word name ∷ later) e = lost_after (meaning word (later ++ e)) (facts_since later e)
facts_since (Lapsed word ∷ later) e = lost_after (meaning word (later ++ e)) (facts_since later e)

-- the event hands the operand's word out anew
abbrev pub hands_anew : Event → Operand → Bool
hands_anew (Handed word name) (Word u) = word == u
hands_anew event x = false

-- a local reference may end by what its maker does
abbrev pub maker_may_end : Fact → Ref → Bool
maker_may_end x Null = false
maker_may_end x (To Local maker n) = hinders maker.0 x
maker_may_end x (To Global maker n) = false
maker_may_end x (To Weak maker n) = false

-- the fact may end the reference
abbrev pub may_end : Fact → Ref → Bool
may_end x r = maker_may_end x r || clouds x r

-- the fact unsettles a question of t with these operands
abbrev pub may_unsettle : ℕ → List Argument → Fact → Bool
may_unsettle t xs x = hinders t x || list_any (may_end x) (references xs)

-- a question about words that passed after the events passes after later ones, by which none of its words was handed
-- out anew, and no fact unsettles it: its words mean what they meant, and no rule is broken
-- (proofs/Leases.antt)
abbrev pub WordsPassStill : Type 0
WordsPassStill = (bounds : Bounds) (s : StatedSetup) (t : Tid) (env : Option EnvId) (row : Columns) (xs : List Operand)
    (later e : List Event) → History s (facts_of (later ++ e)) → AreNamed (later ++ e)
    → is_plain row.effect ≡ true → list_any is_buffer (arguments_of t e xs) ≡ false
    → list_any (λ event. list_any (hands_anew event) xs) later ≡ false
    → list_any (may_unsettle t.0 (arguments_of t e xs)) (facts_since later e) ≡ false
    → verdict bounds s (parts_of (facts_of e)) t.0 env row (arguments_of t e xs) ≡ None
    → (arguments_of t (later ++ e) xs ≡ arguments_of t e xs)
    × (verdict bounds s (parts_of (facts_of (later ++ e))) t.0 env row (arguments_of t (later ++ e) xs) ≡ None)

-- ---- which threads an answer depends on

-- nothing that one of those threads wasn't handed, and no buffer
abbrev pub IsTheirs : (ℕ → Bool) → Option Ref → Type 0
IsTheirs those None = Unit {0}
IsTheirs those (Some name) = is_theirs those name ≡ true

-- after both lists of events the word was last handed out for the same name, which is of a reference of those threads;
-- another operand is no buffer, and no reference but of theirs
abbrev pub IsSame : (ℕ → Bool) → List Event → List Event → Operand → Type 0
IsSame those d e (Word word) = (newest word d ≡ newest word e) × IsTheirs those (newest word e)
IsSame those d e (Other x) = (is_buffer x ≡ false) × (list_any (λ r. not (is_theirs those r)) (references (x ∷ [])) ≡ false)

-- a question about words of one of those threads is answered alike after two lists of events, if the same facts concern
-- those threads in both, in the same order: whatever the machine did of other threads, and when
-- (proofs/Apart.antt)
abbrev pub WordsAnsweredApart : Type 0
WordsAnsweredApart = (bounds : Bounds) (s : StatedSetup) (t : Tid) (env : Option EnvId) (function : ℕ) (xs : List Operand)
    (those : ℕ → Bool) (d e : List Event) → is_apart_row (slice_get functions function) ≡ true → those t.0 ≡ true
    → is_of those env ≡ true → AllByRecursion (IsSame those d e) xs
    → concerning those (facts_of d) ≡ concerning those (facts_of e)
    → asked bounds s (parts_of (facts_of d)) t env function (arguments_of t d xs)
    ≡ asked bounds s (parts_of (facts_of e)) t env function (arguments_of t e xs)
