-- What a sound guard knows of a call that passes, and that it stays sound.
use Rattle.std.proofs.Common.{ℕ, ◌≡◌, ◌<◌, List, ◌∷◌, length, Option, Some, None, refl, ap, ◌∙◌, arith, subst, sym}
use Rattle.jg_words.specs.declared.thread.EnvId.{EnvId}
use Rattle.jg_words.specs.declared.thread.Tid.{Tid}
use Rattle.jg_words.specs.declared.call.Call.{Call}
use Rattle.jg_words.specs.Entry.{Entry}
use Rattle.jg_policy.specs.Stated.{StatedSetup}
use Rattle.jg_rules.specs.Parts.{Parts, TableRows, TablesStand}
use Rattle.jg_rules.specs.Effects.{parts, passed_on}
use Rattle.jg_rules.specs.Rules.{verdict}
use Rattle.jg_rules.specs.Answers.{makes_local, with_notice, noticed, unnoticed, answer}
use Rattle.jg_rules.specs.Legal.{entry_at, entry_by}
use Rattle.jg_laws.proofs.Kept.{agreed, below, globals_below}
use Rattle.jg_laws.proofs.Natives.{all_stated}
use Rattle.jg_laws.proofs.Lending.{lent_below_next, buffers_fit}
use Rattle.jg_laws.proofs.Sizes.{small}
use Rattle.jg_words.specs.declared.rule.Rule.{Rule}
use Rattle.jg_words.specs.declared.entry.Outcome.TheVariants.{Passed, Denied}
use Rattle.jg_rules.specs.declared.answer.Answer.{Answer}
use Rattle.jg_rules.proofs.Kept.{unbroken}
use Rattle.jg_guard.specs.Guard.{State, IsSound, Takes}
use Rattle.jg_guard.proofs.Due.{counts, stand_at}
use Rattle.jg_guard.specs.declared.collect.Findings.{Findings}
use Rattle.jg_guard.specs.Findings.{Finds}
use Rattle.jg_guard.specs.Tables.{IsOrdinary, IsDue, IsAnswered}
use Rattle.jg_words.specs.declared.value.Value.{Value}
use Rattle.jg_words.specs.declared.object.ObjId.{ObjId}
use Rattle.std.specs.Prelude.{Bool, ◌&&◌}
use Rattle.jg_table_locals.specs.History.{acts_of}
use Rattle.jg_table_locals.specs.Room.{crowded}

-- the events of a sound guard's journal
pub ordinary : (state : State) (rows : TableRows) → IsSound state rows → IsOrdinary (parts state.setup state.journal)
ordinary state rows s =
    let sizes = small state.setup state.journal in
    record {
      agree = agreed state.setup state.journal s.legal;
      below = below state.setup state.journal s.legal;
      globals_below = globals_below state.setup state.journal s.legal;
      buffers_below = lent_below_next state.setup state.journal s.legal;
      few_threads = omega (arith, sizes.threads, s.bounded, s.small);
      few_locals = omega (arith, sizes.locals, s.bounded, s.small);
      few_monitors = omega (arith, sizes.monitors, s.bounded, s.small);
    }

entry_passed : (s : StatedSetup) (p : Parts) (t : Tid) (env : Option EnvId) (call : Call) → verdict s p t.0 env call ≡ None
    → entry_at s p t env call ≡ entry_by None (answer s p t call) t env call
entry_passed s p t env call none = rw none refl

-- one entry more keeps a guard sound
pub sound_after : (state : State) (journal : List Entry) (spare : ℕ) (x : Entry) (rows rows' : TableRows)
    → IsSound state rows → length state.journal < state.limit → journal ≡ x ∷ state.journal
    → x ≡ entry_at state.setup (parts state.setup state.journal) x.tid x.env x.call
    → TablesStand state.setup rows' (parts state.setup (x ∷ state.journal))
    → IsSound (record state { journal = journal; spare = spare }) rows'
sound_after state journal spare x rows rows' s room is legal stands =
    record { legal = rw is (legal, s.legal); small = s.small; bounded = rw is (omega arith); tables = rw is stands }

abbrev pub due_of : (state : State) (rows : TableRows) (t : Tid) (env : Option EnvId) (call : Call) → IsSound state rows
    → verdict state.setup (parts state.setup state.journal) t.0 env call ≡ None
    → IsDue state.setup rows t.0 call
due_of state rows t env call s none =
    let p : Parts = parts state.setup state.journal in
    record {
      events = p;
      env = env;
      ordinary = ordinary state rows s;
      stated = all_stated state.setup state.journal s.legal;
      lent = λ maker n b is. buffers_fit state.setup state.journal maker n b s.legal is;
      stand = s.tables;
      unbroken = unbroken state.setup p t.0 env call none;
      counts = counts p rows.threads t.0 (ordinary state rows s) s.tables.threads;
    }

-- the entry of a denied call
abbrev pub denied_entry : Tid → Option EnvId → Call → Rule → Entry
denied_entry t env call rule = record { tid = t; env = env; call = call; outcome = Denied rule; object = None }

pub entry_denied : (s : StatedSetup) (p : Parts) (t : Tid) (env : Option EnvId) (call : Call) (rule : Rule) → verdict s p t.0 env call ≡ Some rule
    → denied_entry t env call rule ≡ entry_at s p t env call
entry_denied s p t env call rule is = rw is refl

-- the entry of a passed one
abbrev pub passed_entry : Tid → Option EnvId → Call → Answer → Entry
passed_entry t env call given = record { tid = t; env = env; call = call; outcome = Passed given.reply; object = given.object }

entry_given : (s : StatedSetup) (p : Parts) (t : Tid) (env : Option EnvId) (call : Call) (given : Answer) → verdict s p t.0 env call ≡ None
    → given ≡ answer s p t call
    → passed_entry t env call given ≡ entry_at s p t env call
entry_given s p t env call given none is = rw (none, is) refl

-- with its notice, as it stands after the call, it is the whole answer
noticed_given : (s : StatedSetup) (p : Parts) (t : Tid) (call : Call) (given : Answer) (b : Bool) → given ≡ unnoticed s p t call
    → b ≡ (makes_local given.reply.value && crowded (acts_of t.0 (passed_on s t.0 call given.reply given.object p).locals))
    → with_notice b given ≡ answer s p t call
noticed_given s p t call given b is told = ap (λ (n : Bool). with_notice n given) told ∙ ap (noticed s p t call) is

-- the guard took the entry
pub takes_entry : (old : State) (rows : TableRows) (x : Entry) (journal : List Entry) (spare : ℕ) → IsSound old rows → journal ≡ x ∷ old.journal
    → x ≡ entry_at old.setup (parts old.setup old.journal) x.tid x.env x.call
    → Takes old (record old { journal = journal; spare = spare }) x.tid x.env x.call x.outcome
takes_entry old rows x journal spare s is legal = record {
  setup = refl;
  limit = refl;
  journal = is ∙ ap (λ (y : Entry). y ∷ old.journal) legal;
  answered = ap (λ (y : Entry). y.outcome) legal;
  legal = rw is (legal, s.legal);
}

pub denied_sound : (state : State) (journal : List Entry) (spare : ℕ) (rows : TableRows) (t : Tid) (env : Option EnvId) (call : Call) (rule : Rule)
    → IsSound state rows
    → length state.journal < state.limit
    → verdict state.setup (parts state.setup state.journal) t.0 env call ≡ Some rule → journal ≡ denied_entry t env call rule ∷ state.journal
    → IsSound (record state { journal = journal; spare = spare }) rows
denied_sound state journal spare rows t env call rule s room denied is =
    sound_after state journal spare (denied_entry t env call rule) rows rows s room is
    (entry_denied state.setup (parts state.setup state.journal) t env call rule denied) s.tables

same_answer : (a b : Answer) → a.reply.value ≡ b.reply.value → a.reply.warned ≡ b.reply.warned → a.reply.noticed ≡ b.reply.noticed → a.object ≡ b.object → a ≡ b
same_answer a b value warned noticed object =
    ap (λ (v : Value). record { reply = record { value = v; warned = a.reply.warned; noticed = a.reply.noticed }; object = a.object }) value
    ∙ (ap (λ (w : Bool). record { reply = record { value = b.reply.value; warned = w; noticed = a.reply.noticed }; object = a.object }) warned
    ∙ (ap (λ (n : Bool). record { reply = record { value = b.reply.value; warned = b.reply.warned; noticed = n }; object = a.object }) noticed
    ∙ ap (λ (o : Option ObjId). record { reply = record { value = b.reply.value; warned = b.reply.warned; noticed = b.reply.noticed }; object = o }) object))

-- what is known of a call that passes, once it is answered: it breaks no rule, its answer is what the history says, but for a
-- notice, and what a collection found is what the history says is held
pub record IsPassed (A : Type 0) (state : State) (t : Tid) (env : Option EnvId) (call : Call) (given : Answer) (held : Findings A) : Type 0 where
  pub none : verdict state.setup (parts state.setup state.journal) t.0 env call ≡ None
  pub answers : given ≡ unnoticed state.setup (parts state.setup state.journal) t call
  pub found : Finds state.setup (parts state.setup state.journal) call held

-- what was found and answered under the view is so under the guard
pub passed_by : (A : Type 0) (state now : State) (s : StatedSetup) (rows rows' : TableRows) (t : Tid) (env : Option EnvId) (call : Call) (given : Answer)
    (held : Findings A) → IsSound state rows
    → state ≡ now
    → s ≡ state.setup → rows' ≡ rows → verdict now.setup (parts now.setup now.journal) t.0 env call ≡ None
    → ((p : Parts) → TablesStand s rows' p → Finds s p call held)
    → ((p : Parts) → TablesStand s rows' p → Finds s p call held → given ≡ unnoticed s p t call)
    → IsPassed A state t env call given held
passed_by A state now s rows rows' t env call given held sound seen same_setup same_rows none found told =
    let p : Parts = parts state.setup state.journal in
    let stand : TablesStand s rows' p = stand_at state.setup s rows rows' p same_setup same_rows sound.tables in
    record {
      none = subst (λ (g : State). verdict g.setup (parts g.setup g.journal) t.0 env call ≡ None) (sym seen) none;
      answers = told p stand (found p stand) ∙ ap (λ (r : StatedSetup). unnoticed r p t call) same_setup;
      found = subst (λ (r : StatedSetup). Finds r p call held) same_setup (found p stand);
    }

-- so its effects are due
pub answered_due : (A : Type 0) (state : State) (rows : TableRows) (t : Tid) (env : Option EnvId) (call : Call) (given again : Answer) (held : Findings A)
    → IsSound state rows
    → IsPassed A state t env call given held → again.reply.value ≡ given.reply.value → again.reply.warned ≡ given.reply.warned
    → again.reply.noticed ≡ given.reply.noticed → again.object ≡ given.object
    → IsAnswered state.setup rows t call again held
answered_due A state rows t env call given again held s passed value warned noticed object = record {
  due = due_of state rows t env call s passed.none;
  answered = same_answer again given value warned noticed object ∙ passed.answers;
  found = passed.found;
}

-- its entry, with a notice or without as the tables say after it, is the history's next
pub entry_taken : (A : Type 0) (state : State) (t : Tid) (env : Option EnvId) (call : Call) (given : Answer) (held : Findings A) (b : Bool)
    → IsPassed A state t env call given held
    → b ≡ (makes_local given.reply.value
    && crowded (acts_of t.0 (passed_on state.setup t.0 call given.reply given.object (parts state.setup state.journal)).locals))
    → passed_entry t env call (with_notice b given) ≡ entry_at state.setup (parts state.setup state.journal) t env call
entry_taken A state t env call given held b passed told =
    let p : Parts = parts state.setup state.journal in
    entry_given state.setup p t env call (with_notice b given) passed.none (noticed_given state.setup p t call given b passed.answers told)
