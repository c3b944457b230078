-- The record of a legal history is answered by the verdicts on its entries.
use Rattle.std.proofs.Common.{◌≡◌, ◌∙◌, ◌∷◌, ◌++◌, ℕ, true, false, List, [], map, Option, Some, None, refl, sym, ap, subst, append_assoc}
use Rattle.std.specs.Prelude.{if◌then◌else◌, reverse, slice_get}
use Rattle.std.proofs.lemmas.List.{append-nil, reverse-append, reverse-reverse}
use Rattle.jg_words.specs.declared.thread.Tid.{Tid}
use Rattle.jg_words.specs.declared.thread.EnvId.{EnvId}
use Rattle.jg_words.specs.declared.object.ObjId.{ObjId}
use Rattle.jg_words.specs.declared.rule.Rule.{Rule}
use Rattle.jg_words.specs.declared.entry.Outcome.{Outcome}
use Rattle.jg_words.specs.declared.entry.Outcome.TheVariants as outcome
use Rattle.jg_words.specs.declared.call.Call.{Call}
use Rattle.jg_words.specs.Call.{fun_of}
use Rattle.jg_words.specs.Entry.{Entry}
use Rattle.jg_policy.specs.Stated.{StatedSetup}
use Rattle.jg_rules.specs.declared.answer.Answer.{Answer as AnswerOf}
use Rattle.jg_rules.specs.Parts.{Parts}
use Rattle.jg_rules.specs.Effects.{parts}
use Rattle.jg_rules.specs.Rules.{verdict}
use Rattle.jg_rules.specs.Answers.{answer}
use Rattle.jg_rules.specs.Legal.{Legal, entry_by}
use Rattle.jg_rows.specs.Columns.{Columns}
use Rattle.jg_rows.specs.Table.{functions}
use Rattle.jg_judge.specs.declared.argument.Argument.{Argument}
use Rattle.jg_judge.specs.declared.argument.Bounds.{Bounds as BoundsOf}
use Rattle.jg_judge.specs.Written.{arguments_of, row_for, written_bounds}
use Rattle.jg_core.specs.declared.fact.Fact.{Fact as FactOf}
use Rattle.jg_core.specs.declared.fact.Fact.TheVariants.{Gone as Went}
use Rattle.jg_core.specs.declared.says.Given.{Given}
use Rattle.jg_core.specs.declared.says.Given.TheVariants as given
use Rattle.jg_core.specs.Asking.{asked, by_verdict}
use Rattle.jg_core.specs.Facts.{all_gone, parts_of}
use Rattle.jg_core.specs.Implied.{given_by}
use Rattle.jg_record.specs.declared.event.Event.{Event}
use Rattle.jg_record.specs.declared.event.Event.TheVariants.{Question, Fact, Gone, Bounds}
use Rattle.jg_record.specs.declared.reply.Reply.{Reply}
use Rattle.jg_record.specs.declared.reply.Reply.TheVariants.{Nothing}
use Rattle.jg_watch.specs.Told.{Told, after, given_reply, replied, reply_of}
use Rattle.jg_watch.specs.Lines.{Answered, text_of}
use Rattle.jg_entry_facts_laws.specs.Entries.{facts_of, outcome_facts}
use Rattle.jg_entry_facts_laws.proofs.Histories.{asked_alike, facts_read_alike}
use Rattle.jg_journal_record.specs.Lines.{Line, AreLines, Tell, facts_in, tells}
use Rattle.jg_journal_record.specs.Retold.{IsQuestion, IsRecordOf, bounds_line}
use Rattle.jg_journal_record.proofs.Tellings.{lines_append}
use Rattle.jg_record_laws.specs.Laws.{AnsweredAsJudged, is_verdict, replied_as, verdicts_in, verdicts_of}
use Rattle.jg_record_laws.proofs.Alike.{same_arguments}
use Rattle.jg_record_laws.proofs.Texts.{no_text}
use Rattle.jg_record_laws.proofs.Answered.{IsStep, Match, reads}

-- ---- the lines of the facts of an entry

pub all_gone_is : (gone : List ObjId) (w : List FactOf) → all_gone gone w ≡ reverse (map (λ o. Went o) gone) ++ w
all_gone_is [] w = refl
all_gone_is (o ∷ gone) w =
    all_gone_is gone (Went o ∷ w)
    ∙ (sym (append_assoc (reverse (map (λ o. Went o) gone)) (Went o ∷ []) w)
    ∙ ap (λ (facts : List FactOf). facts ++ w) (sym (reverse-append (Went o ∷ []) (map (λ o. Went o) gone))))

-- what is told by an event that tells facts
after_telling : (e : Event) (gone : List ObjId) (told : Told) → tells e ≡ true
    → after e gone told ≡ record { facts = reverse (facts_in e gone) ++ told.facts; bounds = told.bounds }
after_telling (Fact fact) gone told is = refl
after_telling Gone gone told is = ap (λ (facts : List FactOf). let x : Told = record { facts = facts; bounds = told.bounds } in x) (all_gone_is gone told.facts)
after_telling (Question t env place) gone told is = absurd (let no : ⊥ = cc in no)
after_telling (Bounds bounds) gone told is = absurd (let no : ⊥ = cc in no)

no_verdict : (g : Given) → is_verdict (given_reply g) ≡ false
no_verdict given.Nothing = refl
no_verdict (given.Reference r) = refl
no_verdict (given.Buffer b) = refl
no_verdict (given.Environment e) = refl
no_verdict (given.Object o) = refl

told_no_verdict : (s : StatedSetup) (told : Told) (e : Event) (xs : List Argument) → tells e ≡ true → is_verdict (replied s told e xs) ≡ false
told_no_verdict s told (Fact fact) xs is = no_verdict (given_by s (parts_of told.facts) fact)
told_no_verdict s told Gone xs is = refl
told_no_verdict s told (Question t env place) xs is = absurd (let no : ⊥ = cc in no)
told_no_verdict s told (Bounds bounds) xs is = absurd (let no : ⊥ = cc in no)

passed_over : (l : Answered) (lines : List Answered) (reply : Reply) → l.reply ≡ reply → is_verdict reply ≡ false → verdicts_in (l ∷ lines) ≡ verdicts_in lines
passed_over l lines reply is none =
    ap (λ b. if b then l.reply ∷ verdicts_in lines else verdicts_in lines) (ap is_verdict is ∙ none)

-- what the lines in front of these were answered, and what was told there
record IsBehind (s : StatedSetup) (facts : List FactOf) (older : List Line) (lines : List Answered) (now : Told) : Type 0 where
  before : Told
  earlier : List Answered
  match : Match s older earlier before
  verdicts : verdicts_in lines ≡ verdicts_in earlier
  told : now ≡ record { facts = reverse facts ++ before.facts; bounds = before.bounds }

one_behind : (s : StatedSetup) (m : Line) (rest facts : List FactOf) (older : List Line) (lines : List Answered) (told : Told)
    → tells m.event ≡ true → facts ≡ facts_in m.event m.gone ++ rest → IsBehind s rest (m ∷ older) lines told → IsBehind s facts older lines told
one_behind s m rest facts older lines told telling is behind = by behind.earlier behind.match behind.verdicts
  where
    by : (earlier : List Answered) → Match s (m ∷ older) earlier behind.before → verdicts_in lines ≡ verdicts_in earlier → IsBehind s facts older lines told
    by [] match verdicts = absurd match
    by (l ∷ earlier) (before, match, step) verdicts =
        let later = step.told ∙ after_telling m.event m.gone before telling in
        record {
          before = before;
          earlier = earlier;
          match = match;
          verdicts = verdicts ∙ passed_over l earlier (replied s before m.event m.arguments) step.reply (told_no_verdict s before m.event m.arguments telling);
          told = behind.told
              ∙ (ap (λ (x : Told). let y : Told = record { facts = reverse rest ++ x.facts; bounds = x.bounds } in y) later
              ∙ ap (λ (w : List FactOf). let y : Told = record { facts = w; bounds = before.bounds } in y)
              (sym (append_assoc (reverse rest) (reverse (facts_in m.event m.gone)) before.facts)
              ∙ ap (λ (w : List FactOf). w ++ before.facts)
              (sym (reverse-append (facts_in m.event m.gone) rest) ∙ ap (λ (w : List FactOf). reverse w) (sym is))));
        }

facts_behind : (s : StatedSetup) (by : Tid) (facts : List FactOf) (ms older : List Line) (lines : List Answered) (told : Told) → Tell by ms facts
    → Match s (reverse ms ++ older) lines told → IsBehind s facts older lines told
facts_behind s by facts [] older lines told none match = record {
  before = told;
  earlier = lines;
  match = match;
  verdicts = refl;
  told = ap (λ (w : List FactOf). let y : Told = record { facts = reverse w ++ told.facts; bounds = told.bounds } in y) (sym none);
}
facts_behind s by facts (m ∷ ms) older lines told (_, telling, rest, tell, is) match =
    let moved : reverse (m ∷ ms) ++ older ≡ reverse ms ++ (m ∷ older) =
    ap (λ (ls : List Line). ls ++ older) (reverse-append (m ∷ []) ms) ∙ append_assoc (reverse ms) (m ∷ []) older in
    one_behind s m rest facts older lines told telling is
    (facts_behind s by rest ms (m ∷ older) lines told tell (subst (λ (ls : List Line). Match s ls lines told) moved match))

-- ---- the question of an entry

outcome_by : (s : StatedSetup) (bounds : BoundsOf) (p : Parts) (a : AnswerOf) (t : Tid) (env : Option EnvId) (call : Call) (row : Columns)
    (xs : List Argument) (v : Option Rule) (x : Entry) → x ≡ entry_by v a t env call
    → reply_of (by_verdict bounds s p t env row xs v) ≡ replied_as x.outcome
outcome_by s bounds p a t env call row xs None x is = ap (λ (y : Entry). replied_as y.outcome) (sym is)
outcome_by s bounds p a t env call row xs (Some rule) x is = ap (λ (y : Entry). replied_as y.outcome) (sym is)

-- it is answered by the verdict on the entry
answered_as : (s : StatedSetup) (h : List Entry) (x : Entry) (place : ℕ) → Legal s (x ∷ h) → slice_get functions place ≡ Some (row_for (fun_of x.call))
    → reply_of (asked written_bounds s (parts_of (facts_of s h)) x.tid x.env place (arguments_of s (parts s h) x.tid.0 x.call)) ≡ replied_as x.outcome
answered_as s h x place legal at =
    let p : Parts = parts_of (facts_of s h) in
    ap (λ (xs : List Argument). reply_of (asked written_bounds s p x.tid x.env place xs))
    (sym (same_arguments s p (parts s h) (facts_read_alike s h legal.1) x.tid.0 x.call))
    ∙ (ap reply_of (asked_alike s h x.tid x.env x.call place legal.1 at)
    ∙ outcome_by s written_bounds p (answer s (parts s h) x.tid x.call) x.tid x.env x.call (row_for (fun_of x.call)) (arguments_of s p x.tid.0 x.call)
    (verdict s (parts s h) x.tid.0 x.env x.call) x legal.0)

-- ---- a history

-- what is told after the history, and its verdicts
abbrev told_by : StatedSetup → List Entry → Told
told_by s h = record { facts = facts_of s h; bounds = written_bounds }

record Ends (s : StatedSetup) (h : List Entry) (lines : List Answered) (now : Told) : Type 0 where
  verdicts : verdicts_in lines ≡ verdicts_of h
  told : now ≡ told_by s h

-- the lines of its record, the newest first
abbrev OfHistory : StatedSetup → List Entry → List Line → Type 0
OfHistory s [] ms = ms ≡ []
OfHistory s (x ∷ h) ms = (facts : List Line) × (question : Line) × (front : List Line) × OfHistory s h front × IsQuestion s (parts s h) x question
    × Tell x.tid facts (reverse (outcome_facts s (parts s h) x.tid x.call x.outcome x.object)) × (ms ≡ reverse facts ++ (question ∷ front))

question_ends : (s : StatedSetup) (h : List Entry) (x : Entry) (m : Line) (l : Answered) (lines : List Answered) (before told : Told) → Legal s (x ∷ h)
    → IsQuestion s (parts s h) x m → Ends s h lines before → IsStep s before m l told
    → (verdicts_in (l ∷ lines) ≡ verdicts_of (x ∷ h)) × (told ≡ told_by s h)
question_ends s h x m l lines before told legal asks ends step =
    let reply : l.reply ≡ replied_as x.outcome =
    step.reply
    ∙ (ap (λ (e : Event). replied s before e m.arguments) asks.asks
    ∙ (ap (λ (w : Told). replied s w (Question x.tid x.env asks.place) m.arguments) ends.told
    ∙ (ap (λ (xs : List Argument). replied s (told_by s h) (Question x.tid x.env asks.place) xs) asks.operands
    ∙ answered_as s h x asks.place legal asks.function))) in
    let counts : is_verdict l.reply ≡ true = ap is_verdict reply ∙ every x.outcome in (
      ap (λ b. if b then l.reply ∷ verdicts_in lines else verdicts_in lines) counts
          ∙ (ap (λ (r : Reply). r ∷ verdicts_in lines) reply ∙ ap (λ (rs : List Reply). replied_as x.outcome ∷ rs) ends.verdicts),
      step.told ∙ (ap (λ (e : Event). after e m.gone before) asks.asks ∙ ends.told),
    )
  where
    every : (o : Outcome) → is_verdict (replied_as o) ≡ true
    every (outcome.Passed reply) = refl
    every (outcome.Denied rule) = refl

bounds_end : (s : StatedSetup) (b : Line) (lines : List Answered) (told : Told) → b.event ≡ Bounds written_bounds → Match s (b ∷ []) lines told
    → Ends s [] lines told
bounds_end s b [] told is match = absurd match
bounds_end s b (l ∷ m ∷ lines) told is (before, match, step) = absurd match
bounds_end s b (l ∷ []) told is (before, none, step) = record {
  verdicts = passed_over l [] Nothing (step.reply ∙ ap (λ (e : Event). replied s before e b.arguments) is) refl;
  told = step.told ∙ (ap (λ (e : Event). after e b.gone before) is ∙ ap (λ (w : Told). after (Bounds written_bounds) b.gone w) none);
}

entry_ends : (s : StatedSetup) (h : List Entry) (x : Entry) (m : Line) (older : List Line) (lines : List Answered) (told : Told) → Legal s (x ∷ h)
    → IsQuestion s (parts s h) x m
    → ((earlier : List Answered) (before : Told) → Match s older earlier before → Ends s h earlier before)
    → IsBehind s (reverse (outcome_facts s (parts s h) x.tid x.call x.outcome x.object)) (m ∷ older) lines told → Ends s (x ∷ h) lines told
entry_ends s h x m older lines told legal asks earlier_ends behind = by behind.earlier behind.match behind.verdicts
  where
    by : (earlier : List Answered) → Match s (m ∷ older) earlier behind.before → verdicts_in lines ≡ verdicts_in earlier → Ends s (x ∷ h) lines told
    by [] match verdicts = absurd match
    by (l ∷ earlier) (before, match, step) verdicts =
        let new : List FactOf = outcome_facts s (parts s h) x.tid x.call x.outcome x.object in
        let both = question_ends s h x m l earlier before behind.before legal asks (earlier_ends earlier before match) step in
        record {
          verdicts = verdicts ∙ both.0;
          told = behind.told
              ∙ (ap (λ (w : Told). let y : Told = record { facts = reverse (reverse new) ++ w.facts; bounds = w.bounds } in y) both.1
              ∙ ap (λ (w : List FactOf). let y : Told = record { facts = w ++ facts_of s h; bounds = written_bounds } in y) (reverse-reverse new));
        }

history_ends : (s : StatedSetup) (h : List Entry) (b : Line) (ms : List Line) (lines : List Answered) (told : Told) → b.event ≡ Bounds written_bounds
    → Legal s h → OfHistory s h ms → Match s (ms ++ b ∷ []) lines told → Ends s h lines told
history_ends s [] b ms lines told event legal none match =
    bounds_end s b lines told event (subst (λ (ls : List Line). Match s (ls ++ b ∷ []) lines told) none match)
history_ends s (x ∷ h) b ms lines told event legal (facts, question, front, of, asks, tell, is) match =
    let split : ms ++ b ∷ [] ≡ reverse facts ++ (question ∷ (front ++ b ∷ [])) =
    ap (λ (ls : List Line). ls ++ b ∷ []) is ∙ append_assoc (reverse facts) (question ∷ front) (b ∷ []) in
    entry_ends s h x question (front ++ b ∷ []) lines told legal asks
    (λ earlier before older. history_ends s h b front earlier before event legal.1 of older)
    (facts_behind s x.tid (reverse (outcome_facts s (parts s h) x.tid x.call x.outcome x.object)) facts (question ∷ (front ++ b ∷ [])) lines told tell
    (subst (λ (ls : List Line). Match s ls lines told) split match))

-- ---- a record

-- the lines of a record of a history
record IsOfRecord (s : StatedSetup) (h : List Entry) (text : List ℕ) : Type 0 where
  lines : List Line
  of : OfHistory s h lines
  are : AreLines s (reverse lines) text

of_record : (s : StatedSetup) (h : List Entry) (text : List ℕ) → IsRecordOf s h text → IsOfRecord s h text
of_record s [] text none = record { lines = []; of = refl; are = none }
of_record s (x ∷ h) text (front, before, (asked, (question, is, (own, spelt, first)), (facts, tell, more, are, rest))) =
    let old = of_record s h front before in
    let with_question : AreLines s (reverse old.lines ++ question ∷ []) (front ++ (own ++ 10 ∷ [])) =
    lines_append s (reverse old.lines) (question ∷ []) front (own ++ 10 ∷ []) old.are (own, [], spelt, refl, refl) in
    let with_facts : AreLines s ((reverse old.lines ++ question ∷ []) ++ facts) ((front ++ (own ++ 10 ∷ [])) ++ more) =
    lines_append s (reverse old.lines ++ question ∷ []) facts (front ++ (own ++ 10 ∷ [])) more with_question are in
    let lines_are : (reverse old.lines ++ question ∷ []) ++ facts ≡ reverse (reverse facts ++ (question ∷ old.lines)) =
    sym (reverse-append (reverse facts) (question ∷ old.lines)
    ∙ (ap (λ (ls : List Line). reverse (question ∷ old.lines) ++ ls) (reverse-reverse facts)
    ∙ ap (λ (ls : List Line). ls ++ facts) (reverse-append (question ∷ []) old.lines))) in
    record {
      lines = reverse facts ++ (question ∷ old.lines);
      of = (facts, question, old.lines, old.of, is, tell, refl);
      are = subst (λ (ls : List Line). AreLines s ls text) lines_are
          (subst (AreLines s ((reverse old.lines ++ question ∷ []) ++ facts)) (sym (rest ∙ ap (λ (t : List ℕ). t ++ more) first)) with_facts);
    }

none_left : (s : StatedSetup) (left : List Line) → AreLines s left [] → left ≡ []
none_left s [] are = refl
none_left s (m ∷ left) (own, rest, is, are, text) = absurd (no_text own rest (sym text))

pub answered_as_judged : AnsweredAsJudged
answered_as_judged s h text shown lines told few legal (first, rest, is, of, written) answered same =
    let known = of_record s h rest of in
    let all : List Line = bounds_line ∷ reverse known.lines in
    let are : AreLines s all text = (first, rest, is, known.are, written ∙ append_assoc first (10 ∷ []) rest) in
    let read = reads s shown all text lines told [] few are answered (append-nil (text_of lines) ∙ same) in
    let whole : all ≡ reverse read.done =
    read.whole ∙ (ap (λ (ls : List Line). reverse read.done ++ ls) (none_left s read.left read.text) ∙ append-nil (reverse read.done)) in
    let done_is : read.done ≡ known.lines ++ bounds_line ∷ [] =
    sym (reverse-reverse read.done)
    ∙ (ap (λ (ls : List Line). reverse ls) (sym whole)
    ∙ (reverse-append (bounds_line ∷ []) (reverse known.lines) ∙ ap (λ (ls : List Line). ls ++ bounds_line ∷ []) (reverse-reverse known.lines))) in
    let match : Match s (known.lines ++ bounds_line ∷ []) lines told = subst (λ (ls : List Line). Match s ls lines told) done_is read.answered in
    let ends = history_ends s h bounds_line known.lines lines told refl legal known.of match in
    (ends.verdicts, ends.told)
