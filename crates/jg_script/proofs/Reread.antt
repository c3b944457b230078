-- What the lines replayed so far, and the next one, say of the whole.
use Rattle.std.proofs.Common.{◌≡◌, ◌≢◌, ℕ, ◌+◌, ◌<◌, ◌≤◌, Bool, List, [], ◌∷◌, ◌++◌, length, Option, Some, None, IfSome, Result, Ok, Err, refl, sym, ◌∙◌, ap, subst, arith, append_assoc, length-append, inl, inr}
use Rattle.std.specs.Io.KnownBytes.{Consumes, IsAtEnd}
use Rattle.std.proofs.KnownBytes.{Consumes-trans, Consumes-nil}
use Rattle.std.proofs.lemmas.List.{append-nil}
use Rattle.jg_words.specs.Entry.{Entry}
use Rattle.jg_policy.specs.Stated.{StatedSetup}
use Rattle.jg_rules.specs.Legal.{Legal}
use Rattle.jg_text.specs.Begun.{BeginsCall}
use Rattle.jg_text.specs.Journal.{journal_text}
use Rattle.jg_guard.specs.Guard.{State}
use Rattle.jg_lines.specs.declared.line.Taken.{Taken}
use Rattle.jg_lines.specs.declared.line.Taken.TheVariants.{Line, LastLine, Nothing, TooLong}
use Rattle.jg_script.specs.declared.replay.Verdict.TheVariants as verdict
use Rattle.jg_script.specs.declared.replay.Difference.{Difference}
use Rattle.jg_script.specs.declared.replay.Difference.TheVariants.{NoLineFeed, NoCall, OtherOutcome}
use Rattle.jg_script.specs.declared.replay.Replayed.{Replayed}
use Rattle.jg_script.specs.declared.replay.Replayed.TheVariants as replayed
use Rattle.jg_script.specs.declared.run_fault.RunFault.{RunFault}
use Rattle.jg_script.specs.declared.run_fault.RunFault.TheVariants.{Script, Limit, NoMemory, Read, Write}
use Rattle.jg_script.specs.Checked.{IsScript, ReaderFails}
use Rattle.jg_lines.specs.Devices.{IsOneLine, TakesBytes, TakesFront}
use Rattle.jg_script.specs.Entries.{IsNoEntry, ReplaysLine, IsPast}
use Rattle.jg_script.specs.Replayed.{IsHistory, GoesOn, IsDifferent, IsTextThen, Finds, ReplaysJournal, Verifies, verdict_in}
use Rattle.jg_lines.specs.TextLines.{IsCut, IsNextLine, ReadsOneMore}
use Rattle.jg_script.proofs.Replaying.{call_in, call_goes_on, ends_with_feed}

-- what a reading knows before a line: what was read is the text of the guard's journal, a legal
-- history of as many entries as lines were read
pub record HasReplayed (input input' : Option (List ℕ)) (setup : StatedSetup) (limit line : ℕ) (guard : State) : Type 0 where
  pub read : Consumes input input' (journal_text guard.journal)
  pub history : IsHistory setup limit guard.journal
  pub counted : line ≡ length guard.journal + 1
  pub setup_kept : guard.setup ≡ setup
  pub limit_kept : guard.limit ≡ limit

then : (input mid : Option (List ℕ)) (g : List Entry) (P : List ℕ → Type 0) → Consumes input mid (journal_text g) → IfSome mid P → IsTextThen input g P
then None mid g P e p = tt
then (Some text) None g P e p = absurd e
then (Some text) (Some rest) g P e p = (rest, e, p)

-- what the reader had left before a line is the line and what follows it
left : (mid input' : Option (List ℕ)) (text : List ℕ) (taken : Taken) (P : List ℕ → Type 0) → TakesBytes mid input' text taken → taken ≢ Nothing
    → ((tail : List ℕ) → IsCut text tail → 0 < length (text ++ tail) → P (text ++ tail)) → IfSome mid P
left None input' text taken P bytes some p = tt
left (Some rest) None text Line P bytes some p = absurd bytes
left (Some rest) None text LastLine P bytes some p = absurd bytes.0
left (Some rest) None text Nothing P bytes some p = absurd bytes.0
left (Some rest) None text TooLong P bytes some p = absurd bytes.0
left (Some rest) (Some back) text Line P bytes some p =
    subst P (sym (bytes ∙ append_assoc text (10 ∷ []) back)) (p (10 ∷ back) (inr (inl (back, refl))) (omega (arith, length-append text (10 ∷ back))))
left (Some rest) (Some back) text LastLine P bytes some p =
    let long = bytes.2 in
    subst P (sym bytes.0) (p back (inl bytes.1) (omega (arith, length-append text back, long)))
left (Some rest) (Some back) text Nothing P bytes some p = absurd (some refl)
left (Some rest) (Some back) text TooLong P bytes some p =
    let long = bytes.1 in
    subst P (sym bytes.0) (p back (inr (inr long)) (omega (arith, length-append text back, long)))

ended : (mid input' : Option (List ℕ)) (text : List ℕ) (P : List ℕ → Type 0) → Consumes mid input' text → IsAtEnd input' → P text → IfSome mid P
ended None input' text P taken done p = tt
ended (Some rest) None text P taken done p = absurd taken
ended (Some rest) (Some back) text P taken done p = subst P (sym (taken ∙ ap (λ (bs : List ℕ). text ++ bs) done ∙ append-nil text)) p

all_read : (input mid input' : Option (List ℕ)) (g : List Entry) → Consumes input mid (journal_text g) → Consumes mid input' [] → IsAtEnd input'
    → IfSome input (λ all. all ≡ journal_text g)
all_read None mid input' g e taken done = tt
all_read (Some all) None input' g e taken done = absurd e
all_read (Some all) (Some rest) None g e taken done = absurd taken
all_read (Some all) (Some rest) (Some back) g e taken done = e ∙ ap (λ (bs : List ℕ). journal_text g ++ bs) (taken ∙ done) ∙ append-nil (journal_text g)

one_more : (input mid input' : Option (List ℕ)) (g : List Entry) → Consumes input mid (journal_text g) → TakesFront mid input'
    → ReadsOneMore input input' (journal_text g)
one_more input mid input' g e (bytes, front, taken) = (bytes, front, Consumes-trans input mid input' (journal_text g) bytes e taken)

-- a line of an entry is taken whole
whole : (mid input' : Option (List ℕ)) (text : List ℕ) (taken : Taken) → TakesBytes mid input' text taken → taken ≢ Nothing → taken ≢ LastLine
    → length text ≤ 65536
    → Consumes mid input' (text ++ 10 ∷ [])
whole mid input' text Line bytes some more short = bytes
whole mid input' text LastLine bytes some more short = absurd (more refl)
whole mid input' text Nothing bytes some more short = absurd (some refl)
whole mid input' text TooLong bytes some more short = (let long = bytes.1 in absurd (omega (arith, long, short)))

pub started : (input : Option (List ℕ)) (setup : StatedSetup) (limit : ℕ) (guard : State) → guard.setup ≡ setup → guard.limit ≡ limit → guard.journal ≡ []
    → HasReplayed input input setup limit 1 guard
started input setup limit guard same_setup same_limit none =
    let P : List Entry → Type 0 = λ g. Consumes input input (journal_text g) × IsHistory setup limit g × (1 ≡ length g + 1) in
    let all = subst P (sym none) (Consumes-nil input, record { legal = tt; spelt = tt; within = omega arith }, refl) in
    record { read = all.0; history = all.1; counted = all.2; setup_kept = same_setup; limit_kept = same_limit }

module _ (input mid input' : Option (List ℕ)) (setup : StatedSetup) (limit line : ℕ) (old : State) (h : HasReplayed input mid setup limit line old)
    (text : List ℕ) where
  pub unread : TakesFront mid input' → ReplaysJournal input input' setup limit old.journal text (Err (Read line))
  unread front = (old.journal, h.history, (one_more input mid input' old.journal h.read front, h.counted), refl)

  pub no_memory : TakesFront mid input' → ReplaysJournal input input' setup limit old.journal text (Err (NoMemory line))
  no_memory front = (old.journal, h.history, (one_more input mid input' old.journal h.read front, h.counted), inl refl)

  pub is_legal : Consumes mid input' [] → IsAtEnd input' → ReplaysJournal input input' setup limit old.journal text (Ok replayed.Legal)
  is_legal taken done = (old.journal, h.history, (all_read input mid input' old.journal h.read taken done, done), refl)

  pub is_cut_short : Consumes mid input' text → IsAtEnd input' → 0 < length text → IsOneLine text → TakesFront mid input' → line ≤ limit
      → ReplaysJournal input input' setup limit old.journal text (Ok (replayed.Differs line NoLineFeed))
  is_cut_short taken done some one front below =
      let counted = h.counted in
      let differs : IsDifferent setup limit old.journal text = record {
        some = some;
        within = λ _ goes. (let (x, more, legal, fits, e) = goes in ends_with_feed x text more one e);
        past = λ full. absurd (omega (arith, counted, below, full));
      } in
      let last : List ℕ → Type 0 = λ rest. IsNextLine text rest × (rest ≡ text) in (
        old.journal,
        h.history,
        (
          then input mid old.journal (IsDifferent setup limit old.journal) h.read
              (ended mid input' text (IsDifferent setup limit old.journal) taken done differs),
          one_more input mid input' old.journal h.read front,
          counted,
        ),
        (refl, then input mid old.journal last h.read (ended mid input' text last taken done ((one, ([], sym (append-nil text), inl refl)), refl)), done),
      )

  -- the line itself comes next
  next_is : (taken : Taken) → TakesBytes mid input' text taken → taken ≢ Nothing → IsOneLine text → IsTextThen input old.journal (IsNextLine text)
  next_is taken bytes some one =
      then input mid old.journal (IsNextLine text) h.read (left mid input' text taken (IsNextLine text) bytes some (λ tail cut long. (one, (tail, refl, cut))))

  -- the line is that of no entry with which the journal stays legal
  differs_here : (taken : Taken) → TakesBytes mid input' text taken → taken ≢ Nothing → IsOneLine text → TakesFront mid input' → line ≤ limit
      → IsNoEntry old text
      → Finds input input' setup limit old.journal (Ok (verdict.Differs line))
  differs_here taken bytes some one front below other =
      let counted = h.counted in
      let differs : (tail : List ℕ) → IsCut text tail → 0 < length (text ++ tail) → IsDifferent setup limit old.journal (text ++ tail) =
      λ tail cut long. record {
        some = long;
        within = λ _. subst (λ (s : StatedSetup). ¬ GoesOn s old.journal (text ++ tail)) h.setup_kept (other tail one cut);
        past = λ full. absurd (omega (arith, counted, below, full));
      } in (
        then input mid old.journal (IsDifferent setup limit old.journal) h.read
            (left mid input' text taken (IsDifferent setup limit old.journal) bytes some differs),
        one_more input mid input' old.journal h.read front,
        counted,
      )

  pub is_other : (taken : Taken) (new : State) (how : Difference) → TakesBytes mid input' text taken → taken ≢ Nothing → IsOneLine text → TakesFront mid input'
      → line ≤ limit
      → ReplaysLine old new text line (Ok (Some how)) → ReplaysJournal input input' setup limit new.journal text (Ok (replayed.Differs line how))
  is_other taken new NoLineFeed bytes some one front below none = absurd none
  is_other taken new NoCall bytes some one front below (other, same, begins) =
      (old.journal, h.history, differs_here taken bytes some one front below other, (same, next_is taken bytes some one, begins))
  is_other taken new OtherOutcome bytes some one front below (other, (e, took, begins, unlike)) =
      (old.journal, h.history, differs_here taken bytes some one front below other, (e, took.journal, next_is taken bytes some one, begins, unlike))

  pub is_past : (taken : Taken) (result : Result Replayed RunFault) → TakesBytes mid input' text taken → taken ≢ Nothing → IsOneLine text
      → TakesFront mid input' → limit < line
      → IsPast text line result → ReplaysJournal input input' setup limit old.journal text result
  is_past taken (Ok (replayed.Differs l NoCall)) bytes some one front above (is, none) =
      let counted = h.counted in
      let differs : (tail : List ℕ) → IsCut text tail → 0 < length (text ++ tail) → IsDifferent setup limit old.journal (text ++ tail) =
      λ tail cut long. record {
        some = long;
        within = λ below. absurd (omega (arith, counted, above, below));
        past = λ _ begins. none (call_in text tail cut begins);
      } in (
        old.journal,
        h.history,
        (
          then input mid old.journal (IsDifferent setup limit old.journal) h.read
              (left mid input' text taken (IsDifferent setup limit old.journal) bytes some differs),
          one_more input mid input' old.journal h.read front,
          is ∙ counted,
        ),
        (refl, next_is taken bytes some one, none),
      )
  is_past taken (Ok (replayed.Differs l NoLineFeed)) bytes some one front above none = absurd none
  is_past taken (Ok (replayed.Differs l OtherOutcome)) bytes some one front above none = absurd none
  is_past taken (Ok replayed.Legal) bytes some one front above none = absurd none
  is_past taken (Err (Limit l)) bytes some one front above (is, begins_call) =
      let (t, env, call, begun) = begins_call in
      let counted = h.counted in
      let within = (h.history).within in
      let begins : (tail : List ℕ) → IsCut text tail → 0 < length (text ++ tail) → BeginsCall (text ++ tail) =
      λ tail cut long. call_goes_on text tail t env call begun in (
        old.journal,
        h.history,
        (
          then input mid old.journal BeginsCall h.read (left mid input' text taken BeginsCall bytes some begins),
          one_more input mid input' old.journal h.read front,
          is
              ∙ counted,
          omega (arith, counted, above, within),
        ),
        refl,
      )
  is_past taken (Err (NoMemory l)) bytes some one front above is =
      (old.journal, h.history, (one_more input mid input' old.journal h.read front, is ∙ h.counted), inl refl)
  is_past taken (Err (Script l fault)) bytes some one front above none = absurd none
  is_past taken (Err (Read l)) bytes some one front above none = absurd none
  is_past taken (Err (Write l)) bytes some one front above none = absurd none

  pub replay_failed : (line_text : List ℕ) (new : State) (fault : RunFault) → TakesFront mid input' → ReplaysLine old new line_text line (Err fault)
      → ReplaysJournal input input' setup limit new.journal text (Err fault)
  replay_failed line_text new (NoMemory l) front (is, inl same) =
      (old.journal, h.history, (one_more input mid input' old.journal h.read front, is ∙ h.counted), inl same)
  replay_failed line_text new (NoMemory l) front (is, inr (e, took)) =
      (old.journal, h.history, (one_more input mid input' old.journal h.read front, is ∙ h.counted), inr (e, took.journal))
  replay_failed line_text new (Script l fault) front is = absurd is
  replay_failed line_text new (Limit l) front is = absurd is
  replay_failed line_text new (Read l) front is = absurd is
  replay_failed line_text new (Write l) front is = absurd is

  pub goes_on : (taken : Taken) (new : State) → TakesBytes mid input' text taken → taken ≢ Nothing → taken ≢ LastLine → new.setup ≡ old.setup
      → new.limit ≡ old.limit
      → (Legal old.setup old.journal → Legal new.setup new.journal) → ReplaysLine old new text line (Ok None)
      → HasReplayed input input' setup limit (line + 1) new
  goes_on taken new bytes some more same_setup same_limit legal (e, took, fits, is, short) =
      let counted = h.counted in
      let room = took.room in
      let limited = h.limit_kept in
      let len = ap length took.journal in
      let line_read = whole mid input' text taken bytes some more short in
      let before : Legal old.setup old.journal = subst (λ (s : StatedSetup). Legal s old.journal) (sym h.setup_kept) (h.history).legal in
      record {
        read = subst (Consumes input input') (ap (λ (bs : List ℕ). journal_text old.journal ++ bs) (sym is) ∙ sym (ap journal_text took.journal))
            (Consumes-trans input mid input' (journal_text old.journal) (text ++ 10 ∷ []) h.read line_read);
        history = record {
          legal = subst (λ (s : StatedSetup). Legal s new.journal) (same_setup ∙ h.setup_kept) (legal before);
          spelt = subst IsScript (sym took.journal) (fits.0, (h.history).spelt);
          within = omega (arith, len, room, limited);
        };
        counted = omega (arith, len, counted);
        setup_kept = same_setup ∙ h.setup_kept;
        limit_kept = same_limit ∙ h.limit_kept;
      }

-- how the text differs is left out
pub verdict_found : (input input' : Option (List ℕ)) (setup : StatedSetup) (limit : ℕ) (after : List Entry) (text : List ℕ) (result : Result Replayed RunFault)
    → ReplaysJournal input input' setup limit after text result → Verifies input input' setup limit (verdict_in result)
verdict_found input input' setup limit after text result (g, history, finds, leaves) = (g, history, finds)

-- the reader isn't at fault where a line past the limit is answered, or a line isn't replayed
pub past_sound : (old new : Bool) (text : List ℕ) (line : ℕ) (result : Result Replayed RunFault) → new ≡ old → IsPast text line result
    → ReaderFails old new result
past_sound old new text line (Ok (replayed.Differs l NoCall)) same is = same
past_sound old new text line (Ok (replayed.Differs l NoLineFeed)) same none = absurd none
past_sound old new text line (Ok (replayed.Differs l OtherOutcome)) same none = absurd none
past_sound old new text line (Ok replayed.Legal) same none = absurd none
past_sound old new text line (Err (Limit l)) same is = same
past_sound old new text line (Err (NoMemory l)) same is = same
past_sound old new text line (Err (Script l fault)) same none = absurd none
past_sound old new text line (Err (Read l)) same none = absurd none
past_sound old new text line (Err (Write l)) same none = absurd none

pub failed_sound : (old new : Bool) (before after : State) (text : List ℕ) (line : ℕ) (fault : RunFault) → new ≡ old
    → ReplaysLine before after text line (Err fault)
    → ReaderFails {N = Replayed} old new (Err fault)
failed_sound old new before after text line (NoMemory l) same is = same
failed_sound old new before after text line (Script l fault) same none = absurd none
failed_sound old new before after text line (Limit l) same none = absurd none
failed_sound old new before after text line (Read l) same none = absurd none
failed_sound old new before after text line (Write l) same none = absurd none
