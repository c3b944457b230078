-- What the lines taken so far, and the answer to the next one, say of the whole.
use Rattle.std.proofs.Common.{◌≡◌, ◌≢◌, ℕ, ◌+◌, ◌≤◌, List, [], ◌∷◌, ◌++◌, length, Option, Some, None, Ok, Err, ap, sym, ◌∙◌, subst, refl, arith, inl, inr, ◌⊎◌}
use Rattle.std.specs.Io.KnownBytes.{Appends, Consumes, Keeps}
use Rattle.jg_words.specs.Entry.{Entry}
use Rattle.jg_text.specs.declared.fault.ScriptFault.TheVariants.{LineTooLong}
use Rattle.jg_text.specs.Faults.{IsFirstFault}
use Rattle.jg_text.specs.Journal.{call_lines, journal_text}
use Rattle.jg_guard.specs.Guard.{State}
use Rattle.jg_script.specs.declared.run_fault.RunFault.{RunFault}
use Rattle.jg_script.specs.declared.run_fault.RunFault.TheVariants.{Script, Limit, NoMemory, Read, Write}
use Rattle.jg_script.specs.Answered.{Answers, Journals, KeepsFaulty}
use Rattle.jg_script.specs.Checked.{Checks, HoldsFaulty, Reads, script_text, IsWellFormed, WritesAll, IsScript}
use Rattle.jg_lines.specs.TextLines.{lines_of, LinesTaken, BeginsTooLong, BeginsWith, AreFollowedBy, TakesOneMore, ReadsOneMore}
use Rattle.jg_lines.specs.Devices.{TakesFront}
use Rattle.jg_lines.proofs.TextLines.{followed, begun, begun_before, one_more}
use Rattle.jg_script.proofs.Known.{followed_by_long}
use Rattle.std.proofs.KnownBytes.{Appends-nil, Appends-kept, Appends-trans, Consumes-nil, Consumes-trans}

-- the lines of the longer history
lines_of_calls : (a c : Option (List ℕ)) (old new : State) (text : List ℕ) (e : Entry) → Journals old new text e
    → LinesTaken a c (call_lines old.journal ++ text ∷ [])
    → LinesTaken a c (call_lines new.journal)
lines_of_calls a c old new text e j taken =
    subst (LinesTaken a c) (ap (λ t. call_lines old.journal ++ t ∷ []) j.spelt.text ∙ sym (ap call_lines j.journal)) taken

-- what a check knows before a line: the lines taken are those of the guard's journal, their text
-- is written, and as many are taken
pub record HasChecked (input input' bytes bytes' : Option (List ℕ)) (limit line : ℕ) (guard : State) : Type 0 where
  pub read : LinesTaken input input' (call_lines guard.journal)
  pub written : WritesAll bytes bytes' guard.journal
  pub counted : line ≡ length guard.journal + 1
  pub limited : guard.limit ≡ limit

-- what is held back may be handed on
pub still_checked : (input mid bytes part part' : Option (List ℕ)) (limit line : ℕ) (guard : State) → HasChecked input mid bytes part limit line guard
    → Keeps part part'
    → HasChecked input mid bytes part' limit line guard
still_checked input mid bytes part part' limit line guard h kept = record {
  read = h.read;
  written = Appends-kept _ _ _ _ h.written kept;
  counted = h.counted;
  limited = h.limited;
}

-- where nothing is read and the journal is empty
begins : (input : Option (List ℕ)) → BeginsWith input []
begins None = tt
begins (Some text) = (lines_of text, refl)

pub none_checked : (input bytes : Option (List ℕ)) (limit : ℕ) (h : List Entry) → h ≡ [] → Checks input input bytes bytes limit h (Err (NoMemory 1))
none_checked input bytes limit h none =
    (subst (λ (g : List Entry). BeginsWith input (call_lines g)) (sym none) (begins input), ([], inl none, Appends-nil bytes, refl))

pub none_read : (input : Option (List ℕ)) (h : List Entry) → h ≡ [] → Reads input input h (Err (NoMemory 1))
none_read input h none = (
  [],
  inl none,
  refl,
  one_more input input input [] (Consumes-nil input)
      ([], ([], (λ k d below. absurd (omega (arith, below))), inl refl, omega arith), Consumes-nil input),
)

pub long_answered : (input mid input' bytes bytes' : Option (List ℕ)) (limit line : ℕ) (guard : State) → HasChecked input mid bytes bytes' limit line guard
    → length guard.journal ≤ limit
    → BeginsTooLong mid → Checks input input' bytes bytes' limit guard.journal (Err (Script line LineTooLong))
long_answered input mid input' bytes bytes' limit line guard h within long =
    (followed_by_long input mid (call_lines guard.journal) h.read long, (λ other. absurd (other refl)), h.written, h.counted, within)

module _ (input mid input' bytes part bytes' : Option (List ℕ)) (limit line : ℕ) (old new : State) (text : List ℕ) where
  -- one more line is taken, and answered
  pub goes_on : HasChecked input mid bytes part limit line old → LinesTaken input input' (call_lines old.journal ++ text ∷ []) → new.limit ≡ old.limit
      → Answers part bytes' old new text line (Ok tt)
      → HasChecked input input' bytes bytes' limit (line + 1) new × (length new.journal ≤ limit) × (IsScript old.journal → IsScript new.journal)
  goes_on h taken kept (e, j, more) =
      let len = ap length j.journal in
      let room = j.room in
      let limited = h.limited in
      let counted = h.counted in (
        record {
          read = lines_of_calls input input' old new text e j taken;
          written = subst (λ (g : List ℕ). Appends bytes bytes' g) (sym (ap journal_text j.journal)) (Appends-trans _ _ _ _ _ h.written more);
          counted = omega arith;
          limited = kept ∙ h.limited;
        },
        omega arith,
        λ script. subst IsScript (sym j.journal) ((j.spelt.tid, j.spelt.env, j.spelt.call), script),
      )

  pub answered_err : (fault : RunFault) → HasChecked input mid bytes part limit line old → length old.journal ≤ limit
      → LinesTaken input input' (call_lines old.journal ++ text ∷ [])
      → Answers part bytes' old new text line (Err fault)
      → Checks input input' bytes bytes' limit new.journal (Err fault)
  answered_err (Script l f) h within taken (device, same, first, is) =
      let P : List Entry → Type 0 = λ k. AreFollowedBy input (call_lines k) (λ next. IsFirstFault next f)
      × (f ≢ LineTooLong → TakesOneMore input input' (call_lines k)) × WritesAll bytes bytes' k
      × (l ≡ length k + 1) × (length k ≤ limit) in
      let Q : Option (List ℕ) → Type 0 = λ d. WritesAll bytes d old.journal in
      subst P (sym same) (
        followed _ _ _ text (λ next. IsFirstFault next f) taken first,
        (λ _. (text, taken)),
        subst Q (sym device) h.written,
        is
            ∙ h.counted,
        within,
      )
  answered_err (Limit l) h within taken (device, same, well, full, is) =
      let P : List Entry → Type 0 = λ k. AreFollowedBy input (call_lines k) IsWellFormed × TakesOneMore input input' (call_lines k) × WritesAll bytes bytes' k
      × (l ≡ limit + 1) × (length k ≡ limit) in
      let Q : Option (List ℕ) → Type 0 = λ d. WritesAll bytes d old.journal in
      let limited = h.limited in
      let counted = h.counted in
      subst P (sym same) (followed _ _ _ text IsWellFormed taken well, (text, taken), subst Q (sym device) h.written, omega arith, full ∙ h.limited)
  answered_err (NoMemory l) h within taken (device, inl same, is) =
      let Q : Option (List ℕ) → Type 0 = λ d. WritesAll bytes d old.journal in
      let P : List Entry → Type 0 =
      λ k. BeginsWith input (call_lines k) × ((g : List Entry) × ((k ≡ g) ⊎ ((e : Entry) × (k ≡ e ∷ g))) × WritesAll bytes bytes' g × (l ≡ length g + 1)) in
      subst P (sym same) (begun_before _ _ _ text taken, (old.journal, inl refl, subst Q (sym device) h.written, is ∙ h.counted))
  answered_err (NoMemory l) h within taken (device, inr (e, j), is) =
      let Q : Option (List ℕ) → Type 0 = λ d. WritesAll bytes d old.journal in
      (begun _ _ _ (lines_of_calls _ _ old new text e j taken), (old.journal, inr (e, j.journal), subst Q (sym device) h.written, is ∙ h.counted))
  answered_err (Read l) h within taken none = absurd none
  answered_err (Write l) h within taken ((e, j, front), is) =
      let len = ap length j.journal in
      let counted = h.counted in
      (begun _ _ _ (lines_of_calls _ _ old new text e j taken), (e, old.journal, j.journal, (part, h.written, front)), omega arith)

  -- a faulty line is still there
  pub answered_faulty : (text' : List ℕ) (fault : RunFault) → LinesTaken input input' (call_lines old.journal ++ text ∷ [])
      → Answers part bytes' old new text line (Err fault)
      → KeepsFaulty text text' (Err fault) → HoldsFaulty input new.journal text' (Err fault)
  answered_faulty text' (Script l f) taken (device, same, first, is) kept =
      let P : List Entry → Type 0 = λ k. AreFollowedBy input (call_lines k) (λ next. next ≡ text') in
      λ short. (subst P (sym same) (followed _ _ _ text (λ next. next ≡ text') taken (sym kept)), subst (λ (t : List ℕ). IsFirstFault t f) (sym kept) first)
  answered_faulty text' (Limit l) taken answers kept = tt
  answered_faulty text' (NoMemory l) taken answers kept = tt
  answered_faulty text' (Read l) taken answers kept = tt
  answered_faulty text' (Write l) taken answers kept = tt

-- what was read
pub line_reads : (input mid input' : Option (List ℕ)) (old new : State) (text : List ℕ) (e : Entry) → Consumes input mid (script_text old.journal)
    → Consumes mid input' (text ++ 10 ∷ [])
    → Journals old new text e → Consumes input input' (script_text new.journal)
line_reads input mid input' old new text e before taken j =
    subst (Consumes input input') (ap (λ (t : List ℕ). script_text old.journal ++ (t ++ 10 ∷ [])) (j.spelt.text) ∙ sym (ap script_text j.journal))
    (Consumes-trans input mid input' (script_text old.journal) (text ++ 10 ∷ []) before taken)

pub answered_reads : (input mid input' bytes part bytes' : Option (List ℕ)) (limit line : ℕ) (old new : State) (text : List ℕ) (fault : RunFault)
    → HasChecked input mid bytes part limit line old
    → Consumes input mid (script_text old.journal) → TakesFront mid input' → Answers part bytes' old new text line (Err fault)
    → Reads input input' new.journal (Err fault)
answered_reads input mid input' bytes part bytes' limit line old new text (Script l f) h e front (device, same, first, is) =
    subst (λ (k : List Entry). ReadsOneMore input input' (script_text k)) (sym same) (one_more input mid input' (script_text old.journal) e front)
answered_reads input mid input' bytes part bytes' limit line old new text (Limit l) h e front (device, same, well, full, is) =
    subst (λ (k : List Entry). ReadsOneMore input input' (script_text k)) (sym same) (one_more input mid input' (script_text old.journal) e front)
answered_reads input mid input' bytes part bytes' limit line old new text (NoMemory l) h e front (device, inl same, is) =
    (old.journal, inl same, is ∙ h.counted, one_more input mid input' (script_text old.journal) e front)
answered_reads input mid input' bytes part bytes' limit line old new text (NoMemory l) h e front (device, inr (x, j), is) =
    (old.journal, inr (x, j.journal), is ∙ h.counted, one_more input mid input' (script_text old.journal) e front)
answered_reads input mid input' bytes part bytes' limit line old new text (Read l) h e front none = absurd none
answered_reads input mid input' bytes part bytes' limit line old new text (Write l) h e front ((x, j, back), is) =
    (x, old.journal, j.journal, one_more input mid input' (script_text old.journal) e front)
