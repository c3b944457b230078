-- Who watches the record of a legal history comes to its end.
use Rattle.std.proofs.Common.{◌≡◌, ◌∙◌, ◌<◌, ◌+◌, ◌∷◌, ◌++◌, ◌⊎◌, ℕ, true, false, List, [], length, length-append, map, None, Some, Option, refl, sym, ap, subst, arith, inl, inr, append_assoc}
use Rattle.std.specs.Prelude.{Err, Ok, Result, if◌then◌else◌, reverse}
use Rattle.std.specs.Option.{is_none, option_map}
use Rattle.std.specs.Io.KnownBytes.{Consumes, IsAtEnd}
use Rattle.std.proofs.lemmas.List.{append-nil, reverse-append, reverse-reverse}
use Rattle.jg_words.specs.Entry.{Entry}
use Rattle.jg_words.specs.declared.object.ObjId.{ObjId}
use Rattle.jg_policy.specs.Stated.{StatedSetup}
use Rattle.jg_lines.specs.Devices.{IsOneLine}
use Rattle.jg_rules.specs.Legal.{Legal}
use Rattle.jg_text.proofs.Cuts.{same_cut}
use Rattle.jg_core.specs.declared.fact.Fact.{Fact as FactOf}
use Rattle.jg_core.specs.declared.fact.Fact.TheVariants.{Gone as Went}
use Rattle.jg_core.specs.Facts.{History, all_gone, first_held, parts_of}
use Rattle.jg_record.specs.declared.event.Event.{Event}
use Rattle.jg_record.specs.declared.event.Event.TheVariants.{Question, Fact, Gone, Bounds}
use Rattle.jg_record.specs.declared.fault.RecordFault.{RecordFault}
use Rattle.jg_record.specs.declared.fault.RecordFault.TheVariants.{LineTooLong, NotAscii, NoThread, NoEvent, UnknownFunction, WrongCount, BadOperand, NoMemory}
use Rattle.jg_record.specs.Faults.{HasFault}
use Rattle.jg_watch.specs.declared.ending.Ended.{Ended}
use Rattle.jg_watch.specs.declared.ending.Ended.TheVariants as ended
use Rattle.jg_watch.specs.declared.ending.Stop.{Stop}
use Rattle.jg_watch.specs.declared.ending.Stop.TheVariants as stop
use Rattle.jg_watch.specs.declared.watch.Shown.{Shown}
use Rattle.jg_watch.specs.Told.{Told, after, can_be_told}
use Rattle.jg_watch.specs.Lines.{Answered, AreAnswered, text_of}
use Rattle.jg_watch.specs.Ends.{CannotBe, EndsAt, EndsBefore, IsDifferent, IsFaulty, StopsAt}
use Rattle.jg_entry_facts_laws.specs.Entries.{facts_of}
use Rattle.jg_entry_facts_laws.proofs.Histories.{facts_could_be}
use Rattle.jg_journal_record.specs.Lines.{Line, AreLines, IsLineText, facts_in, facts_told}
use Rattle.jg_journal_record.specs.Retold.{WritesRecord, bounds_line}
use Rattle.jg_journal_record.proofs.Telling.{records_tell_facts}
use Rattle.jg_record_laws.specs.Laws.{AnsweredWhole, EndsWhole, FitsSetup, WatchedWhole, verdicts_in, verdicts_of}
use Rattle.jg_record_laws.proofs.Faultless.{faultless}
use Rattle.jg_record_laws.proofs.Texts.{has_feed, longer, no_text, own_line, own_parts}
use Rattle.jg_record_laws.proofs.Answered.{Match, can_by, reads, said_same}
use Rattle.jg_record_laws.proofs.Verdicts.{all_gone_is, answered_as_judged}

-- ---- what lines tell, the newest first

abbrev told_in : List Line → List FactOf
told_in [] = []
told_in (m ∷ ms) = reverse (facts_in m.event m.gone) ++ told_in ms

told_append : (ms ns : List Line) → told_in (ms ++ ns) ≡ told_in ms ++ told_in ns
told_append [] ns = refl
told_append (m ∷ ms) ns = ap (λ (w : List FactOf). reverse (facts_in m.event m.gone) ++ w) (told_append ms ns)
    ∙ sym (append_assoc (reverse (facts_in m.event m.gone)) (told_in ms) (told_in ns))

turned : (ms : List Line) → reverse (facts_told ms) ≡ told_in (reverse ms)
turned [] = refl
turned (m ∷ ms) =
    reverse-append (facts_in m.event m.gone) (facts_told ms)
    ∙ (ap (λ (w : List FactOf). w ++ reverse (facts_in m.event m.gone)) (turned ms)
    ∙ (ap (λ (w : List FactOf). told_in (reverse ms) ++ w) (sym (append-nil (reverse (facts_in m.event m.gone))))
    ∙ (sym (told_append (reverse ms) (m ∷ [])) ∙ ap told_in (sym (reverse-append (m ∷ []) ms)))))

after_facts : (e : Event) (gone : List ObjId) (told : Told) → (after e gone told).facts ≡ reverse (facts_in e gone) ++ told.facts
after_facts (Question t env place) gone told = refl
after_facts (Fact fact) gone told = refl
after_facts Gone gone told = all_gone_is gone told.facts
after_facts (Bounds bounds) gone told = refl

match_facts : (s : StatedSetup) (done : List Line) (lines : List Answered) (told : Told) → Match s done lines told → told.facts ≡ told_in done
match_facts s [] [] told none = ap (λ (t : Told). t.facts) none
match_facts s [] (l ∷ lines) told match = absurd match
match_facts s (m ∷ done) [] told match = absurd match
match_facts s (m ∷ done) (l ∷ lines) told (before, match, step) =
    ap (λ (t : Told). t.facts) step.told
    ∙ (after_facts m.event m.gone before ∙ ap (λ (w : List FactOf). reverse (facts_in m.event m.gone) ++ w) (match_facts s done lines before match))

-- ---- what could be when it was told

module _ (s : StatedSetup) where
  later : (new old : List FactOf) → History s (new ++ old) → History s old
  later [] old could = could
  later (f ∷ new) old could = later new old could.1

  none_held : (gone : List ObjId) (w : List FactOf) → History s (all_gone gone w) → first_held s (parts_of w) gone ≡ None
  none_held [] w could = refl
  none_held (o ∷ gone) w could =
      let here = later (reverse (map (λ x. Went x) gone)) (Went o ∷ w) (subst (History s) (all_gone_is gone (Went o ∷ w)) could) in
      ap (λ b. if b then option_map (λ n. n + 1) (first_held s (parts_of (Went o ∷ w)) gone) else Some 0) here.0
      ∙ ap (option_map (λ n. n + 1)) (none_held gone (Went o ∷ w) could)

  can_be_next : (e : Event) (gone : List ObjId) (told : Told) → History s (reverse (facts_in e gone) ++ told.facts) → can_be_told s told e gone ≡ true
  can_be_next (Question t env place) gone told could = refl
  can_be_next (Fact fact) gone told could = could.0
  can_be_next Gone gone told could = ap is_none (none_held gone told.facts (subst (History s) (sym (all_gone_is gone told.facts)) could))
  can_be_next (Bounds bounds) gone told could = refl

-- ---- the next line of a record

-- what is told by the next line and those before it is of the history
told_next : (s : StatedSetup) (h : List Entry) (m : Line) (lines done left : List Line) (w : List FactOf) → facts_told lines ≡ reverse (facts_of s h)
    → bounds_line ∷ lines ≡ reverse done ++ (m ∷ left) → w ≡ told_in done
    → facts_of s h ≡ told_in (reverse left) ++ (reverse (facts_in m.event m.gone) ++ w)
told_next s h m lines done left w facts whole is =
    let newest : reverse (bounds_line ∷ lines) ≡ reverse left ++ (m ∷ done) =
    ap (λ (ls : List Line). reverse ls) whole
    ∙ (reverse-append (reverse done) (m ∷ left)
    ∙ (ap (λ (ls : List Line). reverse (m ∷ left) ++ ls) (reverse-reverse done)
    ∙ (ap (λ (ls : List Line). ls ++ done) (reverse-append (m ∷ []) left) ∙ append_assoc (reverse left) (m ∷ []) done))) in
    sym (reverse-reverse (facts_of s h))
    ∙ (ap (λ (fs : List FactOf). reverse fs) (sym facts)
    ∙ (turned (bounds_line ∷ lines)
    ∙ (ap told_in newest
    ∙ (told_append (reverse left) (m ∷ done)
    ∙ ap (λ (fs : List FactOf). told_in (reverse left) ++ (reverse (facts_in m.event m.gone) ++ fs)) (sym is)))))

-- what is left of a record behind a front that was answered: lines of which the next can be
record IsLeft (s : StatedSetup) (told : Told) (rest : List ℕ) : Type 0 where
  lines : List Line
  text : AreLines s lines rest
  can : (m : Line) (more : List Line) → lines ≡ m ∷ more → can_be_told s told m.event m.gone ≡ true

left_of : (s : StatedSetup) (h : List Entry) (text rest : List ℕ) (shown : Shown) (lines : List Answered) (told : Told) → FitsSetup s → Legal s h
    → WritesRecord s h (Some []) (Some text) → AreAnswered s shown lines told → text_of lines ++ rest ≡ text → IsLeft s told rest
left_of s h text rest shown lines told few legal (first, behind, is, of, written) answered same =
    let (all, are, facts) = records_tell_facts s h behind of in
    let whole : AreLines s (bounds_line ∷ all) text = (first, behind, is, are, written ∙ append_assoc first (10 ∷ []) behind) in
    let read = reads s shown (bounds_line ∷ all) text lines told rest few whole answered same in
    record {
      lines = read.left;
      text = read.text;
      can = λ m more left. (
          let next = told_next s h m all read.done more told.facts facts
          (read.whole ∙ ap (λ (ls : List Line). reverse read.done ++ ls) left) (match_facts s read.done lines told read.answered) in
          can_be_next s m.event m.gone told
          (later s (told_in (reverse more)) (reverse (facts_in m.event m.gone) ++ told.facts) (subst (History s) next (facts_could_be s h legal)))
          );
    }

-- ---- the ends of a record

-- nothing is wrong with the line
record IsSound (s : StatedSetup) (told : Told) (line : List ℕ) : Type 0 where
  can : ¬ CannotBe s told line
  same : ¬ IsDifferent s told line
  sound : (fault : RecordFault) → ¬ IsFaulty s line fault

is_sound : (s : StatedSetup) (told : Told) (line : List ℕ) (m : Line) → FitsSetup s → IsLineText s m line → can_be_told s told m.event m.gone ≡ true
    → IsSound s told line
is_sound s told line m few (is, short) can =
    let own = own_line s line m.event m.arguments m.gone few is.spelt in
    record {
      can = λ w. (
          let same = said_same s line w.0 m few is w.1 in
          let no : can_be_told s told m.event m.gone ≡ false =
          ap (λ (e : Event). can_be_told s told e m.gone) (sym same.event) ∙ (sym (can_by s told w.0.says w.0.gone m.gone same.gone) ∙ w.2) in
          cc
          );
      same = λ w. w.4 (inl (own_parts line w.0.event w.0.answer w.0.note own w.2.parts).1);
      sound = λ fault w. (
          let bad : HasFault fault s line =
          subst (λ (text : List ℕ). HasFault fault s text) (own_parts line w.1.0 w.1.1 w.1.2 own w.1.3).0 w.1.4.fault in
          let long : 65536 < length line =
          subst (λ (f : RecordFault). HasFault f s line) (faultless s line m.event m.arguments m.gone fault few is.spelt bad) bad in
          omega (arith, long, short)
          );
    }

-- a line of what is left is sound
sound_line : (s : StatedSetup) (told : Told) (line rest : List ℕ) → FitsSetup s → IsOneLine line → IsLeft s told (line ++ 10 ∷ rest) → IsSound s told line
sound_line s told line rest few clean left = by left.lines left.text left.can
  where
    by : (ms : List Line) → AreLines s ms (line ++ 10 ∷ rest)
        → ((m : Line) (more : List Line) → ms ≡ m ∷ more → can_be_told s told m.event m.gone ≡ true) → IsSound s told line
    by [] none can = absurd (no_text line rest none)
    by (m ∷ more) (own, after, is, are, text) can =
        let cut = same_cut 10 line rest own after clean (own_line s own m.event m.arguments m.gone few is.0.spelt).clean text in
        is_sound s told line m few (subst (IsLineText s m) (sym cut.0) is) (can m more refl)

pub answered_whole : AnsweredWhole
answered_whole s h text line rest shown lines told few legal written answered clean same =
    let sound = sound_line s told line rest few clean (left_of s h text (line ++ 10 ∷ rest) shown lines told few legal written answered same) in
    (sound.can, sound.same)

-- a part of what is left that has no line feed isn't all of it, and isn't longer than a line may be
no_part : (s : StatedSetup) (told : Told) (line rest : List ℕ) → IsOneLine line → 0 < length line → (rest ≡ []) ⊎ (65536 < length line)
    → IsLeft s told (line ++ rest) → ⊥
no_part s told line rest clean some how left = by left.lines left.text how
  where
    by : (ms : List Line) → AreLines s ms (line ++ rest) → (rest ≡ []) ⊎ (65536 < length line) → ⊥
    by [] none how = let count = ap length none in omega (arith, count, some, length-append line rest)
    by (m ∷ ms) (own, more, is, are, text) (inl end) =
        has_feed line own more clean (sym (append-nil line) ∙ (ap (λ (bs : List ℕ). line ++ bs) (sym end) ∙ text))
    by (m ∷ ms) (own, more, is, are, text) (inr long) =
        let short = is.1 in
        let (tail, goes) = longer own line more rest 10 (sym text) (omega (arith, long, short)) in
        has_feed line own tail clean goes

stops_whole : (s : StatedSetup) (h : List Entry) (shown : Shown) (told : Told) (line : List ℕ) (bytes bytes' : Option (List ℕ)) (n : ℕ) (lines : List Answered)
    (result : Result Ended Stop) → IsSound s told line → StopsAt s shown told line bytes bytes' n result → EndsWhole h lines result
stops_whole s h shown told line bytes bytes' n lines (Ok (ended.Differs k)) sound (bad, _, _) = sound.same bad
stops_whole s h shown told line bytes bytes' n lines (Ok (ended.Impossible k)) sound (bad, _, _) = sound.can bad
stops_whole s h shown told line bytes bytes' n lines (Ok (ended.All k)) sound none = absurd none
stops_whole s h shown told line bytes bytes' n lines (Ok (ended.CutOff k)) sound none = absurd none
stops_whole s h shown told line bytes bytes' n lines (Err (stop.Faulty k fault)) sound (bad, _, _) = sound.sound fault bad
stops_whole s h shown told line bytes bytes' n lines (Err (stop.Limit k)) sound stops = tt
stops_whole s h shown told line bytes bytes' n lines (Err (stop.NoMemory k)) sound stops = tt
stops_whole s h shown told line bytes bytes' n lines (Err (stop.Read k)) sound stops = tt
stops_whole s h shown told line bytes bytes' n lines (Err (stop.Write k)) sound stops = tt

-- what is left begins with what was read of it
begins : (s : StatedSetup) (told : Told) (rest line : List ℕ) (input : Option (List ℕ)) → Consumes (Some rest) input line → IsLeft s told rest
    → (behind : List ℕ) × (input ≡ Some behind) × IsLeft s told (line ++ behind)
begins s told rest line None consumed left = absurd consumed
begins s told rest line (Some behind) consumed left = (behind, refl, subst (IsLeft s told) consumed left)

at_end : (input : Option (List ℕ)) (behind : List ℕ) → input ≡ Some behind → IsAtEnd input → behind ≡ []
at_end input behind is end = subst IsAtEnd is end

no_more : (rest : List ℕ) (input : Option (List ℕ)) → Consumes (Some rest) input [] → IsAtEnd input → rest ≡ []
no_more rest None consumed end = absurd consumed
no_more rest (Some behind) consumed end = consumed ∙ end

module _ (s : StatedSetup) (h : List Entry) (told : Told) (rest : List ℕ) (line : List ℕ) (input bytes bytes' : Option (List ℕ)) (n : ℕ)
    (lines : List Answered) (left : IsLeft s told rest) (whole : rest ≡ [] → verdicts_in lines ≡ verdicts_of h) where
  cut_off : IsOneLine line → 0 < length line → Consumes (Some rest) input line → IsAtEnd input → ⊥
  cut_off clean some consumed end =
      let (behind, is, later) = begins s told rest line input consumed left in
      no_part s told line behind clean some (inl (at_end input behind is end)) later

  too_long : IsOneLine line → 65536 < length line → Consumes (Some rest) input line → ⊥
  too_long clean long consumed =
      let (behind, is, later) = begins s told rest line input consumed left in
      no_part s told line behind clean (omega (arith, long)) (inr long) later

  ends_whole : (result : Result Ended Stop) → EndsBefore (Some rest) input line bytes bytes' n result → EndsWhole h lines result
  ends_whole (Ok (ended.All k)) (consumed, end, _, _) = whole (no_more rest input consumed end)
  ends_whole (Ok (ended.CutOff k)) (clean, some, consumed, end, _, _) = cut_off clean some consumed end
  ends_whole (Ok (ended.Differs k)) none = absurd none
  ends_whole (Ok (ended.Impossible k)) none = absurd none
  ends_whole (Err (stop.Faulty k LineTooLong)) (clean, long, consumed, _, _) = too_long clean long consumed
  ends_whole (Err (stop.Faulty k NotAscii)) none = absurd none
  ends_whole (Err (stop.Faulty k NoThread)) none = absurd none
  ends_whole (Err (stop.Faulty k NoEvent)) none = absurd none
  ends_whole (Err (stop.Faulty k UnknownFunction)) none = absurd none
  ends_whole (Err (stop.Faulty k WrongCount)) none = absurd none
  ends_whole (Err (stop.Faulty k BadOperand)) none = absurd none
  ends_whole (Err (stop.Faulty k NoMemory)) none = absurd none
  ends_whole (Err (stop.Limit k)) before = tt
  ends_whole (Err (stop.NoMemory k)) before = tt
  ends_whole (Err (stop.Read k)) before = tt
  ends_whole (Err (stop.Write k)) before = tt

  at_line : (shown : Shown) (result : Result Ended Stop) → FitsSetup s → EndsAt s shown told (Some rest) input line bytes bytes' n result
      → EndsWhole h lines result
  at_line shown result few (inl (clean, consumed, stops)) =
      let (behind, is, later) = begins s told rest (line ++ 10 ∷ []) input consumed left in
      stops_whole s h shown told line bytes bytes' n lines result
      (sound_line s told line behind few clean (subst (IsLeft s told) (append_assoc line (10 ∷ []) behind) later)) stops
  at_line shown result few (inr before) = ends_whole result before

pub watched_whole : WatchedWhole
watched_whole s h text line shown input bytes bytes' new explaining log result few legal written w = by w.rest w.read w.ends
  where
    by : (rest : Option (List ℕ)) → Consumes (Some text) rest (text_of w.lines)
        → EndsAt s shown w.told rest input line w.before bytes' (length w.lines + 1) result → EndsWhole h w.lines result
    by None consumed ends = absurd consumed
    by (Some rest) consumed ends =
        at_line s h w.told rest line input w.before bytes' (length w.lines + 1) w.lines
        (left_of s h text rest shown w.lines w.told few legal written w.answered (sym consumed))
        (λ none. (answered_as_judged s h text shown w.lines w.told few legal written w.answered
        (sym (append-nil (text_of w.lines)) ∙ (ap (λ (bs : List ℕ). text_of w.lines ++ bs) (sym none) ∙ sym consumed))).0)
        shown result few ends
