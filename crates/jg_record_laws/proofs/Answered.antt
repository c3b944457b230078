-- The lines that are answered of a text of lines are these lines, and each is answered as its event is.
use Rattle.std.proofs.Common.{◌≡◌, ◌∙◌, ◌∷◌, ◌++◌, ◌⊎◌, ℕ, true, List, [], Option, refl, sym, ap, subst, inl, inr, append_assoc}
use Rattle.std.specs.Prelude.{reverse}
use Rattle.std.proofs.lemmas.List.{reverse-append}
use Rattle.jg_words.specs.declared.thread.Tid.{Tid}
use Rattle.jg_words.specs.declared.thread.EnvId.{EnvId}
use Rattle.jg_words.specs.declared.object.ObjId.{ObjId}
use Rattle.jg_policy.specs.Stated.{StatedSetup}
use Rattle.jg_judge.specs.declared.argument.Argument.{Argument}
use Rattle.jg_record.specs.declared.event.Event.{Event}
use Rattle.jg_record.specs.declared.event.Event.TheVariants.{Question, Fact, Gone, Bounds}
use Rattle.jg_record.specs.Events.{SpellsEvent}
use Rattle.jg_record.specs.Parts.{AreParts}
use Rattle.jg_record.specs.Writing.{IsTextOf}
use Rattle.jg_watch.specs.declared.watch.Shown.{Shown}
use Rattle.jg_watch.specs.Told.{Told, after, can_be_told, nothing_told, replied}
use Rattle.jg_watch.specs.Lines.{Answered, AreAnswered, IsAnswered, Said, Says, is_comment, text_of}
use Rattle.jg_journal_record.specs.Lines.{Line, AreLines}
use Rattle.jg_record_laws.specs.Laws.{FitsSetup}
use Rattle.jg_record_laws.proofs.Once.{spelt_once}
use Rattle.jg_record_laws.proofs.Texts.{IsOwnLine, own_line, own_parts, meets, no_event_behind, no_text}

-- ---- what depends on an event alone

-- the event is the same, and so are the operands of a question and the objects that are gone
pub record IsSame (e : Event) (xs : List Argument) (objects : List ObjId) (f : Event) (ys : List Argument) (left : List ObjId) : Type 0 where
  pub event : e ≡ f
  pub operands : (t : Tid) (env : Option EnvId) (place : ℕ) → e ≡ Question t env place → xs ≡ ys
  pub gone : e ≡ Gone → objects ≡ left

replied_by : (s : StatedSetup) (told : Told) (e : Event) (xs ys : List Argument)
    → ((t : Tid) (env : Option EnvId) (place : ℕ) → e ≡ Question t env place → xs ≡ ys) → replied s told e xs ≡ replied s told e ys
replied_by s told (Question t env place) xs ys same = ap (replied s told (Question t env place)) (same t env place refl)
replied_by s told (Fact fact) xs ys same = refl
replied_by s told Gone xs ys same = refl
replied_by s told (Bounds bounds) xs ys same = refl

after_by : (e : Event) (gone left : List ObjId) (told : Told) → (e ≡ Gone → gone ≡ left) → after e gone told ≡ after e left told
after_by (Question t env place) gone left told same = refl
after_by (Fact fact) gone left told same = refl
after_by Gone gone left told same = ap (λ (os : List ObjId). after Gone os told) (same refl)
after_by (Bounds bounds) gone left told same = refl

pub can_by : (s : StatedSetup) (told : Told) (e : Event) (gone left : List ObjId) → (e ≡ Gone → gone ≡ left)
    → can_be_told s told e gone ≡ can_be_told s told e left
can_by s told (Question t env place) gone left same = refl
can_by s told (Fact fact) gone left same = refl
can_by s told Gone gone left same = ap (can_be_told s told Gone) (same refl)
can_by s told (Bounds bounds) gone left same = refl

-- ---- one line

-- what the line says is the event of this text
pub said_same : (s : StatedSetup) (line : List ℕ) (x : Said) (m : Line) → FitsSetup s → IsTextOf s m.by m.event m.arguments m.gone line → Says s line x
    → IsSame x.says x.operands x.gone m.event m.arguments m.gone
said_same s line x m few is says =
    let own = own_line s line m.event m.arguments m.gone few is.spelt in
    let parts = own_parts line x.event x.answer x.note own says.parts in
    let spelt : SpellsEvent s line x.says x.operands x.gone = subst (λ (t : List ℕ). SpellsEvent s t x.says x.operands x.gone) parts.0 says.spelt in
    let same = spelt_once s line x.says m.event x.operands m.arguments x.gone m.gone few spelt is.spelt in
    record { event = same.0; operands = same.1; gone = same.2 }

-- the line is answered as this event is
pub record IsStep (s : StatedSetup) (before : Told) (m : Line) (l : Answered) (now : Told) : Type 0 where
  pub line : IsTextOf s m.by m.event m.arguments m.gone l.line
  pub can : can_be_told s before m.event m.gone ≡ true
  pub reply : l.reply ≡ replied s before m.event m.arguments
  pub told : now ≡ after m.event m.gone before

no_comment : (line own rest : List ℕ) → line ≡ own → own ≡ 84 ∷ rest → is_comment line ≡ true → ⊥
no_comment line own rest is begins comment = let no : is_comment (84 ∷ rest) ≡ true = ap is_comment (sym (is ∙ begins)) ∙ comment in cc

short_comment : (line own rest tail : List ℕ) → line ≡ own ++ 10 ∷ tail → own ≡ 84 ∷ rest → is_comment line ≡ true → ⊥
short_comment line own rest tail is begins comment =
    no_comment line (own ++ 10 ∷ tail) (rest ++ 10 ∷ tail) is (ap (λ (bs : List ℕ). bs ++ 10 ∷ tail) begins) comment

one_step : (s : StatedSetup) (shown : Shown) (before told : Told) (l : Answered) (m : Line) → FitsSetup s
    → IsTextOf s m.by m.event m.arguments m.gone l.line → IsAnswered s shown before l told → IsStep s before m l told
one_step s shown before told l m few is (inl (comment, _, _, _, _, _)) =
    let own = own_line s l.line m.event m.arguments m.gone few is.spelt in
    absurd (no_comment l.line l.line own.rest refl own.begins comment)
one_step s shown before told l m few is (inr (x, says, reply, agrees, operand, what, told_is, out)) =
    let same = said_same s l.line x m few is says in
    record {
      line = is;
      can = ap (λ (e : Event). can_be_told s before e m.gone) (sym same.event) ∙ (sym (can_by s before x.says x.gone m.gone same.gone) ∙ reply.can);
      reply = reply.is ∙ (replied_by s before x.says x.operands m.arguments same.operands ∙ ap (λ (e : Event). replied s before e m.arguments) same.event);
      told = told_is ∙ (after_by x.says x.gone m.gone before same.gone ∙ ap (λ (e : Event). after e m.gone before) same.event);
    }

-- ---- lines

-- the lines, the newest first, are answered as these events are
abbrev pub Match : StatedSetup → List Line → List Answered → Told → Type 0
Match s [] [] told = told ≡ nothing_told
Match s [] (l ∷ lines) told = ⊥
Match s (m ∷ done) [] told = ⊥
Match s (m ∷ done) (l ∷ lines) told = (before : Told) × Match s done lines before × IsStep s before m l told

-- a front of the lines of a text, the newest first, is answered so, and what is left of it is the text of the others
pub record Reads (s : StatedSetup) (all : List Line) (lines : List Answered) (told : Told) (rest : List ℕ) : Type 0 where
  pub done : List Line
  pub left : List Line
  pub whole : all ≡ reverse done ++ left
  pub text : AreLines s left rest
  pub answered : Match s done lines told

-- where lines are left, the next is one
next_line : (s : StatedSetup) (own line rest more : List ℕ) (m : Line) → FitsSetup s → IsTextOf s m.by m.event m.arguments m.gone own
    → line ++ 10 ∷ rest ≡ own ++ 10 ∷ more
    → (is_comment line ≡ true) ⊎ ((x : Said) × Says s line x) → (line ≡ own) × (rest ≡ more)
next_line s own line rest more m few is same says =
    let known = own_line s own m.event m.arguments m.gone few is.spelt in
    by known says (meets own line rest more known.clean same)
  where
    by : IsOwnLine own → (is_comment line ≡ true) ⊎ ((x : Said) × Says s line x)
        → ((line ≡ own) × (rest ≡ more)) ⊎ ((tail : List ℕ) × (line ≡ own ++ 10 ∷ tail)) → (line ≡ own) × (rest ≡ more)
    by known said (inl both) = both
    by known (inl comment) (inr (tail, long)) = absurd (short_comment line own known.rest tail long known.begins comment)
    by known (inr (x, said)) (inr (tail, long)) =
        absurd (no_event_behind own tail x.event x.answer x.note known.marks
        (subst (λ (t : List ℕ). AreParts t x.event x.answer x.note) long said.parts)
        (own_line s x.event x.says x.operands x.gone few said.spelt).clean)

said_in : (s : StatedSetup) (shown : Shown) (before : Told) (l : Answered) (told : Told) → IsAnswered s shown before l told
    → (is_comment l.line ≡ true) ⊎ ((x : Said) × Says s l.line x)
said_in s shown before l told (inl (comment, _, _, _, _, _)) = inl comment
said_in s shown before l told (inr (x, says, _, _, _, _, _, _)) = inr (x, says)

read_more : (s : StatedSetup) (shown : Shown) (all done left : List Line) (l : Answered) (lines : List Answered) (before told : Told) (rest : List ℕ)
    → FitsSetup s → all ≡ reverse done ++ left → Match s done lines before → IsAnswered s shown before l told → AreLines s left (l.line ++ 10 ∷ rest)
    → Reads s all (l ∷ lines) told rest
read_more s shown all done [] l lines before told rest few whole match answered none = absurd (no_text l.line rest none)
read_more s shown all done (m ∷ left) l lines before told rest few whole match answered (own, more, is, text, cut) =
    let both = next_line s own l.line rest more m few is.0 cut (said_in s shown before l told answered) in
    let line : IsTextOf s m.by m.event m.arguments m.gone l.line = subst (IsTextOf s m.by m.event m.arguments m.gone) (sym both.0) is.0 in
    record {
      done = m ∷ done;
      left = left;
      whole = whole ∙ (sym (append_assoc (reverse done) (m ∷ []) left) ∙ ap (λ (ms : List Line). ms ++ left) (sym (reverse-append (m ∷ []) done)));
      text = subst (AreLines s left) (sym both.1) text;
      answered = (before, match, one_step s shown before told l m few line answered);
    }

pub reads : (s : StatedSetup) (shown : Shown) (all : List Line) (text : List ℕ) (lines : List Answered) (told : Told) (rest : List ℕ) → FitsSetup s
    → AreLines s all text → AreAnswered s shown lines told → text_of lines ++ rest ≡ text → Reads s all lines told rest
reads s shown all text [] told rest few are answered is = record {
  done = [];
  left = all;
  whole = refl;
  text = subst (AreLines s all) (sym is) are;
  answered = answered;
}
reads s shown all text (l ∷ lines) told rest few are (before, earlier, answered) is =
    let longer : text_of lines ++ (l.line ++ 10 ∷ rest) ≡ text =
    ap (λ (bs : List ℕ). text_of lines ++ bs) (sym (append_assoc l.line (10 ∷ []) rest)) ∙ (sym (append_assoc (text_of lines) (l.line ++ 10 ∷ []) rest) ∙ is) in
    let old = reads s shown all text lines before (l.line ++ 10 ∷ rest) few are earlier longer in
    read_more s shown all old.done old.left l lines before told rest few old.whole old.answered answered old.text
