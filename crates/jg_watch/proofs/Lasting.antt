-- How the lines that were answered, and the next, make the whole.
use Rattle.std.proofs.Common.{◌≡◌, ◌<◌, ◌+◌, ◌++◌, ◌∙◌, ◌⊎◌, ℕ, List, [], ◌∷◌, length, Option, Some, None, Result, Ok, ap, arith, inl, inr, if◌then◌else◌, refl, subst, sym}
use Rattle.std.specs.Prelude.{nat_lt}
use Rattle.std.proofs.lemmas.Option.{none-some, same_Some}
use Rattle.std.specs.Io.KnownBytes.{Appends, Consumes, Keeps}
use Rattle.std.proofs.KnownBytes.{Appends-kept, Appends-nil, Appends-trans, Consumes-nil, Consumes-trans}
use Rattle.jg_policy.specs.Stated.{StatedSetup}
use Rattle.jg_core.specs.Kernel.{CoreStands, CoreState}
use Rattle.jg_core.specs.declared.fact.Fact.{Fact}
use Rattle.jg_core.specs.Facts.{all_gone}
use Rattle.jg_words.specs.declared.object.ObjId.{ObjId}
use Rattle.jg_judge.specs.declared.argument.Argument.{Argument}
use Rattle.jg_record.specs.declared.event.Event.{Event}
use Rattle.jg_record.specs.declared.event.Event.TheVariants.{Question, Fact as FactTold, Gone as AreGone, Bounds}
use Rattle.jg_record.specs.declared.reply.Reply.{Reply}
use Rattle.jg_record.specs.declared.reply.Reply.TheVariants.{Passed, Denied, Environment, Reference, Buffer, Object, Nothing}
use Rattle.jg_advice.specs.Moments.{Moment, facts_of}
use Rattle.jg_advice.specs.Told.{AdviceLogState}
use Rattle.jg_watch.specs.declared.ending.Ended.{Ended}
use Rattle.jg_watch.specs.declared.ending.Stop.{Stop}
use Rattle.jg_watch.specs.declared.event.Replied.{Replied}
use Rattle.jg_watch.specs.declared.line.Step.TheVariants as step
use Rattle.jg_watch.specs.declared.watch.Shown.{Shown}
use Rattle.jg_watch.specs.Ends.{EndsAt, IsWhole, Watches}
use Rattle.jg_watch.specs.Explained.{AreExplained, Explaining, explanation, explanations}
use Rattle.jg_watch.specs.Lines.{Answered, AreAnswered, IsAnswered, IsTally, denials_in, reply_number, text_of, what_of, written_of}
use Rattle.jg_watch.specs.Steps.{Adds, AnswersNext, answered, counted_at, denied_after}
use Rattle.jg_watch.specs.Logged.{LogStandsIf, moments_of, with_moment}
use Rattle.jg_watch.specs.Told.{Stands, Told, Watching, after, nothing_told}
use Rattle.jg_watch.proofs.Counting.{counts}

-- what is known before line number n: the lines before it were answered, their replies counted, and the first denials explained
pub record HasWatched (s : StatedSetup) (shown : Shown) (input rest bytes before : Option (List ℕ)) (n : ℕ) (watch : Watching) (told_of : Explaining)
    (log : Option AdviceLogState) : Type 0 where
  pub lines : List Answered
  pub told : Told
  pub answered : AreAnswered s shown lines told
  pub stands : Stands watch told
  pub read : Consumes input rest (text_of lines)
  pub written : Appends bytes before (written_of lines)
  pub counted : IsTally lines watch.tally
  pub denied : watch.denied ≡ denials_in lines
  pub explained : AreExplained lines told_of
  pub advised : LogStandsIf log (moments_of lines)
  pub number : n ≡ length lines + 1

-- nothing yet
pub begins : (s : StatedSetup) (shown : Shown) (input bytes : Option (List ℕ)) (watch : Watching) (told_of : Explaining) (log : Option AdviceLogState)
    → Stands watch nothing_told → IsTally [] watch.tally → watch.denied ≡ 0
    → told_of.text ≡ Some [] → LogStandsIf log [] → HasWatched s shown input input bytes bytes 1 watch told_of log
begins s shown input bytes watch told_of log stands none denied text advised = record {
  lines = [];
  told = nothing_told;
  answered = refl;
  stands = stands;
  read = Consumes-nil _;
  written = Appends-nil _;
  counted = none;
  denied = denied;
  explained = inr text;
  advised = advised;
  number = refl;
}

-- what is held back may be handed on
pub still : (s : StatedSetup) (shown : Shown) (input rest bytes before before' : Option (List ℕ)) (n : ℕ) (watch : Watching) (told_of : Explaining)
    (log : Option AdviceLogState)
    → HasWatched s shown input rest bytes before n watch told_of log → Keeps before before' → HasWatched s shown input rest bytes before' n watch told_of log
still s shown input rest bytes before before' n watch told_of log h kept = record {
  lines = h.lines;
  told = h.told;
  answered = h.answered;
  stands = h.stands;
  read = h.read;
  written = Appends-kept _ _ _ _ h.written kept;
  counted = h.counted;
  denied = h.denied;
  explained = h.explained;
  advised = h.advised;
  number = h.number;
}

-- one line more was explained, if it is one of the first denials
explains_on : (lines : List Answered) (l : Answered) (old new : Explaining) (text : List ℕ) → AreExplained lines old → Adds old new text
    → text ≡ (if nat_lt (denials_in lines) old.most then explanation (length lines + 1) l.reply l.operand else []) → AreExplained (l ∷ lines) new
explains_on lines l old new text (inl (lost, some)) adds is = inl (by adds.text, subst (λ n. 0 < n) (sym adds.most) some)
  where
    by : ((new.text ≡ None) × ((old.text ≡ None) ⊎ (0 < old.most))) ⊎ ((so_far : List ℕ) × (old.text ≡ Some so_far) × (new.text ≡ Some (so_far ++ text)))
        → new.text ≡ None
    by (inl now) = now.0
    by (inr (so_far, had, now)) = absurd (none-some so_far (sym lost ∙ had))
explains_on lines l old new text (inr had) adds is = by adds.text
  where
    by : ((new.text ≡ None) × ((old.text ≡ None) ⊎ (0 < old.most))) ⊎ ((so_far : List ℕ) × (old.text ≡ Some so_far) × (new.text ≡ Some (so_far ++ text)))
        → AreExplained (l ∷ lines) new
    by (inl (lost, inl none)) = absurd (none-some _ (sym none ∙ had))
    by (inl (lost, inr some)) = inl (lost, subst (λ n. 0 < n) (sym adds.most) some)
    by (inr (so_far, was, now)) =
        inr (now ∙ ap Some (ap (λ it. it ++ text) (same_Some _ _ (sym was ∙ had)) ∙ ap (λ it. explanations old.most lines ++ it) is)
        ∙ ap (λ n. Some (explanations n (l ∷ lines))) (sym adds.most))

-- ---- the facts of what happened

facts_by : (s : StatedSetup) (before : Told) (n : ℕ) (line : List ℕ) (xs : List Argument) (gone : List ObjId) (hist : List Moment)
    → before.facts ≡ facts_of hist → (e : Event) (reply : Reply)
    → (after e gone before).facts ≡ facts_of (with_moment n (what_of s line (Some e) reply xs gone) hist)
facts_by s before n line xs gone hist same (Question t env f) Passed = same
facts_by s before n line xs gone hist same (Question t env f) (Denied rule) = same
facts_by s before n line xs gone hist same (Question t env f) (Environment env') = same
facts_by s before n line xs gone hist same (Question t env f) (Reference r) = same
facts_by s before n line xs gone hist same (Question t env f) (Buffer b) = same
facts_by s before n line xs gone hist same (Question t env f) (Object o) = same
facts_by s before n line xs gone hist same (Question t env f) Nothing = same
facts_by s before n line xs gone hist same (FactTold fact) reply = ap (λ w. fact ∷ w) same
facts_by s before n line xs gone hist same AreGone reply = ap (all_gone gone) same
facts_by s before n line xs gone hist same (Bounds bounds) reply = same

facts_after : (s : StatedSetup) (shown : Shown) (before told : Told) (l : Answered) (n : ℕ) (hist : List Moment) → before.facts ≡ facts_of hist
    → IsAnswered s shown before l told
    → told.facts ≡ facts_of (with_moment n l.what hist)
facts_after s shown before told l n hist same (inl (comment, reply, operand, what, is, out)) =
    ap (λ (t : Told). t.facts) is ∙ same ∙ ap (λ w. facts_of (with_moment n w hist)) (sym what)
facts_after s shown before told l n hist same (inr (x, says, replied, agrees, operand, what, is, out)) =
    ap (λ (t : Told). t.facts) is ∙ facts_by s before n l.line x.operands x.gone hist same x.says l.reply ∙ ap (λ w. facts_of (with_moment n w hist)) (sym what)

facts_told : (s : StatedSetup) (shown : Shown) (lines : List Answered) (told : Told) → AreAnswered s shown lines told → told.facts ≡ facts_of (moments_of lines)
facts_told s shown [] told is = ap (λ (t : Told). t.facts) is
facts_told s shown (l ∷ lines) told (before, answered, is) =
    facts_after s shown before told l (length lines + 1) (moments_of lines) (facts_told s shown lines before answered) is

-- one line more was answered
pub goes_on : (s read : StatedSetup) (shown : Shown) (input rest rest' bytes before before' : Option (List ℕ)) (n : ℕ) (watch next new : Watching)
    (told_of now_told : Explaining)
    (line : List ℕ) (x : Replied) (xs : List Argument) (gone : List ObjId) (log advised : Option AdviceLogState)
    → (h : HasWatched s shown input rest bytes before n watch told_of log) → read ≡ s
    → AnswersNext read shown h.told next xs gone rest rest' line before before' n (Ok (step.Answered x))
    → next.tally ≡ watch.tally → next.denied ≡ watch.denied
    → Adds told_of now_told (if nat_lt next.denied told_of.most then explanation n x.reply x.operand else [])
    → new.tally ≡ counted_at (reply_number x.reply) next.tally → new.denied ≡ denied_after x.reply next.denied → new.core ≡ next.core → new.bounds ≡ next.bounds
    → ((hist : List Moment) → LogStandsIf log hist → CoreStands next.core (facts_of (with_moment n (what_of read line x.event x.reply xs gone) hist))
    → LogStandsIf advised (with_moment n (what_of read line x.event x.reply xs gone) hist))
    → HasWatched s shown input rest' bytes before' (n + 1) new now_told advised
goes_on s read shown input rest rest' bytes before before' n watch next new told_of now_told line x xs gone log advised h same
    (taken, (out, told, is, stands, written)) tally denials adds counted denied core bounds advise =
    let l : Answered = answered read line x xs gone out in
    let facts : told.facts ≡ facts_of (with_moment n l.what (moments_of h.lines)) =
    facts_after read shown h.told told l n (moments_of h.lines) (facts_told s shown h.lines h.told h.answered) is in
    let so_many : next.denied ≡ denials_in h.lines = denials ∙ h.denied in
    record {
      lines = l ∷ h.lines;
      told = told;
      answered = (h.told, h.answered, subst (λ (r : StatedSetup). IsAnswered r shown h.told l told) same is);
      stands = record { core = subst (λ (c : CoreState). CoreStands c told.facts) (sym core) stands.core; bounds = bounds ∙ stands.bounds };
      read = Consumes-trans _ _ _ _ _ h.read taken;
      written = Appends-trans _ _ _ _ _ h.written written;
      counted = counts h.lines l watch.tally new.tally h.counted (counted ∙ ap (counted_at (reply_number x.reply)) tally);
      denied = denied ∙ ap (denied_after x.reply) so_many;
      explained = explains_on h.lines l told_of now_told _ h.explained adds
          (ap (λ k. if nat_lt k told_of.most then explanation n x.reply x.operand else []) so_many
          ∙ ap (λ k. if nat_lt (denials_in h.lines) told_of.most then explanation k x.reply x.operand else []) h.number);
      advised = subst (λ (k : ℕ). LogStandsIf advised (with_moment k l.what (moments_of h.lines))) h.number
          (advise (moments_of h.lines) h.advised (subst (λ (w : List Fact). CoreStands next.core w) facts stands.core));
      number = omega (arith, h.number);
    }

-- the record ended there
pub ended_at : (s read : StatedSetup) (shown : Shown) (input rest rest' bytes before before' : Option (List ℕ)) (n : ℕ) (watch new : Watching)
    (told_of : Explaining) (log : Option AdviceLogState) (line : List ℕ)
    (result : Result Ended Stop)
    → (h : HasWatched s shown input rest bytes before n watch told_of log) → read ≡ s → new.tally ≡ watch.tally → new.denied ≡ watch.denied
    → EndsAt read shown h.told rest rest' line before before' n result → IsWhole new h.told result
    → Watches s shown input rest' line bytes before' new told_of log result
ended_at s read shown input rest rest' bytes before before' n watch new told_of log line result h is same denied ends whole = record {
  lines = h.lines;
  told = h.told;
  answered = h.answered;
  rest = rest;
  read = h.read;
  before = before;
  written = h.written;
  counted = subst (IsTally h.lines) (sym same) h.counted;
  denied = denied ∙ h.denied;
  explained = h.explained;
  advised = h.advised;
  stands = whole;
  ends = subst (λ (m : ℕ). EndsAt s shown h.told rest rest' line before before' m result) h.number
      (subst (λ (r : StatedSetup). EndsAt r shown h.told rest rest' line before before' n result) is ends);
}
