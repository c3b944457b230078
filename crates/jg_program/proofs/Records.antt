-- What is written and said of a record that ended.
use Rattle.std.proofs.Common.{◌≡◌, ◌<◌, ◌∙◌, ◌++◌, ◌⊎◌, ℕ, Bool, true, false, List, [], ◌∷◌, Option, Some, None, Result, Ok, Err, OnOk, IfOk, IfErr, String, Global, ap, arith, codes, inl, inr, refl, subst, sym}
use Rattle.std.specs.Prelude.{◌||◌, IfSome, string_bytes}
use Rattle.std.specs.Option.{is_some, option_map}
use mathlib.Core.Bool.{true≢false}
use Rattle.std.proofs.lemmas.Bool.Decides.{nat_tests}
use Rattle.std.proofs.lemmas.Option.{none-some}
use Rattle.std.proofs.KnownBytes.{Appends-kept, Appends-trans}
use Rattle.std.specs.Fmt.{decimal}
use Rattle.std.specs.Io.KnownBytes.{Appends, Keeps}
use Rattle.jg_policy.specs.Stated.{StatedSetup}
use Rattle.jg_record.specs.Parts.{AreParts}
use Rattle.jg_advice.specs.Told.{AdviceLogState}
use Rattle.jg_watch.specs.Logged.{advising_of}
use Rattle.jg_watch.specs.declared.ending.Ended.{Ended}
use Rattle.jg_watch.specs.declared.ending.Ended.TheVariants as ended
use Rattle.jg_watch.specs.declared.ending.Stop.{Stop}
use Rattle.jg_watch.specs.declared.ending.Stop.TheVariants.{Write}
use Rattle.jg_watch.specs.declared.watch.Shown.{Shown}
use Rattle.jg_watch.specs.Ends.{Watches}
use Rattle.jg_watch.specs.Explained.{AreExplained, Explaining}
use Rattle.jg_watch.specs.Told.{Watching}
use Rattle.jg_program.specs.declared.reporting.Reporting.{Reporting}
use Rattle.jg_program.specs.declared.stop.ProgramEnd.{ProgramEnd}
use Rattle.jg_program.specs.declared.stop.ProgramStop.{ProgramStop}
use Rattle.jg_program.specs.declared.stop.ProgramStop.TheVariants.{Record}
use Rattle.jg_program.specs.declared.stop.Status.{Status}
use Rattle.jg_program.specs.Ended.{IsHandedOn}
use Rattle.jg_program.specs.Advising.{advice_asked, is_advised}
use Rattle.jg_program.specs.Recorded.{AnswersRecord, EndsRecord, EndsWith, IsAdvice, IsEndText, IsSaid}
use Rattle.jg_program.specs.Reported.{is_explained}
use Rattle.jg_program.specs.Verdicts.{difference_text}
use Rattle.jg_program.proofs.Reports.{on_err}

pub differs_said : {E : Type 0} (bytes bytes' : Option (List ℕ)) (number : ℕ) (end : Ended) (line : List ℕ) (r : Result (Unit {0}) E)
    → end ≡ ended.Differs number
    → OnOk r (Appends bytes bytes' (difference_text number)) → OnOk r ((said : List ℕ) × IsEndText end line said × Appends bytes bytes' said)
differs_said bytes bytes' number end line (Ok done) is appends =
    subst (λ (e : Ended). (said : List ℕ) × IsEndText e line said × Appends bytes bytes' said) (sym is) (difference_text number, refl, appends)
differs_said bytes bytes' number end line (Err fault) is appends = tt

pub impossible_said : {E : Type 0} (a b c d e f : Option (List ℕ)) (number : ℕ) (end : Ended) (line event : List ℕ) (told noted : Option (List ℕ))
    (r : Result (Unit {0}) E)
    → end ≡ ended.Impossible number → AreParts line event told noted → Appends a b (codes "impossible at line ") → Appends b c (decimal number)
    → Appends c d (codes ": ")
    → Appends d e event → OnOk r (Appends e f (10 ∷ [])) → OnOk r ((said : List ℕ) × IsEndText end line said × Appends a f said)
impossible_said a b c d e f number end line event told noted (Ok done) is parts first second third fourth last =
    subst (λ (x : Ended). (said : List ℕ) × IsEndText x line said × Appends a f said) (sym is) (
      codes "impossible at line " ++ decimal number ++ codes ": " ++ event ++ 10 ∷ [],
      (event, told, noted, parts, refl),
      Appends-trans a e f _ _ (Appends-trans a d e _ _ (Appends-trans a c d _ _ (Appends-trans a b c _ _ first second) third) fourth) last,
    )
impossible_said a b c d e f number end line event told noted (Err fault) is parts first second third fourth last = tt

-- the record ended so, and what is written of that was written, or couldn't be
pub ended_answered : (s : StatedSetup) (shown : Shown) (input input' : Option (List ℕ)) (line text : List ℕ) (bytes mid after bytes' : Option (List ℕ))
    (new : Watching) (explained : Explaining) (log : Option AdviceLogState)
    (answered : Result Ended Stop) (end : Ended) (wrote written : Result Ended ProgramStop) (number : ℕ) (F : Type 0)
    → Watches s shown input input' line bytes mid new explained log answered → answered ≡ Ok end → text ≡ line
    → OnOk wrote ((said : List ℕ) × IsEndText end text said × Appends mid after said) → IfOk wrote (λ same. same ≡ end)
    → IfErr wrote (λ stop. (stop ≡ Record (Write number)) × F)
    → written ≡ wrote → Keeps after bytes' → AnswersRecord s shown input input' line bytes bytes' new explained log written
ended_answered s shown input input' line text bytes mid after bytes' new explained log answered end (Ok same) written number F watches is read
    (said, text_is, appends) same_is failed written_is kept =
    subst (AnswersRecord s shown input input' line bytes bytes' new explained log) (sym written_is) (
      mid,
      said,
      subst (Watches s shown input input' line bytes mid new explained log) (is ∙ ap (λ (e : Ended). Ok e) (sym same_is)) watches,
      subst (λ (e : Ended). IsEndText e line said) (sym same_is) (subst (λ (l : List ℕ). IsEndText end l said) read text_is),
      Appends-kept _ _ _ _ appends kept,
    )
ended_answered s shown input input' line text bytes mid after bytes' new explained log answered end (Err stop) written number F watches is read said same_is
    failed written_is kept =
    subst (AnswersRecord s shown input input' line bytes bytes' new explained log) (sym written_is) (Write number, failed.0, inr (number, refl))

-- it was stopped
pub stopped_answered : (s : StatedSetup) (shown : Shown) (input input' : Option (List ℕ)) (line : List ℕ) (bytes mid bytes' : Option (List ℕ)) (new : Watching)
    (explained : Explaining) (log : Option AdviceLogState)
    (answered : Result Ended Stop) (stop : Stop) (written : Result Ended ProgramStop)
    → Watches s shown input input' line bytes mid new explained log answered → answered ≡ Err stop → written ≡ Err (Record stop) → Keeps mid bytes'
    → AnswersRecord s shown input input' line bytes bytes' new explained log written
stopped_answered s shown input input' line bytes mid bytes' new explained log answered stop written watches is written_is kept =
    subst (AnswersRecord s shown input input' line bytes bytes' new explained log) (sym written_is)
    (stop, refl, inl (mid, subst (Watches s shown input input' line bytes mid new explained log) is watches, kept))

-- an explanation is lost where one was asked for
pub asked_for : (s : StatedSetup) (shown : Shown) (input input' : Option (List ℕ)) (line : List ℕ) (bytes mid : Option (List ℕ)) (new : Watching)
    (explained : Explaining) (log : Option AdviceLogState) (most : ℕ)
    (answered : Result Ended Stop)
    → Watches s shown input input' line bytes mid new explained log answered → explained.most ≡ most → explained.text ≡ None → 0 < most
asked_for s shown input input' line bytes mid new explained log most answered watches same lost = by watches.explained
  where
    by : AreExplained watches.lines explained → 0 < most
    by (inl (none, some)) = subst (λ n. 0 < n) same some
    by (inr had) = absurd (none-some _ (sym lost ∙ had))

-- what is said on standard error writes nothing to the writer
pub said_on : (holds_nothing : Type 0) (failed : Bool) (r : Reporting) (new : Watching) (explained : Option (List ℕ)) (result : Result Ended ProgramStop)
    (ending : ProgramEnd)
    → EndsWith r new explained result ending → IsHandedOn {S = Ended} holds_nothing failed result → IsHandedOn {S = Status} holds_nothing failed ending.ended
said_on holds_nothing failed r new (Some text) (Ok ended) ending (inl done) on =
    subst (λ (e : Result Status ProgramStop). IsHandedOn holds_nothing failed e) (sym done.0) on
said_on holds_nothing failed r new (Some text) (Ok ended) ending (inr (inl left)) on =
    subst (λ (e : Result Status ProgramStop). IsHandedOn holds_nothing failed e) (sym left.0) on
said_on holds_nothing failed r new (Some text) (Ok ended) ending (inr (inr short)) on =
    subst (λ (e : Result Status ProgramStop). IsHandedOn holds_nothing failed e) (sym short.0) on
said_on holds_nothing failed r new (Some text) (Err stop) ending told on =
    subst (λ (e : Result Status ProgramStop). IsHandedOn holds_nothing failed e) (sym told.0) (on_err Ended Status holds_nothing failed stop on)
said_on holds_nothing failed r new None (Ok ended) ending lost on =
    subst (λ (e : Result Status ProgramStop). IsHandedOn holds_nothing failed e) (sym lost.1.0) on
said_on holds_nothing failed r new None (Err stop) ending lost on =
    subst (λ (e : Result Status ProgramStop). IsHandedOn holds_nothing failed e) (sym lost.1.0) (on_err Ended Status holds_nothing failed stop on)

-- ---- what is said

none_of : {X Y : Type 0} (f : X → Y) (o : Option X) → option_map f o ≡ None → o ≡ None
none_of f None is = refl
none_of f (Some x) is = absurd (none-some (f x) (sym is))

-- the explanations and the advice are said
pub is_said : (r : Reporting) (explained : Option (List ℕ)) (log begun : Option AdviceLogState) (b : Bool) (said : Option (String Global))
    → (b ≡ true → advising_of begun ≡ advice_asked r)
    → advising_of log ≡ advising_of begun
    → IfSome said (λ text. (b ≡ true)
    × ((explanations advice : List ℕ) × (explained ≡ Some explanations) × IsAdvice log advice × (string_bytes text ≡ explanations ++ advice)))
    → IsSaid r explained log (option_map string_bytes said)
is_said r explained log begun b None asked same found = tt
is_said r explained log begun b (Some text) asked same found = (same ∙ asked found.0, found.1)

or_true : (a : Bool) → (a || true) ≡ true
or_true true = refl
or_true false = refl

some_asked : (r : Reporting) (log : Option AdviceLogState) → advising_of log ≡ advice_asked r → is_some log ≡ true → is_advised r ≡ true
some_asked r None same none = absurd (true≢false (sym none))
some_asked r (Some x) same some = ap is_some (sym same)

-- what is lost was asked for
pub lost_asked : (r : Reporting) (explained : Option (List ℕ)) (log begun : Option AdviceLogState) (b : Bool) (said : Option (String Global))
    → (b ≡ true → advising_of begun ≡ advice_asked r)
    → (b ≡ false → is_advised r ≡ true) → advising_of log ≡ advising_of begun → (explained ≡ None → 0 < r.explain)
    → (said ≡ None → (b ≡ false) ⊎ ((explained ≡ None) ⊎ (is_some log ≡ true)))
    → option_map string_bytes said ≡ None → (is_explained r || is_advised r) ≡ true
lost_asked r explained log begun b said asked refused same asks lost none = by b refl (lost (none_of string_bytes said none))
  where
    advised : is_advised r ≡ true → (is_explained r || is_advised r) ≡ true
    advised is = ap (λ c. is_explained r || c) is ∙ or_true (is_explained r)

    by : (c : Bool) → b ≡ c → (b ≡ false) ⊎ ((explained ≡ None) ⊎ (is_some log ≡ true)) → (is_explained r || is_advised r) ≡ true
    by c is (inl unasked) = advised (refused unasked)
    by c is (inr (inl gone)) =
        let asked_for : is_explained r ≡ true = grind (arith, nat_tests, asks gone) in
        ap (λ e. e || is_advised r) asked_for
    by true is (inr (inr some)) = advised (some_asked r log (same ∙ asked is) some)
    by false is (inr (inr some)) = advised (refused is)

-- the record under this setup
pub ends_record : (r : Reporting) (s stated : StatedSetup) (shown : Shown) (input input' bytes bytes' : Option (List ℕ)) (line : List ℕ) (new : Watching)
    (explained : Explaining) (log : Option AdviceLogState)
    (said : Option (List ℕ)) (result : Result Ended ProgramStop) (ending : ProgramEnd)
    → stated ≡ s → AnswersRecord stated shown input input' line bytes bytes' new explained log result → explained.most ≡ r.explain
    → IsSaid r explained.text log said
    → EndsWith r new said result ending → EndsRecord r s shown input input' bytes bytes' ending
ends_record r s stated shown input input' bytes bytes' line new explained log said result ending same answers most is ends = (
  line,
  new,
  explained,
  log,
  said,
  result,
  subst (λ (z : StatedSetup). AnswersRecord z shown input input' line bytes bytes' new explained log result) same answers,
  most,
  is,
  ends,
)
