-- What a line that was read says of what the reader had left.
use Rattle.std.proofs.Common.{◌≡◌, ◌≢◌, ◌==◌, ℕ, ◌<◌, ◌≤◌, true, false, List, [], ◌∷◌, ◌++◌, length, codes, All, Option, Some, None, Ok, Err, refl, sym, ◌∙◌, ap, subst, arith, append_assoc, length-append, inl, inr, ◌⊎◌, eq-eqb}
use Rattle.std.specs.Int.{IsInRange}
use Rattle.std.specs.List.{AllByRecursion}
use Rattle.std.proofs.lemmas.Bool.{ne_eqb}
use Rattle.std.proofs.lemmas.List.{append-nil, append_cancel_left}
use Rattle.std.proofs.lemmas.List.Elements.{recursion_from_All, All-append, All-cons, All-nil}
use Rattle.jg_words.specs.declared.thread.Tid.{Tid}
use Rattle.jg_words.specs.declared.thread.EnvId.{EnvId}
use Rattle.jg_words.specs.declared.call.Call.{Call}
use Rattle.jg_words.specs.Entry.{Entry}
use Rattle.jg_rules.specs.Legal.{Legal}
use Rattle.jg_text.specs.Spelling.{spelling}
use Rattle.jg_text.specs.Begun.{BeginsWith, BeginsCall}
use Rattle.jg_text.specs.Journal.{entry_text, outcome_text, FitsOutcome}
use Rattle.jg_text.proofs.Laws.{begins_once, short_call, printable_line}
use Rattle.jg_text.proofs.Plain.{line_plain}
use Rattle.jg_text.proofs.Cuts.{same_cut}
use Rattle.jg_script.specs.Checked.{IsScript}
use Rattle.jg_lines.specs.Devices.{IsOneLine}
use Rattle.jg_guard.specs.Guard.{State, next_entry}
use Rattle.jg_script.specs.Entries.{Took, FailsCall, IsNoEntry, ReplaysLine}
use Rattle.jg_lines.specs.TextLines.{IsCut}
use Rattle.jg_script.specs.declared.replay.Difference.TheVariants.{OtherOutcome}
use Rattle.jg_script.specs.declared.run_fault.RunFault.{RunFault}
use Rattle.jg_script.specs.declared.run_fault.RunFault.TheVariants.{Script, Limit, NoMemory, Read, Write}
use Rattle.jg_script.proofs.Taking.{next_fits, next_begins}

-- printable bytes have no line feed
pub clean_of : (bs : List ℕ) → All (λ b. IsInRange 32 126 b) bs → IsOneLine bs
clean_of bs h = λ k d within. let v = h k d within in ne_eqb _ 10 (λ e. absurd (omega (arith, v, e)))

same_byte : (10 == 10) ≡ true
same_byte = eq-eqb 10 10 refl

-- a line has no line feed
no_feed : (text front back : List ℕ) → AllByRecursion (λ b. (b == 10) ≡ false) text → text ≡ front ++ 10 ∷ back → ⊥
no_feed [] [] back clean e = absurd (cc)
no_feed [] (x ∷ xs) back clean e = absurd (cc)
no_feed (y ∷ ys) [] back clean e =
    let head : y ≡ 10 = cc in
    let clash : true ≡ false = sym same_byte ∙ ap (λ b. b == 10) (sym head) ∙ clean.0 in
    absurd (cc)
no_feed (y ∷ ys) (x ∷ xs) back clean e = no_feed ys xs back clean.1 cc

-- where a line ends with the text, or is longer than a front without a line feed, that front is
-- the text's
front_within : (front text tail back : List ℕ) → AllByRecursion (λ b. (b == 10) ≡ false) front
    → (tail ≡ []) ⊎ (((more : List ℕ) × (tail ≡ 10 ∷ more)) ⊎ (length front ≤ length text))
    → text ++ tail ≡ front ++ back
    → (rest : List ℕ) × (text ≡ front ++ rest)
front_within [] text tail back clean cut e = (text, refl)
front_within (x ∷ xs) [] tail back clean (inl none) e = (let clash : [] ≡ x ∷ (xs ++ back) = sym none ∙ e in absurd (cc))
front_within (x ∷ xs) [] tail back clean (inr (inl (more, is))) e =
    let both : 10 ∷ more ≡ x ∷ (xs ++ back) = sym is ∙ e in
    let head : 10 ≡ x = cc in
    let clash : true ≡ false = sym same_byte ∙ ap (λ b. b == 10) head ∙ clean.0 in
    absurd (cc)
front_within (x ∷ xs) [] tail back clean (inr (inr long)) e = absurd (omega (arith, long))
front_within (x ∷ xs) (y ∷ ys) tail back clean (inl none) e =
    let head : y ≡ x = cc in
    let more = front_within xs ys tail back clean.1 (inl none) cc in
    (more.0, cc (head, more.1))
front_within (x ∷ xs) (y ∷ ys) tail back clean (inr (inl feed)) e =
    let head : y ≡ x = cc in
    let more = front_within xs ys tail back clean.1 (inr (inl feed)) cc in
    (more.0, cc (head, more.1))
front_within (x ∷ xs) (y ∷ ys) tail back clean (inr (inr long)) e =
    let head : y ≡ x = cc in
    let more = front_within xs ys tail back clean.1 (inr (inr (omega (arith, long)))) cc in
    (more.0, cc (head, more.1))

-- the same, of a text that is cut
cut_within : (front text tail back : List ℕ) → IsOneLine front → length front ≤ 65537 → IsCut text tail → text ++ tail ≡ front ++ back
    → (rest : List ℕ) × (text ≡ front ++ rest)
cut_within front text tail back clean short (inl none) e = front_within front text tail back (recursion_from_All _ front clean) (inl none) e
cut_within front text tail back clean short (inr (inl feed)) e = front_within front text tail back (recursion_from_All _ front clean) (inr (inl feed)) e
cut_within front text tail back clean short (inr (inr long)) e =
    front_within front text tail back (recursion_from_All _ front clean) (inr (inr (omega (arith, short, long)))) e

seen_equals : All (λ b. IsInRange 32 126 b) (codes " = ")
seen_equals =
    let P : ℕ → Type 0 = λ b. IsInRange 32 126 b in
    All-cons P 32 (61 ∷ 32 ∷ []) (omega arith) (All-cons P 61 (32 ∷ []) (omega arith) (All-cons P 32 [] (omega arith) (All-nil P)))

-- the text begins with the call with which the reader's bytes begin
begun_in : (text tail : List ℕ) (t : Tid) (e : Option EnvId) (c : Call) → IsCut text tail → BeginsWith (text ++ tail) t e c → BeginsWith text t e c
begun_in text tail t e c cut h =
    let begins = h.begins in
    let call = spelling t e c in
    let equals = codes " = " in
    let short = short_call t e c h.tid h.env h.call in
    let printable = All-append (λ b. IsInRange 32 126 b) call equals (printable_line t e c h.tid h.env h.call) seen_equals in
    let rest = cut_within (call ++ equals) text tail begins.0 (clean_of (call ++ equals) printable) (omega (arith, short, length-append call equals)) cut
    (begins.1
    ∙ sym (append_assoc call equals begins.0)) in
    record { tid = h.tid; env = h.env; call = h.call; begins = (rest.0, rest.1 ∙ append_assoc call equals rest.0) }

pub call_in : (text tail : List ℕ) → IsCut text tail → BeginsCall (text ++ tail) → BeginsCall text
call_in text tail cut (t, e, c, h) = (t, e, c, begun_in text tail t e c cut h)

pub call_goes_on : (text tail : List ℕ) (t : Tid) (e : Option EnvId) (c : Call) → BeginsWith text t e c → BeginsCall (text ++ tail)
call_goes_on text tail t e c h =
    let begins = h.begins in (
      t,
      e,
      c,
      record {
        tid = h.tid;
        env = h.env;
        call = h.call;
        begins = (
          begins.0 ++ tail,
          ap (λ (bs : List ℕ). bs ++ tail) begins.1 ∙ append_assoc (spelling t e c) (codes " = " ++ begins.0) tail
              ∙ ap (λ (bs : List ℕ). spelling t e c ++ bs) (append_assoc (codes " = ") begins.0 tail),
        );
      },
    )

-- one text begins with one call
same_begun : (text : List ℕ) (t u : Tid) (e f : Option EnvId) (c d : Call) → BeginsWith text t e c → BeginsWith text u f d → (t ≡ u) × (e ≡ f) × (c ≡ d)
same_begun text t u e f c d h k =
    let hb = h.begins in
    let kb = k.begins in
    begins_once t u e f c d (61 ∷ 32 ∷ hb.0) (61 ∷ 32 ∷ kb.0) h.tid h.env h.call k.tid k.env k.call (sym hb.1 ∙ kb.1)

-- an entry's text begins with its call
entry_begins : (x : Entry) (text more : List ℕ) → IsScript (x ∷ []) → text ≡ entry_text x ++ more → BeginsWith text x.tid x.env x.call
unfolding entry_text
entry_begins x text more fits e =
    let call = spelling x.tid x.env x.call in
    let equals = codes " = " in
    let outcome = outcome_text x.outcome in
    record {
      tid = fits.0.0;
      env = fits.0.1;
      call = fits.0.2;
      begins = (
        outcome ++ (10 ∷ more),
        e ∙ append_assoc ((call ++ equals) ++ outcome) (10 ∷ []) more ∙ append_assoc (call ++ equals) outcome (10 ∷ more)
            ∙ append_assoc call equals (outcome ++ (10 ∷ more)),
      );
    }

-- an entry's text has a line feed
pub ends_with_feed : (x : Entry) (text more : List ℕ) → IsOneLine text → text ≡ entry_text x ++ more → ⊥
unfolding entry_text
ends_with_feed x text more clean e =
    let line = (spelling x.tid x.env x.call ++ codes " = ") ++ outcome_text x.outcome in
    no_feed text line more (recursion_from_All _ text clean) (e ∙ append_assoc line (10 ∷ []) more)

too_far : (line text rest tail more : List ℕ) → AllByRecursion (λ b. (b == 10) ≡ false) text → text ≡ line ++ rest → length line < length text
    → text ++ tail ≡ line ++ (10 ∷ more) → ⊥
too_far line text [] tail more clean is long e = absurd (omega (arith, long, ap length (is ∙ append-nil line)))
too_far line text (r ∷ rest) tail more clean is long e =
    let both : line ++ ((r ∷ rest) ++ tail) ≡ line ++ (10 ∷ more) = sym (append_assoc line (r ∷ rest) tail) ∙ ap (λ (bs : List ℕ). bs ++ tail) (sym is) ∙ e in
    let behind : (r ∷ rest) ++ tail ≡ 10 ∷ more = append_cancel_left line ((r ∷ rest) ++ tail) (10 ∷ more) both in
    let head : r ≡ 10 = cc in
    no_feed text line rest clean (is ∙ ap (λ (b : ℕ). line ++ (b ∷ rest)) head)

-- the only line with which the reader's bytes can begin is the text
same_line : (line text tail more : List ℕ) → IsOneLine line → length line ≤ 65536 → IsOneLine text → IsCut text tail → text ++ tail ≡ line ++ (10 ∷ more)
    → text ≡ line
same_line line text tail more clean short one (inl none) e =
    let whole : text ≡ line ++ (10 ∷ more) = sym (append-nil text) ∙ ap (λ (bs : List ℕ). text ++ bs) (sym none) ∙ e in
    absurd (no_feed text line more (recursion_from_All _ text one) whole)
same_line line text tail more clean short one (inr (inl (rest, is))) e =
    (same_cut 10 text rest line more one clean (ap (λ (bs : List ℕ). text ++ bs) (sym is) ∙ e)).0
same_line line text tail more clean short one (inr (inr long)) e =
    let within = cut_within line text tail (10 ∷ more) clean (omega (arith, short)) (inr (inr long)) e in
    absurd (too_far line text within.0 tail more (recursion_from_All _ text one) within.1 (omega (arith, short, long)) e)

entry_is_line : (x : Entry) (text tail more : List ℕ) → IsScript (x ∷ []) → FitsOutcome x.outcome → IsOneLine text → IsCut text tail
    → text ++ tail ≡ entry_text x ++ more
    → entry_text x ≡ text ++ 10 ∷ []
entry_is_line x text tail more fits outcome one cut e =
    let plain = line_plain x fits.0.0 fits.0.1 fits.0.2 outcome in
    let line = plain.0 in
    let is = plain.2 in
    let same = same_line line text tail more (clean_of line is.printable) is.short one cut
    (e ∙ ap (λ (bs : List ℕ). bs ++ more) plain.1 ∙ append_assoc line (10 ∷ []) more) in
    plain.1 ∙ ap (λ (bs : List ℕ). bs ++ 10 ∷ []) (sym same)

line_within : (x : Entry) (text : List ℕ) → IsScript (x ∷ []) → FitsOutcome x.outcome → entry_text x ≡ text ++ 10 ∷ [] → length text ≤ 65536
line_within x text fits outcome e =
    let plain = line_plain x fits.0.0 fits.0.1 fits.0.2 outcome in
    let short = (plain.2).short in
    omega (arith, short, ap length (sym e ∙ plain.1), length-append text (10 ∷ []), length-append plain.0 (10 ∷ []))

-- a legal history goes on with the one entry of the call with which the text begins
same_entry : (guard : State) (x : Entry) (text tail more : List ℕ) (t : Tid) (env : Option EnvId) (call : Call) → Legal guard.setup (x ∷ guard.journal)
    → IsScript (x ∷ []) → IsCut text tail
    → text ++ tail ≡ entry_text x ++ more → BeginsWith text t env call → x ≡ next_entry guard t env call
same_entry guard x text tail more t env call legal fits cut e begun =
    let same = same_begun text x.tid t x.env env x.call call (begun_in text tail x.tid x.env x.call cut (entry_begins x (text ++ tail) more fits e)) begun in
    legal.0
    ∙ ap (λ (u : Tid). next_entry guard u x.env x.call) same.0
    ∙ ap (λ (f : Option EnvId). next_entry guard t f x.call) same.1
    ∙ ap (λ (d : Call). next_entry guard t env d) same.2

-- a text that begins with no call is the line of no entry
pub no_call : (guard : State) (text : List ℕ) → ¬ BeginsCall text → IsNoEntry guard text
no_call guard text none = λ tail one cut goes.
    let (x, more, legal, fits, e) = goes in
    none (x.tid, x.env, x.call, begun_in text tail x.tid x.env x.call cut (entry_begins x (text ++ tail) more (fits.0, tt) e))

-- a text that isn't the line of its call's entry is the line of no entry
not_replayed : (guard : State) (text : List ℕ) (t : Tid) (env : Option EnvId) (call : Call) → BeginsWith text t env call
    → FitsOutcome (next_entry guard t env call).outcome
    → entry_text (next_entry guard t env call) ≢ text ++ 10 ∷ []
    → IsNoEntry guard text
not_replayed guard text t env call begun outcome other = λ tail one cut goes.
    let (x, more, legal, fits, e) = goes in
    let same = same_entry guard x text tail more t env call legal (fits.0, tt) cut e begun in
    let fitting = subst (λ (y : Entry). FitsOutcome y.outcome) (sym same) outcome in
    other (ap entry_text (sym same) ∙ entry_is_line x text tail more (fits.0, tt) fitting one cut e)

-- the call isn't taken
pub not_taken : (old new : State) (e : Entry) (text : List ℕ) (n : ℕ) (fault : RunFault) → length old.journal < old.limit → FailsCall old new e n fault
    → ReplaysLine old new text n (Err fault)
not_taken old new e text n (Limit line) room (same, full, is) = absurd (omega (arith, room, full))
not_taken old new e text n (NoMemory line) room (inl same, is) = (is, inl same)
not_taken old new e text n (NoMemory line) room (inr took, is) = (is, inr (e, took))
not_taken old new e text n (Script line fault) room none = absurd none
not_taken old new e text n (Read line) room none = absurd none
not_taken old new e text n (Write line) room none = absurd none

module _ (old new : State) (text entry : List ℕ) (t : Tid) (env : Option EnvId) (call : Call) (n : ℕ) (begun : BeginsWith text t env call)
    (outcome : FitsOutcome (next_entry old t env call).outcome) (took : Took old new (next_entry old t env call))
    (is : entry ≡ entry_text (next_entry old t env call)) where
  pub is_its_line : entry ≡ text ++ 10 ∷ [] → ReplaysLine old new text n (Ok None)
  is_its_line same =
      let fits = next_fits old t env call begun.tid begun.env begun.call in
      let line = sym is ∙ same in
      (next_entry old t env call, took, fits, line, line_within (next_entry old t env call) text fits outcome line)

  pub is_other_line : entry ≢ text ++ 10 ∷ [] → ReplaysLine old new text n (Ok (Some OtherOutcome))
  is_other_line other = (
    not_replayed old text t env call begun outcome (λ line. other (is ∙ line)),
    (next_entry old t env call, took, next_begins old text t env call begun, λ line. other (is ∙ line)),
  )
