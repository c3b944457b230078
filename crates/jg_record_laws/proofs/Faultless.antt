-- A text that spells an event has no fault, but that it may be too long.
use Rattle.std.proofs.Common.{◌≡◌, ◌∙◌, ◌==◌, ◌<◌, ◌≤◌, ◌+◌, ◌∷◌, ℕ, Bool, true, false, List, [], length, Some, refl, sym, ap, subst, arith, inl, inr}
use Rattle.std.specs.Prelude.{◌||◌, if◌then◌else◌, nat_le, slice_get}
use Rattle.std.specs.List.{list_any}
use Rattle.std.proofs.lemmas.Bool.{or_parts}
use Rattle.std.proofs.lemmas.Bool.Decides.{nat_tests}
use Rattle.std.proofs.lemmas.List.{length-map}
use Rattle.std.proofs.lemmas.Option.{slice_get_within}
use Rattle.jg_words.specs.declared.thread.Tid.{Tid}
use Rattle.jg_words.specs.declared.object.ObjId.{ObjId}
use Rattle.jg_policy.specs.Stated.{StatedSetup}
use Rattle.jg_text.specs.Words.{env_text}
use Rattle.jg_rows.specs.declared.row.Takes.{Takes}
use Rattle.jg_rows.specs.Columns.{Columns}
use Rattle.jg_rows.specs.Table.{functions}
use Rattle.jg_judge.specs.declared.argument.Argument.{Argument}
use Rattle.jg_judge.specs.Asked.{is_last}
use Rattle.jg_record.specs.declared.event.Event.{Event}
use Rattle.jg_record.specs.declared.fault.RecordFault.TheVariants.{LineTooLong, NotAscii, NoThread, NoEvent, UnknownFunction, WrongCount, BadOperand, NoMemory}
use Rattle.jg_record.specs.declared.verb.Verb.{Verb}
use Rattle.jg_record.specs.declared.verb.Verb.TheVariants as verb
use Rattle.jg_record.specs.Words.{object_text, verb_named}
use Rattle.jg_record.specs.Operands.{Asks, is_count}
use Rattle.jg_record.specs.Events.{Tells, is_told_count}
use Rattle.jg_record.proofs.Faulty.{no_verb}
use Rattle.jg_record.proofs.Reading.{name_of_row}
use Rattle.jg_record_laws.specs.Laws.{IsFaultless}
use Rattle.jg_record_laws.proofs.Parts.{has_parts, row_passes}
use Rattle.jg_record_laws.proofs.Texts.{own_line}

-- ---- how many operands there are

-- what may stand any number of times stands last alone
abbrev ends : List Takes → Bool
ends [] = true
ends (t ∷ takes) = if is_last t then length takes == 0 else ends takes

off : (b : Bool) → b ≡ true → b ≡ false → ⊥
off b is not = let no : true ≡ false = sym is ∙ not in cc

closed : (takes : List Takes) (words : List (List ℕ)) (xs : List Argument) → list_any is_last takes ≡ false → Asks takes words xs
    → length words ≡ length takes
closed [] [] [] none asks = refl
closed (t ∷ takes) [] [] none asks = absurd (off (is_last t) asks (or_parts (is_last t) (list_any is_last takes) none).0)
closed takes [] (x ∷ xs) none asks = absurd asks
closed [] (word ∷ words) xs none asks = absurd asks
closed (t ∷ takes) (word ∷ words) [] none asks = absurd asks
closed (t ∷ takes) (word ∷ words) (x ∷ xs) none asks =
    let parts = or_parts (is_last t) (list_any is_last takes) none in
    let rest : Asks takes words xs = subst (λ (b : Bool). Asks (if b then t ∷ takes else takes) words xs) parts.0 asks.1 in
    let count = closed takes words xs parts.1 rest in
    omega (arith, count)

last_one : (t : Takes) (takes : List Takes) → is_last t ≡ true → ends (t ∷ takes) ≡ true → length takes ≡ 0
last_one t takes last end =
    let none : (length takes == 0) ≡ true = ap (λ b. if b then length takes == 0 else ends takes) (sym last) ∙ end in
    grind (arith, nat_tests, none)

open_ended : (takes : List Takes) (words : List (List ℕ)) (xs : List Argument) → list_any is_last takes ≡ true → ends takes ≡ true → Asks takes words xs
    → length takes ≤ length words + 1
open_ended [] words xs any end asks = absurd (let no : ⊥ = cc in no)
open_ended (t ∷ takes) [] [] any end asks = let none = last_one t takes asks end in omega (arith, none)
open_ended (t ∷ takes) [] (x ∷ xs) any end asks = absurd asks
open_ended (t ∷ takes) (word ∷ words) [] any end asks = absurd asks
open_ended (t ∷ takes) (word ∷ words) (x ∷ xs) any end asks = by (is_last t) refl
    (λ other rest later. open_ended takes words xs rest later (subst (λ (b : Bool). Asks (if b then t ∷ takes else takes) words xs) other asks.1))
  where
    by : (b : Bool) → is_last t ≡ b → (is_last t ≡ false → list_any is_last takes ≡ true → ends takes ≡ true → length takes ≤ length words + 1)
        → length (t ∷ takes) ≤ length (word ∷ words) + 1
    by true last more = let none = last_one t takes last end in omega (arith, none)
    by false other more =
        let rest : list_any is_last takes ≡ true = ap (λ b. b || list_any is_last takes) (sym other) ∙ any in
        let later : ends takes ≡ true = ap (λ b. if b then length takes == 0 else ends takes) (sym other) ∙ end in
        let few = more other rest later in
        omega (arith, few)

are_counted : (takes : List Takes) (words : List (List ℕ)) (xs : List Argument) → ends takes ≡ true → Asks takes words xs
    → is_count takes (length words) ≡ true
are_counted takes words xs end asks = by (list_any is_last takes) refl
  where
    by : (b : Bool) → list_any is_last takes ≡ b → is_count takes (length words) ≡ true
    by true any =
        let few = open_ended takes words xs any end asks in
        ap (λ b. if b then nat_le (length takes) (length words + 1) else length words == length takes) any
        ∙ (let within : nat_le (length takes) (length words + 1) ≡ true = grind (arith, nat_tests, few) in within)
    by false none =
        let count = closed takes words xs none asks in
        ap (λ b. if b then nat_le (length takes) (length words + 1) else length words == length takes) none
        ∙ (let same : (length words == length takes) ≡ true = grind (arith, nat_tests, count) in same)

row_ends : (place : ℕ) (row : Columns) → slice_get functions place ≡ Some row → ends row.takes ≡ true
row_ends place row at = row_passes (λ r. ends r.takes) functions place row refl at

-- ---- how many words a fact has

some_gone : (gone : List ObjId) → 0 < length gone → nat_le 1 (length gone) ≡ true
some_gone gone some = grind (arith, nat_tests, some)

are_told : (s : StatedSetup) (v : Verb) (t : Tid) (words : List (List ℕ)) (e : Event) (gone : List ObjId) → Tells s v t words e gone
    → is_told_count v (length words) ≡ true
are_told s verb.Begins t words e gone (is, _) = ap (λ (ws : List (List ℕ)). is_told_count verb.Begins (length ws)) is
are_told s verb.Ends t words e gone (is, _) = ap (λ (ws : List (List ℕ)). is_told_count verb.Ends (length ws)) is
are_told s verb.Enters t words e gone (is, _) = ap (λ (ws : List (List ℕ)). is_told_count verb.Enters (length ws)) is
are_told s verb.Leaves t words e gone (_, _, is, _) = ap (λ (ws : List (List ℕ)). is_told_count verb.Leaves (length ws)) is
are_told s verb.Pushed t words e gone (_, _, is, _) = ap (λ (ws : List (List ℕ)). is_told_count verb.Pushed (length ws)) is
are_told s verb.Popped t words e gone (_, _, is, _) = ap (λ (ws : List (List ℕ)). is_told_count verb.Popped (length ws)) is
are_told s verb.Ensured t words e gone (_, _, is, _) = ap (λ (ws : List (List ℕ)). is_told_count verb.Ensured (length ws)) is
are_told s verb.Raised t words e gone (_, _, is, _) = ap (λ (ws : List (List ℕ)). is_told_count verb.Raised (length ws)) is
are_told s verb.Calmed t words e gone (is, _) = ap (λ (ws : List (List ℕ)). is_told_count verb.Calmed (length ws)) is
are_told s verb.Got t words e gone (_, _, _, _, _, is, _) = ap (λ (ws : List (List ℕ)). is_told_count verb.Got (length ws)) is
are_told s verb.Lost t words e gone (_, _, is, _) = ap (λ (ws : List (List ℕ)). is_told_count verb.Lost (length ws)) is
are_told s verb.Lent t words e gone (_, _, _, _, _, _, _, _, _, is, _) = ap (λ (ws : List (List ℕ)). is_told_count verb.Lent (length ws)) is
are_told s verb.Gave t words e gone (_, _, is, _) = ap (λ (ws : List (List ℕ)). is_told_count verb.Gave (length ws)) is
are_told s verb.Owns t words e gone (_, _, is, _) = ap (λ (ws : List (List ℕ)). is_told_count verb.Owns (length ws)) is
are_told s verb.Freed t words e gone (_, _, is, _) = ap (λ (ws : List (List ℕ)). is_told_count verb.Freed (length ws)) is
are_told s verb.Met t words e gone (_, _, _, _, _, is, _) = ap (λ (ws : List (List ℕ)). is_told_count verb.Met (length ws)) is
are_told s verb.Gone t words e gone ((fits, some, is), _) =
    ap (λ (ws : List (List ℕ)). nat_le 1 (length ws)) is ∙ (ap (nat_le 1) (length-map gone object_text) ∙ some_gone gone some)
are_told s verb.Linked t words e gone (_, _, _, _, is, _) = ap (λ (ws : List (List ℕ)). is_told_count verb.Linked (length ws)) is
are_told s verb.Unlinked t words e gone (_, _, is, _) = ap (λ (ws : List (List ℕ)). is_told_count verb.Unlinked (length ws)) is
are_told s verb.Warned t words e gone (_, _, is, _) = ap (λ (ws : List (List ℕ)). is_told_count verb.Warned (length ws)) is
are_told s verb.Local t words e gone (_, _, _, _, is, _) = ap (λ (ws : List (List ℕ)). is_told_count verb.Local (length ws)) is
are_told s verb.Pending t words e gone (_, _, is, _) = ap (λ (ws : List (List ℕ)). is_told_count verb.Pending (length ws)) is
are_told s verb.Length t words e gone (_, _, _, _, is, _) = ap (λ (ws : List (List ℕ)). is_told_count verb.Length (length ws)) is
are_told s verb.Bounds t words e gone (_, _, _, _, _, _, is, _) = ap (λ (ws : List (List ℕ)). is_told_count verb.Bounds (length ws)) is

-- ---- faults

many : length functions ≡ 243
many = refl

row_below : (place : ℕ) (row : Columns) → slice_get functions place ≡ Some row → place < 243
row_below place row at = omega (arith, slice_get_within functions place row at, many)

pub faultless : IsFaultless
faultless s text e xs gone LineTooLong few spelt bad = refl
faultless s text e xs gone NotAscii few spelt bad = absurd (bad (own_line s text e xs gone few spelt).printable)
faultless s text e xs gone NoThread few spelt bad =
    let has = has_parts s text e xs gone few spelt in
    absurd (bad has.by has.fits (ap (λ fs. slice_get fs 0) has.split))
faultless s text e xs gone NoEvent few (inl (t, env, place, row, words, h, asks, is)) bad =
    absurd (bad.0 env h.fits_env (ap (λ fs. slice_get fs 1) h.split))
faultless s text e xs gone NoEvent few (inr (t, v, words, h, tells)) bad = absurd (bad.1 h.word v (ap (λ fs. slice_get fs 1) h.split) h.verb)
faultless s text e xs gone UnknownFunction few (inl (t, env, place, row, words, h, asks, is)) bad =
    absurd (bad.3 place (row_below place row h.at)
    (ap (λ fs. slice_get fs 2) h.split ∙ ap (λ (name : List ℕ). Some name) (sym (name_of_row place row h.at))))
faultless s text e xs gone UnknownFunction few (inr (t, v, words, h, tells)) bad =
    let both : Some (env_text bad.0) ≡ Some h.word = sym bad.2 ∙ ap (λ fs. slice_get fs 1) h.split in
    let word : env_text bad.0 ≡ h.word = cc in
    absurd (no_verb bad.0 v (ap verb_named word ∙ h.verb))
faultless s text e xs gone WrongCount few (inl (t, env, place, row, words, h, asks, is)) bad =
    absurd (off (is_count row.takes (length words)) (are_counted row.takes words xs (row_ends place row h.at) asks) (bad.0 t env place row words h))
faultless s text e xs gone WrongCount few (inr (t, v, words, h, tells)) bad =
    absurd (off (is_told_count v (length words)) (are_told s v t words e gone tells) (bad.1 t v words h))
faultless s text e xs gone BadOperand few (inl (t, env, place, row, words, h, asks, is)) bad = absurd (bad.0 t env place row words h xs asks)
faultless s text e xs gone BadOperand few (inr (t, v, words, h, tells)) bad = absurd (bad.1 t v words h e gone tells)
faultless s text e xs gone NoMemory few spelt bad = absurd bad
