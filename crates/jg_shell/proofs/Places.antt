-- Places in a journal that gets one entry more.
use Rattle.std.proofs.Common.{ℕ, ◌≡◌, ◌<◌, List, [], ◌∷◌, ◌++◌, length, map, reverse, Option, Some, None, Result, Ok, Err, IfOk, refl, sym, ap, ◌∙◌, arith}
use Rattle.std.specs.Prelude.{slice_get}
use Rattle.std.specs.Option.{option_map}
use Rattle.std.proofs.lemmas.List.{reverse-append, length-reverse, length-map}
use Rattle.std.proofs.lemmas.Option.{slice_get-map, slice_get_within}
use Rattle.jg_words.specs.declared.thread.Tid.{Tid}
use Rattle.jg_words.specs.declared.thread.EnvId.{EnvId}
use Rattle.jg_words.specs.declared.rule.Rule.{Rule}
use Rattle.jg_words.specs.declared.call.Call.{Call}
use Rattle.jg_words.specs.Entry.{Entry}
use Rattle.jg_words.proofs.Common.{slice_get-before}
use Rattle.jg_rules.specs.declared.answer.Answer.{Answer}
use Rattle.jg_rules.specs.Effects.{parts}
use Rattle.jg_rules.specs.Rules.{verdict}
use Rattle.jg_rules.specs.Answers.{answer}
use Rattle.jg_rules.specs.Legal.{entry_by, entry_at}
use Rattle.jg_guard.specs.declared.guard.Refusal.{Refusal}
use Rattle.jg_guard.specs.Guard.{State, Takes}
use Rattle.jg_shell.specs.declared.receipt.Receipt.{Receipt}
use Rattle.jg_shell.specs.Receipts.{Told, told_of, told_by, told_at, IsReceiptOf}

slice_get_last : {X : Type 0} (xs : List X) (x : X) → slice_get (xs ++ x ∷ []) (length xs) ≡ Some x
slice_get_last [] x = refl
slice_get_last (y ∷ xs) x = slice_get_last xs x

turned : (x : Entry) (h : List Entry) → reverse (x ∷ h) ≡ reverse h ++ x ∷ []
turned x h = reverse-append (x ∷ []) h

-- the newest entry has the last place
pub told_newest : (x : Entry) (h : List Entry) → told_at (x ∷ h) (length h) ≡ Some (told_of x)
told_newest x h =
    ap (λ (o : Option Entry). option_map told_of o)
    (ap (λ (xs : List Entry). slice_get xs (length h)) (turned x h)
    ∙ (ap (λ n. slice_get (reverse h ++ x ∷ []) n) (sym (length-reverse h)) ∙ slice_get_last (reverse h) x))

-- the older entries keep their places
pub told_older : (x : Entry) (h : List Entry) (i : ℕ) → i < length h → told_at (x ∷ h) i ≡ told_at h i
told_older x h i lt =
    ap (λ (o : Option Entry). option_map told_of o)
    (ap (λ (xs : List Entry). slice_get xs i) (turned x h) ∙ slice_get-before (reverse h) (x ∷ []) i (omega (arith, length-reverse h)))

-- only the places below the length have entries
pub told_within : (h : List Entry) (i : ℕ) (t : Told) → told_at h i ≡ Some t → i < length h
told_within h i t is =
    let lt : i < length (map told_of (reverse h)) = slice_get_within (map told_of (reverse h)) i t (slice_get-map told_of (reverse h) i ∙ is) in
    omega (arith, length-map (reverse h) told_of, length-reverse h)

told_of_entry : (v : Option Rule) (a : Answer) (t : Tid) (env : Option EnvId) (call : Call) (r : Receipt) → IsReceiptOf t env call r
    → r.outcome ≡ (entry_by v a t env call).outcome
    → told_of (entry_by v a t env call) ≡ told_by r
told_of_entry None a t env call r of is = cc (of.tid_is, of.env_is, of.call_is)
told_of_entry (Some rule) a t env call r of is = cc (of.tid_is, of.env_is, of.call_is)

-- the receipt of a call that the guard took is the newest entry
told_taken : (old new : State) (t : Tid) (env : Option EnvId) (call : Call) (r : Receipt) → Takes old new t env call r.outcome → r.place ≡ length old.journal
    → IsReceiptOf t env call r
    → told_at new.journal r.place ≡ Some (told_by r)
told_taken old new t env call r takes place of =
    let x = entry_at old.setup (parts old.setup old.journal) t env call in
    ap (λ (h : List Entry). told_at h r.place) takes.journal
    ∙ (ap (λ n. told_at (x ∷ old.journal) n) place
    ∙ (told_newest x old.journal
    ∙ ap Some (told_of_entry (verdict old.setup (parts old.setup old.journal) t.0 env call) (answer old.setup (parts old.setup old.journal) t call) t env
    call r of
    takes.answered)))

pub told_where_taken : (old new : State) (t : Tid) (env : Option EnvId) (call : Call) (result : Result Receipt Refusal)
    → IfOk result (λ r. Takes old new t env call r.outcome)
    → IfOk result (λ r. r.place ≡ length old.journal) → IfOk result (IsReceiptOf t env call)
    → IfOk result (λ r. told_at new.journal r.place ≡ Some (told_by r))
told_where_taken old new t env call (Ok r) takes place of = told_taken old new t env call r takes place of
told_where_taken old new t env call (Err refusal) takes place of = tt
