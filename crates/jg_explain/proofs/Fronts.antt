-- A guard that goes over another one's journal again has its oldest entries.
use Rattle.std.proofs.Common.{◌≡◌, ◌+◌, ℕ, suc, List, ◌∷◌, ◌++◌, drop, Option, Some, ap, sym, ◌∙◌, subst}
use Rattle.std.specs.Prelude.{reverse, slice_get}
use Rattle.jg_words.specs.Entry.{Entry}
use Rattle.jg_words.specs.declared.thread.Tid.{Tid}
use Rattle.jg_words.specs.declared.thread.EnvId.{EnvId}
use Rattle.jg_words.specs.declared.call.Call.{Call}
use Rattle.jg_words.specs.declared.entry.Outcome.{Outcome}
use Rattle.jg_policy.specs.Stated.{StatedSetup}
use Rattle.jg_rules.specs.Effects.{parts}
use Rattle.jg_rules.specs.Legal.{Legal, entry_at}
use Rattle.jg_guard.specs.Guard.{State, Takes}
use Rattle.jg_laws.proofs.Fresh.{Legal-before}
use Rattle.jg_lists.proofs.Oldest.{oldest, oldest_more, oldest_before}
use Rattle.jg_breaches.specs.declared.condition.Condition.{Condition}
use Rattle.jg_explain.specs.Explained.{IsFront, after, was}

-- the entry's call, made again after the entries before it, makes the entry again
pub one_more : (whole old new : State) (place : ℕ) (x : Entry) (outcome : Outcome) → Legal whole.setup whole.journal → IsFront whole old place
    → slice_get (reverse whole.journal) place ≡ Some x
    → Takes old new x.tid x.env x.call outcome → IsFront whole new (place + 1)
one_more whole old new place x outcome legal front at takes =
    let before : List Entry = oldest place whole.journal in
    let later : List Entry = reverse (drop (suc place) (reverse whole.journal)) in
    let split : whole.journal ≡ later ++ x ∷ before = oldest_before whole.journal place x at in
    let own = Legal-before whole.setup later (x ∷ before) (subst (λ (h : List Entry). Legal whole.setup h) split legal) in
    let made : StatedSetup → List Entry → List Entry = λ s h. entry_at s (parts s h) x.tid x.env x.call ∷ h in
    let same : made old.setup old.journal ≡ made whole.setup before = ap (λ s. made s old.journal) front.setup ∙ ap (λ h. made whole.setup h) front.journal in
    record {
      setup = takes.setup ∙ front.setup;
      journal = takes.journal ∙ same ∙ ap (λ y. y ∷ before) (sym own.0) ∙ sym (oldest_more whole.journal place x at);
    }

-- the same where its parts are given with what they are
pub one_more_of : (whole old new : State) (place : ℕ) (x : Entry) (t : Tid) (env : Option EnvId) (call : Call) (outcome : Outcome) → t ≡ x.tid → env ≡ x.env
    → call ≡ x.call
    → Legal whole.setup whole.journal → IsFront whole old place → slice_get (reverse whole.journal) place ≡ Some x → Takes old new t env call outcome
    → IsFront whole new (place + 1)
one_more_of whole old new place x t env call outcome is_tid is_env is_call legal front at takes =
    one_more whole old new place x outcome legal front at
    (subst (λ (a : Call). Takes old new x.tid x.env a outcome) is_call
    (subst (λ (e : Option EnvId). Takes old new x.tid e call outcome) is_env
    (subst (λ (u : Tid). Takes old new u env call outcome) is_tid takes)))

pub after_front : (whole again : State) (f : Condition) (n : ℕ) → IsFront whole again n → after again.setup f again.journal ≡ was whole.setup f whole.journal n
after_front whole again f n front =
    ap (λ s. after s f again.journal) front.setup ∙ ap (λ h. after whole.setup f h) front.journal
