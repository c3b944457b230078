-- The calls determine the legal history.
use Rattle.std.proofs.Common.{◌≡◌, List, [], ◌∷◌, Option, Some, None, refl, ap, sym, ◌∙◌}
use Rattle.jg_words.specs.declared.thread.Tid.{Tid}
use Rattle.jg_words.specs.declared.thread.EnvId.{EnvId}
use Rattle.jg_words.specs.declared.call.Call.{Call}
use Rattle.jg_words.specs.declared.rule.Rule.{Rule}
use Rattle.jg_words.specs.Entry.{Entry}
use Rattle.jg_policy.specs.Stated.{StatedSetup}
use Rattle.jg_rules.specs.declared.answer.Answer.{Answer}
use Rattle.jg_rules.specs.Parts.{Parts}
use Rattle.jg_rules.specs.Effects.{parts}
use Rattle.jg_rules.specs.Rules.{verdict}
use Rattle.jg_rules.specs.Answers.{answer}
use Rattle.jg_rules.specs.Legal.{Legal, entry_at, entry_by, Asked, asked_in, calls_of, history_of}
use Rattle.jg_laws.specs.Laws.{OneHistoryForTheCalls}

asked_by : (v : Option Rule) (a : Answer) (t : Tid) (env : Option EnvId) (call : Call)
    → asked_in (entry_by v a t env call) ≡ record { tid = t; env = env; call = call }
asked_by (Some rule) a t env call = refl
asked_by None a t env call = refl

-- an entry is of its call
asked_at : (s : StatedSetup) (p : Parts) (t : Tid) (env : Option EnvId) (call : Call)
    → asked_in (entry_at s p t env call) ≡ record { tid = t; env = env; call = call }
asked_at s p t env call = asked_by (verdict s p t.0 env call) (answer s p t call) t env call

Legal-history_of : (s : StatedSetup) (calls : List Asked) → Legal s (history_of s calls)
Legal-history_of s [] = tt
Legal-history_of s (c ∷ calls) =
    let asked = asked_at s (parts s (history_of s calls)) c.tid c.env c.call in
    (ap (λ (q : Asked). entry_at s (parts s (history_of s calls)) q.tid q.env q.call) (sym asked), Legal-history_of s calls)

calls_of-history_of : (s : StatedSetup) (calls : List Asked) → calls_of (history_of s calls) ≡ calls
calls_of-history_of s [] = refl
calls_of-history_of s (c ∷ calls) =
    let first : asked_in (entry_at s (parts s (history_of s calls)) c.tid c.env c.call) ≡ c = asked_at s (parts s (history_of s calls)) c.tid c.env c.call in
    let rest = calls_of-history_of s calls in
    cc (first, rest)

heads : (c d : Asked) (cs ds : List Asked) → (c ∷ cs) ≡ (d ∷ ds) → c ≡ d
heads c d cs ds is = cc

tails : (c d : Asked) (cs ds : List Asked) → (c ∷ cs) ≡ (d ∷ ds) → cs ≡ ds
tails c d cs ds is = cc

one_entry : (s : StatedSetup) (x y : Entry) (g h : List Entry) → x ≡ entry_at s (parts s g) x.tid x.env x.call → y ≡ entry_at s (parts s h) y.tid y.env y.call
    → asked_in x ≡ asked_in y → g ≡ h → x ≡ y
one_entry s x y g h xs ys asked same =
    xs ∙ (ap (λ (q : Asked). entry_at s (parts s g) q.tid q.env q.call) asked
    ∙ (ap (λ (k : List Entry). entry_at s (parts s k) y.tid y.env y.call) same ∙ sym ys))

-- two legal histories of the same calls are the same
one_legal : (s : StatedSetup) (g h : List Entry) → Legal s g → Legal s h → calls_of g ≡ calls_of h → g ≡ h
one_legal s [] [] gl hl is = refl
one_legal s [] (y ∷ h) gl hl is = absurd cc
one_legal s (x ∷ g) [] gl hl is = absurd cc
one_legal s (x ∷ g) (y ∷ h) gl hl is =
    let rest = one_legal s g h gl.1 hl.1 (tails (asked_in x) (asked_in y) (calls_of g) (calls_of h) is) in
    let first = one_entry s x y g h gl.0 hl.0 (heads (asked_in x) (asked_in y) (calls_of g) (calls_of h) is) rest in
    cc (first, rest)

pub one_history : OneHistoryForTheCalls
one_history s calls = record {
  legal = Legal-history_of s calls;
  asked = calls_of-history_of s calls;
  only = λ g legal asked. one_legal s g (history_of s calls) legal (Legal-history_of s calls) (asked ∙ sym (calls_of-history_of s calls));
}
