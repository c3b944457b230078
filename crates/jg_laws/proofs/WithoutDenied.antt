-- A legal history without its denied entries is legal.
use Rattle.std.proofs.Common.{◌≡◌, List, [], ◌∷◌, refl, ap, sym, ◌∙◌}
use Rattle.jg_words.specs.declared.entry.Outcome.{Outcome}
use Rattle.jg_words.specs.declared.entry.Outcome.TheVariants.{Passed, Denied}
use Rattle.jg_words.specs.Entry.{Entry}
use Rattle.jg_policy.specs.Stated.{StatedSetup}
use Rattle.jg_rules.specs.Parts.{Parts}
use Rattle.jg_rules.specs.Effects.{parts, after}
use Rattle.jg_rules.specs.Legal.{Legal, entry_at}
use Rattle.jg_laws.specs.Histories.{passed_only, unless_denied}
use Rattle.jg_laws.specs.Laws.{DeniedEntriesDoNothing}

parts_one : (s : StatedSetup) (o : Outcome) (x : Entry) (h k : List Entry) → x.outcome ≡ o → parts s k ≡ parts s h
    → parts s (unless_denied o x k) ≡ parts s (x ∷ h)
parts_one s (Passed reply) x h k is e = ap (after s x.tid.0 x.call x.outcome x.object) e
parts_one s (Denied rule) x h k is e = rw is e

-- denied entries change nothing that later ones see
parts-passed_only : (s : StatedSetup) (h : List Entry) → parts s (passed_only h) ≡ parts s h
parts-passed_only s [] = refl
parts-passed_only s (x ∷ h) = parts_one s x.outcome x h (passed_only h) refl (parts-passed_only s h)

legal_one : (s : StatedSetup) (o : Outcome) (x : Entry) (h : List Entry) → Legal s (passed_only h) → x ≡ entry_at s (parts s h) x.tid x.env x.call
    → Legal s (unless_denied o x (passed_only h))
legal_one s (Passed reply) x h old is = (is ∙ sym (ap (λ (p : Parts). entry_at s p x.tid x.env x.call) (parts-passed_only s h)), old)
legal_one s (Denied rule) x h old is = old

pub Legal-passed_only : DeniedEntriesDoNothing
Legal-passed_only s [] legal = legal
Legal-passed_only s (x ∷ h) legal = legal_one s x.outcome x h (Legal-passed_only s h legal.1) legal.0
