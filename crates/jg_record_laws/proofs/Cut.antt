-- A line is cut in one way.
use Rattle.std.proofs.Common.{◌≡◌, ◌∙◌, ◌<◌, ◌+◌, ◌∷◌, ◌++◌, ℕ, List, length, take, drop, Option, Some, None, refl, sym, ap, subst, arith}
use Rattle.std.proofs.Math.Seq.{take-append_seam, drop-append_seam}
use Rattle.jg_record.specs.Parts.{IsFirstMark, CutsAt}
use Rattle.jg_record_laws.specs.Laws.{IsCutOnce}

-- what is as long in front, and as long behind that
fronts : (front other rest more : List ℕ) → length front ≡ length other → front ++ rest ≡ other ++ more → front ≡ other
fronts front other rest more long same =
    sym (take-append_seam front rest) ∙ (ap (take (length front)) same ∙ (ap (λ (n : ℕ). take n (other ++ more)) long ∙ take-append_seam other more))

backs : (front other rest more : List ℕ) → length front ≡ length other → front ++ rest ≡ other ++ more → rest ≡ more
backs front other rest more long same =
    sym (drop-append_seam front rest) ∙ (ap (drop (length front)) same ∙ (ap (λ (n : ℕ). drop n (other ++ more)) long ∙ drop-append_seam other more))

no_first : (mark : ℕ) (text front other back : List ℕ) → CutsAt mark text front None → CutsAt mark text other (Some back) → ⊥
no_first mark text front other back (all, none) (first, is) =
    let within : length other + 1 + 1 < length text = first.is.1.2 in
    none (length other + 1) (omega (arith, within)) first.is

not_before : (mark : ℕ) (text : List ℕ) (m n : ℕ) → IsFirstMark mark text (m + 1) → IsFirstMark mark text (n + 1) → ¬ (m < n)
not_before mark text m n h k lt = k.first (m + 1) (omega (arith, lt)) h.is

one_cut : (mark : ℕ) (text front other : List ℕ) (back behind : Option (List ℕ)) → CutsAt mark text front back → CutsAt mark text other behind
    → (front ≡ other) × (back ≡ behind)
one_cut mark text front other None None h k = (h.0 ∙ sym k.0, refl)
one_cut mark text front other None (Some behind) h k = absurd (no_first mark text front other behind h k)
one_cut mark text front other (Some back) None h k = absurd (no_first mark text other front back k h)
one_cut mark text front other (Some back) (Some behind) (first, is) (also, has) =
    let below = not_before mark text (length front) (length other) first also in
    let above = not_before mark text (length other) (length front) also first in
    let long : length front ≡ length other = omega (arith, below, above) in
    let whole : front ++ 32 ∷ mark ∷ 32 ∷ back ≡ other ++ 32 ∷ mark ∷ 32 ∷ behind = sym is ∙ has in
    let rest = backs front other (32 ∷ mark ∷ 32 ∷ back) (32 ∷ mark ∷ 32 ∷ behind) long whole in
    let same : back ≡ behind = cc in
    (fronts front other (32 ∷ mark ∷ 32 ∷ back) (32 ∷ mark ∷ 32 ∷ behind) long whole, ap (λ (bs : List ℕ). Some bs) same)

pub cut_once : IsCutOnce
cut_once line event other answer reply note remark (front, by_note, by_answer) (front', by_remark, by_reply) =
    let notes = one_cut 64 line front front' note remark by_note by_remark in
    let answers = one_cut 61 front event other answer reply by_answer (subst (λ (f : List ℕ). CutsAt 61 f other reply) (sym notes.0) by_reply) in
    (answers.0, answers.1, notes.1)
