-- Which denial of a journal is the newest, and what is told of it.
use Rattle.std.proofs.Common.{◌≡◌, ◌+◌, ◌-◌, ◌<◌, ◌≤◌, ℕ, List, [], ◌∷◌, ◌++◌, length, Option, Some, ap, sym, ◌∙◌, arith}
use Rattle.std.specs.Prelude.{flat_map}
use Rattle.std.proofs.lemmas.List.{append-nil}
use Rattle.std.proofs.lemmas.List.Concat.{flat_map-cons}
use Rattle.jg_words.specs.Entry.{Entry, rule_in}
use Rattle.jg_words.specs.declared.rule.Rule.{Rule}
use Rattle.jg_lists.proofs.Oldest.{oldest}
use Rattle.jg_policy.specs.Stated.{StatedSetup}
use Rattle.jg_rules.specs.Effects.{parts}
use Rattle.jg_breaches.specs.Breaches.{breach_of}
use Rattle.jg_explain.specs.Explained.{Cause, IsNewestAt, cause_at, cause_by, causes, causes_at, causes_of}
use Rattle.jg_explain.specs.Texts.{cause_text}
use Rattle.jg_explain.proofs.Causing.{causes_next}

-- a denied entry has one cause
pub one_cause : (s : StatedSetup) (h : List Entry) (found : Option Entry) (x : Entry) (rule : Rule) → Some x ≡ found → Some rule ≡ rule_in x.outcome
    → (c : Cause) × (causes_at s h found ≡ c ∷ [])
one_cause s h found x rule at denied =
    (cause_by s h x rule (breach_of s (parts s h) x.tid x.env x.call rule), ap (causes_at s h) (sym at) ∙ ap (causes_of s h x) (sym denied))

-- where no entry from the nth on was denied, the causes are those of the entries before the one in front of it, and its own
before : (s : StatedSetup) (h : List Entry) (n : ℕ) → 0 < n → n ≤ length h → causes s h ≡ causes s (oldest n h)
    → causes s h ≡ causes s (oldest (n - 1) h) ++ cause_at s h (n - 1)
before s h n some within passed =
    let next : n ≡ n - 1 + 1 = omega (arith, some) in
    passed ∙ ap (λ k. causes s (oldest k h)) next ∙ causes_next s h (n - 1) (omega (arith, some, within))

-- its own is none
pub one_back : (s : StatedSetup) (h : List Entry) (n : ℕ) → 0 < n → n ≤ length h → causes s h ≡ causes s (oldest n h) → cause_at s h (n - 1) ≡ []
    → causes s h ≡ causes s (oldest (n - 1) h)
one_back s h n some within passed none =
    let old : List Cause = causes s (oldest (n - 1) h) in
    before s h n some within passed ∙ ap (λ cs. old ++ cs) none ∙ append-nil old

-- its own is one, the newest
pub newest_at : (s : StatedSetup) (h : List Entry) (n : ℕ) → 0 < n → n ≤ length h → causes s h ≡ causes s (oldest n h) → (c : Cause)
    → cause_at s h (n - 1) ≡ c ∷ []
    → IsNewestAt s h (Some (n - 1))
newest_at s h n some within passed c is =
    (c, is, before s h n some within passed ∙ ap (λ cs. causes s (oldest (n - 1) h) ++ cs) is)

-- what is told of it
pub newest_told : (s : StatedSetup) (h : List Entry) (place : ℕ) (bytes : List ℕ) → IsNewestAt s h (Some place)
    → bytes ≡ flat_map (cause_text s h) (cause_at s h place)
    → (older : List Cause) × (c : Cause) × (causes s h ≡ older ++ c ∷ []) × (bytes ≡ cause_text s h c)
newest_told s h place bytes newest told =
    let c = newest.0 in (
      causes s (oldest place h),
      c,
      newest.2,
      told ∙ ap (flat_map (cause_text s h)) newest.1 ∙ flat_map-cons (cause_text s h) c [] ∙ append-nil (cause_text s h c),
    )
