-- A line whose parts are read is spelt by what was read.
use Rattle.std.proofs.Common.{◌≡◌, ◌∙◌, ap, sym, ℕ, List, [], ◌∷◌, Option, Some, None, Bor, MatchOption}
use Rattle.std.specs.Option.{option_copied}
use Rattle.jg_words.specs.declared.thread.Tid.{Tid}
use Rattle.jg_words.specs.declared.thread.EnvId.{EnvId}
use Rattle.jg_words.specs.declared.fun.Fun.{Fun}
use Rattle.jg_words.specs.declared.call.Call.{Call}
use Rattle.jg_words.specs.Fun.{name_of}
use Rattle.jg_words.specs.Call.{fun_of}
use Rattle.jg_text.specs.Words.{tid_text, env_text}
use Rattle.jg_text.specs.Operands.{operand_texts}
use Rattle.jg_text.specs.Spelling.{spelling, line_fields}
use Rattle.jg_text.specs.Faults.{fields}
use Rattle.jg_text.specs.Pieces.{rest_fields}
use Rattle.jg_text.proofs.Cuts.{join_fields}
use Rattle.std.proofs.Common.{◌+◌, ◌<◌, length, get_or, take, All, ◌↔◌, subst, sym, arith, take-take, get_or-take, length-take-le}
use Rattle.std.specs.Int.{IsInRange}
use Rattle.std.proofs.lemmas.List.Elements.{All-more, All-take, All-get_or}

pub cut_rest : (all : List (List ℕ)) (x : List ℕ) (o : Option (Bor (List ℕ))) → MatchOption o (all ≡ x ∷ []) (λ r. all ≡ x ∷ fields r.now)
    → all ≡ x ∷ rest_fields (option_copied o)
cut_rest all x None h = h
cut_rest all x (Some r) h = h

pub spelt_by_parts : (line : List ℕ) (t : Tid) (e : Option EnvId) (f : Fun) (c : Call) (thread env name behind_thread behind_env : List ℕ)
    (rest : Option (List ℕ))
    → fields line ≡ thread ∷ fields behind_thread → fields behind_thread ≡ env ∷ fields behind_env → fields behind_env ≡ name ∷ rest_fields rest
    → thread ≡ tid_text t → env ≡ env_text e
    → name ≡ name_of f → fun_of c ≡ f → operand_texts c ≡ rest_fields rest → line ≡ spelling t e c
unfolding spelling
spelt_by_parts line t e f c thread env name behind_thread behind_env rest first second third is_t is_e is_f fun texts =
    let named : name ≡ name_of (fun_of c) = is_f ∙ ap name_of (sym fun) in
    let whole : fields line ≡ line_fields t e c = cc in
    join_fields line (line_fields t e c) whole

abbrev Seen : ℕ → Type 0
Seen b = IsInRange 32 126 b

-- one byte more is printable, or isn't
pub seen_more : (xs : List ℕ) (i : ℕ) (p q : ℕ) → i < length xs → q ≡ p → Seen (get_or xs i 0) → ((p ≡ 0) ↔ All Seen (take i xs))
    → (q ≡ 0) ↔ All Seen (take (i + 1) xs)
seen_more xs i p q within same seen h = (
  λ t. All-more Seen xs i 0 within (h.0 (sym same ∙ t)) seen,
  λ whole. same ∙ h.1 (subst (All Seen) (take-take i (i + 1) xs (omega arith)) (All-take Seen i (take (i + 1) xs) whole)),
)

pub seen_over : (xs : List ℕ) (i : ℕ) (q : ℕ) → i < length xs → q ≡ 1 → ¬ Seen (get_or xs i 0) → (q ≡ 0) ↔ All Seen (take (i + 1) xs)
seen_over xs i q within is odd = (
  λ t. absurd (omega (arith, is, t)),
  λ whole. absurd (odd (subst Seen (get_or-take (i + 1) xs i 0 (omega arith))
      (All-get_or Seen (take (i + 1) xs) i 0 (omega (arith, length-take-le (i + 1) xs (omega (arith, within)))) whole))),
)
