-- A worker that stopped has not played all its lines, and what it was told begins what it would have been told.
use Rattle.std.proofs.Common.{ℕ, ◌≡◌, ◌<◌, ◌≤◌, ◌+◌, Bool, true, false, List, [], ◌∷◌, ◌++◌, length, drop, get_or, refl, sym, ap, subst, ◌∙◌, arith, inl, inr, append_assoc, length-append, map}
use Rattle.std.proofs.lemmas.List.Elements.{All-push, All-nil}
use Rattle.jg_words.specs.declared.thread.Tid.{Tid}
use Rattle.jg_words.specs.declared.entry.Outcome.TheVariants.{Denied}
use Rattle.jg_words.specs.declared.rule.Rule.TheVariants.{WrongThread}
use Rattle.std.proofs.lemmas.List.{get_or_append_left}
use Rattle.std.proofs.Math.Seq.{drop-append_seam, get_or-append_seam}
use Rattle.jg_shell.specs.Busy.{is_monitor_enter, is_busy}
use Rattle.jg_script.specs.declared.scripts.Line.{Line}
use Rattle.jg_shell.specs.declared.receipt.Receipt.{Receipt}
use Rattle.jg_shell.specs.Played.{IsOfLine, IsBusy, IsGroup, IsPart, IsCut, Played}

-- the last receipt of a group, at its index in a list that the group begins
last_is : (turns : ℕ) (line : Line) (g rest : List Receipt) → (a : IsGroup turns line g) → get_or (g ++ rest) (length a.retries) a.last ≡ a.last
last_is turns line g rest a =
    ap (λ (rs : List Receipt). get_or (rs ++ rest) (length a.retries) a.last) a.group_is
    ∙ (ap (λ (rs : List Receipt). get_or rs (length a.retries) a.last) (append_assoc a.retries (a.last ∷ []) rest)
    ∙ get_or-append_seam a.retries a.last rest a.last)

size : (turns : ℕ) (line : Line) (g : List Receipt) → (a : IsGroup turns line g) → length g ≡ length a.retries + 1
size turns line g a = omega (arith, ap (λ (rs : List Receipt). length rs) a.group_is, length-append a.retries (a.last ∷ []))

-- a list in which a group's last place is busy is no longer list of turns
busy_last : (turns : ℕ) (line : Line) (g : List Receipt) (n : ℕ) → (a : IsGroup turns line g) → is_monitor_enter line.call ≡ true
    → is_busy a.last.outcome ≡ true → length g < n → n ≤ turns → ⊥
busy_last turns line g n a enter busy lt le =
    elim (a.ends enter) [ inl free ↦ cc (free, busy) | inr all ↦ omega (arith, all) ]

-- of two groups of one line that begin one list, none is longer
no_longer : (turns : ℕ) (line : Line) (g g' rest rest' : List Receipt) → g ++ rest ≡ g' ++ rest' → IsGroup turns line g → IsGroup turns line g' → (b : Bool)
    → is_monitor_enter line.call ≡ b
    → length g < length g' → ⊥
no_longer turns line g g' rest rest' e a c false is lt =
    let one = ap (λ (rs : List Receipt). length rs) (c.once is) in
    let s = size turns line g a in
    let t = size turns line g' c in
    omega (arith, one, s, t, lt)
no_longer turns line g g' rest rest' e a c true is lt =
    let s = size turns line g a in
    let t = size turns line g' c in
    let k = length a.retries in
    let k_lt : k < length c.retries = omega (arith, s, t, lt) in
    let k_lt' : k < length g' = omega (arith, s, lt) in
    let there : get_or c.retries k a.last ≡ a.last =
    sym (get_or_append_left c.retries (c.last ∷ []) a.last k k_lt)
    ∙ (ap (λ (rs : List Receipt). get_or rs k a.last) (sym c.group_is)
    ∙ (sym (get_or_append_left g' rest' a.last k k_lt') ∙ (ap (λ (rs : List Receipt). get_or rs k a.last) (sym e) ∙ last_is turns line g rest a))) in
    let busy : is_busy a.last.outcome ≡ true = subst (λ (r : Receipt). is_busy r.outcome ≡ true) there (c.busy k a.last k_lt) in
    busy_last turns line g (length g') a is busy lt c.within

-- the groups of a line that begin one list are one
same_rest : (turns : ℕ) (line : Line) (g g' rest rest' : List Receipt) → g ++ rest ≡ g' ++ rest' → IsGroup turns line g → IsGroup turns line g' → rest' ≡ rest
same_rest turns line g g' rest rest' e a c =
    let no = no_longer turns line g g' rest rest' e a c (is_monitor_enter line.call) refl in
    let no' = no_longer turns line g' g rest' rest (sym e) c a (is_monitor_enter line.call) refl in
    let same : length g' ≡ length g = omega (arith, no, no') in
    sym (drop-append_seam g' rest')
    ∙ (ap (λ (rs : List Receipt). drop (length g') rs) (sym e) ∙ (ap (λ (n : ℕ). drop n (g ++ rest)) same ∙ drop-append_seam g rest))

-- what is told before a line has ended isn't the whole of it
part_only : (turns : ℕ) (line : Line) (part g rest : List Receipt) → IsPart turns line part → part ≡ g ++ rest → IsGroup turns line g → (b : Bool)
    → is_monitor_enter line.call ≡ b → ⊥
part_only turns line part g rest q e a false is =
    omega (arith, ap (λ (rs : List Receipt). length rs) (q.once is), ap (λ (rs : List Receipt). length rs) e, length-append g rest, size turns line g a)
part_only turns line part g rest q e a true is =
    let s = size turns line g a in
    let len : length part ≡ length g + length rest = omega (arith, ap (λ (rs : List Receipt). length rs) e, length-append g rest) in
    let busy : is_busy a.last.outcome ≡ true =
    subst (λ (r : Receipt). is_busy r.outcome ≡ true) (ap (λ (rs : List Receipt). get_or rs (length a.retries) a.last) e ∙ last_is turns line g rest a)
    (q.busy (length a.retries) a.last (omega (arith, s, len))) in
    busy_last turns line g turns a is busy (omega (arith, len, q.within)) (omega arith)

never : (turns : ℕ) (done : List Line) (line : Line) (later : List Line) (whole part : List Receipt) → Played turns done whole → IsPart turns line part
    → Played turns (done ++ line ∷ later) (whole ++ part) → ⊥
never turns [] line later whole part p q r =
    part_only turns line part r.0 r.1 q (sym (ap (λ (rs : List Receipt). rs ++ part) p) ∙ r.2) r.3 (is_monitor_enter line.call) refl
never turns (l ∷ ls) line later whole part p q r =
    let e : p.0 ++ (p.1 ++ part) ≡ r.0 ++ r.1 = sym (append_assoc p.0 p.1 part) ∙ (ap (λ (rs : List Receipt). rs ++ part) (sym p.2) ∙ r.2) in
    let rest = same_rest turns l p.0 r.0 (p.1 ++ part) r.1 e p.3 r.3 in
    never turns ls line later p.1 part p.4 q (subst (λ (rs : List Receipt). Played turns (ls ++ line ∷ later) rs) rest r.4)

-- a stopped worker's receipts are never the whole of a played list
pub IsCut-not_Played : (turns : ℕ) (lines : List Line) (rs : List Receipt) → IsCut turns lines rs → Played turns lines rs → ⊥
IsCut-not_Played turns lines rs c p =
    never turns c.done c.line c.later c.whole c.part c.played c.begun
    (subst (λ (ls : List Line). Played turns ls (c.whole ++ c.part)) c.lines_are (subst (λ (qs : List Receipt). Played turns lines qs) c.receipts_are p))

-- a receipt of the line that isn't busy
free : Tid → Line → Receipt
free t line = record { place = 0; tid = t; env = line.env; call = line.call; outcome = Denied WrongThread }

closed : (turns : ℕ) (t : Tid) (line : Line) (part : List Receipt) → IsPart turns line part → IsGroup turns line (part ++ free t line ∷ [])
unfolding free
closed turns t line part q = record {
  retries = part;
  last = free t line;
  group_is = refl;
  of_line = All-push (IsOfLine line) part (free t line) q.of_line (record { env_is = refl; call_is = refl });
  busy = q.busy;
  within = omega (arith, q.within, length-append part (free t line ∷ []));
  ends = λ enter. inl refl;
  once = q.once;
}

nothing : (turns : ℕ) (line : Line) → 1 ≤ turns → IsPart turns line []
nothing turns line some = record { of_line = All-nil (IsOfLine line); busy = All-nil IsBusy; within = omega (arith, some); once = λ _. refl }

all_free : (turns : ℕ) (t : Tid) (lines : List Line) → 1 ≤ turns → Played turns lines (map (free t) lines)
all_free turns t [] some = refl
all_free turns t (l ∷ ls) some = (free t l ∷ [], map (free t) ls, refl, closed turns t l [] (nothing turns l some), all_free turns t ls some)

Played-append : (turns : ℕ) (ls ms : List Line) (xs ys : List Receipt) → Played turns ls xs → Played turns ms ys → Played turns (ls ++ ms) (xs ++ ys)
Played-append turns [] ms xs ys p q = subst (λ (rs : List Receipt). Played turns ms rs) (ap (λ (rs : List Receipt). rs ++ ys) (sym p)) q
Played-append turns (l ∷ ls) ms xs ys p q =
    (p.0, p.1 ++ ys, ap (λ (rs : List Receipt). rs ++ ys) p.2 ∙ append_assoc p.0 p.1 ys, p.3, Played-append turns ls ms p.1 ys p.4 q)

-- a stopped worker's receipts begin those of a worker that went on
pub IsCut-begins : (turns : ℕ) (t : Tid) (lines : List Line) (rs : List Receipt) → 1 ≤ turns → IsCut turns lines rs
    → (more : List Receipt) × Played turns lines (rs ++ more)
IsCut-begins turns t lines rs some c =
    let last = c.part ++ free t c.line ∷ [] in
    let rest = map (free t) c.later in
    let p : Played turns (c.done ++ c.line ∷ c.later) (c.whole ++ (last ++ rest)) =
    Played-append turns c.done (c.line ∷ c.later) c.whole (last ++ rest) c.played
    (last, rest, refl, closed turns t c.line c.part c.begun, all_free turns t c.later some) in
    let same : rs ++ (free t c.line ∷ rest) ≡ c.whole ++ (last ++ rest) =
    ap (λ (qs : List Receipt). qs ++ (free t c.line ∷ rest)) c.receipts_are
    ∙ (append_assoc c.whole c.part (free t c.line ∷ rest) ∙ ap (λ (qs : List Receipt). c.whole ++ qs) (sym (append_assoc c.part (free t c.line ∷ []) rest)))
    in (
      free t c.line ∷ rest,
      subst (λ (ls : List Line). Played turns ls (rs ++ (free t c.line ∷ rest))) (sym c.lines_are)
          (subst (λ (qs : List Receipt). Played turns (c.done ++ c.line ∷ c.later) qs) (sym same) p),
    )
