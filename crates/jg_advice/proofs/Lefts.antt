-- What is advised at the end, table by table.
use Rattle.std.proofs.Common.{◌≡◌, ◌<◌, ◌+◌, ℕ, List, [], ◌∷◌, ◌++◌, length, get_or, take, ◌∙◌, ap, sym}
use Rattle.std.specs.Prelude.{map}
use Rattle.std.proofs.lemmas.List.{append_assoc, append-nil, map-append, take_more}
use Rattle.jg_lists.specs.declared.by_number.Numbered.{Numbered}
use Rattle.jg_lists.specs.ByNumber.{seen}
use Rattle.jg_lists.specs.ByMaker.{Name, entries, named}
use Rattle.jg_lists.proofs.Tables.{named-append}
use Rattle.jg_advice.specs.declared.advice.Advice.{Advice}
use Rattle.jg_advice.specs.declared.advice.Source.{Source}
use Rattle.jg_advice.specs.Advised.{left}

-- with what is advised on one table more appended
pub left_more : (seats : List (Numbered (List (ℕ × Source)))) (i : ℕ) (d : Numbered (List (ℕ × Source))) (old mid new : List Advice) → i < length seats
    → mid ≡ old ++ map left (named (map seen (take i seats)))
    → new ≡ mid ++ map left (entries (get_or seats i d).number (get_or seats i d).value)
    → new ≡ old ++ map left (named (map seen (take (i + 1) seats)))
left_more seats i d old mid new within was now =
    let table : Numbered (List (ℕ × Source)) = get_or seats i d in
    let more : map seen (take (i + 1) seats) ≡ map seen (take i seats) ++ seen table ∷ [] =
    ap (map seen) (take_more seats i d within) ∙ map-append seen (take i seats) (table ∷ []) in
    let own : List (Name × Source) = entries table.number table.value in
    let all : named (map seen (take (i + 1) seats)) ≡ named (map seen (take i seats)) ++ own =
    ap named more ∙ named-append (map seen (take i seats)) (seen table ∷ []) ∙ ap (λ es. named (map seen (take i seats)) ++ es) (append-nil own) in
    now
    ∙ ap (λ l. l ++ map left own) was
    ∙ append_assoc old (map left (named (map seen (take i seats)))) (map left own)
    ∙ ap (λ l. old ++ l) (sym (ap (map left) all ∙ map-append left (named (map seen (take i seats))) own))
