-- The lines of one worker.
use Rattle.std.proofs.Common.{ℕ, ◌≡◌, ◌<◌, ◌≤◌, ◌+◌, List, [], ◌∷◌, ◌++◌, length, take, drop, refl, sym, ap, ◌∙◌, append_assoc, append-nil, get_or, suc, Option, Some}
use Rattle.std.proofs.lemmas.List.{take_more}
use Rattle.std.proofs.Math.Seq.{split_at}
use Rattle.jg_shell.specs.declared.account.Stop.{Stop}
use Rattle.jg_script.specs.declared.scripts.Line.{Line}
use Rattle.jg_shell.specs.declared.receipt.Receipt.{Receipt}
use Rattle.jg_shell.specs.Work.{OwnReceipts}
use Rattle.jg_shell.specs.Played.{IsGroup, IsCut, Played, AddsGroup, AddsPart, Ran}
use Rattle.jg_shell.proofs.Turns.{added_none, added_twice}
use Rattle.jg_shell.proofs.Cuts.{IsCut-begins, IsCut-not_Played}

-- the first `index` lines are played
pub record IsAt (turns : ℕ) (lines : List Line) (index : ℕ) (old now : OwnReceipts) : Type 0 where
  pub receipts : List Receipt
  pub now_is : now ≡ record old { receipts = old.receipts ++ receipts }
  pub played : Played turns (take index lines) receipts

-- one line more
Played-line : (turns : ℕ) (lines : List Line) (receipts : List Receipt) (line : Line) (group : List Receipt) → Played turns lines receipts
    → IsGroup turns line group
    → Played turns (lines ++ line ∷ []) (receipts ++ group)
Played-line turns [] receipts line group p g = (group, [], ap (λ (rs : List Receipt). rs ++ group) p ∙ sym (append-nil group), g, refl)
Played-line turns (l ∷ ls) receipts line group p g =
    (p.0, p.1 ++ group, ap (λ (rs : List Receipt). rs ++ group) p.2 ∙ append_assoc p.0 p.1 group, p.3, Played-line turns ls p.1 line group p.4 g)

pub IsAt-none : (turns : ℕ) (lines : List Line) (own : OwnReceipts) → IsAt turns lines 0 own own
IsAt-none turns lines own = record { receipts = []; now_is = added_none own; played = refl }

pub IsAt-line : (turns : ℕ) (lines : List Line) (index : ℕ) (old now new : OwnReceipts) (line : Line) → index < length lines → line ≡ get_or lines index line
    → IsAt turns lines index old now
    → AddsGroup turns line now new → IsAt turns lines (index + 1) old new
IsAt-line turns lines index old now new line within is at adds =
    let next : take (index + 1) lines ≡ take index lines ++ line ∷ [] =
    take_more lines index line within ∙ ap (λ (l : Line). take index lines ++ l ∷ []) (sym is) in
    record {
      receipts = at.receipts ++ adds.group;
      now_is = added_twice old now new at.receipts adds.group at.now_is adds.new_is;
      played = rw next (Played-line turns (take index lines) at.receipts line adds.group at.played adds.is_group);
    }

-- a worker that stops at a line
pub Ran-cut : (turns : ℕ) (slice lines : List Line) (index : ℕ) (old now new : OwnReceipts) (line : Line) (before : Option Stop) (stop : Stop) → 1 ≤ turns
    → slice ≡ lines → index < length slice
    → line ≡ get_or slice index line → IsAt turns slice index old now → AddsPart turns line now new
    → Ran turns (record { tid = old.tid; lines = lines; receipts = old.receipts; stopped = before })
    (record { tid = new.tid; lines = lines; receipts = new.receipts; stopped = Some stop })
Ran-cut turns slice lines index old now new line before stop some same within is at adds =
    let new_is = added_twice old now new at.receipts adds.part at.now_is adds.new_is in
    let split : slice ≡ take index slice ++ line ∷ drop (suc index) slice =
    split_at slice index line within ∙ ap (λ (l : Line). take index slice ++ l ∷ drop (suc index) slice) (sym is) in
    let cut : IsCut turns lines (at.receipts ++ adds.part) = record {
      done = take index slice;
      line = line;
      later = drop (suc index) slice;
      lines_are = sym same ∙ split;
      whole = at.receipts;
      part = adds.part;
      receipts_are = refl;
      played = at.played;
      begun = adds.is_part;
    } in
    let begun = IsCut-begins turns old.tid lines (at.receipts ++ adds.part) some cut in
    record {
      tid_is = ap (λ (t : OwnReceipts). t.tid) new_is;
      lines_are = refl;
      receipts = at.receipts ++ adds.part;
      receipts_are = ap (λ (t : OwnReceipts). t.receipts) new_is;
      ended = record { cut = cut; more = begun.0; begins = begun.1; unfinished = IsCut-not_Played turns lines (at.receipts ++ adds.part) cut };
    }
