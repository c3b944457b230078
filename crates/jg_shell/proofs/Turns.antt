-- The turns of one line.
use Rattle.std.proofs.Common.{ℕ, ◌≡◌, ◌<◌, ◌≤◌, ◌+◌, Bool, true, false, List, [], ◌∷◌, ◌++◌, length, refl, sym, ap, ◌∙◌, arith, inl, inr, ◌⊎◌, length-append, append_assoc, append-nil}
use Rattle.std.proofs.lemmas.List.Elements.{All-push, All-nil}
use Rattle.jg_script.specs.declared.scripts.Line.{Line}
use Rattle.jg_shell.specs.declared.receipt.Receipt.{Receipt}
use Rattle.jg_shell.specs.Busy.{is_monitor_enter}
use Rattle.jg_shell.specs.Work.{OwnReceipts}
use Rattle.jg_shell.specs.Played.{IsOfLine, IsBusy, IsPart, AddsReceipt, AddsGroup, AddsPart}

-- before this turn, the turns before it were all busy
pub record IsTurn (turn turns : ℕ) (line : Line) (old now : OwnReceipts) : Type 0 where
  pub part : List Receipt
  pub is_part : IsPart turns line part
  pub now_is : now ≡ record old { receipts = old.receipts ++ part }
  pub count : length part + 1 ≡ turn
  pub left : turn ≤ turns

pub added_none : (old : OwnReceipts) → old ≡ record old { receipts = old.receipts ++ [] }
added_none old = ap (λ (rs : List Receipt). record old { receipts = rs }) (sym (append-nil old.receipts))

-- receipts added twice are added at once
pub added_twice : (old now new : OwnReceipts) (a b : List Receipt) → now ≡ record old { receipts = old.receipts ++ a }
    → new ≡ record now { receipts = now.receipts ++ b }
    → new ≡ record old { receipts = old.receipts ++ (a ++ b) }
added_twice old now new a b p q =
    q ∙ (ap (λ (t : OwnReceipts). record t { receipts = t.receipts ++ b }) p
    ∙ ap (λ (rs : List Receipt). record old { receipts = rs }) (append_assoc old.receipts a b))

pub IsTurn-first : (turns : ℕ) (line : Line) (own : OwnReceipts) → 1 ≤ turns → IsTurn 1 turns line own own
IsTurn-first turns line own some = record {
  part = [];
  is_part = record { of_line = All-nil _; busy = All-nil _; within = omega arith; once = λ _. refl };
  now_is = added_none own;
  count = omega arith;
  left = some;
}

-- a busy turn that is not the last
pub IsTurn-more : (turn turns : ℕ) (line : Line) (old now new : OwnReceipts) (busy : Bool) → IsTurn turn turns line old now → AddsReceipt line now new busy
    → busy ≡ true
    → is_monitor_enter line.call ≡ true → turn < turns → IsTurn (turn + 1) turns line old new
IsTurn-more turn turns line old now new busy t a again enter more = record {
  part = t.part ++ a.receipt ∷ [];
  is_part = record {
    of_line = All-push (IsOfLine line) t.part a.receipt t.is_part.of_line a.of_line;
    busy = All-push IsBusy t.part a.receipt t.is_part.busy (sym a.busy_is ∙ again);
    within = omega (arith, t.count, length-append t.part (a.receipt ∷ []));
    once = λ none. cc;
  };
  now_is = added_twice old now new t.part (a.receipt ∷ []) t.now_is a.new_is;
  count = omega (arith, t.count, length-append t.part (a.receipt ∷ []));
  left = omega arith;
}

-- the last turn of a line
pub IsGroup-last : (turn turns : ℕ) (line : Line) (old now new : OwnReceipts) (busy : Bool) → IsTurn turn turns line old now → AddsReceipt line now new busy
    → (is_monitor_enter line.call ≡ true → (busy ≡ false) ⊎ (turn ≡ turns)) → AddsGroup turns line old new
IsGroup-last turn turns line old now new busy t a ends = record {
  group = t.part ++ a.receipt ∷ [];
  is_group = record {
    retries = t.part;
    last = a.receipt;
    group_is = refl;
    of_line = All-push (IsOfLine line) t.part a.receipt t.is_part.of_line a.of_line;
    busy = t.is_part.busy;
    within = omega (arith, t.count, t.left, length-append t.part (a.receipt ∷ []));
    ends = λ enter. elim (ends enter) [ inl free ↦ inl (sym a.busy_is ∙ free) | inr all ↦ inr (omega (arith, t.count, length-append t.part (a.receipt ∷ []))) ];
    once = t.is_part.once;
  };
  new_is = added_twice old now new t.part (a.receipt ∷ []) t.now_is a.new_is;
}

-- a turn that was refused
pub IsPart-refused : (turn turns : ℕ) (line : Line) (old now new : OwnReceipts) → IsTurn turn turns line old now → new ≡ now → AddsPart turns line old new
IsPart-refused turn turns line old now new t same = record { part = t.part; is_part = t.is_part; new_is = same ∙ t.now_is }
