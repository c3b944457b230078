-- Operands read one after another.
use Rattle.std.proofs.Common.{◌≡◌, ◌∷◌, ◌++◌, ℕ, Bool, true, false, List, [], if◌then◌else◌, append_assoc, subst, sym}
use Rattle.std.specs.Prelude.{Result, Ok, Err}
use Rattle.std.specs.Result.{is_ok, is_err}
use Rattle.std.proofs.lemmas.List.{append-nil}
use Rattle.jg_rows.specs.declared.row.Takes.{Takes}
use Rattle.jg_judge.specs.declared.argument.Argument.{Argument}
use Rattle.jg_judge.specs.Asked.{is_last}
use Rattle.jg_judge.specs.Suits.{are_none}
use Rattle.jg_record.specs.Operands.{Asks, Spells, sort_of}

-- what is left to read goes on with what was read: whatever operands the rest are, the whole are those read and these;
-- and where the whole are some, the rest are, too
pub record GoesOn (takes : List Takes) (words : List (List ℕ)) (wanted : List Takes) (left : List (List ℕ)) (read : List Argument) : Type 0 where
  pub whole : (xs : List Argument) → Asks wanted left xs → Asks takes words (read ++ xs)
  pub rest : (xs : List Argument) → Asks takes words xs → (ys : List Argument) × Asks wanted left ys

behind_one : (t : Takes) (more : List Takes) (w : List ℕ) (later : List (List ℕ)) (b : Bool) → is_last t ≡ b → (ys : List Argument)
    → Asks (t ∷ more) (w ∷ later) ys
    → (zs : List Argument) × Asks (if b then t ∷ more else more) later zs
behind_one t more w later b last [] asks = absurd asks
behind_one t more w later b last (y ∷ ys) asks = (ys, subst (λ (c : Bool). Asks (if c then t ∷ more else more) later ys) last asks.1)

-- one word more is read
pub one_more : (takes : List Takes) (words : List (List ℕ)) (t : Takes) (more : List Takes) (w : List ℕ) (later : List (List ℕ)) (read : List Argument)
    (x : Argument) (b : Bool) → is_last t ≡ b
    → GoesOn takes words (t ∷ more) (w ∷ later) read → Spells (sort_of t) w x → GoesOn takes words (if b then t ∷ more else more) later (read ++ x ∷ [])
one_more takes words t more w later read x b last old spelt = record {
  whole = λ xs asks. subst (Asks takes words) (sym (append_assoc read (x ∷ []) xs))
      (old.whole (x ∷ xs) (spelt, subst (λ (c : Bool). Asks (if c then t ∷ more else more) later xs) (sym last) asks));
  rest = λ xs asks. let found = old.rest xs asks in behind_one t more w later b last found.0 found.1;
}

-- none is left
pub all_read : (takes : List Takes) (words : List (List ℕ)) (wanted : List Takes) (read : List Argument) → GoesOn takes words wanted [] read
    → are_none wanted ≡ true → Asks takes words read
all_read takes words wanted read old none = subst (Asks takes words) (append-nil read) (old.whole [] none)

-- what was put was put, where memory didn't run out
pub put : {A X E : Type 0} (r : Result X E) (now more before : List A) → now ≡ (if is_ok r then more else before) → is_err r ≡ false → now ≡ more
put (Ok x) now more before is none = is
put (Err e) now more before is none = absurd (let no : ⊥ = cc in no)
