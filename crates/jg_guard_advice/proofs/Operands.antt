-- Advice looks at no operand of a call that is about no string, array or buffer: what is noted of the call is the same
-- without them.
use Rattle.std.proofs.Common.{◌≡◌, ◌∙◌, ℕ, Bool, true, false, List, [], ◌∷◌, Option, Some, None, refl, ap, sym}
use Rattle.std.specs.Prelude.{◌++◌, ◌&&◌, ◌||◌, if◌then◌else◌, nat_eq, not, option_to_list, slice_get}
use Rattle.std.specs.Cmp.Lexicographic.{pointwise}
use Rattle.jg_words.specs.declared.thread.Tid.{Tid}
use Rattle.jg_words.specs.declared.call.Call.{Call}
use Rattle.jg_words.specs.declared.call.Call.TheVariants as call
use Rattle.jg_words.specs.declared.fun.Fun.{Fun}
use Rattle.jg_words.specs.declared.fun.Fun.TheVariants as fun
use Rattle.jg_words.specs.Call.{fun_of}
use Rattle.jg_words.specs.Fun.{all, name_of}
use Rattle.jg_words.proofs.ByName.{each_passes}
use Rattle.jg_words.proofs.Names.{named-name_of}
use Rattle.jg_policy.specs.Stated.{StatedSetup}
use Rattle.jg_lists.specs.ByMaker.{same_name}
use Rattle.jg_rows.specs.Columns.{Columns}
use Rattle.jg_rows.specs.Table.{functions}
use Rattle.jg_rules.specs.Parts.{Parts}
use Rattle.jg_judge.specs.declared.argument.Argument.{Argument}
use Rattle.jg_judge.specs.declared.argument.Argument.TheVariants.{Buffer, Number}
use Rattle.jg_judge.specs.Written.{arguments_of, row_for}
use Rattle.jg_judge.proofs.Rows.{effect_of, row_is, takes_of}
use Rattle.jg_advice.specs.Advised.{lost, misnamed, unchecked}
use Rattle.jg_advice.specs.Buffers.{commits, is_copy, is_named, released_by, written, written_by, committed}
use Rattle.jg_advice.specs.Doing.{doing, doing_after, doing_now, source}
use Rattle.jg_advice.specs.Functions.{begins_writable, gives_back, is_back, throws_untold, writes}
use Rattle.jg_advice.specs.Moments.{Called, Moment, depth}
use Rattle.jg_advice.specs.Noted.{Noting}
use Rattle.jg_advice.specs.Standing.{AdviserState, Stands}
use Rattle.jg_advice.specs.Throwing.{is_within, may_throw, part_of}
use Rattle.jg_advice.specs.Told.{AdviceLogState, LogStands, Notes}
use Rattle.jg_guard_advice.specs.Operands.{operands_seen}

-- ---- no other function's row says that it writes to a buffer, gives one back, or throws where its answer doesn't tell

abbrev is_seen : Fun → Bool
is_seen (fun.Strings f) = true
is_seen (fun.Arrays f) = true
is_seen (fun.Buffers f) = true
is_seen f = false

abbrev passes : Fun → Bool
passes f = is_seen f || (not (begins_writable (takes_of f)) && (not (is_back (effect_of f)) && not (throws_untold (row_for f))))

each : (f : Fun) → passes f ≡ true
each f = each_passes (λ g. pointwise nat_eq (name_of g) (name_of f)) passes all f (named-name_of f) refl

apart : (b w g u : Bool) → (b || (not w && (not g && not u))) ≡ true → b ≡ false → (w ≡ false) × (g ≡ false) × (u ≡ false)
apart false false false false e plain = (refl, refl, refl)
apart false false false true e plain = absurd (cc)
apart false false true u e plain = absurd (cc)
apart false true g u e plain = absurd (cc)
apart true w g u e plain = absurd (cc)

none_written : (row : Columns) (xs : List Argument) → writes row ≡ false → written_by (Some row) xs ≡ None
none_written row [] e = refl
none_written row (Buffer b ∷ xs) e = ap (λ w. if w then Some b else None) e
none_written row (x ∷ xs) e = refl

none_released : (row : Columns) (xs : List Argument) → gives_back row ≡ false → released_by (Some row) xs ≡ None
none_released row [] e = refl
none_released row (x ∷ []) e = refl
none_released row (x ∷ Buffer b ∷ []) e = refl
none_released row (x ∷ Buffer b ∷ Number mode ∷ xs) e = ap (λ g. if g then Some (record { buffer = b; mode = mode }) else None) e
none_released row (x ∷ Buffer b ∷ y ∷ xs) e = refl
none_released row (x ∷ y ∷ xs) e = refl

-- with its row in the table
record NoneSeen (s : StatedSetup) (p : Parts) (t : ℕ) (found : Option Columns) (xs : List Argument) : Type 0 where
  written : written_by found xs ≡ None
  released : released_by found xs ≡ None
  thrown : may_throw s p t found xs ≡ false

none_seen : (s : StatedSetup) (p : Parts) (t : ℕ) (f : Fun) (found : Option Columns) (xs : List Argument) → is_seen f ≡ false
    → (row_for f).takes ≡ takes_of f → (row_for f).effect ≡ effect_of f → found ≡ Some (row_for f) → NoneSeen s p t found xs
none_seen s p t f found xs plain takes effect is =
    let none = apart (is_seen f) (begins_writable (takes_of f)) (is_back (effect_of f)) (throws_untold (row_for f)) (each f) plain in
    record {
      written = ap (λ x. written_by x xs) is ∙ none_written (row_for f) xs (ap begins_writable takes ∙ none.0);
      released = ap (λ x. released_by x xs) is ∙ none_released (row_for f) xs (ap is_back effect ∙ none.1);
      thrown = ap (λ x. may_throw s p t x xs) is ∙ ap (λ b. b && not (is_within s p t (part_of xs))) none.2;
    }

-- ---- what is noted of a call, by what advice reads of its operands

module _ (n : ℕ) (s : StatedSetup) (t : Tid) (f : ℕ) (xs ys : List Argument) (name : List ℕ) (p : Parts) (h : List Moment)
    (writes_same : written_by (slice_get functions f) xs ≡ written_by (slice_get functions f) ys)
    (releases_same : released_by (slice_get functions f) xs ≡ released_by (slice_get functions f) ys)
    (throws_same : may_throw s p t.0 (slice_get functions f) xs ≡ may_throw s p t.0 (slice_get functions f) ys) where
  abbrev call_with : List Argument → Moment
  call_with operands = record { line = n; what = Called s t f operands name; parts = p }

  stands_alike : (x : AdviserState) → Stands x (call_with xs ∷ h) → Stands x (call_with ys ∷ h)
  stands_alike x stands = record {
    doings = λ q. stands.doings q
        ∙ ap (λ b. if same_name (t.0, depth p t.0) q then doing_after (slice_get functions f) b (source n t f) (doing q h) else doing q h) throws_same;
    written = λ q. stands.written q
        ∙ (ap (λ r. if commits q r then None
        else (if is_named q (written_by (slice_get functions f) xs) && is_copy p (written_by (slice_get functions f) xs) then Some (source n t f)
        else written q h)) releases_same
        ∙ ap (λ b. if commits q (released_by (slice_get functions f) ys) then None
        else (if is_named q b && is_copy p b then Some (source n t f) else written q h)) writes_same);
    committed = λ q. stands.committed q ∙ ap (λ r. if commits q r then Some (source n t f) else committed q h) releases_same;
    once = stands.once;
    entered = stands.entered;
    regions = stands.regions;
    calls = stands.calls;
    collections = stands.collections;
  }

  notes_alike : (most : ℕ) (x : Noting) → Notes most (call_with xs ∷ h) x → Notes most (call_with ys ∷ h) x
  notes_alike most x notes =
      let (newer, older, advised, rest, is) = notes.advised in
      record {
        advices = notes.advices;
        advised = (
          newer,
          older,
          advised ∙ ap (λ r. option_to_list (unchecked n t f (slice_get functions f) (doing_now t.0 p h))
              ++ (option_to_list (lost n t f (λ q. written q h) r) ++ option_to_list (misnamed n t f name))) releases_same,
          rest,
          is,
        );
        noted = notes.noted;
      }

  logs_alike : (x : AdviceLogState) → LogStands x (call_with xs ∷ h) → LogStands x (call_with ys ∷ h)
  logs_alike x logs = record {
    stands = λ free. stands_alike x.adviser (logs.stands free);
    notes = λ free. notes_alike x.adviser.most x.noting (logs.notes free);
  }

-- who was told a question with the operands that are seen was told it with all of them
pub with_all : (s : StatedSetup) (p : Parts) (n : ℕ) (t : Tid) (c : Call) (f : ℕ) (name : List ℕ) (h : List Moment) (x : AdviceLogState)
    → slice_get functions f ≡ Some (row_for (fun_of c))
    → LogStands x (record { line = n; what = Called s t f (operands_seen s p t.0 c) name; parts = p } ∷ h)
    → LogStands x (record { line = n; what = Called s t f (arguments_of s p t.0 c) name; parts = p } ∷ h)
with_all s p n t (call.Strings c) f name h x is logs = logs
with_all s p n t (call.Arrays c) f name h x is logs = logs
with_all s p n t (call.Buffers c) f name h x is logs = logs
with_all s p n t c f name h x is logs =
    let row = row_is (fun_of c) in
    let none = λ (xs : List Argument). none_seen s p t.0 (fun_of c) (slice_get functions f) xs refl row.takes row.effect is in
    let ys : List Argument = arguments_of s p t.0 c in
    logs_alike n s t f [] ys name p h ((none []).written ∙ sym (none ys).written) ((none []).released ∙ sym (none ys).released)
    ((none []).thrown ∙ sym (none ys).thrown) x logs
