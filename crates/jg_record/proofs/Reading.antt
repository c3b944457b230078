-- What the fields of an event spell.
use Rattle.std.proofs.Common.{◌≡◌, ◌≢◌, ◌<◌, ◌≤◌, ◌∙◌, ◌∷◌, ℕ, true, List, [], length, get_or, slice_get, Option, Some, None, refl, sym, ap, subst, arith, inl, inr, ◌⊎◌}
use Rattle.std.specs.Prelude.{Result, Ok, Err, IfOk}
use Rattle.std.specs.Option.{option_map, unwrap_or}
use Rattle.std.proofs.lemmas.Option.{slice_get_cases, slice_get_within}
use Rattle.jg_words.specs.declared.thread.Tid.{Tid}
use Rattle.jg_words.specs.declared.thread.EnvId.{EnvId}
use Rattle.jg_words.specs.declared.object.ObjId.{ObjId}
use Rattle.jg_policy.specs.Stated.{StatedSetup}
use Rattle.jg_text.specs.Words.{tid_text, env_text, FitsTid, FitsEnv}
use Rattle.jg_text.specs.Faults.{fields}
use Rattle.jg_rows.specs.ByName.{name_at}
use Rattle.jg_rows.specs.Columns.{Columns}
use Rattle.jg_rows.specs.Table.{functions}
use Rattle.jg_judge.specs.declared.argument.Argument.{Argument}
use Rattle.jg_record.specs.declared.event.Event.{Event}
use Rattle.jg_record.specs.declared.fault.RecordFault.{RecordFault}
use Rattle.jg_record.specs.declared.fault.RecordFault.TheVariants.{LineTooLong, NotAscii, NoThread, NoEvent, UnknownFunction, WrongCount, BadOperand, NoMemory}
use Rattle.jg_record.specs.declared.verb.Verb.{Verb}
use Rattle.jg_record.specs.Operands.{Asks, is_count}
use Rattle.jg_record.specs.Events.{Tells, TellsOf, is_told_count, SpellsEvent}
use Rattle.jg_record.specs.Faults.{NamesFirstFault}
use Rattle.jg_record.specs.Pieces.{HasRow, AsksBehind, IsOperandFault, IsQuestionFault, IsToldFault, IsWordsFault}
use Rattle.jg_record.proofs.Faulty.{IsPlain, unknown_function, wrong_count, bad_operand, wrong_words, bad_words}

-- ---- the row of a name

many : length functions ≡ 243
many = refl

row_below : (place : ℕ) (row : Columns) → slice_get functions place ≡ Some row → place < 243
row_below place row at = omega (arith, slice_get_within functions place row at, many)

pub name_of_row : (place : ℕ) (row : Columns) → slice_get functions place ≡ Some row → name_at place ≡ row.name
name_of_row place row at = ap (λ (found : Option Columns). unwrap_or (option_map (λ r. r.name) found) []) at

-- the name's place is that of one row alone
pub has_row : (words rest : List (List ℕ)) (name : List ℕ) (place : ℕ) (row : Columns) → words ≡ name ∷ rest → name_at place ≡ name
    → ((other : ℕ) → other < 243 → name_at other ≡ name → place ≡ other) → slice_get functions place ≡ Some row → HasRow words place row rest
has_row words rest name place row split named one at =
    let own = name_of_row place row at in
    record {
      below = row_below place row at;
      name = own;
      at = at;
      split = split ∙ ap (λ n. n ∷ rest) (sym named ∙ own);
      one = λ other r there same.
          let place_is : place ≡ other = one other (row_below other r there) (name_of_row other r there ∙ same ∙ sym own ∙ named) in
          let both : Some r ≡ Some row = sym there ∙ (ap (slice_get functions) (sym place_is) ∙ at) in
          let is : r ≡ row = cc in
          is;
    }

-- where the table has no row at the name's place, no function has the name
pub no_row : (words rest : List (List ℕ)) (name : List ℕ) (place : ℕ) → words ≡ name ∷ rest → ((other : ℕ) → other < 243 → name_at other ≡ name → place ≡ other)
    → slice_get functions place ≡ None
    → (other : ℕ) → other < 243 → slice_get words 0 ≢ Some (name_at other)
no_row words rest name place split one none other below found =
    let both : Some name ≡ Some (name_at other) = sym (ap (λ ws. slice_get ws 0) split) ∙ found in
    let same : name_at other ≡ name = cc in
    let place_is : place ≡ other = one other below same in
    past (slice_get_cases functions place).1
  where
    past : ((x : Columns) × (place < length functions) × (slice_get functions place ≡ Some x) × (get_or functions place x ≡ x))
        ⊎ ((length functions ≤ place) × (slice_get functions place ≡ None)) → ⊥
    past (inl (x, within, at, is)) = let no : ⊥ = cc (at, none) in no
    past (inr (far, is)) =
        let both : Some name ≡ Some (name_at other) = sym (ap (λ ws. slice_get ws 0) split) ∙ found in
        let same : name_at other ≡ name = cc in
        let place_is : place ≡ other = one other below same in
        omega (arith, far, many, below, place_is)

-- ---- faults

-- a fault that isn't want of memory says so much
bad_or_none : (f : RecordFault) (N : Type 0) → (f ≢ NoMemory → (f ≡ BadOperand) × N) → (f ≡ NoMemory) ⊎ ((f ≡ BadOperand) × N)
bad_or_none NoMemory N bad = inl refl
bad_or_none BadOperand N bad = inr (bad (λ is. cc))
bad_or_none LineTooLong N bad = inr (bad (λ is. cc))
bad_or_none NotAscii N bad = inr (bad (λ is. cc))
bad_or_none NoThread N bad = inr (bad (λ is. cc))
bad_or_none NoEvent N bad = inr (bad (λ is. cc))
bad_or_none UnknownFunction N bad = inr (bad (λ is. cc))
bad_or_none WrongCount N bad = inr (bad (λ is. cc))

-- why a question asks nothing, where its operands aren't read
pub question_fault : (words : List (List ℕ)) (place : ℕ) (row : Columns) (rest : List (List ℕ)) (f : RecordFault) → HasRow words place row rest
    → is_count row.takes (length rest) ≡ true
    → IsOperandFault row.takes rest f → IsQuestionFault words f
question_fault words place row rest f h count bad = by (bad_or_none f _ bad)
  where
    by : (f ≡ NoMemory) ⊎ ((f ≡ BadOperand) × ((xs : List Argument) → ¬ Asks row.takes rest xs)) → IsQuestionFault words f
    by (inl none) = subst (IsQuestionFault words) (sym none) tt
    by (inr (is, no_operands)) = subst (IsQuestionFault words) (sym is) (place, row, rest, h, count, no_operands)

-- why the words of a fact tell nothing
pub words_fault : (s : StatedSetup) (v : Verb) (t : Tid) (words : List (List ℕ)) (f : RecordFault) → is_told_count v (length words) ≡ true
    → IsToldFault s v t words f → IsWordsFault s v t words f
words_fault s v t words f count bad = by (bad_or_none f _ bad)
  where
    by : (f ≡ NoMemory) ⊎ ((f ≡ BadOperand) × ((e : Event) (gone : List ObjId) → ¬ Tells s v t words e gone)) → IsWordsFault s v t words f
    by (inl none) = subst (IsWordsFault s v t words) (sym none) tt
    by (inr (is, nothing)) = subst (IsWordsFault s v t words) (sym is) (count, nothing)

module _ (s : StatedSetup) (text : List ℕ) (plain : IsPlain text) where
  -- of a question
  pub question_named : (t : Tid) (env : Option EnvId) (words : List (List ℕ)) → FitsTid t → FitsEnv env → fields text ≡ tid_text t ∷ env_text env ∷ words
      → (f : RecordFault)
      → IsQuestionFault words f → NamesFirstFault s text f
  question_named t env words fits fits_env split UnknownFunction none = λ _. unknown_function s text plain t fits env fits_env words split none
  question_named t env words fits fits_env split WrongCount (place, row, rest, h, other) =
      λ _. wrong_count s text plain t fits env fits_env words split place row rest h other
  question_named t env words fits fits_env split BadOperand (place, row, rest, h, count, none) =
      λ _. bad_operand s text plain t fits env fits_env words split place row rest h count none
  question_named t env words fits fits_env split NoMemory fault = λ ne. absurd (ne refl)
  question_named t env words fits fits_env split LineTooLong fault = absurd fault
  question_named t env words fits fits_env split NotAscii fault = absurd fault
  question_named t env words fits fits_env split NoThread fault = absurd fault
  question_named t env words fits fits_env split NoEvent fault = absurd fault

  -- of a fact
  pub words_named : (t : Tid) (v : Verb) (words : List (List ℕ)) → TellsOf text t v words → (f : RecordFault) → IsWordsFault s v t words f
      → NamesFirstFault s text f
  words_named t v words told WrongCount other = λ _. wrong_words s text plain t v words told other
  words_named t v words told BadOperand (count, none) = λ _. bad_words s text plain t v words told count none
  words_named t v words told NoMemory fault = λ ne. absurd (ne refl)
  words_named t v words told LineTooLong fault = absurd fault
  words_named t v words told NotAscii fault = absurd fault
  words_named t v words told NoThread fault = absurd fault
  words_named t v words told NoEvent fault = absurd fault
  words_named t v words told UnknownFunction fault = absurd fault

-- ---- events

pub question_spelt : (s : StatedSetup) (text : List ℕ) (r : Result Event RecordFault) (t : Tid) (env : Option EnvId) (words : List (List ℕ))
    (xs : List Argument) (gone : List ObjId) → FitsTid t
    → FitsEnv env → fields text ≡ tid_text t ∷ env_text env ∷ words → IfOk r (λ e. AsksBehind t env words e xs) → IfOk r (λ e. SpellsEvent s text e xs gone)
question_spelt s text (Ok e) t env words xs gone fits fits_env split (place, row, rest, h, is, asks) =
    inl (
      t,
      env,
      place,
      row,
      rest,
      record {
        fits_tid = fits;
        fits_env = fits_env;
        at = h.at;
        split =
            split ∙ ap (λ (ws : List (List ℕ)). tid_text t ∷ env_text env ∷ ws) h.split;
      },
      asks,
      is,
    )
question_spelt s text (Err f) t env words xs gone fits fits_env split spelt = spelt

pub words_spelt : (s : StatedSetup) (text : List ℕ) (r : Result Event RecordFault) (t : Tid) (v : Verb) (words : List (List ℕ)) (xs : List Argument)
    (gone : List ObjId) → TellsOf text t v words
    → IfOk r (λ e. Tells s v t words e gone) → IfOk r (λ e. SpellsEvent s text e xs gone)
words_spelt s text (Ok e) t v words xs gone told tells = inr (t, v, words, told, tells)
words_spelt s text (Err f) t v words xs gone told tells = tells
