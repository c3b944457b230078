-- A text's first field, where no space stands in it, and a text that is one field.
use Rattle.std.proofs.Common.{◌≡◌, ◌∙◌, ap, sym, refl, ℕ, List, [], ◌∷◌, ◌++◌, ◌==◌, Option, Some, None, subst}
use Rattle.std.specs.Prelude.{Result, Ok, Err, IfOk, IfErr}
use Rattle.std.specs.Fmt.{decimal}
use Rattle.std.proofs.lemmas.List.{append-nil}
use Rattle.std.proofs.lemmas.List.Splits.{slice_split_none}
use Rattle.jg_words.specs.declared.thread.Tid.{Tid}
use Rattle.jg_words.specs.declared.thread.EnvId.{EnvId}
use Rattle.jg_text.specs.declared.fault.ScriptFault.{ScriptFault}
use Rattle.jg_text.specs.Kinds.{OperandKind, Reference, Number, LongNumber, Numbers, Name, Field, Buffer}
use Rattle.jg_text.specs.Words.{tid_text, env_id_text, dotted_text, FitsTid, FitsEnvId, of_ref, of_number, of_long_number, of_items, of_name, of_field, of_buffer, SpellsOperand, SpellOperands}
use Rattle.jg_text.specs.Faults.{fields}
use Rattle.jg_text.specs.Pieces.{rest_fields, behind_field, IsKindFault, IsOperandFault}
use Rattle.jg_text.proofs.Cuts.{join_fields, split_first}
use Rattle.jg_text.proofs.Laws.{IsVisible, clean_of, seen_tid, seen_env, seen_word}

first_field : (text front behind : List ℕ) (rest : Option (List ℕ)) → IsVisible front → text ≡ front ++ behind → behind ≡ behind_field rest
    → fields text ≡ front ∷ rest_fields rest
first_field text front behind None seen e1 e2 = ap fields (e1 ∙ ap (λ t. front ++ t) e2 ∙ append-nil front)
    ∙ slice_split_none (λ b. b == 32) front (clean_of front seen)
first_field text front behind (Some rest) seen e1 e2 = ap fields (e1 ∙ ap (λ t. front ++ t) e2) ∙ split_first 32 front rest (clean_of front seen)

pub first_tid : (line behind : List ℕ) (t : Tid) (rest : Option (List ℕ)) → FitsTid t → line ≡ 84 ∷ (decimal t.0 ++ behind) → behind ≡ behind_field rest
    → fields line ≡ tid_text t ∷ rest_fields rest
first_tid line behind t rest fits = first_field line (tid_text t) behind rest (seen_tid t fits)

pub first_env : (text behind : List ℕ) (e : EnvId) (rest : Option (List ℕ)) → FitsEnvId e → text ≡ 69 ∷ (dotted_text e.tid.0 e.session ++ behind)
    → behind ≡ behind_field rest
    → fields text ≡ env_id_text e ∷ rest_fields rest
first_env text behind e rest fits = first_field text (env_id_text e) behind rest (seen_env (Some e) fits)

-- an operand's text is one field
seen_operand : (kind : OperandKind) (text : List ℕ) → SpellsOperand kind text → IsVisible text
seen_operand Reference text h = subst IsVisible (sym h.2) (seen_word (of_ref h.0) h.1)
seen_operand Number text h = subst IsVisible (sym h.2) (seen_word (of_number h.0) h.1)
seen_operand LongNumber text h = subst IsVisible (sym h.2) (seen_word (of_long_number h.0) h.1)
seen_operand Numbers text h = subst IsVisible (sym h.2) (seen_word (of_items h.0) h.1)
seen_operand Name text h = subst IsVisible (sym h.2) (seen_word (of_name h.0) h.1)
seen_operand Field text h = subst IsVisible (sym h.2) (seen_word (of_field h.0) h.1)
seen_operand Buffer text h = subst IsVisible (sym h.2) (seen_word (of_buffer h.0) h.1)

one_field : (kind : OperandKind) (text : List ℕ) → SpellsOperand kind text → fields text ≡ text ∷ []
one_field kind text spelt = slice_split_none (λ b. b == 32) text (clean_of text (seen_operand kind text spelt))

pub one_read : {A : Type 0} (r : Result A ScriptFault) (spelt : A → List ℕ) (fits : A → Type 0) (kind : OperandKind) (text : List ℕ)
    → IfOk r (λ a. (text ≡ spelt a) × fits a)
    → IfOk r (λ a. SpellsOperand kind text) → IfOk r (λ a. (spelt a ∷ [] ≡ fields text) × fits a)
one_read (Ok a) spelt fits kind text h k = (ap (λ (t : List ℕ). t ∷ []) (sym h.0) ∙ sym (one_field kind text k), h.1)
one_read (Err f) spelt fits kind text h k = tt

-- and where it is none, its fields are none
one_spelt : (kind : OperandKind) (text : List ℕ) (fs : List (List ℕ)) → fields text ≡ fs → SpellOperands (kind ∷ []) fs → SpellsOperand kind text
one_spelt kind text [] e h = absurd h
one_spelt kind text (x ∷ []) e h = subst (λ (t : List ℕ). SpellsOperand kind t) (sym (join_fields text (x ∷ []) e)) h.0
one_spelt kind text (x ∷ y ∷ more) e h = absurd h.1

pub one_fault : {A : Type 0} (r : Result A ScriptFault) (kind : OperandKind) (text : List ℕ) → IfErr r (IsKindFault kind text)
    → IfErr r (IsOperandFault (kind ∷ []) (fields text))
one_fault (Ok a) kind text h = tt
one_fault (Err f) kind text h = λ ne. (let bad = h ne in (bad.0, λ spelt. bad.1 (one_spelt kind text (fields text) refl spelt)))
