-- What is written piece by piece is the line.
use Rattle.std.proofs.Common.{◌≡◌, ◌∙◌, ap, sym, ℕ, ◌<◌, ◌^◌, List, [], ◌∷◌, ◌++◌, Option, append_assoc, arith}
use Rattle.std.specs.List.{join_with_byte}
use Rattle.std.specs.Fmt.{decimal}
use Rattle.std.specs.Str.{IsAscii}
use Rattle.std.proofs.lemmas.List.{append-nil}
use Rattle.std.proofs.lemmas.Fmt.{IsAscii-decimal}
use Rattle.std.proofs.lemmas.Str.{IsAscii-append}
use Rattle.std.proofs.lemmas.Str.Ascii.{IsAscii-cons}
use Rattle.jg_words.specs.declared.thread.Tid.{Tid}
use Rattle.jg_words.specs.declared.thread.EnvId.{EnvId}
use Rattle.jg_words.specs.declared.call.Call.{Call}
use Rattle.jg_words.specs.Entry.{Entry}
use Rattle.jg_words.specs.declared.fun.Fun.{Fun}
use Rattle.jg_words.specs.Fun.{name_of}
use Rattle.jg_words.specs.Call.{fun_of}
use Rattle.jg_text.specs.Words.{tid_text, env_text, dotted_text}
use Rattle.jg_text.specs.Operands.{operand_texts}
use Rattle.jg_text.specs.Pieces.{after_spaces}
use Rattle.jg_text.specs.Spelling.{spelling}
use Rattle.jg_text.specs.Journal.{entry_text, answer_text, call_line, outcome_text}

pub join_operands : (x : List ℕ) (xs : List (List ℕ)) → join_with_byte 32 (x ∷ xs) ≡ x ++ after_spaces xs
join_operands x [] = sym (append-nil x)
join_operands x (y ∷ ys) = ap (λ z. x ++ (32 ∷ z)) (join_operands y ys)

line_by_parts : (t : Tid) (e : Option EnvId) (c : Call)
    → ((((tid_text t ++ 32 ∷ []) ++ env_text e) ++ 32 ∷ []) ++ name_of (fun_of c)) ++ after_spaces (operand_texts c) ≡ spelling t e c
unfolding spelling
line_by_parts t e c = rw (join_operands (name_of (fun_of c)) (operand_texts c)) (simp append_assoc)

regrouped : (old t e n ops answer : List ℕ) → ((((((old ++ t) ++ 32 ∷ []) ++ e) ++ 32 ∷ []) ++ n) ++ ops) ++ answer
    ≡ old ++ ((((((t ++ 32 ∷ []) ++ e) ++ 32 ∷ []) ++ n) ++ ops) ++ answer)
regrouped old t e n ops answer = simp append_assoc

-- the parts of an entry's line behind the call's
behind : (line outcome : List ℕ) → line ++ (((32 ∷ 61 ∷ 32 ∷ []) ++ outcome) ++ 10 ∷ []) ≡ ((line ++ 32 ∷ 61 ∷ 32 ∷ []) ++ outcome) ++ 10 ∷ []
behind line outcome = simp append_assoc

-- what was written after each piece
pub entry_written : (x : Entry) (t : Tid) (e : Option EnvId) (c : Call) (f : Fun) (name old o1 o2 o3 o4 o5 o6 o7 : List ℕ) → t ≡ x.tid → e ≡ x.env → c ≡ x.call
    → name ≡ name_of f → f ≡ fun_of c
    → o1 ≡ old ++ tid_text t → o2 ≡ o1 ++ 32 ∷ [] → o3 ≡ o2 ++ env_text e → o4 ≡ o3 ++ 32 ∷ [] → o5 ≡ o4 ++ name → o6 ≡ o5 ++ after_spaces (operand_texts c)
    → o7 ≡ o6 ++ answer_text x.outcome → o7 ≡ old ++ entry_text x
unfolding entry_text
entry_written x t e c f name old o1 o2 o3 o4 o5 o6 o7 is_tid is_env is_call named is e1 e2 e3 e4 e5 e6 e7 =
    rw (e7, e6, e5, e4, e3, e2, e1, named, is, is_tid, is_env, is_call)
    (regrouped old (tid_text x.tid) (env_text x.env) (name_of (fun_of x.call)) (after_spaces (operand_texts x.call)) (answer_text x.outcome)
    ∙ ap (λ (line : List ℕ). old ++ (line ++ answer_text x.outcome)) (line_by_parts x.tid x.env x.call)
    ∙ ap (λ (line : List ℕ). old ++ line) (behind (call_line x) (outcome_text x.outcome)))

-- behind the line of its call stands the rest of an entry's line
pub completed : (x : Entry) (line : List ℕ) → line ≡ call_line x → line ++ answer_text x.outcome ≡ entry_text x
unfolding entry_text
completed x line is = ap (λ (front : List ℕ). front ++ answer_text x.outcome) is ∙ behind (call_line x) (outcome_text x.outcome)

-- a letter and two numbers, written from the last byte to the first
pub lettered : (letter a b : ℕ) (none second stop first whole : List ℕ) → none ≡ [] → second ≡ decimal b ++ none → stop ≡ 46 ∷ second
    → first ≡ decimal a ++ stop → whole ≡ letter ∷ first
    → whole ≡ letter ∷ dotted_text a b
lettered letter a b none second stop first whole e0 e1 e2 e3 e4 =
    rw (e4, e3, e2, e1, e0) (ap (λ (t : List ℕ). letter ∷ (decimal a ++ 46 ∷ t)) (append-nil (decimal b)))

pub ascii_lettered : (letter a b : ℕ) → letter < 128 → a < 2 ^ 64 → b < 2 ^ 64 → IsAscii (letter ∷ dotted_text a b)
ascii_lettered letter a b low ha hb =
    IsAscii-cons letter (dotted_text a b) low
    (IsAscii-append (decimal a) (46 ∷ decimal b) (IsAscii-decimal a ha) (IsAscii-cons 46 (decimal b) (omega arith) (IsAscii-decimal b hb)))
