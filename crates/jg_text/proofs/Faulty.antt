-- Which fault a line has whose first three fields are read.
use Rattle.std.proofs.Common.{◌≡◌, ◌≢◌, ℕ, ◌<◌, ◌≤◌, List, ◌∷◌, length, drop, slice_get, Option, Some, All, sym, ◌∙◌, ap, subst, arith}
use Rattle.std.specs.Int.{IsInRange}
use Rattle.jg_words.specs.declared.thread.Tid.{Tid}
use Rattle.jg_words.specs.declared.thread.EnvId.{EnvId}
use Rattle.jg_words.specs.declared.fun.Fun.{Fun}
use Rattle.jg_words.specs.Fun.{name_of}
use Rattle.jg_text.specs.declared.fault.ScriptFault.{ScriptFault}
use Rattle.jg_text.specs.declared.fault.ScriptFault.TheVariants.{NoThread, NoEnv, UnknownFunction, BadOperand, WrongCount, LineTooLong, NotAscii, NoMemory, TooManyThreads}
use Rattle.jg_text.specs.Words.{tid_text, env_text, FitsTid, FitsEnv, SpellOperands}
use Rattle.jg_text.specs.Operands.{operand_kinds}
use Rattle.jg_text.specs.Faults.{fields, HasFault, rank, IsFirstFault}
use Rattle.jg_words.proofs.ByName.{names_injective}

-- the line's first fields are these, and it isn't too long and is printable
pub record HasHead (line : List ℕ) (t : Tid) (e : Option EnvId) (f : Fun) (rest : List (List ℕ)) : Type 0 where
  pub short : length line ≤ 65536
  pub printable : All (λ b. IsInRange 32 126 b) line
  pub tid : FitsTid t
  pub env : FitsEnv e
  pub split : fields line ≡ tid_text t ∷ env_text e ∷ name_of f ∷ rest

no_early : (line : List ℕ) (t : Tid) (e : Option EnvId) (f : Fun) (rest : List (List ℕ)) → HasHead line t e f rest → (g : ScriptFault) → rank g < 5
    → ¬ HasFault g line
no_early line t e f rest h LineTooLong low = λ long. let short : length line ≤ 65536 = h.short in absurd (omega (arith, short, long))
no_early line t e f rest h NotAscii low = λ bad. bad h.printable
no_early line t e f rest h NoThread low = λ bad. bad t h.tid (ap (λ fs. slice_get fs 0) h.split)
no_early line t e f rest h NoEnv low = λ bad. bad e h.env (ap (λ fs. slice_get fs 1) h.split)
no_early line t e f rest h UnknownFunction low = λ bad. bad f (ap (λ fs. slice_get fs 2) h.split)
no_early line t e f rest h WrongCount low = absurd (omega (arith, low))
no_early line t e f rest h BadOperand low = absurd (omega (arith, low))
no_early line t e f rest h NoMemory low = absurd (omega (arith, low))
no_early line t e f rest h TooManyThreads low = absurd (omega (arith, low))

same_fun : (line : List ℕ) (t : Tid) (e : Option EnvId) (f g : Fun) (rest : List (List ℕ)) → HasHead line t e f rest
    → slice_get (fields line) 2 ≡ Some (name_of g) → f ≡ g
same_fun line t e f g rest h found =
    let both : Some (name_of f) ≡ Some (name_of g) = sym (ap (λ fs. slice_get fs 2) h.split) ∙ found in
    let same : name_of f ≡ name_of g = cc in
    names_injective f g same

operands_are : (line : List ℕ) (t : Tid) (e : Option EnvId) (f : Fun) (rest : List (List ℕ)) → HasHead line t e f rest → drop 3 (fields line) ≡ rest
operands_are line t e f rest h = ap (drop 3) h.split

pub wrong_count : (line : List ℕ) (t : Tid) (e : Option EnvId) (f : Fun) (rest : List (List ℕ)) → HasHead line t e f rest
    → length rest ≢ length (operand_kinds f) → IsFirstFault line WrongCount
wrong_count line t e f rest h other = record {
  fault = λ g found count. other
      (sym (ap length (operands_are line t e f rest h)) ∙ count ∙ ap (λ k. length (operand_kinds k)) (sym (same_fun line t e f g rest h found)));
  first = no_early line t e f rest h;
}

no_count : (line : List ℕ) (t : Tid) (e : Option EnvId) (f : Fun) (rest : List (List ℕ)) → HasHead line t e f rest → length rest ≡ length (operand_kinds f)
    → (g : ScriptFault) → rank g < 6
    → ¬ HasFault g line
no_count line t e f rest h count LineTooLong low = no_early line t e f rest h LineTooLong (omega arith)
no_count line t e f rest h count NotAscii low = no_early line t e f rest h NotAscii (omega arith)
no_count line t e f rest h count NoThread low = no_early line t e f rest h NoThread (omega arith)
no_count line t e f rest h count NoEnv low = no_early line t e f rest h NoEnv (omega arith)
no_count line t e f rest h count UnknownFunction low = no_early line t e f rest h UnknownFunction (omega arith)
no_count line t e f rest h count WrongCount low = λ bad. bad f (ap (λ fs. slice_get fs 2) h.split) (ap length (operands_are line t e f rest h) ∙ count)
no_count line t e f rest h count BadOperand low = absurd (omega (arith, low))
no_count line t e f rest h count NoMemory low = absurd (omega (arith, low))
no_count line t e f rest h count TooManyThreads low = absurd (omega (arith, low))

pub bad_operand : (line : List ℕ) (t : Tid) (e : Option EnvId) (f : Fun) (rest : List (List ℕ)) (g : ScriptFault) → HasHead line t e f rest
    → length rest ≡ length (operand_kinds f) → g ≡ BadOperand
    → ¬ SpellOperands (operand_kinds f) rest → IsFirstFault line g
bad_operand line t e f rest g h count is none =
    let whole : IsFirstFault line BadOperand = record {
      fault = λ k found spelt. none (subst (λ (x : Fun). SpellOperands (operand_kinds x) rest) (sym (same_fun line t e f k rest h found))
          (subst (λ (fs : List (List ℕ)). SpellOperands (operand_kinds k) fs) (operands_are line t e f rest h) spelt));
      first = no_count line t e f rest h count;
    } in
    subst (λ (k : ScriptFault). IsFirstFault line k) (sym is) whole

-- a spelt line has no fault
pub no_fault : (line : List ℕ) (t : Tid) (e : Option EnvId) (f : Fun) (rest : List (List ℕ)) → HasHead line t e f rest → length rest ≡ length (operand_kinds f)
    → SpellOperands (operand_kinds f) rest
    → (g : ScriptFault) → ¬ HasFault g line
no_fault line t e f rest h count spelt LineTooLong = no_early line t e f rest h LineTooLong (omega arith)
no_fault line t e f rest h count spelt NotAscii = no_early line t e f rest h NotAscii (omega arith)
no_fault line t e f rest h count spelt NoThread = no_early line t e f rest h NoThread (omega arith)
no_fault line t e f rest h count spelt NoEnv = no_early line t e f rest h NoEnv (omega arith)
no_fault line t e f rest h count spelt UnknownFunction = no_early line t e f rest h UnknownFunction (omega arith)
no_fault line t e f rest h count spelt WrongCount = no_count line t e f rest h count WrongCount (omega arith)
no_fault line t e f rest h count spelt BadOperand = λ bad. bad f (ap (λ fs. slice_get fs 2) h.split)
    (subst (λ (fs : List (List ℕ)). SpellOperands (operand_kinds f) fs) (sym (operands_are line t e f rest h)) spelt)
no_fault line t e f rest h count spelt NoMemory = λ bad. bad
no_fault line t e f rest h count spelt TooManyThreads = λ bad. bad
