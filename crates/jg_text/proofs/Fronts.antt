-- The call with which a text begins ends at the space behind as many fields as it has.
use Rattle.std.proofs.Common.{◌≡◌, ℕ, ◌+◌, ◌<◌, ◌==◌, List, [], ◌∷◌, ◌++◌, length, count_by, codes, Option, Some, slice_get, refl, sym, ◌∙◌, ap, arith}
use Rattle.std.specs.Prelude.{cond}
use Rattle.std.proofs.lemmas.List.Splits.{length-slice_split}
use Rattle.std.proofs.lemmas.List.Sums.{sum_by-append}
use Rattle.jg_words.specs.declared.thread.Tid.{Tid}
use Rattle.jg_words.specs.declared.thread.EnvId.{EnvId}
use Rattle.jg_words.specs.declared.call.Call.{Call}
use Rattle.jg_words.specs.Fun.{name_of}
use Rattle.jg_words.specs.Call.{fun_of}
use Rattle.jg_text.specs.Words.{FitsTid, FitsEnv}
use Rattle.jg_text.specs.Operands.{operand_kinds, FitsCall}
use Rattle.jg_text.specs.Spelling.{spelling, Spells}
use Rattle.jg_text.specs.Begun.{BeginsCall}
use Rattle.jg_text.specs.Faults.{fields}
use Rattle.jg_words.specs.declared.fun.Fun.{Fun}
use Rattle.jg_text.proofs.Laws.{fields_longer, fields_spelling, same_count}
use Rattle.jg_words.proofs.ByName.{names_injective}

abbrev pub spaces : List ℕ → ℕ
spaces text = count_by (λ b. b == 32) text

one_more : (us : List ℕ) → spaces (32 ∷ us) ≡ 1 + spaces us
one_more us = sum_by-append (λ b. cond (b == 32) 1 0) (32 ∷ []) us

one_each : (x : ℕ) (xs : List ℕ) → spaces (x ∷ xs) ≡ cond (x == 32) 1 0 + spaces xs
one_each x xs =
    let zero : 0 + cond (x == 32) 1 0 ≡ cond (x == 32) 1 0 = omega arith in
    sum_by-append (λ b. cond (b == 32) 1 0) (x ∷ []) xs ∙ ap (λ k. k + spaces xs) zero

pub equals : (more : List ℕ) → codes " = " ++ more ≡ 32 ∷ 61 ∷ 32 ∷ more
equals more = refl

-- a text is cut at a space in one way, where as many spaces stand before it
same_cut : (xs us ys vs : List ℕ) → xs ++ 32 ∷ ys ≡ us ++ 32 ∷ vs → spaces xs ≡ spaces us → (xs ≡ us) × (ys ≡ vs)
same_cut [] [] ys vs e n = (refl, cc)
same_cut [] (u ∷ us) ys vs e n =
    let head : u ≡ 32 = cc in
    let one : spaces (u ∷ us) ≡ 1 + spaces us = ap (λ k. spaces (k ∷ us)) head ∙ one_more us in
    absurd (omega (arith, one, n))
same_cut (x ∷ xs) [] ys vs e n =
    let head : x ≡ 32 = cc in
    let one : spaces (x ∷ xs) ≡ 1 + spaces xs = ap (λ k. spaces (k ∷ xs)) head ∙ one_more xs in
    absurd (omega (arith, one, n))
same_cut (x ∷ xs) (u ∷ us) ys vs e n =
    let head : x ≡ u = cc in
    let tail : xs ++ 32 ∷ ys ≡ us ++ 32 ∷ vs = cc in
    let test : ℕ → ℕ = λ b. cond (b == 32) 1 0 in
    let left : spaces (x ∷ xs) ≡ test x + spaces xs = one_each x xs in
    let right : spaces (u ∷ us) ≡ test u + spaces us = one_each u us in
    let same : test x ≡ test u = ap test head in
    let more = same_cut xs us ys vs tail (omega (arith, left, right, same, n)) in
    (cc (head, more.0), more.1)

-- the third field is the name of the call's function
named_third : (t : Tid) (e : Option EnvId) (c : Call) (more : List ℕ) → FitsTid t → FitsEnv e → FitsCall c
    → slice_get (fields (spelling t e c ++ 32 ∷ more)) 2 ≡ Some (name_of (fun_of c))
named_third t e c more ht he hc = ap (λ fs. slice_get fs 2) (fields_longer t e c more ht he hc)

-- so many spaces stand in a call
spaces_of_call : (t : Tid) (e : Option EnvId) (c : Call) → FitsTid t → FitsEnv e → FitsCall c
    → spaces (spelling t e c) + 1 ≡ length (operand_kinds (fun_of c)) + 3
spaces_of_call t e c ht he hc =
    let fields_are = ap length (fields_spelling t e c ht he hc) in
    omega (arith, length-slice_split (λ b. b == 32) (spelling t e c), fields_are, same_count c)

-- what stands before the space behind so many fields is the call, where the text begins with one
pub front_is : (text front back : List ℕ) (t : Tid) (e : Option EnvId) (c : Call) (more : List ℕ) → FitsTid t → FitsEnv e → FitsCall c
    → text ≡ front ++ 32 ∷ back
    → spaces front + 1 ≡ length (operand_kinds (fun_of c)) + 3 → text ≡ spelling t e c ++ (codes " = " ++ more)
    → (front ≡ spelling t e c) × (back ≡ 61 ∷ 32 ∷ more)
front_is text front back t e c more ht he hc cut count begins =
    let call = spaces_of_call t e c ht he hc in
    same_cut front (spelling t e c) back (61 ∷ 32 ∷ more) (sym cut ∙ begins ∙ ap (λ rest. spelling t e c ++ rest) (equals more)) (omega (arith, count, call))

-- such a text has a space there
pub enough : (text : List ℕ) (t : Tid) (e : Option EnvId) (c : Call) (more : List ℕ) → FitsTid t → FitsEnv e → FitsCall c
    → spaces text < length (operand_kinds (fun_of c)) + 3
    → text ≡ spelling t e c ++ (codes " = " ++ more) → ⊥
enough text t e c more ht he hc few begins =
    let call = spaces_of_call t e c ht he hc in
    let rest : spaces (codes " = " ++ more) ≡ 1 + spaces (61 ∷ 32 ∷ more) = ap spaces (equals more) ∙ one_more (61 ∷ 32 ∷ more) in
    let whole : spaces text ≡ spaces (spelling t e c) + spaces (codes " = " ++ more) =
    ap spaces begins ∙ sum_by-append (λ b. cond (b == 32) 1 0) (spelling t e c) (codes " = " ++ more) in
    absurd (omega (arith, few, call, whole, rest))

-- the text names the call's function in its third field
pub named_function : (text : List ℕ) (t : Tid) (e : Option EnvId) (c : Call) (more : List ℕ) → FitsTid t → FitsEnv e → FitsCall c
    → text ≡ spelling t e c ++ (codes " = " ++ more)
    → slice_get (fields text) 2 ≡ Some (name_of (fun_of c))
named_function text t e c more ht he hc begins = ap (λ k. slice_get (fields k) 2) (begins ∙ ap (λ rest. spelling t e c ++ rest) (equals more))
    ∙ named_third t e c (61 ∷ 32 ∷ more) ht he hc

-- the function that is read from the third field is the one that it names
pub third_names : (text behind later a b name : List ℕ) (rest : List (List ℕ)) (f g : Fun) → fields text ≡ a ∷ fields behind → fields behind ≡ b ∷ fields later
    → fields later ≡ name ∷ rest → name ≡ name_of g → slice_get (fields text) 2 ≡ Some (name_of f) → g ≡ f
third_names text behind later a b name rest f g first second third is found =
    let split : fields text ≡ a ∷ b ∷ name ∷ rest = cc in
    let both : Some name ≡ Some (name_of f) = sym (ap (λ fs. slice_get fs 2) split) ∙ found in
    let same : name_of g ≡ name_of f = cc in
    names_injective g f same

-- what stands before ` = ` spells no call, so the text doesn't begin with one
pub begins_with_none : (text : List ℕ) (front : Option (List ℕ))
    → ((t : Tid) (e : Option EnvId) (c : Call) (more : List ℕ) → FitsTid t → FitsEnv e → FitsCall c → text ≡ spelling t e c ++ (codes " = " ++ more)
    → front ≡ Some (spelling t e c))
    → ((line : List ℕ) → front ≡ Some line → (t : Tid) (e : Option EnvId) (c : Call) → ¬ Spells line t e c) → ¬ BeginsCall text
begins_with_none text front found none = λ begins.
    let (t, e, c, is) = begins in
    let more = is.begins in
    none (spelling t e c) (found t e c more.0 is.tid is.env is.call more.1) t e c (record { tid = is.tid; env = is.env; call = is.call; text = refl })
