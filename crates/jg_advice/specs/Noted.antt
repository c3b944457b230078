-- What is told of advice: each, or the first of each kind and function, and how often each was given.
use Rattle.std.specs.Prelude.{ℕ, ◌≡◌, ◌+◌, ◌*◌, ◌==◌, ◌<◌, ◌||◌, ◌⊎◌, zero, suc, Bool, if◌then◌else◌, min, List, [], ◌∷◌, ◌++◌, codes, slice_index_or, Option, Some, None}
use Rattle.std.specs.Fmt.{decimal}
use Rattle.jg_lists.specs.Acts.{how_many}
use Rattle.jg_advice.specs.declared.advice.Advice.{Advice}
use Rattle.jg_advice.specs.declared.advice.Kind.{Kind}
use Rattle.jg_advice.specs.declared.advice.Kind.TheVariants.{Unchecked, WritesLost, CommittedAndKept, LongRegion, MonitorAtDetachment, DescriptorForName, Growing}
use Rattle.jg_advice.specs.Texts.{advice_text, head_text}

abbrev pub kind_number : Kind → ℕ
kind_number Unchecked = 0
kind_number WritesLost = 1
kind_number CommittedAndKept = 2
kind_number LongRegion = 3
kind_number MonitorAtDetachment = 4
kind_number DescriptorForName = 5
kind_number Growing = 6

-- the place of the function in the table; no function has 243
abbrev pub function_number : Option ℕ → ℕ
function_number None = 243
function_number (Some f) = min f 243

-- its kind and function as one number
abbrev pub key_of : Kind → Option ℕ → ℕ
key_of kind function = kind_number kind * 244 + function_number function

abbrev pub key : Advice → ℕ
key a = key_of a.kind a.function

-- how often advice of the number was given
abbrev pub given : ℕ → List Advice → ℕ
given k advices = how_many (λ a. key a == k) advices

-- what contracts see of noted advice: whether each is told, how often each was given by its number, and the text so far,
-- which is lost where memory ran out
pub record Noting : Type 0 where
  pub all : Bool
  pub counts : List ℕ
  pub text : Option (List ℕ)

-- the texts of the advice, the newest of which is first: of all, or of the first of each number
abbrev pub texts : Bool → List Advice → List ℕ
texts all [] = []
texts all (a ∷ advices) = texts all advices ++ (if all || given (key a) advices == 0 then advice_text a else [])

-- the counts are how often each number was given
abbrev pub Counts : List ℕ → List Advice → Type 0
Counts counts advices = (k : ℕ) → k < 1708 → slice_index_or counts k 0 ≡ given k advices

-- the text and the counts are of the advice, or memory ran out
abbrev pub IsNoted : Noting → List Advice → Type 0
IsNoted x advices = (x.text ≡ None) ⊎ ((x.text ≡ Some (texts x.all advices)) × Counts x.counts advices)

-- ---- at the end

abbrev pub function_at : ℕ → Option ℕ
function_at f = if f == 243 then None else Some f

-- how often advice of that kind and function was given, where it was
abbrev pub count_text : Kind → ℕ → ℕ → List ℕ
count_text kind f n =
    if n == 0 then [] else head_text kind (function_at f) ++ (codes ": " ++ (decimal n ++ (codes " in all" ++ 10 ∷ [])))

-- of the first so many functions
abbrev pub counts_below : List Advice → Kind → ℕ → List ℕ
counts_below advices kind zero = []
counts_below advices kind (suc f) =
    counts_below advices kind f ++ count_text kind f (given (key_of kind (function_at f)) advices)

abbrev pub counts_of : List Advice → List Kind → List ℕ
counts_of advices [] = []
counts_of advices (kind ∷ kinds) = counts_below advices kind 244 ++ counts_of advices kinds

abbrev pub kinds : List Kind
kinds = Unchecked ∷ WritesLost ∷ CommittedAndKept ∷ LongRegion ∷ MonitorAtDetachment ∷ DescriptorForName ∷ Growing ∷ []

-- all that is told of advice, the newest of which is first
abbrev pub told_text : Bool → List Advice → List ℕ
told_text all advices = texts all advices ++ counts_of advices kinds
