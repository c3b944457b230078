-- A fault is told by its place and some words.
use Rattle.std.proofs.Common.{◌≡◌, ℕ, List, [], ◌++◌, codes, refl, sym, ◌∙◌, ap, append_assoc, append-nil, OnOk, Result, if◌then◌else◌}
use Rattle.std.specs.Result.{is_ok}
use Rattle.std.specs.declared.result.Result.TheVariants.{Ok, Err}
use Rattle.jg_text.specs.declared.fault.ScriptFault.{ScriptFault}
use Rattle.jg_text.specs.declared.fault.ScriptFault.TheVariants.{NoThread, NoEnv, UnknownFunction, BadOperand, WrongCount, LineTooLong, NotAscii, NoMemory, TooManyThreads}
use Rattle.jg_text.specs.declared.place.Place.{Place}
use Rattle.jg_text.specs.Places.{StandsAt}
use Rattle.jg_fault_text.specs.Lines.{Adds, Tells, AddsFault, place_text}

told : (fault : ScriptFault) (line : List ℕ) (place : Place) (words : List ℕ) → StandsAt fault line place
    → Tells fault line (place_text place ++ words ++ codes "\n")
told NoThread line place words stands = (place, stands, words, refl)
told NoEnv line place words stands = (place, stands, words, refl)
told UnknownFunction line place words stands = (place, stands, words, refl)
told BadOperand line place words stands = (place, stands, words, refl)
told WrongCount line place words stands = (place, stands, words, refl)
told NotAscii line place words stands = (place, stands, words, refl)
told TooManyThreads line place words stands = (place, stands, words, refl)
told LineTooLong line place words stands = absurd stands
told NoMemory line place words stands = absurd stands

pub told_at : {T E : Type 0} (r : Result T E) (fault : ScriptFault) (line : List ℕ) (place : Place) (old : List ℕ) {middle more new : List ℕ}
    → StandsAt fault line place
    → middle ≡ old ++ place_text place → Adds middle more → new ≡ (if is_ok r then more ++ codes "\n" else more) → OnOk r (AddsFault fault line old new)
told_at (Err _) fault line place old stands first words last = tt
told_at (Ok _) fault line place old stands first words last = (
  place_text place ++ words.0 ++ codes "\n",
  told fault line place words.0 stands,
  last ∙ ap (λ it. it ++ codes "\n") (words.1 ∙ ap (λ it. it ++ words.0) first ∙ append_assoc old (place_text place) words.0)
      ∙ append_assoc old (place_text place ++ words.0) (codes "\n"),
)

-- five texts one after the other
pub five : (a b c d e : List ℕ) → a ++ (b ++ (c ++ (d ++ (e ++ [])))) ≡ a ++ b ++ c ++ d ++ e
five a b c d e =
    ap (λ it. a ++ (b ++ (c ++ (d ++ it)))) (append-nil e)
    ∙ sym (append_assoc (a ++ b ++ c) d e ∙ append_assoc (a ++ b) c (d ++ e) ∙ append_assoc a b (c ++ (d ++ e)))
