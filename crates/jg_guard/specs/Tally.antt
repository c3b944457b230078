-- How many calls passed, and how many each rule denied.
use Rattle.std.specs.Prelude.{ℕ, ◌≡◌, ◌==◌, List, slice_index_or}
use Rattle.jg_lists.specs.Acts.{how_many}
use Rattle.jg_words.specs.declared.entry.Outcome.{Outcome}
use Rattle.jg_words.specs.declared.entry.Outcome.TheVariants.{Passed, Denied}
use Rattle.jg_words.specs.declared.rule.Rule.{Rule}
use Rattle.jg_words.specs.Entry.{Entry}
use Rattle.jg_words.specs.Rule.{number_of}

-- 0 of a passed call, and of a denied one the number of its rule
abbrev pub outcome_number : Outcome → ℕ
outcome_number (Passed reply) = 0
outcome_number (Denied rule) = number_of rule

-- how many entries have the number
abbrev pub tallied : ℕ → List Entry → ℕ
tallied k h = how_many (λ x. outcome_number x.outcome == k) h

abbrev pub passed_in : List Entry → ℕ
passed_in h = tallied 0 h

abbrev pub denied_in : Rule → List Entry → ℕ
denied_in rule h = tallied (number_of rule) h

-- the list has it of each number
abbrev pub IsTally : List Entry → List ℕ → Type 0
IsTally h tally = (k : ℕ) → slice_index_or tally k 0 ≡ tallied k h
