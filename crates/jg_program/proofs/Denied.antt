-- Some call was denied where fewer passed than there are.
use Rattle.std.proofs.Common.{◌≡◌, ◌+◌, ◌≤◌, ◌||◌, ℕ, suc, Bool, true, false, List, [], ◌∷◌, length, if◌then◌else◌, refl, arith}
use Rattle.std.specs.Prelude.{◌==◌, nat_lt}
use Rattle.std.specs.Option.{is_some}
use Rattle.std.proofs.lemmas.Bool.Decides.{nat_tests}
use Rattle.std.proofs.lemmas.Bool.{ne_eqb}
use Rattle.jg_words.specs.declared.entry.Outcome.{Outcome}
use Rattle.jg_words.specs.declared.entry.Outcome.TheVariants.{Passed, Denied}
use Rattle.jg_words.specs.declared.rule.Rule.{Rule}
use Rattle.jg_words.specs.Entry.{Entry, rule_in}
use Rattle.jg_words.specs.Rule.{number_of}
use Rattle.jg_words.proofs.Common.{positive, rule_number}
use Rattle.jg_guard.specs.Tally.{outcome_number, passed_in}
use Rattle.jg_program.specs.Reported.{any_denied}

-- a denied call doesn't count as one that passed
not_passed : (rule : Rule) → (number_of rule == 0) ≡ false
not_passed rule = ne_eqb (number_of rule) 0 (positive (number_of rule) (rule_number rule).0)

-- with one outcome more, where so many of these passed
few_more : (b : Bool) (passed all : ℕ) → passed ≤ all → (if b then passed + 1 else passed) ≤ suc all
few_more true passed all few = omega (arith, few)
few_more false passed all few = omega (arith, few)

few_pass : (h : List Entry) → passed_in h ≤ length h
few_pass [] = omega arith
few_pass (x ∷ h) = few_more (outcome_number x.outcome == 0) (passed_in h) (length h) (few_pass h)

one_more : (outcome : Outcome) (passed all : ℕ) (any : Bool) → passed ≤ all → nat_lt passed all ≡ any
    → nat_lt (if outcome_number outcome == 0 then passed + 1 else passed) (suc all) ≡ (is_some (rule_in outcome) || any)
one_more (Passed reply) passed all any few is = grind (arith, nat_tests, is)
one_more (Denied rule) passed all any few is = rw (not_passed rule) (grind (arith, nat_tests, few))

pub fewer_pass : (h : List Entry) → nat_lt (passed_in h) (length h) ≡ any_denied h
fewer_pass [] = refl
fewer_pass (x ∷ h) = one_more x.outcome (passed_in h) (length h) (any_denied h) (few_pass h) (fewer_pass h)
