-- What the definitions mean.
use Rattle.std.specs.Prelude.{ℕ, ◌≡◌, Bool, true, false, length}
use Rattle.jg_words.specs.declared.thread.Tid.{Tid}
use Rattle.jg_words.specs.declared.value.Value.{Value}
use Rattle.jg_words.specs.declared.value.Value.TheVariants.{Throw as Threw}
use Rattle.jg_words.specs.declared.call.Call.{Call}
use Rattle.jg_words.specs.declared.call.Call.TheVariants.{Strings}
use Rattle.jg_words.specs.declared.call.strings.StringsCall.TheVariants.{GetStringRegion}
use Rattle.jg_policy.specs.Stated.{StatedSetup}
use Rattle.jg_rules.specs.Answers.{answer}
use Rattle.jg_rules.specs.Names.{length_of, the_object, units_of}
use Rattle.jg_rules.specs.Parts.{Parts}
use Rattle.jg_judge.specs.Written.{arguments_of}
use Rattle.jg_advice.specs.Throwing.{is_within, part_of}

-- the string of which the call reads a region has as many characters as it is long, as it has where no machine of its
-- own was told of
abbrev pub HasCharacters : StatedSetup → Parts → ℕ → Call → Type 0
HasCharacters s p t (Strings (GetStringRegion r start n)) =
    length (units_of s p (the_object p t r)) ≡ length_of s p (the_object p t r)
HasCharacters s p t call = Unit {0}

abbrev pub is_exception : Value → Bool
is_exception (Threw kind) = true
is_exception value = false

-- in the written machine no call throws whose part lies within what is known of its string or array
-- (proofs/Within.antt)
abbrev pub WithinThrowsNothing : Type 0
WithinThrowsNothing = (s : StatedSetup) (p : Parts) (t : Tid) (call : Call) → HasCharacters s p t.0 call
    → is_within s p t.0 (part_of (arguments_of s p t.0 call)) ≡ true
    → is_exception (answer s p t call).reply.value ≡ false
