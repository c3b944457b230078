-- The operands that a log is handed of a question.
use Rattle.std.specs.Prelude.{ℕ, List, []}
use Rattle.jg_words.specs.declared.call.Call.{Call}
use Rattle.jg_words.specs.declared.call.Call.TheVariants.{Strings, Arrays, Buffers}
use Rattle.jg_policy.specs.Stated.{StatedSetup}
use Rattle.jg_rules.specs.Parts.{Parts}
use Rattle.jg_judge.specs.declared.argument.Argument.{Argument}
use Rattle.jg_judge.specs.Written.{arguments_of}

-- those at which advice looks: all of a call about a string, an array or a buffer, and none of another
abbrev pub operands_seen : StatedSetup → Parts → ℕ → Call → List Argument
operands_seen s p t (Strings call) = arguments_of s p t (Strings call)
operands_seen s p t (Arrays call) = arguments_of s p t (Arrays call)
operands_seen s p t (Buffers call) = arguments_of s p t (Buffers call)
operands_seen s p t call = []
