use Rattle.std.proofs.Common.{◌∙◌, ap}
use Rattle.std.proofs.lemmas.List.Splits.{slice_split_none}
use Rattle.jg_text.specs.Faults.{fields}
use Rattle.jg_text.proofs.Cuts.{split_first}
use Rattle.jg_text.proofs.operand.cut.Goals as goal

pub returns-in-Some : goal.returns-in-Some
returns-in-Some c = ap fields c.in-Some.ensures.some.0 ∙ split_first 32 c.in-Some.front.now c.in-Some.back.now c.in-Some.ensures.some.1

pub returns-in-None : goal.returns-in-None
returns-in-None c = slice_split_none _ c.args.text.now c.in-None.ensures.none
