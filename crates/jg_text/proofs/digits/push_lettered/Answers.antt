use Rattle.std.proofs.Common.{arith, ◌∙◌, sym, subst, ◌∷◌}
use Rattle.std.specs.Str.{IsUtf8}
use Rattle.std.proofs.lemmas.Str.{IsUtf8-from_ascii}
use Rattle.jg_text.specs.Words.{dotted_text}
use Rattle.jg_text.proofs.Writing.{ascii_lettered}
use Rattle.jg_text.proofs.digits.push_lettered.Goals as goal

pub from_utf8_unchecked-requires : goal.from_utf8_unchecked-requires
from_utf8_unchecked-requires c =
    let ascii = IsUtf8-from_ascii (c.args.letter ∷ dotted_text c.args.a c.args.b)
    (ascii_lettered c.args.letter c.args.a c.args.b c.requires (omega arith) (omega arith)) in
    subst IsUtf8 (sym (c.split_at.ensures.back ∙ c.write_lettered-start.ensures.written)) ascii
