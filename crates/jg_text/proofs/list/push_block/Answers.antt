use Rattle.std.proofs.Common.{◌∙◌, sym, subst}
use Rattle.std.specs.Str.{IsUtf8}
use Rattle.std.proofs.lemmas.Str.{IsUtf8-from_ascii}
use Rattle.jg_text.specs.Pieces.{after_commas}
use Rattle.jg_text.proofs.Lists.{ascii_after_commas}
use Rattle.jg_text.proofs.list.push_block.Goals as goal

pub from_utf8_unchecked-requires : goal.from_utf8_unchecked-requires
from_utf8_unchecked-requires c =
    let wrote = c.write_items-start.ensures in
    let ascii = IsUtf8-from_ascii (after_commas c.args.items.now) (ascii_after_commas c.args.items.now wrote.fits) in
    subst IsUtf8 (sym (c.split_at.ensures.back ∙ wrote.written)) ascii
