use Rattle.std.proofs.Common.{◌∙◌, ap}
use Rattle.jg_words.specs.Fun.{named}
use Rattle.jg_words.proofs.ByName.{named_by_bytes}
use Rattle.jg_words.proofs.fun.Fun.of_name.Goals as goal

pub returns : goal.returns
returns c = named_by_bytes _ _ c.of_bytes.ensures.some c.of_bytes.ensures.none ∙ ap named c.as_bytes.ensures.value
