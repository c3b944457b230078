use Rattle.jg_words.proofs.Names.{named-name_of}
use Rattle.jg_words.proofs.fun.of_name_undoes_name.Goals as goal

pub returns : goal.returns
returns c = named-name_of
