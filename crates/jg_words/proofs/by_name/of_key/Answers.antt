use Rattle.jg_words.proofs.by_name.of_key.Goals as goal

pub returns : goal.returns
returns c = λ f e. rw (← e) (c.requires.table.stands f _)
