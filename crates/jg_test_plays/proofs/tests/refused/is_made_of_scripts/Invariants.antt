use Rattle.jg_test_plays.proofs.tests.refused.is_made_of_scripts.Given as goal

abbrev pub ghosts-is_made : goal.ghosts-is_made
ghosts-is_made a = record { name = a.blank.name; parts = a.blank.parts }
