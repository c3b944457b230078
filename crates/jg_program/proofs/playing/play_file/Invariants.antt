use Rattle.jg_program.proofs.playing.play_file.Given as goal

abbrev pub ghosts-play_scripts : goal.ghosts-play_scripts
ghosts-play_scripts g a = record { name = a.blank.name; parts = a.blank.parts }
