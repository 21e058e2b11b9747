use Rattle.sup_command_line.proofs.read.bad_value_text.Goals as goal

pub returns-in-Some : goal.returns-in-Some
returns-in-Some c = rw (← c.in-Some.ensures) c.bad_word_text.ensures
