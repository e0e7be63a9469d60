use Rattle.pw_read.proofs.run.text_of.Goals as goal

pub returns-in-Err : goal.returns-in-Err
returns-in-Err g c = λ body _. c.reading_failed.ensures _ body
