use Rattle.pw_time.proofs.WrittenDays.{first_text, last_text}
use Rattle.pw_time.proofs.laws.instants_are_of_the_century.Goals as goal

pub returns-clause-first : goal.returns-clause-first
returns-clause-first c = first_text

pub returns-clause-last : goal.returns-clause-last
returns-clause-last c = last_text
