use Rattle.pw_shelf.proofs.tally.Tally.new.Goals as goal

pub returns : goal.returns
returns c = assumption
