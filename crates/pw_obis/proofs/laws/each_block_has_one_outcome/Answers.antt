use Rattle.pw_obis.proofs.EachLine.{one_outcome}
use Rattle.pw_obis.proofs.laws.each_block_has_one_outcome.Goals as goal

pub returns : goal.returns
returns c = one_outcome c.args.block.now c.new.result.sets c.new.result.refusal c.new.ensures
