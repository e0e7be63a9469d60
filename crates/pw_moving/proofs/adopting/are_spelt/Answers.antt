use Rattle.std.proofs.Common.{rules, tests}
use Rattle.std.proofs.lemmas.Iterator.{YieldsList-from_slice}
use Rattle.std.proofs.lemmas.Iterator.Search.{any_from_yields_List}
use Rattle.pw_moving.specs.Adopting.{spells}
use Rattle.pw_moving.proofs.adopting.are_spelt.Goals as goal

pub returns : goal.returns
returns c = any_from_yields_List (spells c.args.old.now c.args.new.now) _ _ _ c.any.ensures.ran (YieldsList-from_slice c.args.words.now cc) (λ x b q k. search (rules, tests))
