use Rattle.std.proofs.Common.{refl}
use Rattle.pw_serve.proofs.Turns.{leaving-came, peer-came}
use Rattle.pw_serve.proofs.turn.read_some.Goals as goal

pub returns-in-Ok-extend_from_slice-clause-moves : goal.returns-in-Ok-extend_from_slice-clause-moves
returns-in-Ok-extend_from_slice-clause-moves g c = λ first own p. peer-came first _ _ own c.args.peer.now _ c.read.new.bytes c.in-Ok.count p c.requires.0 c.requires.1 c.in-Ok.ensures.one c.in-Ok-extend_from_slice.ensures.items refl refl refl

pub returns-in-Err-clause-moves : goal.returns-in-Err-clause-moves
returns-in-Err-clause-moves g c = λ first own p. leaving-came first _ _ own c.args.peer.now c.read.new.bytes c.in-Ok.count p c.requires.0 c.in-Ok.ensures.one
