use Rattle.std.proofs.Common.{List, ap, drop, ℕ, ◌∙◌}
use Rattle.std.proofs.lemmas.List.{take_rest}
use Rattle.pw_serve.proofs.Turns.{peer-sent}
use Rattle.pw_serve.proofs.turn.write_some.Goals as goal

pub returns-in-Ok-clause-moves : goal.returns-in-Ok-clause-moves
returns-in-Ok-clause-moves g c = λ first own p.
    let all = take_rest c.deref.result.now c.args.peer.now.sent ∙ ap (λ (t : List ℕ). drop c.args.peer.now.sent t) c.deref.ensures.value in
    peer-sent first _ _ own c.args.peer.now c.took.new.self _ c.in-Ok.count p c.in-Ok.ensures.one all c.took.ensures.same c.took.ensures.rest
