use Rattle.std.proofs.Common.{refl, sym}
use Rattle.std.proofs.lemmas.Bool.{true≢false}
use Rattle.pw_carrying.proofs.NotSent.{found-member, not-found}
use Rattle.pw_carrying.proofs.held.was_sent.Goals as goal

pub returns-in-Ok : goal.returns-in-Ok
returns-in-Ok c = (λ t. found-member c.args.sent.now c.args.entry.now c.in-Ok.field-0 c.in-Ok.ensures.bound (c.in-Ok.ensures.ok c.args.entry.now), λ m. refl)

pub returns-in-Err : goal.returns-in-Err
returns-in-Err c = (λ t. absurd (true≢false (sym t)), λ m. absurd (not-found c.args.sent.now c.args.entry.now c.in-Err.field-0 c.requires c.in-Err.ensures.position m))
