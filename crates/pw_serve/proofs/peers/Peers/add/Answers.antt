use Rattle.std.proofs.Common.{refl, sym, ◌∙◌}
use Rattle.pw_serve.proofs.Nows.{onward-added, onward-kept, onward-unfit}
use Rattle.pw_serve.proofs.Rows.{looked-set, not-looked, put_at, unfit}
use Rattle.pw_serve.proofs.Turns.{stays-then, waiting-none}
use Rattle.pw_serve.proofs.peers.Peers.add.Goals as goal

pub returns-then-not-admit-clause-onward : goal.returns-then-not-admit-clause-onward
returns-then-not-admit-clause-onward g c = onward-kept g.S.Service.answers _ _ _ _ _ _ c.admit.ensures.stay (λ j. refl)

pub returns-then-is_err-clause-onward : goal.returns-then-is_err-clause-onward
returns-then-is_err-clause-onward g c = onward-unfit g.S.Service.answers _ _ _ _ _ _ _ _ c.in-Some.ensures.1 c.admit.ensures.stay c.end.ensures.one c.end.ensures.others (unfit _ c.args.self.now.rows c.insert.new.self (sym c.is_err.ensures.value ∙ c.if-is_err.true) c.insert.ensures.err)

pub returns-clause-onward : goal.returns-clause-onward
returns-clause-onward g c = onward-added g.S.Service.answers _ _ _ _ _ _ _ c.new.result c.in-Some.ensures.1 c.new.ensures.inbox (waiting-none c.new.result c.new.ensures.outbox) c.new.ensures.ended c.new.ensures.closes (λ j. stays-then _ _ _ (c.admit.ensures.stay j) (c.again.ensures.stay j)) (put_at _ _ c.args.self.now.rows c.insert.new.self _ (sym c.is_err.ensures.value ∙ c.if-is_err.false) c.insert.ensures.updates)

pub returns-clause-looked : goal.returns-clause-looked
returns-clause-looked g c = looked-set g.S.Service.waits _ c.new.result _ _ (put_at _ _ c.args.self.now.rows c.insert.new.self _ (sym c.is_err.ensures.value ∙ c.if-is_err.false) c.insert.ensures.updates) (not-looked g.S.Service.waits c.new.result c.new.ensures.looked)
