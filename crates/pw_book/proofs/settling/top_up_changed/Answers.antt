use Rattle.std.proofs.Common.{sym, ◌∙◌}
use Rattle.pw_book.proofs.settling.top_up_changed.Goals as goal

pub returns-in-None-Some-clause-moved : goal.returns-in-None-Some-clause-moved
returns-in-None-Some-clause-moved g c = λ k. rw (sym c.counting_payment.ensures ∙ c.in-None-Some.is-0, sym c.counting_payment-2.ensures ∙ c.in-None-Some.is-1, sym c.from.ensures) (c.change_total.ensures.moved k)

pub returns-in-Some-None-clause-moved : goal.returns-in-Some-None-clause-moved
returns-in-Some-None-clause-moved g c = λ k. rw (sym c.counting_payment.ensures ∙ c.in-Some-None.is-0, sym c.counting_payment-2.ensures ∙ c.in-Some-None.is-1, sym c.from-in-Some-None.ensures) (c.change_total-in-Some-None.ensures.moved k)
