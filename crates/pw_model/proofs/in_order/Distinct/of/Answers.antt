use Rattle.pw_model.proofs.in_order.Distinct.of.Goals as goal

pub returns-clause-sorted : goal.returns-clause-sorted
returns-clause-sorted c = rw c.in_ok-copy.ensures.items at c.of_vec.ensures.sorted
