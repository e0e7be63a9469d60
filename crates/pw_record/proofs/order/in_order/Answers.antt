use Rattle.pw_record.proofs.order.in_order.Goals as goal

pub returns : goal.returns
returns c = record {
  rising = c.of_vec.ensures.sorted.rising;
  same = λ e. (let m = c.of_vec.ensures.sorted.members e in (m.1, m.0));
}
