-- The worked bills, computed.
use Rattle.std.proofs.Common.{refl}
use Rattle.pw_flow.specs.Time.{last, next, sum_over}
use Rattle.pw_flow.specs.Flow.{flow, level, pair_flow}
use Rattle.pw_flow.specs.Energy.{register_energy}
use Rattle.pw_model.specs.Same.{content_numbers, key_numbers}
use Rattle.pw_model.specs.Counting.{contents_among, contents_at, standing}
use Rattle.pw_model.specs.Energy.{energy_where, owner_at}
use Rattle.pw_months.specs.Between.{cost_between, topped_up_between}
use Rattle.pw_months.specs.Worked.{WorkedBills}

pub worked-bills : WorkedBills
unfolding last next sum_over flow level pair_flow register_energy content_numbers key_numbers contents_among contents_at standing energy_where owner_at cost_between topped_up_between
worked-bills = record {
  first = record { begin_is = refl; topped_is = refl; first_is = refl; second_is = refl; high_is = refl; cost_is = refl; export_is = refl; end_is = refl };
  second = record { begin_is = refl; topped_is = refl; first_is = refl; second_is = refl; high_is = refl; cost_is = refl; export_is = refl; end_is = refl };
  other_low = refl;
  other_high = refl;
}
