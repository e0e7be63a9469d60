use Rattle.pw_time.proofs.SummerFacts.{of_some_year, in_summer_of_some_year}
use Rattle.pw_time.proofs.laws.summer_is_of_some_year.Goals as goal

pub returns : goal.returns
returns c = λ t instant.
    (λ summer. of_some_year t summer, λ year. in_summer_of_some_year t year.0 instant year.1 year.2 year.3)
