-- Two bills worked by hand, and why the second is so: two readings, a change of owner, a change of band and a change of
-- period, on a clock of 24 seconds.
-- (A sample of this project.)
use Rattle.std.specs.Prelude.{◌≡◌, ℕ, Bool, true, false, cond, nat_lt, Option, Some, List, [], ◌∷◌, pos}
use Rattle.pw_obis.specs.declared.reference.Register.{Register}
use Rattle.pw_obis.specs.declared.reference.Register.TheVariants.{I1}
use Rattle.pw_tariff.specs.declared.ids.AccountId.{AccountId}
use Rattle.pw_tariff.specs.declared.ids.Direction.{Direction}
use Rattle.pw_tariff.specs.declared.ids.Direction.TheVariants.{Import, Export}
use Rattle.pw_tariff.specs.Office.{OfficeRules}
use Rattle.pw_model.specs.declared.records.Key.TheVariants as key
use Rattle.pw_model.specs.declared.records.Content.TheVariants as content
use Rattle.pw_model.specs.declared.records.Entry.{Entry}
use Rattle.pw_model.specs.Counting.{assignment_key, contents_at}
use Rattle.pw_model.specs.Energy.{account}
use Rattle.pw_model.specs.Lists.{reading_entry}
use Rattle.pw_months.specs.Bills.{Bill, bill_of}
use Rattle.pw_months.specs.Why.{AreWhyRows, WhyRow}

abbrev pub only_i1 : Register → Bool
only_i1 I1 = true
only_i1 _ = false

-- import costs 200,000 and 300,000 in the first period, 250,000 and 350,000 in the second
abbrev pub worked_price : ℕ → ℕ → Direction → ℕ
worked_price p b Import = cond (nat_lt p 1) (cond (nat_lt b 1) 200_000 300_000) (cond (nat_lt b 1) 250_000 350_000)
worked_price p b Export = 50_000

-- one meter; the first period up to second 8, the first band up to second 10
abbrev pub worked_office : OfficeRules
worked_office = record {
  accounts = 2;
  meters = 1;
  bands = 2;
  periods = 2;
  end = 24;
  counts = λ m. only_i1;
  band = λ t. cond (nat_lt t 10) 0 1;
  period = λ t. cond (nat_lt t 8) 0 1;
  price = worked_price;
}

abbrev pub worked_start : ℕ → Option AccountId → Entry
worked_start t o = record { key = assignment_key 0 t; content = content.Assignment o }

abbrev pub worked_payment : ℕ → ℕ → ℕ → Entry
worked_payment number cents t = record {
  key = key.TopUp (80 ∷ number ∷ []);
  content = content.TopUp (account 0) cents t;
}

-- 21 Wh from second 2 to second 12; the first account up to second 9, then the second; 9 cents at second 5 and 7 at
-- second 6
abbrev pub worked_records : List Entry
worked_records =
    worked_start 0 (Some (account 0)) ∷ reading_entry 0 I1 2 100 ∷ reading_entry 0 I1 12 121
    ∷ worked_start 9 (Some (account 1)) ∷ worked_payment 49 7 6 ∷ worked_payment 50 9 5 ∷ []

-- the figures of a bill: import of the first band in each period, and of the second band in the second
pub record Figures (bill : Bill) (begin topped first second high nano end : ℕ) : Type 0 where
  pub begin_is : bill.begin ≡ pos begin
  pub topped_is : bill.topped_up ≡ topped
  pub first_is : bill.energy 0 0 Import ≡ first
  pub second_is : bill.energy 1 0 Import ≡ second
  pub high_is : bill.energy 1 1 Import ≡ high
  pub cost_is : bill.whole_cost Import ≡ nano
  pub export_is : bill.whole_cost Export ≡ 0
  pub end_is : bill.end ≡ pos end

-- up to and without second 6 there are second 5 and its top-up; up to and without second 12 second 6 and its own
pub record WorkedBills : Type 0 where
  pub first : Figures (bill_of worked_office worked_records 0 0 6) 0 9 8 0 0 1_600_000 88_400_000
  pub second : Figures (bill_of worked_office worked_records 0 6 12) 88_400_000 7 4 2 0 1_300_000 157_100_000
  pub other_low : (bill_of worked_office worked_records 1 6 12).energy 1 0 Import ≡ 2
  pub other_high : (bill_of worked_office worked_records 1 6 12).energy 1 1 Import ≡ 5

-- why the first account has 4 Wh in the first period from second 6 on, and then 2 Wh in the second
abbrev pub worked_row : ℕ → ℕ → ℕ → ℕ → ℕ → WhyRow
worked_row begin until period wh nano = record {
  meter = 0;
  register = I1;
  from = 2;
  low = 100;
  to = 12;
  high = 121;
  begin = begin;
  until = until;
  period = period;
  band = 0;
  wh = wh;
  nano = nano;
}

abbrev pub worked_rows : List WhyRow
worked_rows = worked_row 6 8 0 4 800_000 ∷ worked_row 8 9 1 2 500_000 ∷ []

abbrev pub WorkedWhy : Type 0
WorkedWhy = AreWhyRows worked_office (contents_at worked_records) 0 6 12 worked_rows
