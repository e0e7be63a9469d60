-- The balance at an instant, and the bill of an interval.
-- (Definitions of this project.)
use Rattle.std.specs.Prelude.{ℕ, ◌+◌, ◌*◌, ◌≤◌, Option, Some, List, [], ◌∷◌, ℤ, pos, ◌+ℤ◌, ◌-ℤ◌}
use Rattle.pw_tariff.specs.declared.ids.AccountId.{AccountId}
use Rattle.pw_tariff.specs.declared.ids.Direction.{Direction}
use Rattle.pw_tariff.specs.declared.ids.Direction.TheVariants.{Import, Export}
use Rattle.pw_tariff.specs.Office.{OfficeRules}
use Rattle.pw_model.specs.declared.records.Entry.{Entry}
use Rattle.pw_model.specs.Counting.{contents_at}
use Rattle.pw_model.specs.Energy.{account}
use Rattle.pw_model.specs.Payments.{nano_in_cent}
use Rattle.pw_months.specs.Between.{energy_between, class_cost, cost_between, topped_up_between}

-- an amount in nano-euro, with top-ups in cents, less what import costs, with what export brings
abbrev pub settled : ℤ → ℕ → ℕ → ℕ → ℤ
settled nano cents imported exported = ((nano +ℤ pos (nano_in_cent * cents)) -ℤ pos imported) +ℤ pos exported

-- the balance of an account at an instant, in nano-euro: of what was topped up before it, and flowed in the seconds
-- before it
abbrev pub balance_at : OfficeRules → List Entry → ℕ → ℕ → ℤ
balance_at office s a t =
    let owner : Option AccountId = Some (account a) in
    settled (pos 0) (topped_up_between s a 0 t) (cost_between office (contents_at s) owner Import 0 t)
    (cost_between office (contents_at s) owner Export 0 t)

pub record Bill : Type 0 where
  -- the balance where the interval begins, in nano-euro
  pub begin : ℤ
  -- topped up in it, in cents
  pub topped_up : ℕ
  -- by period, band and direction, in Wh
  pub energy : ℕ → ℕ → Direction → ℕ
  -- what that costs, in nano-euro
  pub cost : ℕ → ℕ → Direction → ℕ
  -- what all energy of a direction costs, in nano-euro
  pub whole_cost : Direction → ℕ
  -- the balance where the interval ends, in nano-euro
  pub end : ℤ

-- the bill of an account from one instant up to and without another
abbrev pub bill_of : OfficeRules → List Entry → ℕ → ℕ → ℕ → Bill
bill_of office s a from to = record {
  begin = balance_at office s a from;
  topped_up = topped_up_between s a from to;
  energy = λ period band direction. energy_between office s (Some (account a)) period band direction from to;
  cost = λ period band direction. class_cost office (contents_at s) (Some (account a)) period band direction from to;
  whole_cost = λ direction. cost_between office (contents_at s) (Some (account a)) direction from to;
  end = balance_at office s a to;
}

-- ---- intervals one behind another
-- one bill of two, the second behind the first
abbrev pub both : Bill → Bill → Bill
both first second = record {
  begin = first.begin;
  topped_up = first.topped_up + second.topped_up;
  energy = λ period band direction. first.energy period band direction + second.energy period band direction;
  cost = λ period band direction. first.cost period band direction + second.cost period band direction;
  whole_cost = λ direction. first.whole_cost direction + second.whole_cost direction;
  end = second.end;
}

-- instants none of which is earlier than the one before it
abbrev pub AreCuts : ℕ → List ℕ → Type 0
AreCuts from [] = Unit {0}
AreCuts from (c ∷ cuts) = (from ≤ c) × AreCuts c cuts

-- the last of them
abbrev pub last_cut : ℕ → List ℕ → ℕ
last_cut from [] = from
last_cut from (c ∷ cuts) = last_cut c cuts

-- f of each interval between neighbouring instants, added up
abbrev pub over_cuts : (ℕ → ℕ → ℕ) → ℕ → List ℕ → ℕ
over_cuts f from [] = 0
over_cuts f from (c ∷ cuts) = f from c + over_cuts f c cuts

-- the bills of these intervals, made one
abbrev pub bill_of_all : OfficeRules → List Entry → ℕ → ℕ → List ℕ → Bill
bill_of_all office s a from [] = bill_of office s a from from
bill_of_all office s a from (c ∷ cuts) = both (bill_of office s a from c) (bill_of_all office s a c cuts)
