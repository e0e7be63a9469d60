-- Bills of intervals.
use Rattle.std.proofs.Common.{◌≡◌, ℕ, ◌+◌, ◌*◌, ◌≤◌, Option, Some, List, [], ◌∷◌, ℤ, pos, ◌+ℤ◌, ◌-ℤ◌, refl, sym, ap, ◌∙◌, arith, mul-add, mul-zero}
use Rattle.std.proofs.lemmas.Int.{ints}
use Rattle.pw_time.specs.declared.instant.TheConstants.{END_SECOND}
use Rattle.pw_tariff.specs.declared.ids.AccountId.{AccountId}
use Rattle.pw_tariff.specs.declared.ids.Direction.{Direction}
use Rattle.pw_tariff.specs.declared.ids.Direction.TheVariants.{Import, Export}
use Rattle.pw_tariff.specs.Office.{OfficeRules}
use Rattle.pw_flow.proofs.Sums.{sum-same, sum-none}
use Rattle.pw_flow.proofs.Shares.{sum-add}
use Rattle.pw_model.specs.declared.records.Key.{Key}
use Rattle.pw_model.specs.declared.records.Contents.{Contents}
use Rattle.pw_model.specs.declared.records.Entry.{Entry}
use Rattle.pw_model.specs.Counting.{contents_at}
use Rattle.pw_model.specs.Energy.{account, cost, energy_where, of_class, over_periods, over_bands}
use Rattle.pw_model.specs.Payments.{nano_in_cent, topped_up}
use Rattle.pw_model.proofs.Counting.{contents-same}
use Rattle.pw_months.specs.Between.{class_between, class_cost, cost_between, topped_up_between}
use Rattle.pw_months.specs.Bills.{Bill, balance_at, bill_of, both, last_cut, settled}
use Rattle.pw_months.specs.Laws.{AllBillsAddUp, BalanceLessWhatIsBehind, BillBalances, BillOfAllTime, BillsAddUp, OrderOfBillCountsNothing}
use Rattle.pw_months.proofs.Shared.{between-all, between-empty, between-shared, cuts-rise}
use Rattle.pw_months.proofs.Cents.{topped-all, topped-empty, topped-same, topped-shared}

-- ---- what energies cost
class-shared : (office : OfficeRules) (at : Key → Contents) (o : Option AccountId) (p b : ℕ) (d : Direction)
    (from cut to : ℕ) →
    from ≤ cut → cut ≤ to →
    class_cost office at o p b d from to ≡ class_cost office at o p b d from cut + class_cost office at o p b d cut to
class-shared office at o p b d from cut to l r =
    ap (λ n. office.price p b d * n) (between-shared office at d (of_class office o p b) from cut to l r)
    ∙ mul-add (office.price p b d) (energy_where office at d (class_between office from cut o p b))
    (energy_where office at d (class_between office cut to o p b))

bands-shared : (office : OfficeRules) (at : Key → Contents) (o : Option AccountId) (p : ℕ) (d : Direction)
    (from cut to : ℕ) →
    from ≤ cut → cut ≤ to →
    over_bands office (λ b. class_cost office at o p b d from to)
    ≡ over_bands office (λ b. class_cost office at o p b d from cut) + over_bands office (λ b. class_cost office at o p b d cut to)
bands-shared office at o p d from cut to l r =
    let whole : ℕ → ℕ = λ b. class_cost office at o p b d from to in
    let one : ℕ → ℕ = λ b. class_cost office at o p b d from cut in
    let two : ℕ → ℕ = λ b. class_cost office at o p b d cut to in
    sum-same whole (λ b. one b + two b) 0 office.bands (λ b x y. class-shared office at o p b d from cut to l r)
    ∙ sum-add one two 0 office.bands

pub cost-shared : (office : OfficeRules) (at : Key → Contents) (o : Option AccountId) (d : Direction)
    (from cut to : ℕ) →
    from ≤ cut → cut ≤ to →
    cost_between office at o d from to ≡ cost_between office at o d from cut + cost_between office at o d cut to
unfolding cost_between
cost-shared office at o d from cut to l r =
    let whole : ℕ → ℕ = λ p. over_bands office (λ b. class_cost office at o p b d from to) in
    let one : ℕ → ℕ = λ p. over_bands office (λ b. class_cost office at o p b d from cut) in
    let two : ℕ → ℕ = λ p. over_bands office (λ b. class_cost office at o p b d cut to) in
    sum-same whole (λ p. one p + two p) 0 office.periods (λ p x y. bands-shared office at o p d from cut to l r)
    ∙ sum-add one two 0 office.periods

class-empty : (office : OfficeRules) (at : Key → Contents) (o : Option AccountId) (p b : ℕ) (d : Direction) (from : ℕ) →
    class_cost office at o p b d from from ≡ 0
class-empty office at o p b d from =
    ap (λ n. office.price p b d * n) (between-empty office at d (of_class office o p b) from)
    ∙ mul-zero (office.price p b d)

pub cost-empty : (office : OfficeRules) (at : Key → Contents) (o : Option AccountId) (d : Direction) (from : ℕ) →
    cost_between office at o d from from ≡ 0
unfolding cost_between
cost-empty office at o d from =
    sum-none (λ p. over_bands office (λ b. class_cost office at o p b d from from)) 0 office.periods
    (λ p x y. sum-none (λ b. class_cost office at o p b d from from) 0 office.bands
    (λ b u v. class-empty office at o p b d from))

pub cost-all : (office : OfficeRules) (at : Key → Contents) (o : Option AccountId) (d : Direction) (to : ℕ) →
    office.end ≤ to →
    cost_between office at o d 0 to ≡ cost office at o d
unfolding cost_between cost
cost-all office at o d to l =
    λ i. over_periods office (λ p. over_bands office (λ b. office.price p b d * between-all office at d (of_class office o p b) to l i))

-- ---- amounts
settled-more : (nano : ℤ) (x y p q e f : ℕ) → settled nano (x + y) (p + q) (e + f) ≡ settled (settled nano x p e) y q f
settled-more nano x y p q e f = omega (arith, ints)

settled-none : (nano : ℤ) → settled nano 0 0 0 ≡ nano
settled-none nano = omega (arith, ints)

pub settled-same : (nano : ℤ) (x y p q e f : ℕ) → x ≡ y → p ≡ q → e ≡ f → settled nano x p e ≡ settled nano y q f
settled-same nano x y p q e f h i j = λ k. settled nano (h k) (i k) (j k)

end-settled : (office : OfficeRules) (s : List Entry) (a from to : ℕ) → from ≤ to →
    balance_at office s a to
    ≡ settled (balance_at office s a from) (topped_up_between s a from to)
    (cost_between office (contents_at s) (Some (account a)) Import from to)
    (cost_between office (contents_at s) (Some (account a)) Export from to)
end-settled office s a from to l =
    let o : Option AccountId = Some (account a) in
    let zero : 0 ≤ from = omega arith in
    settled-same (pos 0) _ _ _ _ _ _ (topped-shared s a 0 from to zero l)
    (cost-shared office (contents_at s) o Import 0 from to zero l) (cost-shared office (contents_at s) o Export 0 from to zero l)
    ∙ settled-more (pos 0) (topped_up_between s a 0 from) (topped_up_between s a from to)
    (cost_between office (contents_at s) o Import 0 from) (cost_between office (contents_at s) o Import from to)
    (cost_between office (contents_at s) o Export 0 from) (cost_between office (contents_at s) o Export from to)

pub bill-balances : BillBalances
unfolding cost_between
bill-balances office s a from to l = record {
  end = end-settled office s a from to l;
  whole_cost = λ d. refl;
  cost = λ p b d. refl;
}

-- ---- intervals one behind another
bills-both : (office : OfficeRules) (s : List Entry) (a from cut to : ℕ) → from ≤ cut → cut ≤ to →
    both (bill_of office s a from cut) (bill_of office s a cut to) ≡ bill_of office s a from to
bills-both office s a from cut to l r =
    let o : Option AccountId = Some (account a) in
    let at : Key → Contents = contents_at s in
    λ i. record {
      begin = balance_at office s a from;
      topped_up = sym (topped-shared s a from cut to l r) i;
      energy = λ p b d. sym (between-shared office at d (of_class office o p b) from cut to l r) i;
      cost = λ p b d. sym (class-shared office at o p b d from cut to l r) i;
      whole_cost = λ d. sym (cost-shared office at o d from cut to l r) i;
      end = balance_at office s a to;
    }

pub bills-add_up : BillsAddUp
bills-add_up office s a from cut to l r = record { both = bills-both office s a from cut to l r; follows = refl }

pub all-bills_add_up : AllBillsAddUp
all-bills_add_up office s a from [] h = refl
all-bills_add_up office s a from (c ∷ cuts) h =
    ap (λ (b : Bill). both (bill_of office s a from c) b) (all-bills_add_up office s a c cuts h.1)
    ∙ bills-both office s a from c (last_cut c cuts) h.0 (cuts-rise c cuts h.1)

-- ---- all time
as-balance : (x p e : ℕ) → settled (pos 0) x p e ≡ ((pos (nano_in_cent * x) -ℤ pos p) +ℤ pos e)
as-balance x p e = omega (arith, ints)

pub bill-of_all_time : BillOfAllTime
bill-of_all_time office s a to o h l =
    let owner : Option AccountId = Some (account a) in
    let at : Key → Contents = contents_at s in
    let late : END_SECOND ≤ to = omega (arith, o.end) in
    let t = topped-all office s a to h late in
    let i = cost-all office at owner Import to l in
    let e = cost-all office at owner Export to l in
    record {
      begin = settled-same (pos 0) _ _ _ _ _ _ (topped-empty s a 0) (cost-empty office at owner Import 0)
          (cost-empty office at owner Export 0) ∙ settled-none (pos 0);
      topped_up = t;
      energy = λ p b d. between-all office at d (of_class office owner p b) to l;
      whole_cost = λ d. cost-all office at owner d to l;
      end =
          settled-same (pos 0) _ _ _ _ _ _ t i e
          ∙ as-balance (topped_up s a) (cost office at owner Import) (cost office at owner Export);
    }

pub balance-behind : BalanceLessWhatIsBehind
balance-behind office s a from to o h l e =
    sym (bill-of_all_time office s a to o h e).end ∙ end-settled office s a from to l

-- ---- order of arrival
pub order-of_bill : OrderOfBillCountsNothing
order-of_bill office s t a from to h =
    let same : contents_at s ≡ contents_at t = contents-same s t h in
    let o : Option AccountId = Some (account a) in
    let costs : (d : Direction) (x y : ℕ) → cost_between office (contents_at s) o d x y ≡ cost_between office (contents_at t) o d x y
    = λ d x y i. cost_between office (same i) o d x y in
    let balances : (x : ℕ) → balance_at office s a x ≡ balance_at office t a x
    = λ x. settled-same (pos 0) _ _ _ _ _ _ (topped-same s t a 0 x h) (costs Import 0 x) (costs Export 0 x) in
    λ i. record {
      begin = balances from i;
      topped_up = topped-same s t a from to h i;
      energy = λ p b d. energy_where office (same i) d (class_between office from to o p b);
      cost = λ p b d. class_cost office (same i) o p b d from to;
      whole_cost = λ d. costs d from to i;
      end = balances to i;
    }
