-- What holds of a period whose table passes its checks.
use Rattle.std.proofs.Common.{◌≡◌, ◌==◌, ℕ, zero, suc, ◌+◌, ◌<◌, ◌≤◌, ℤ, Option, Some, None, is_some, unwrap_or, option_and_then, List, [], ◌∷◌, ◌++◌, length, map, get_or, All, nat_lt, codes, true, false, refl, sym, subst, arith, eqb-true}
use Rattle.std.specs.List.{list_all}
use Rattle.std.specs.List.Sorted.{IsStrictlyIncreasing}
use Rattle.std.proofs.lemmas.Bool.{ltb-true}
use Rattle.std.proofs.lemmas.List.{length-map}
use Rattle.std.proofs.lemmas.Option.{none-some}
use Rattle.toml.specs.Data.{Members, get_member}
use Rattle.pw_time.specs.declared.instant.TheConstants.{FIRST_SECOND}
use Rattle.pw_tariff.specs.declared.limits.TheConstants.{MOST_PERIODS, MOST_PRICE}
use Rattle.pw_tariff.specs.declared.fault.OfficeFault.TheVariants.{MissingField, TooMany, Week, Price, Period}
use Rattle.pw_tariff.specs.Office.{BandText, PeriodText, IsPeriod, ArePrices}
use Rattle.pw_tariff.specs.Words.{is_price, whole_hour}
use Rattle.pw_tariff.specs.Checks.{check}
use Rattle.pw_tariff.specs.inner.Checks.{Passes}
use Rattle.pw_tariff.specs.Text.{text_at, start_of, has_period_keys, is_later, is_week, week_of, whole_of, whole_numbers_of, prices_checks, period_checks, period_of_table, periods_in_turn, period_tables, periods_checks, bands_of_table, later_of_table}
use Rattle.pw_tariff.proofs.Behind.{left, right, first-of}
use Rattle.pw_tariff.proofs.Hours.{IsHourOf, hour-is}
use Rattle.pw_tariff.proofs.Weeks.{both, price-bound, week-of}

no-truth : false ≡ true → ⊥
no-truth h = cc

-- ---- prices
in-range : (zs : List ℤ) → list_all is_price zs ≡ true → All (λ n. n ≤ MOST_PRICE) (map whole_of zs)
in-range [] h i d l = absurd (omega arith)
in-range (z ∷ zs) h zero d l = price-bound z (both (is_price z) (list_all is_price zs) h).0
in-range (z ∷ zs) h (suc i) d l = in-range zs (both (is_price z) (list_all is_price zs) h).1 i d (omega arith)

prices-sound : (bands : List BandText) (zs : List ℤ) → Passes (prices_checks bands zs) → ArePrices bands (map whole_of zs)
prices-sound bands zs p =
    let a = first-of (check Period (length zs == length bands)) (check Price (list_all is_price zs) ∷ []) p in
    let b = first-of (check Price (list_all is_price zs)) [] a.1 in
    let n : length (map whole_of zs) ≡ length zs = length-map zs whole_of in
    (rw n (eqb-true (length zs) (length bands) a.0), in-range zs b.0)

-- ---- the start
abbrev IsLater : ℕ → Option ℕ → Type 0
IsLater before found = (s : ℕ) × (found ≡ Some s) × (before < s)

later-is : (before : ℕ) (found : Option ℕ) → is_later before found ≡ true → IsLater before found
later-is before None h = absurd (no-truth h)
later-is before (Some s) h = (s, refl, ltb-true before s h)

hour-at : (text : Option (List ℕ)) (s : ℕ) → option_and_then whole_hour text ≡ Some s → (t : List ℕ) × IsHourOf t s
hour-at None s h = absurd (none-some s h)
hour-at (Some t) s h = (t, hour-is t s h)

the-start : (found : Option ℕ) (s first : ℕ) → found ≡ Some s → unwrap_or found first ≡ s
the-start found s first e = rw e refl

-- ---- one period
pub record IsSoundBehind (bands : List BandText) (before : ℕ) (p : PeriodText) : Type 0 where
  pub period : IsPeriod bands p
  pub later : before < p.start

pub period-sound : (bands : List BandText) (before : ℕ) (p : Members) → Passes (period_checks bands before p) → IsSoundBehind bands before (period_of_table p)
period-sound bands before p h =
    let imports = prices_checks bands (whole_numbers_of (codes "import") p) in
    let exports = prices_checks bands (whole_numbers_of (codes "export") p) in
    let start = check Period (is_later before (start_of p)) in
    let week = check Week (is_week bands (week_of p)) in
    let a = first-of (check MissingField (has_period_keys p)) (start ∷ week ∷ (imports ++ exports)) h in
    let b = first-of start (week ∷ (imports ++ exports)) a.1 in
    let c = first-of week (imports ++ exports) b.1 in
    let later = later-is before (start_of p) b.0 in
    let hour = (hour-at (text_at (codes "start") p) later.0 later.1).1 in
    let own : unwrap_or (start_of p) FIRST_SECOND ≡ later.0 = the-start (start_of p) later.0 FIRST_SECOND later.1 in
    record {
      period = record {
        instant = rw own hour.instant;
        hour = rw own hour.hour;
        week = week-of bands (week_of p) c.0;
        import_prices = prices-sound bands (whole_numbers_of (codes "import") p) (left imports exports c.1);
        export_prices = prices-sound bands (whole_numbers_of (codes "export") p) (right imports exports c.1);
      };
      later = rw own later.2;
    }

-- ---- all of them
abbrev starts : List PeriodText → List ℕ
starts periods = map (λ p. p.start) periods

all-cons : {X : Type 0} (P : X → Type 0) (x : X) (xs : List X) → P x → All P xs → All P (x ∷ xs)
all-cons P x xs h k zero d l = h
all-cons P x xs h k (suc i) d l = k i d (omega arith)

rising-cons : (a b : ℕ) (ss : List ℕ) → a < b → IsStrictlyIncreasing (b ∷ ss) → IsStrictlyIncreasing (a ∷ b ∷ ss)
rising-cons a b ss l h zero m = l
rising-cons a b ss l h (suc k) m =
    let e : suc k + 1 ≡ suc (k + 1) = omega arith in
    let P : ℕ → Type 0 = λ n. get_or (b ∷ ss) k 0 < get_or (a ∷ b ∷ ss) n 0 in
    subst P (sym e) (h k (omega arith))

pub record AreSoundBehind (bands : List BandText) (before : ℕ) (periods : List PeriodText) : Type 0 where
  pub each : All (IsPeriod bands) periods
  pub in_time : IsStrictlyIncreasing (before ∷ starts periods)

periods-sound : (bands : List BandText) (before : ℕ) (ps : List Members) → Passes (periods_in_turn bands before ps) → AreSoundBehind bands before (map period_of_table ps)
unfolding periods_in_turn
periods-sound bands before [] h = record { each = λ i d l. absurd (omega arith); in_time = λ k l. absurd (omega arith) }
periods-sound bands before (p ∷ ps) h =
    let one = period-sound bands before p (left (period_checks bands before p) (periods_in_turn bands (period_of_table p).start ps) h) in
    let more = periods-sound bands (period_of_table p).start ps (right (period_checks bands before p) (periods_in_turn bands (period_of_table p).start ps) h) in
    record {
      each = all-cons (IsPeriod bands) (period_of_table p) (map period_of_table ps) one.period more.each;
      in_time = rising-cons before (period_of_table p).start (starts (map period_of_table ps)) one.later more.in_time;
    }

pub record AreListed (t : Members) : Type 0 where
  pub few : length (map period_of_table (unwrap_or (period_tables t) [])) + 1 ≤ MOST_PERIODS
  pub sound : AreSoundBehind (bands_of_table t) FIRST_SECOND (map period_of_table (unwrap_or (period_tables t) []))

pub listed : (t : Members) → Passes (periods_checks t) → AreListed t
listed t h =
    let periods = unwrap_or (period_tables t) [] in
    let many = check TooMany (nat_lt (length periods) MOST_PERIODS) in
    let turns = periods_in_turn (bands_of_table t) FIRST_SECOND periods in
    let a = first-of (check MissingField (is_some (period_tables t))) (many ∷ turns) h in
    let b = first-of many turns a.1 in
    let n : length (map period_of_table periods) ≡ length periods = length-map periods period_of_table in
    let l : length periods < MOST_PERIODS = ltb-true (length periods) MOST_PERIODS b.0 in
    record { few = omega (arith, n, l); sound = periods-sound (bands_of_table t) FIRST_SECOND periods b.1 }

-- a file that leaves their key out
pub no-periods : (t : Members) → is_some (get_member (codes "period") t) ≡ false → Passes (periods_checks t) × ([] ≡ later_of_table t)
unfolding periods_in_turn
no-periods t h = (rw h refl, rw h refl)
