-- What the checks of a table can refuse.
use Rattle.std.proofs.Common.{◌≡◌, ℕ, ℤ, Option, Some, None, unwrap_or, List, [], ◌∷◌, ◌++◌, Bool, true, false, cond, codes, not}
use Rattle.pw_time.specs.declared.instant.TheConstants.{FIRST_SECOND}
use Rattle.std.proofs.lemmas.Option.{none-some, same_Some}
use Rattle.toml.specs.Data.{Members}
use Rattle.pw_tariff.specs.declared.fault.OfficeFault.{OfficeFault}
use Rattle.pw_tariff.specs.declared.fault.OfficeFault.TheVariants.{Toml, Memory, RegistersOverlap}
use Rattle.pw_tariff.specs.declared.limits.TheConstants.{MOST_ACCOUNTS, MOST_BANDS, MOST_METERS}
use Rattle.pw_tariff.specs.Checks.{Check, check, first_refusal, each_in_turn, list_checks}
use Rattle.pw_tariff.specs.Office.{BandText, overlap}
use Rattle.pw_tariff.specs.Text.{texts_at, tables_at, account_checks, accounts_checks, band_name_of, band_checks, bands_checks, id_of, register_texts, registers_of, register_checks, registers_in_turn, meter_checks, meters_checks, week_checks, whole_numbers_of, prices_checks, period_checks, period_of_table, periods_in_turn, period_tables, bands_of_table, periods_checks, office_checks}

-- it is a fault of what the table says
abbrev pub IsOfTable : OfficeFault → Type 0
IsOfTable Toml = ⊥
IsOfTable Memory = ⊥
IsOfTable _ = Unit {0}

-- all checks refuse such faults
abbrev pub AreOfTable : List Check → Type 0
AreOfTable [] = Unit {0}
AreOfTable (c ∷ cs) = IsOfTable c.fault × AreOfTable cs

first-by : (b : Bool) (f : OfficeFault) (n : Option OfficeFault) (e : OfficeFault) → IsOfTable f →
    (n ≡ Some e → IsOfTable e) → cond b n (Some f) ≡ Some e → IsOfTable e
first-by true f n e d k h = k h
first-by false f n e d k h = rw (← (same_Some f e h)) d

pub first-of-table : (cs : List Check) → AreOfTable cs → (e : OfficeFault) → first_refusal cs ≡ Some e → IsOfTable e
first-of-table [] d e h = absurd (none-some e h)
first-of-table (c ∷ cs) d e h = first-by c.passes c.fault (first_refusal cs) e d.0 (first-of-table cs d.1 e) h

both : (a b : List Check) → AreOfTable a → AreOfTable b → AreOfTable (a ++ b)
both [] b d k = k
both (c ∷ a) b d k = (d.0, both a b d.1 k)

-- whatever stands earlier, the checks of an element do
abbrev AreEachOfTable : {A : Type 0} → (List (List ℕ) → A → List Check) → Type 0
AreEachOfTable {A} checks = (earlier : List (List ℕ)) (x : A) → AreOfTable (checks earlier x)

each : {A : Type 0} (name : A → List ℕ) (checks : List (List ℕ) → A → List Check) → AreEachOfTable checks →
    (earlier : List (List ℕ)) (xs : List A) → AreOfTable (each_in_turn name checks earlier xs)
unfolding each_in_turn
each name checks d earlier [] = tt
each name checks d earlier (x ∷ xs) =
    both (checks earlier x) (each_in_turn name checks (earlier ++ name x ∷ []) xs) (d earlier x)
    (each name checks d (earlier ++ name x ∷ []) xs)

in-list : {A : Type 0} (most : ℕ) (name : A → List ℕ) (checks : List (List ℕ) → A → List Check) → AreEachOfTable checks →
    (list : Option (List A)) → AreOfTable (list_checks most name checks list)
in-list most name checks d None = (tt, (tt, (tt, each name checks d [] [])))
in-list most name checks d (Some xs) = (tt, (tt, (tt, each name checks d [] xs)))

of-account : AreEachOfTable account_checks
of-account earlier name = (tt, (tt, tt))

of-band : AreEachOfTable band_checks
of-band earlier b = (tt, (tt, (tt, (tt, (tt, tt)))))

of-register : AreEachOfTable register_checks
of-register earlier text = (tt, (tt, tt))

of-meter : AreEachOfTable meter_checks
of-meter earlier m =
    let texts = register_texts m in
    let last = check RegistersOverlap (not (overlap (registers_of texts))) ∷ [] in
    let in_turn = each (λ (text : List ℕ). text) register_checks of-register [] texts in
    (tt, (tt, (tt, (tt, (tt, both (registers_in_turn texts) last in_turn (tt, tt))))))

of-prices : (bands : List BandText) (prices : List ℤ) → AreOfTable (prices_checks bands prices)
of-prices bands prices = (tt, (tt, tt))

of-period : (bands : List BandText) (before : ℕ) (p : Members) → AreOfTable (period_checks bands before p)
of-period bands before p =
    let imports = whole_numbers_of (codes "import") p in
    let exports = whole_numbers_of (codes "export") p in
    (tt, (tt, (tt, both (prices_checks bands imports) (prices_checks bands exports) (of-prices bands imports) (of-prices bands exports))))

of-periods : (bands : List BandText) (before : ℕ) (periods : List Members) → AreOfTable (periods_in_turn bands before periods)
unfolding periods_in_turn
of-periods bands before [] = tt
of-periods bands before (p ∷ periods) =
    both (period_checks bands before p) (periods_in_turn bands (period_of_table p).start periods) (of-period bands before p)
    (of-periods bands (period_of_table p).start periods)

pub office-of-table : (t : Members) → AreOfTable (office_checks t)
office-of-table t =
    let accounts =
    in-list MOST_ACCOUNTS (λ (name : List ℕ). name) account_checks of-account (texts_at (codes "accounts") t) in
    let bands = in-list MOST_BANDS band_name_of band_checks of-band (tables_at (codes "band") t) in
    let meters = in-list MOST_METERS id_of meter_checks of-meter (tables_at (codes "meter") t) in
    let two = both (accounts_checks t) (bands_checks t) accounts bands in
    let three = both (accounts_checks t ++ bands_checks t) (meters_checks t) two meters in
    let four = both (accounts_checks t ++ bands_checks t ++ meters_checks t) (week_checks t) three (tt, (tt, tt)) in
    let periods : AreOfTable (periods_checks t) = (tt, (tt, of-periods (bands_of_table t) FIRST_SECOND (unwrap_or (period_tables t) []))) in
    both (accounts_checks t ++ bands_checks t ++ meters_checks t ++ week_checks t) (periods_checks t) four periods
