-- What a book told of a month is what the definitions say of it, and so are the texts.
use Rattle.std.proofs.Common.{◌≡◌, ◌<◌, ◌*◌, ◌++◌, ℕ, zero, suc, List, [], ◌∷◌, Some, ap, arith, length, map, refl}
use Rattle.std.specs.Prelude.{decimal, slice_index}
use Rattle.std.specs.List.{flat_map}
use Rattle.pw_tariff.specs.declared.ids.AccountId.{AccountId}
use Rattle.pw_tariff.specs.declared.ids.Direction.{Direction}
use Rattle.pw_tariff.specs.Office.{OfficeFile, office_of, price_at}
use Rattle.pw_model.specs.declared.records.Entry.{Entry}
use Rattle.pw_model.specs.Energy.{over_bands, over_periods}
use Rattle.pw_months.specs.Between.{cost_between, energy_between}
use Rattle.pw_months.specs.Bills.{bill_of}
use Rattle.pw_bills.specs.declared.billed.Bill.{Bill as Told}
use Rattle.pw_bills.specs.declared.energies.Energies.{Energies}
use Rattle.pw_bills.specs.declared.reasons.WhyPiece.{WhyPiece}
use Rattle.pw_bills.specs.Billed.{TellsBill}
use Rattle.pw_bills.specs.Energies.{TellsEnergies}
use Rattle.pw_bills.specs.Stretches.{end_of}
use Rattle.pw_report.specs.declared.months.Month.{Month}
use Rattle.pw_report.specs.DaysAndWhy.{DayEnergies, day_lines, days_header, days_text}
use Rattle.pw_report.specs.Exports.{csv_line}
use Rattle.pw_report.specs.Layout.{instant_text, listed_below}
use Rattle.pw_report.specs.Names.{band_name, period_name}
use Rattle.pw_report.specs.inner.Told.{band, bill_told, day_energies, period}

-- ---- a bill
whole-same : (file : OfficeFile) (s : List Entry) (a : AccountId) (from until : ℕ) (t : Told) → TellsBill (office_of file) s a from until t → (d : Direction) →
    (bill_told file t).whole_cost d ≡ (bill_of (office_of file) s a.0 from until).whole_cost d
unfolding cost_between
whole-same file s a from until t h d = λ i. over_periods (office_of file) (λ p. over_bands (office_of file) (λ b. price_at file p b d * h.energy (period p) (band b) d i))

pub bill-same : (file : OfficeFile) (s : List Entry) (a : AccountId) (from until : ℕ) (t : Told) → TellsBill (office_of file) s a from until t →
    bill_told file t ≡ bill_of (office_of file) s a.0 from until
bill-same file s a from until t h =
    λ i. record {
      begin = h.begin i;
      topped_up = h.topped_up i;
      energy = λ p b d. h.energy (period p) (band b) d i;
      cost = λ p b d. price_at file p b d * h.energy (period p) (band b) d i;
      whole_cost = λ d. whole-same file s a from until t h d i;
      end = h.end i;
    }

-- ---- days
listed-same : {X : Type 0} (n : ℕ) (f g : ℕ → List X) → ((i : ℕ) → i < n → f i ≡ g i) → listed_below n f ≡ listed_below n g
unfolding listed_below
listed-same zero f g h = refl
listed-same (suc n) f g h = λ i. listed-same n f g (λ k l. h k (omega (arith, l))) i ++ h n (omega arith) i

one-day : (file : OfficeFile) (m : Month) (f g : DayEnergies) (i : ℕ) → f i ≡ g i → day_lines file m f i ≡ day_lines file m g i
one-day file m f g i e = ap (λ (h : ℕ → ℕ → Direction → ℕ). day_lines file m (λ n. h) i) e

pub days-same : (file : OfficeFile) (s : List Entry) (a : AccountId) (m : Month) (begins : List ℕ) (end : ℕ) (t : Energies) → TellsEnergies (office_of file) s a begins end t →
    days_text file m (day_energies t) (length begins)
    ≡ days_text file m (λ i p b d. energy_between (office_of file) s (Some a) p b d (slice_index begins i) (end_of begins end i)) (length begins)
unfolding days_text
days-same file s a m begins end t h =
    let told : DayEnergies = λ i p b d. energy_between (office_of file) s (Some a) p b d (slice_index begins i) (end_of begins end i) in
    ap (λ (lines : List ℕ). csv_line days_header ++ lines)
    (listed-same (length begins) (day_lines file m (day_energies t)) (day_lines file m told)
    (λ i l. one-day file m (day_energies t) told i (λ j p b d. h i l (period p) (band b) d j)))

-- ---- rows of other things
pub flat-mapped : {X Y : Type 0} (f : Y → List ℕ) (g : X → Y) (xs : List X) → flat_map (λ x. f (g x)) xs ≡ flat_map f (map g xs)
flat-mapped f g [] = refl
flat-mapped f g (x ∷ xs) = ap (λ t. f (g x) ++ t) (flat-mapped f g xs)

-- the fields of a piece, by its register's direction
abbrev pub piece-fields : OfficeFile → WhyPiece → List ℕ → List ℕ → List ℕ → Direction → List (List ℕ)
piece-fields file w kind meter register way =
    let p = w.piece in
    kind ∷ meter ∷ register
    ∷ instant_text w.span.from ∷ decimal w.span.low ∷ instant_text w.span.to ∷ decimal w.span.high
    ∷ instant_text p.begin ∷ instant_text p.until ∷ period_name file p.period.0 ∷ band_name file p.band.0
    ∷ decimal p.wh ∷ decimal (price_at file p.period.0 p.band.0 way * p.wh) ∷ []
