-- The parts of an office file, put together.
use Rattle.std.proofs.Common.{◌≡◌, ◌==◌, ℕ, ◌+◌, ◌<◌, ◌≤◌, Some, None, List, [], ◌∷◌, ◌++◌, length, map, drop, get_or, nat_le, nat_lt, not, String, Global, string_bytes, Bool, true, false, refl, ◌∙◌, arith}
use Rattle.std.specs.List.{list_all}
use Rattle.std.proofs.lemmas.List.{length-map, drop_more}
use Rattle.std.proofs.lemmas.Bool.{le-leb, lt-ltb, le-ltb}
use Rattle.toml.specs.Data.{Members}
use Rattle.pw_tariff.specs.declared.office.Band.{Band}
use Rattle.pw_tariff.specs.declared.fault.OfficeFault.{OfficeFault}
use Rattle.pw_tariff.specs.declared.fault.OfficeFault.TheVariants.{Toml, MissingField, BadName, TwiceNamed, Week, Price, RegistersOverlap, Empty, TooMany, Period, Memory}
use Rattle.pw_tariff.specs.Office.{band_named, overlap}
use Rattle.pw_tariff.specs.Held.{bands_of, band_of}
use Rattle.pw_tariff.specs.Checks.{Check, check, first_refusal}
use Rattle.pw_tariff.specs.inner.Checks.{IsRefusal}
use Rattle.pw_tariff.specs.inner.Checks.{Passes}
use Rattle.pw_tariff.specs.Text.{registers_in_turn, registers_checks, registers_of, accounts_checks, bands_checks, meters_checks, week_checks, periods_checks, office_checks, IsTable, IsRefused}
use Rattle.pw_tariff.specs.inner.Checks.{IsNoTable}
use Rattle.pw_tariff.proofs.Order.{first-passes, refusal-front, refusal-behind}

no-truth : false ≡ true → ⊥
no-truth h = cc

no-refusal : {A : Type 0} (x : A) → Some x ≡ None → ⊥
no-refusal x h = cc

-- ---- registers
pub some-texts : (ws : List (String Global)) → false ≡ (length ws == 0) → nat_le 1 (length (map string_bytes ws)) ≡ true
some-texts [] h = absurd (no-truth h)
some-texts (x ∷ ws) h = le-leb 1 (length (map string_bytes (x ∷ ws))) (omega arith)

pub registers-refused : (ts : List (List ℕ)) (e : OfficeFault) → nat_le 1 (length ts) ≡ true → IsRefusal (registers_in_turn ts) e → IsRefusal (registers_checks ts) e
registers-refused ts e h r =
    refusal-behind (check Empty (nat_le 1 (length ts)) ∷ []) (registers_in_turn ts ++ check RegistersOverlap (not (overlap (registers_of ts))) ∷ []) e (rw h refl)
    (refusal-front (registers_in_turn ts) (check RegistersOverlap (not (overlap (registers_of ts))) ∷ []) e r)

pub registers-overlap : (ts : List (List ℕ)) → nat_le 1 (length ts) ≡ true → Passes (registers_in_turn ts) → overlap (registers_of ts) ≡ true → first_refusal (registers_checks ts) ≡ Some RegistersOverlap
registers-overlap ts h p o = rw h (first-passes (registers_in_turn ts) (check RegistersOverlap (not (overlap (registers_of ts))) ∷ []) p ∙ rw o refl)

pub registers-passed : (ts : List (List ℕ)) → nat_le 1 (length ts) ≡ true → Passes (registers_in_turn ts) → overlap (registers_of ts) ≡ false → Passes (registers_checks ts)
registers-passed ts h p o = rw h (first-passes (registers_in_turn ts) (check RegistersOverlap (not (overlap (registers_of ts))) ∷ []) p ∙ rw o refl)

-- ---- letters of a day
pub bad-letter : (p : ℕ → Bool) (day : List ℕ) (i : ℕ) → i < length day → p (get_or day i 0) ≡ false → list_all p (drop i day) ≡ false
bad-letter p day i l h = rw (drop_more day i 0 l, h) refl

pub good-letter : (p : ℕ → Bool) (day : List ℕ) (i : ℕ) → i < length day → p (get_or day i 0) ≡ true → list_all p (drop i day) ≡ list_all p (drop (i + 1) day)
good-letter p day i l h = rw (drop_more day i 0 l, h) refl

pub letter-unknown : (bs : List Band) (c n : ℕ) → n ≡ band_named (bands_of bs) c → length bs ≤ n → nat_lt (band_named (bands_of bs) c) (length (bands_of bs)) ≡ false
letter-unknown bs c n e l = let m : length (bands_of bs) ≡ length bs = length-map bs band_of in le-ltb _ _ (omega arith)

pub letter-known : (bs : List Band) (c n : ℕ) → n ≡ band_named (bands_of bs) c → n < length bs → nat_lt (band_named (bands_of bs) c) (length (bands_of bs)) ≡ true
letter-known bs c n e l = let m : length (bands_of bs) ≡ length bs = length-map bs band_of in lt-ltb _ _ (omega arith)

-- ---- the five lists in their order
pub passes-both : (a b : List Check) → Passes a → Passes b → Passes (a ++ b)
passes-both a b p q = first-passes a b p ∙ q

-- the checks of the first two lists, of the first three, and of the first four
abbrev two : Members → List Check
two t = accounts_checks t ++ bands_checks t

abbrev three : Members → List Check
three t = two t ++ meters_checks t

abbrev four : Members → List Check
four t = three t ++ week_checks t

three-refused : (t : Members) (e : OfficeFault) → IsRefusal (three t) e → IsRefusal (office_checks t) e
three-refused t e r = refusal-front (four t) (periods_checks t) e (refusal-front (three t) (week_checks t) e r)

pub accounts-refused : (t : Members) (e : OfficeFault) → IsRefusal (accounts_checks t) e → IsRefusal (office_checks t) e
accounts-refused t e r = three-refused t e (refusal-front (two t) (meters_checks t) e (refusal-front (accounts_checks t) (bands_checks t) e r))

pub bands-refused : (t : Members) (e : OfficeFault) → Passes (accounts_checks t) → IsRefusal (bands_checks t) e → IsRefusal (office_checks t) e
bands-refused t e p r = three-refused t e (refusal-front (two t) (meters_checks t) e (refusal-behind (accounts_checks t) (bands_checks t) e p r))

pub meters-refused : (t : Members) (e : OfficeFault) → Passes (accounts_checks t) → Passes (bands_checks t) → IsRefusal (meters_checks t) e → IsRefusal (office_checks t) e
meters-refused t e p q r = three-refused t e (refusal-behind (two t) (meters_checks t) e (passes-both (accounts_checks t) (bands_checks t) p q) r)

three-passed : (t : Members) → Passes (accounts_checks t) → Passes (bands_checks t) → Passes (meters_checks t) → Passes (three t)
three-passed t p q m = passes-both (two t) (meters_checks t) (passes-both (accounts_checks t) (bands_checks t) p q) m

pub week-refused : (t : Members) (e : OfficeFault) → Passes (accounts_checks t) → Passes (bands_checks t) → Passes (meters_checks t) → IsRefusal (week_checks t) e → IsRefusal (office_checks t) e
week-refused t e p q m r = refusal-front (four t) (periods_checks t) e (refusal-behind (three t) (week_checks t) e (three-passed t p q m) r)

four-passed : (t : Members) → Passes (accounts_checks t) → Passes (bands_checks t) → Passes (meters_checks t) → Passes (week_checks t) → Passes (four t)
four-passed t p q m w = passes-both (three t) (week_checks t) (three-passed t p q m) w

pub periods-refused : (t : Members) (e : OfficeFault) → Passes (accounts_checks t) → Passes (bands_checks t) → Passes (meters_checks t) → Passes (week_checks t) →
    IsRefusal (periods_checks t) e → IsRefusal (office_checks t) e
periods-refused t e p q m w r = refusal-behind (four t) (periods_checks t) e (four-passed t p q m w) r

pub all-passed : (t : Members) → Passes (accounts_checks t) → Passes (bands_checks t) → Passes (meters_checks t) → Passes (week_checks t) → Passes (periods_checks t) → Passes (office_checks t)
all-passed t p q m w s = passes-both (four t) (periods_checks t) (four-passed t p q m w) s

-- ---- a text that is refused
pub no-table : (text : List ℕ) (e : OfficeFault) → IsNoTable text e → IsRefused text e
no-table text Toml h = h
no-table text Memory h = tt
no-table text MissingField h = absurd h
no-table text BadName h = absurd h
no-table text TwiceNamed h = absurd h
no-table text Week h = absurd h
no-table text Price h = absurd h
no-table text RegistersOverlap h = absurd h
no-table text Empty h = absurd h
no-table text TooMany h = absurd h
no-table text Period h = absurd h

pub table-refused : (text : List ℕ) (t : Members) (e : OfficeFault) → IsTable text t → IsRefusal (office_checks t) e → IsRefused text e
table-refused text t Toml i r = absurd r
table-refused text t Memory i r = tt
table-refused text t MissingField i r = (t, i, r)
table-refused text t BadName i r = (t, i, r)
table-refused text t TwiceNamed i r = (t, i, r)
table-refused text t Week i r = (t, i, r)
table-refused text t Price i r = (t, i, r)
table-refused text t RegistersOverlap i r = (t, i, r)
table-refused text t Empty i r = (t, i, r)
table-refused text t TooMany i r = (t, i, r)
table-refused text t Period i r = (t, i, r)
