-- One answer for each text, one band for each second.
use Rattle.std.proofs.Common.{◌≡◌, ℕ, pos, ◌/◌, ◌%◌, ◌<◌, get_or, Option, Some, None, List, [], ◌++◌, Result, Ok, Err, Bool, true, false, refl, sym, ◌∙◌, ap, arith}
use Rattle.std.specs.Str.{IsUtf8, is_utf8}
use Rattle.std.proofs.lemmas.Option.{none-some, same_Some}
use Rattle.std.proofs.lemmas.Str.{IsUtf8-from_is_utf8, is_utf8-from_IsUtf8}
use Rattle.jiff_core.proofs.CalendarLemmas.{weekday_number_bound}
use Rattle.toml.specs.Data.{Members}
use Rattle.toml.specs.Parse.{parse_document}
use Rattle.pw_time.specs.Summer.{local_weekday, local_hour, local_second}
use Rattle.pw_time.proofs.SummerFacts.{local_same}
use Rattle.pw_tariff.specs.declared.fault.OfficeFault.{OfficeFault}
use Rattle.pw_tariff.specs.declared.fault.OfficeFault.TheVariants.{Toml, MissingField, BadName, TwiceNamed, Week, Price, RegistersOverlap, Empty, TooMany, Period, Memory}
use Rattle.pw_tariff.specs.Office.{OfficeFile, IsDay, band_at, period_at, week_of_period}
use Rattle.pw_tariff.specs.Checks.{first_refusal}
use Rattle.pw_tariff.specs.Text.{IsTable, office_checks, file_of_table, accounts_checks, bands_checks, meters_checks, week_checks, periods_checks}
use Rattle.pw_tariff.specs.Laws.{IsAnswer, TextHasOneAnswer, OfficeOfTextIsSound, BandIsConstantWithinAnHour, BandsAreOfTheOffice}
use Rattle.pw_tariff.proofs.Behind.{left, right}
use Rattle.pw_tariff.proofs.InTime.{same-period, period-bound, week-is}
use Rattle.pw_tariff.proofs.Refusing.{IsOfTable, first-of-table, office-of-table}
use Rattle.pw_tariff.proofs.Sound.{sound}

-- ---- bands
pub same-hour : BandIsConstantWithinAnHour
unfolding band_at
same-hour file s t u h =
    let l = local_same t u h in
    let p = same-period file s t u h in
    record { period = p; band = rw (p, l.1, l.2) refl }

hour-bound : (n : ℕ) → n % 86400 / 3600 < 24
hour-bound n = omega arith

pub bands-of : BandsAreOfTheOffice
unfolding band_at
bands-of file s t =
    let w : local_weekday t < 7 = weekday_number_bound (pos (local_second t / 86400)) in
    let week = week-is file (period_at file t) s (period-bound file t) in
    let d : IsDay file.bands (get_or (week_of_period file (period_at file t)) (local_weekday t) []) = week.1 (local_weekday t) [] (let n = week.0 in omega (arith, n, w)) in
    let h : local_hour t < 24 = hour-bound (local_second t) in
    record { band = d.1 (local_hour t) 0 (let n = d.0 in omega (arith, n, h)); period = period-bound file t }

-- ---- answers
no-truth : false ≡ true → ⊥
no-truth h = cc

data Judged (text : List ℕ) (r : Result OfficeFile OfficeFault) : Type 0 where
  untold : ((t : Members) → IsTable text t → ⊥) → r ≡ Err Toml → Judged text r
  passed : (t : Members) → IsTable text t → first_refusal (office_checks t) ≡ None → r ≡ Ok (file_of_table t) → Judged text r
  refused : (t : Members) → IsTable text t → (e : OfficeFault) → first_refusal (office_checks t) ≡ Some e → r ≡ Err e → Judged text r

judged : (text : List ℕ) (r : Result OfficeFile OfficeFault) → IsAnswer text r → Judged text r
judged text (Ok file) h = passed h.0 h.1 h.2 (ap Ok h.3)
judged text (Err Toml) h = untold h refl
judged text (Err Memory) h = absurd h
judged text (Err MissingField) h = refused h.0 h.1 MissingField h.2 refl
judged text (Err BadName) h = refused h.0 h.1 BadName h.2 refl
judged text (Err TwiceNamed) h = refused h.0 h.1 TwiceNamed h.2 refl
judged text (Err Week) h = refused h.0 h.1 Week h.2 refl
judged text (Err Price) h = refused h.0 h.1 Price h.2 refl
judged text (Err RegistersOverlap) h = refused h.0 h.1 RegistersOverlap h.2 refl
judged text (Err Empty) h = refused h.0 h.1 Empty h.2 refl
judged text (Err TooMany) h = refused h.0 h.1 TooMany h.2 refl
judged text (Err Period) h = refused h.0 h.1 Period h.2 refl

one-table : (text : List ℕ) (t u : Members) → IsTable text t → IsTable text u → t ≡ u
one-table text t u h k = same_Some t u (sym h.1 ∙ k.1)

no-refusal : {A : Type 0} (x : A) → None ≡ Some x → ⊥
no-refusal x h = cc

same-judged : (text : List ℕ) (a b : Result OfficeFile OfficeFault) → Judged text a → Judged text b → a ≡ b
same-judged text a b (untold n p) (untold m q) = p ∙ sym q
same-judged text a b (untold n p) (passed u k g q) = absurd (n u k)
same-judged text a b (untold n p) (refused u k e g q) = absurd (n u k)
same-judged text a b (passed t h f p) (untold m q) = absurd (m t h)
same-judged text a b (passed t h f p) (passed u k g q) = p ∙ ap (λ z. Ok (file_of_table z)) (one-table text t u h k) ∙ sym q
same-judged text a b (passed t h f p) (refused u k e g q) = absurd (no-refusal e (sym f ∙ ap (λ z. first_refusal (office_checks z)) (one-table text t u h k) ∙ g))
same-judged text a b (refused t h d f p) (untold m q) = absurd (m t h)
same-judged text a b (refused t h d f p) (passed u k g q) = absurd (no-refusal d (sym g ∙ ap (λ z. first_refusal (office_checks z)) (one-table text u t k h) ∙ f))
same-judged text a b (refused t h d f p) (refused u k e g q) =
    p ∙ ap Err (same_Some d e (sym f ∙ ap (λ z. first_refusal (office_checks z)) (one-table text t u h k) ∙ g)) ∙ sym q

same-answer : (text : List ℕ) (a b : Result OfficeFile OfficeFault) → IsAnswer text a → IsAnswer text b → a ≡ b
same-answer text a b h k = same-judged text a b (judged text a h) (judged text b k)

abbrev AnAnswer : List ℕ → Type 0
AnAnswer text = (a : Result OfficeFile OfficeFault) × IsAnswer text a

refusal-of : (text : List ℕ) (t : Members) → IsTable text t → (e : OfficeFault) → IsOfTable e →
    first_refusal (office_checks t) ≡ Some e → IsAnswer text (Err e)
refusal-of text t h Toml d p = absurd d
refusal-of text t h Memory d p = absurd d
refusal-of text t h MissingField d p = (t, h, p)
refusal-of text t h BadName d p = (t, h, p)
refusal-of text t h TwiceNamed d p = (t, h, p)
refusal-of text t h Week d p = (t, h, p)
refusal-of text t h Price d p = (t, h, p)
refusal-of text t h RegistersOverlap d p = (t, h, p)
refusal-of text t h Empty d p = (t, h, p)
refusal-of text t h TooMany d p = (t, h, p)
refusal-of text t h Period d p = (t, h, p)

of-table : (text : List ℕ) (t : Members) → IsTable text t → (r : Option OfficeFault) →
    first_refusal (office_checks t) ≡ r → AnAnswer text
of-table text t h None p = (Ok (file_of_table t), (t, h, p, refl))
of-table text t h (Some e) p =
    (Err e, refusal-of text t h e (first-of-table (office_checks t) (office-of-table t) e p) p)

of-parsed : (text : List ℕ) → IsUtf8 text → (r : Option Members) → parse_document text ≡ r → AnAnswer text
of-parsed text u None p = (Err Toml, λ t h. none-some t (sym p ∙ h.1))
of-parsed text u (Some t) p = of-table text t (u, p) (first_refusal (office_checks t)) refl

of-bytes : (text : List ℕ) (b : Bool) → is_utf8 text ≡ b → AnAnswer text
of-bytes text true p = of-parsed text (IsUtf8-from_is_utf8 text p) (parse_document text) refl
of-bytes text false p = (Err Toml, λ t h. no-truth (sym p ∙ is_utf8-from_IsUtf8 text h.0))

pub one-answer : TextHasOneAnswer
one-answer text =
    let a = of-bytes text (is_utf8 text) refl in
    record { answer = a.0; is_answer = a.1; only = λ other h. same-answer text other a.0 h a.1 }

-- ---- offices
pub office-sound : OfficeOfTextIsSound
office-sound text file h =
    let t = h.0 in
    let two = accounts_checks t ++ bands_checks t in
    let three = two ++ meters_checks t in
    let four = three ++ week_checks t in
    let first_four = left four (periods_checks t) h.2 in
    let first_three = left three (week_checks t) first_four in
    let first_two = left two (meters_checks t) first_three in
    rw h.3 (sound t (left (accounts_checks t) (bands_checks t) first_two)
    (right (accounts_checks t) (bands_checks t) first_two) (right two (meters_checks t) first_three)
    (right three (week_checks t) first_four) (right four (periods_checks t) h.2))
