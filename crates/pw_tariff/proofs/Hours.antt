-- The whole hour that a text tells.
use Rattle.std.proofs.Common.{◌≡◌, ℕ, zero, suc, ◌+◌, ◌-◌, ◌*◌, ◌/◌, ◌%◌, ◌<◌, Option, Some, None, List, find, Result, Ok, Err, Bool, true, false, cond, refl, sym, ◌∙◌, ap, subst, arith}
use Rattle.std.proofs.lemmas.Option.{none-some, same_Some}
use Rattle.pw_time.specs.Instants.{IsInstant}
use Rattle.pw_time.specs.Outcomes.{IsUtcOutcome}
use Rattle.pw_time.specs.Written.{utc_text}
use Rattle.pw_time.specs.declared.fault.StampFault.{StampFault}
use Rattle.pw_time.specs.declared.instant.TheConstants.{FIRST_SECOND, END_SECOND}
use Rattle.pw_time.proofs.UniqueOutcomes.{one_utc_outcome}
use Rattle.pw_time.proofs.WrittenDays.{written_text, is_written}
use Rattle.pw_tariff.specs.Words.{same_text, hours_from, whole_hour}
use Rattle.pw_tariff.proofs.Named.{same-text, own-text}

no-truth : true ≡ false → ⊥
no-truth h = cc

-- ---- one of so many hours
-- one that passes a test
abbrev IsAmong : (ℕ → Bool) → ℕ → ℕ → ℕ → Type 0
IsAmong test t n s = (k : ℕ) × (k < n) × (s ≡ t + k * 3600) × (test s ≡ true)

one-more : (test : ℕ → Bool) (t n s : ℕ) → IsAmong test (t + 3600) n s → IsAmong test t (suc n) s
one-more test t n s f = let l = f.1 in let e = f.2 in (suc f.0, omega (arith, l), omega (arith, e), f.3)

first-of : (b : Bool) (test : ℕ → Bool) (t n s : ℕ) (rest : Option ℕ) → test t ≡ b → (rest ≡ Some s → IsAmong test (t + 3600) n s) → cond b (Some t) rest ≡ Some s → IsAmong test t (suc n) s
first-of true test t n s rest e k h = let d = same_Some t s h in (0, omega arith, omega (arith, d), rw (← d) e)
first-of false test t n s rest e k h = one-more test t n s (k h)

found : (test : ℕ → Bool) (t n s : ℕ) → find test (hours_from t n) ≡ Some s → IsAmong test t n s
unfolding hours_from
found test t zero s h = absurd (none-some s h)
found test t (suc n) s h = first-of (test t) test t n s (find test (hours_from (t + 3600) n)) refl (found test (t + 3600) n s) h

-- where none does
none-first : (b : Bool) (t : ℕ) (rest : Option ℕ) → cond b (Some t) rest ≡ None → (b ≡ false) × (rest ≡ None)
none-first true t rest h = absurd (none-some t (sym h))
none-first false t rest h = (refl, h)

unfound : (test : ℕ → Bool) (t n k : ℕ) → find test (hours_from t n) ≡ None → k < n → test (t + k * 3600) ≡ false
unfolding hours_from
unfound test t zero k h l = absurd (omega arith)
unfound test t (suc n) zero h l =
    let e : t ≡ t + 0 * 3600 = omega arith in
    subst (λ (s : ℕ). test s ≡ false) e (none-first (test t) t (find test (hours_from (t + 3600) n)) h).0
unfound test t (suc n) (suc k) h l =
    let e : t + 3600 + k * 3600 ≡ t + suc k * 3600 = omega arith in
    subst (λ (s : ℕ). test s ≡ false) e (unfound test (t + 3600) n k (none-first (test t) t (find test (hours_from (t + 3600) n)) h).1 (omega arith))

-- ---- that of a text
pub record IsHourOf (text : List ℕ) (s : ℕ) : Type 0 where
  pub instant : IsInstant s
  pub hour : s % 3600 ≡ 0
  pub written : utc_text s ≡ text

pub hour-is : (text : List ℕ) (s : ℕ) → whole_hour text ≡ Some s → IsHourOf text s
unfolding whole_hour
hour-is text s h =
    let f = found (λ (t : ℕ). same_text (utc_text t) text) FIRST_SECOND ((END_SECOND - FIRST_SECOND) / 3600) s h in
    let l = f.1 in
    let e = f.2 in
    record {
      instant = (omega (arith, e), omega (arith, l, e));
      hour = omega (arith, e);
      written = same-text (utc_text s) text f.3;
    }

-- the text of an instant is that of no other hour
same-second : (r : Result ℕ StampFault) (t u : ℕ) → r ≡ Ok t → r ≡ Ok u → t ≡ u
same-second r t u h k = cc

told-of : (text : List ℕ) (s : ℕ) → IsHourOf text s → IsUtcOutcome text (Ok s)
told-of text s f = subst (λ (x : List ℕ). IsUtcOutcome x (Ok s)) f.written (written_text s f.instant)

of-hour : (text : List ℕ) (t : ℕ) (found : Option ℕ) → IsUtcOutcome text (Ok t) → t % 3600 ≡ 0 → whole_hour text ≡ found → found ≡ Some t
unfolding whole_hour
of-hour text t None told m h =
    let i = told.2.2 in
    let e : FIRST_SECOND + (t - FIRST_SECOND) / 3600 * 3600 ≡ t = omega (arith, i) in
    let l : (t - FIRST_SECOND) / 3600 < (END_SECOND - FIRST_SECOND) / 3600 = omega (arith, i) in
    let n = unfound (λ (s : ℕ). same_text (utc_text s) text) FIRST_SECOND ((END_SECOND - FIRST_SECOND) / 3600) ((t - FIRST_SECOND) / 3600) h l in
    let apart : same_text (utc_text t) text ≡ false = subst (λ (s : ℕ). same_text (utc_text s) text ≡ false) e n in
    let own : same_text (utc_text t) text ≡ true = ap (λ (x : List ℕ). same_text x text) (sym (is_written t text told)) ∙ own-text text in
    absurd (no-truth (sym own ∙ apart))
of-hour text t (Some s) told m h = ap Some (same-second (Ok s) s t refl (one_utc_outcome text (Ok s) (Ok t) (told-of text s (hour-is text s h)) told))

no-hour : (text : List ℕ) (found : Option ℕ) → ((t : ℕ) → IsUtcOutcome text (Ok t) → t % 3600 ≡ 0 → ⊥) → whole_hour text ≡ found → found ≡ None
no-hour text None n h = refl
no-hour text (Some s) n h = let f = hour-is text s h in absurd (n s (told-of text s f) f.hour)

pub hour-of : (text : List ℕ) (t : ℕ) → IsUtcOutcome text (Ok t) → t % 3600 ≡ 0 → whole_hour text ≡ Some t
hour-of text t told m = of-hour text t (whole_hour text) told m refl

refused : (r : Result ℕ StampFault) (t : ℕ) (e : StampFault) → r ≡ Err e → r ≡ Ok t → ⊥
refused r t e h k = cc

-- a text that isn't accepted tells none, and neither does one of another second
pub no-hour-refused : (text : List ℕ) (e : StampFault) → IsUtcOutcome text (Err e) → whole_hour text ≡ None
no-hour-refused text e told = no-hour text (whole_hour text) (λ t other m. refused (Err e) t e refl (one_utc_outcome text (Err e) (Ok t) told other)) refl

pub no-hour-of : (text : List ℕ) (t : ℕ) → IsUtcOutcome text (Ok t) → (t % 3600 ≡ 0 → ⊥) → whole_hour text ≡ None
no-hour-of text t told n =
    no-hour text (whole_hour text) (λ s other m. (let d : s ≡ t = same-second (Ok s) s t refl (one_utc_outcome text (Ok s) (Ok t) other told) in n (omega (arith, m, d)))) refl
