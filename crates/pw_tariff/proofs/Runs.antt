-- Runs of seconds, each of one owner, one period and one band.
use Rattle.std.proofs.Common.{◌≡◌, ℕ, ◌+◌, ◌-◌, ◌%◌, ◌<◌, ◌≤◌, min, Option, List, sym, ◌∙◌, arith, inl, inr}
use Rattle.std.proofs.lemmas.Bool.{cases_lt}
use Rattle.pw_tariff.specs.declared.ids.AccountId.{AccountId}
use Rattle.pw_tariff.specs.declared.pieces.Class.{Class}
use Rattle.pw_tariff.specs.Office.{OfficeFile, IsSound}
use Rattle.pw_tariff.specs.inner.Starts.{IsNextStart}
use Rattle.pw_tariff.specs.inner.Pieces.{IsPart, IsClassAt}
use Rattle.pw_tariff.proofs.Answered.{same-hour}
use Rattle.pw_tariff.proofs.Starts.{steady-owner}

-- ---- parts and runs
pub part-is : (starts : List (ℕ × Option AccountId)) (t end hour next : ℕ) → t < end → hour ≡ t + min (3600 - t % 3600) (end - t) → IsNextStart starts t hour next → IsPart starts t end next
part-is starts t end hour next l e n =
    let behind : t < next = n.behind in
    let within : next ≤ hour = n.within in
    record {
      begun = behind;
      within = omega arith;
      hour = λ s a b. omega arith;
      owner = λ s a b. steady-owner starts t s a (λ r c d. n.none r c (omega arith));
      over = λ o. elim (cases_lt next hour) [ inl h ↦ inr (n.there h) | inr h ↦ inl (omega arith) ];
    }

-- all seconds from one on up to another have one owner, one period and one band
abbrev pub AreOf : OfficeFile → List (ℕ × Option AccountId) → Class → ℕ → ℕ → Type 0
AreOf office starts class from until = (s : ℕ) → from ≤ s → s < until → IsClassAt office starts s class

pub part-of_class : (office : OfficeFile) (starts : List (ℕ × Option AccountId)) (class : Class) (from end until : ℕ) → IsSound office →
    IsClassAt office starts from class → IsPart starts from end until → AreOf office starts class from until
part-of_class office starts class from end until sound c p s a b =
    let same = same-hour office sound from s (sym (p.hour s a b)) in
    record {
      owner = c.owner ∙ sym (p.owner s a b);
      period = c.period ∙ same.period;
      band = c.band ∙ same.band;
    }

pub joined : (office : OfficeFile) (starts : List (ℕ × Option AccountId)) (class : Class) (from until next : ℕ) → AreOf office starts class from until → AreOf office starts class until next → AreOf office starts class from next
joined office starts class from until next f g s a b = elim (cases_lt s until) [ inl h ↦ f s a h | inr h ↦ g s h b ]
