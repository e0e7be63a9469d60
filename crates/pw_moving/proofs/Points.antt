-- Where a set has no readings, no energy flows.
use Rattle.std.proofs.Common.{◌≡◌, ℕ, ◌-◌, ◌<◌, ◌≤◌, Bool, true, false, cond, Option, Some, None, List, refl, ap, sym, ◌∙◌, inl, inr, arith}
use Rattle.std.proofs.lemmas.Bool.{cases_Bool, cases_lt, true≢false}
use Rattle.pw_obis.specs.declared.reference.Register.{Register}
use Rattle.pw_tariff.specs.Office.{OfficeRules}
use Rattle.pw_flow.specs.Time.{next, last}
use Rattle.pw_flow.specs.Energy.{kept, register_energy}
use Rattle.pw_flow.specs.Flow.{flow, flow_between}
use Rattle.pw_flow.proofs.Sums.{sum-same, sum-none, kept-nothing}
use Rattle.pw_flow.proofs.Points.{option-cases, next-none}
use Rattle.pw_model.specs.declared.records.Content.TheVariants as content
use Rattle.pw_model.specs.declared.records.Contents.{Contents}
use Rattle.pw_model.specs.declared.records.Contents.TheVariants.{Nothing, One, Several}
use Rattle.pw_model.specs.declared.records.Entry.{Entry}
use Rattle.pw_model.specs.Counting.{Member, standing, contents_at, point, wh_of, reading_key}
use Rattle.pw_model.specs.Lists.{reading_entry}
use Rattle.pw_model.specs.Office.{AllOfOffice, IsOfOffice}
use Rattle.pw_model.specs.Energy.{Asked, asked_seconds, share_of}
use Rattle.pw_model.proofs.Bounded.{cond-zero}
use Rattle.pw_model.proofs.Counting.{one-stands, standing-part}

-- ---- a point is a reading that stands
one-reading : (r : Contents) (w : ℕ) → wh_of r ≡ Some w → r ≡ One (content.Reading w)
one-reading Nothing w h = absurd cc
one-reading Several w h = absurd cc
one-reading (One (content.Reading v)) w h = let e : v ≡ w = cc in ap (λ (x : ℕ). One (content.Reading x)) e
one-reading (One (content.Assignment o)) w h = absurd cc
one-reading (One (content.TopUp a c t)) w h = absurd cc
one-reading (One content.Withdrawal) w h = absurd cc

pub point-stands : (s : List Entry) (m : ℕ) (r : Register) (t w : ℕ) → point (contents_at s) m r t ≡ Some w → Member (reading_entry m r t w) (standing s)
point-stands s m r t w h = one-stands s (reading_key m r t) (content.Reading w) (one-reading (contents_at s (reading_key m r t)) w h)

-- where no such reading stands, there is no point
pub no-point : (s : List Entry) (m : ℕ) (r : Register) (t : ℕ) → ((w : ℕ) → Member (reading_entry m r t w) (standing s) → ⊥) → point (contents_at s) m r t ≡ None
no-point s m r t h = elim (option-cases (point (contents_at s) m r t)) [
  | inl n ↦ n
  | inr f ↦ absurd (h f.0 (point-stands s m r t f.0 f.1))
]

-- a reading that stands is of the office
pub reading-of : (office : OfficeRules) (s : List Entry) (m : ℕ) (r : Register) (t w : ℕ) → AllOfOffice office s → Member (reading_entry m r t w) (standing s) → (m < office.meters) × (office.counts m r ≡ true)
reading-of office s m r t w h i =
    let k : IsOfOffice office (reading_entry m r t w) = h (reading_entry m r t w) (standing-part s (reading_entry m r t w) i) in
    (k.0, k.1)

-- ---- without points there is no energy
none-next : (o : Option (ℕ × ℕ)) (t : ℕ) → flow_between o None t ≡ 0
none-next (Some a) t = refl
none-next None t = refl

-- nor behind the last of them
pub flow-behind : (p : ℕ → Option ℕ) (end z t : ℕ) → ((s : ℕ) → z < s → p s ≡ None) → z ≤ t → flow p end t ≡ 0
unfolding flow
flow-behind p end z t h l =
    let n : next p t (end - t) ≡ None = next-none p t (end - t) (λ s a b. h s (omega (arith, l, a))) in
    rw n (none-next (last p t) t)

pub flow-none : (p : ℕ → Option ℕ) (end t : ℕ) → ((s : ℕ) → p s ≡ None) → flow p end t ≡ 0
flow-none p end t h = flow-behind p end t t (λ s l. h s) (omega arith)

pub energy-none : (k : ℕ → Bool) (p : ℕ → Option ℕ) (end : ℕ) → ((s : ℕ) → p s ≡ None) → register_energy k p end ≡ 0
unfolding register_energy
energy-none k p end h = sum-none (kept k (flow p end)) 0 end (λ t a b. kept-nothing (k t) (flow p end t) (flow-none p end t h))

-- what is asked for of seconds that carry nothing makes no difference
pub energy-before : (k l : ℕ → Bool) (p : ℕ → Option ℕ) (end z : ℕ) → ((s : ℕ) → z < s → p s ≡ None) → ((t : ℕ) → t < z → k t ≡ l t) → register_energy k p end ≡ register_energy l p end
unfolding register_energy
energy-before k l p end z h same =
    sum-same (kept k (flow p end)) (kept l (flow p end)) 0 end (λ t a b. elim (cases_lt t z) [
      | inl c ↦ ap (λ (x : Bool). cond x (flow p end t) 0) (same t c)
      | inr c ↦ (
          let f : flow p end t ≡ 0 = flow-behind p end z t h c in
          kept-nothing (k t) (flow p end t) f ∙ sym (kept-nothing (l t) (flow p end t) f))
    ])

-- ---- whether a register counts is told where it has a reading
false-counts : (office : OfficeRules) (s : List Entry) (m : ℕ) (r : Register) (t : ℕ) → AllOfOffice office s → office.counts m r ≡ false → point (contents_at s) m r t ≡ None
false-counts office s m r t h f = no-point s m r t (λ w i. true≢false (sym (reading-of office s m r t w h i).1 ∙ f))

-- so of records of an office the energy of a register is that of its points
pub share-all : (office : OfficeRules) (s : List Entry) (asked : Asked) (m : ℕ) (r : Register) → AllOfOffice office s →
    share_of office (contents_at s) asked m r ≡ register_energy (asked_seconds (contents_at s) asked m) (point (contents_at s) m r) office.end
share-all office s asked m r h = elim (cases_Bool (office.counts m r)) [
  | inl t ↦ (rw t refl)
  | inr f ↦ (rw f (sym (energy-none (asked_seconds (contents_at s) asked m) (point (contents_at s) m r) office.end (λ t. false-counts office s m r t h f))))
]

-- a meter without readings
pub share-none : (office : OfficeRules) (s : List Entry) (asked : Asked) (m : ℕ) (r : Register) → ((t w : ℕ) → Member (reading_entry m r t w) (standing s) → ⊥) →
    share_of office (contents_at s) asked m r ≡ 0
share-none office s asked m r h =
    cond-zero (office.counts m r) (register_energy (asked_seconds (contents_at s) asked m) (point (contents_at s) m r) office.end)
    (energy-none (asked_seconds (contents_at s) asked m) (point (contents_at s) m r) office.end (λ t. no-point s m r t (h t)))
