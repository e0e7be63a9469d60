-- What the points of a register and the owners of its meter give of an energy.
use Rattle.std.proofs.Common.{◌≡◌, ◌==◌, ◌&&◌, ℕ, ◌<◌, Bool, true, false, cond, Option, Some, List, ap, sym, ◌∙◌, arith}
use Rattle.pw_obis.specs.declared.reference.Register.{Register}
use Rattle.pw_tariff.specs.declared.ids.AccountId.{AccountId}
use Rattle.pw_time.specs.declared.instant.TheConstants.{END_SECOND}
use Rattle.pw_flow.specs.Energy.{register_energy}
use Rattle.pw_tariff.specs.Owners.{owner_by_starts, same_owner}
use Rattle.pw_tariff.specs.Office.{OfficeRules, OfficeFile, office_of, period_at, band_at}
use Rattle.pw_tariff.specs.Shares as shares
use Rattle.pw_model.specs.declared.records.Content.TheVariants as content
use Rattle.pw_model.specs.declared.records.Entry.{Entry}
use Rattle.pw_model.specs.Counting.{contents_at, point, reading_key}
use Rattle.pw_model.specs.Energy.{Asked, owner_at as owner_told, asked_seconds, share_of, of_class}
use Rattle.pw_model.specs.Office.{AllOfOffice, IsOfOffice}
use Rattle.pw_model.proofs.Counting.{entry}
use Rattle.pw_model.proofs.Found.{point-member}

-- a reading that counts was taken before the end of all instants
pub points-end : (office : OfficeRules) (s : List Entry) (m : ℕ) (r : Register) → AllOfOffice office s → (t w : ℕ) → point (contents_at s) m r t ≡ Some w → t < END_SECOND
points-end office s m r h t w e =
    let o : IsOfOffice office (entry (reading_key m r t) (content.Reading w)) = h (entry (reading_key m r t) (content.Reading w)) (point-member s m r t w e) in
    let i = o.2.1 in
    omega (arith, i)

seconds-same : (file : OfficeFile) (owners : List (ℕ × Option AccountId)) (s : List Entry) (m : ℕ) (owner : Option AccountId) (period band : ℕ) → ((t : ℕ) → owner_by_starts owners t ≡ owner_told (contents_at s) m t) →
    shares.class_seconds file owners owner period band ≡ asked_seconds (contents_at s) (of_class (office_of file) owner period band) m
seconds-same file owners s m owner period band h = λ i t. (same_owner (h t i) owner && ((period_at file t == period) && (band_at file t == band)))

pub counted-share : (file : OfficeFile) (owners : List (ℕ × Option AccountId)) (s : List Entry) (m : ℕ) (r : Register) (owner : Option AccountId) (period band wh : ℕ) →
    ((t : ℕ) → owner_by_starts owners t ≡ owner_told (contents_at s) m t) → (office_of file).counts m r ≡ true →
    wh ≡ register_energy (shares.class_seconds file owners owner period band) (point (contents_at s) m r) END_SECOND → wh ≡ share_of (office_of file) (contents_at s) (of_class (office_of file) owner period band) m r
counted-share file owners s m r owner period band wh h c e =
    e ∙ ap (λ (keeps : ℕ → Bool). register_energy keeps (point (contents_at s) m r) END_SECOND) (seconds-same file owners s m owner period band h)
    ∙ sym (ap (λ b. cond b (register_energy (asked_seconds (contents_at s) (of_class (office_of file) owner period band) m) (point (contents_at s) m r) END_SECOND) 0) c)

pub uncounted-share : (file : OfficeFile) (s : List Entry) (asked : Asked) (m : ℕ) (r : Register) → (office_of file).counts m r ≡ false → 0 ≡ share_of (office_of file) (contents_at s) asked m r
uncounted-share file s asked m r c = sym (ap (λ b. cond b (register_energy (asked_seconds (contents_at s) asked m) (point (contents_at s) m r) END_SECOND) 0) c)
