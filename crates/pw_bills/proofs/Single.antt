-- One stretch, and what is gathered under the numbers of stretches.
use Rattle.std.proofs.Common.{◌≡◌, ℕ, zero, suc, ◌-◌, ◌<◌, ◌≤◌, ◌^◌, min, Some, List, [], ◌∷◌, length, get_or, ◌∙◌, arith}
use Rattle.pw_time.specs.declared.instant.TheConstants.{END_SECOND}
use Rattle.pw_tariff.specs.declared.ids.AccountId.{AccountId}
use Rattle.pw_tariff.specs.Office.{IsSound, OfficeFile, office_of}
use Rattle.pw_model.specs.declared.records.Entry.{Entry}
use Rattle.pw_model.specs.declared.records.TotalKey.{TotalKey}
use Rattle.pw_model.specs.declared.records.TotalKey.TheVariants.{Energy}
use Rattle.pw_model.specs.Counting.{contents_at}
use Rattle.pw_model.specs.Energy.{account}
use Rattle.pw_model.specs.Office.{AllOfOffice, most_records}
use Rattle.pw_model.proofs.PlainEnergy.{energy-fits}
use Rattle.pw_model.proofs.SoundOffice.{sound-office}
use Rattle.pw_parts.specs.Changes.{gathered}
use Rattle.pw_parts.specs.declared.changes.Side.TheVariants.{Gains}
use Rattle.pw_bills.specs.Energies.{TellsEnergies}
use Rattle.pw_bills.specs.Stretches.{AreStretches, end_of}
use Rattle.pw_bills.specs.declared.energies.Energies.{Energies}
use Rattle.pw_bills.specs.declared.energies.SharedOut.{SharedOut}
use Rattle.pw_bills.specs.inner.Flows.{AddsEnergy, IsOfStretch, all_between, of_stretch}
use Rattle.pw_bills.specs.inner.Gathering.{Pass, IsGathered}
use Rattle.pw_bills.proofs.Given.{all-given}
use Rattle.pw_bills.proofs.Named.{rises}

one-rises : (x end i : ℕ) → x < end → i < 1 → get_or (x ∷ []) i 0 < end_of (x ∷ []) end i
one-rises x end zero h l = h
one-rises x end (suc i) h l = absurd (omega (arith, l))

pub one-stretch : (x end : ℕ) → x < end → end ≤ END_SECOND → AreStretches (x ∷ []) end
one-stretch x end h e = record { some = omega arith; few = omega arith; rising = λ i l. one-rises x end i h l; ended = e }

min-is : (n most : ℕ) → n ≤ most → min n most ≡ n
min-is n most h = omega arith

-- what is gathered fits, so it is told as it is
energies-told : (file : OfficeFile) (s : List Entry) (a : AccountId) (begins : List ℕ) (end : ℕ) (e : Energies) → IsSound file → AllOfOffice (office_of file) s → length s ≤ most_records →
    ((k : TotalKey) → IsOfStretch begins k → gathered Gains e.changes.rows k ≡ all_between (office_of file) (contents_at s) a begins end k) → TellsEnergies (office_of file) s a begins end e
energies-told file s a begins end e sound o few h = λ i l p b d.
    let g = h (Energy (Some (account i)) p b d) l in
    let f = energy-fits (office_of file) s d (of_stretch (office_of file) a begins end i p.0 b.0) (sound-office file sound) o few in
    min-is (gathered Gains e.changes.rows (Energy (Some (account i)) p b d)) (2 ^ 64 - 1) (omega (arith, g, f)) ∙ g

pub energies-gathered : (q : Pass) (old new : SharedOut) → AreStretches q.begins q.end → ((k : TotalKey) → gathered Gains old.changes.rows k ≡ 0) → IsGathered AddsEnergy q old new →
    TellsEnergies (office_of q.file) q.content.records q.account q.begins q.end (record { changes = new.changes })
energies-gathered q old new w z h =
    energies-told q.file q.content.records q.account q.begins q.end (record { changes = new.changes }) h.office h.content.of_office h.content.few (all-given q old new (rises q.begins q.end w.rising) z h)
