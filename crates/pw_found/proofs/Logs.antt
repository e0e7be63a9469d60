use Rattle.std.proofs.Common.{◌≡◌, ◌≢◌, ℕ, ◌≤◌, List, length, slice_index, inl, inr, ap₂, arith}
use Rattle.std.proofs.lemmas.Bool.{cases_lt}
use Rattle.sqlite_wal.specs.Recovery.{Image, IsCommitted}
use Rattle.sqlite_wal.specs.Reads.{OnlyReads}
use Rattle.sqlite_wal.specs.Files.{seen_image}
use Rattle.sqlite_disk.specs.declared.Disk.{Ghosts}
use Rattle.pw_found.specs.Files.{HasNoCommit}

no_frame : (page_size : ℕ) (log : List ℕ) (frames : ℕ) → length log ≤ 41 → IsCommitted page_size log frames → frames ≡ 0
no_frame page_size log frames short taken =
    elim (cases_lt 0 frames) [
      | inl some ↦ absurd (omega (arith, short, (taken.valid 0 some).within))
      | inr none ↦ omega arith
    ]

-- no frame fits into a log of so few bytes
pub short_has_no_commit : (log : List ℕ) → length log ≤ 41 → HasNoCommit log
short_has_no_commit log short page_size frames (inl ignored) = ignored.1
short_has_no_commit log short page_size frames (inr taken) = no_frame page_size log frames short taken.0

-- what two files are read as, behind calls that only read
pub same_image : {D : Type 0} {g : Ghosts D} {log db log' db' : D} → OnlyReads g log log' → OnlyReads g db db' → seen_image g log' db' ≡ seen_image g log db
same_image of_log of_db = ap₂ (λ a b. let i : Image = record { log = a; db = b } in i) of_log.seen of_db.seen
