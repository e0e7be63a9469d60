-- What every book keeps, behind an upload.
use Rattle.std.proofs.Common.{◌≡◌, ℕ, ◌≤◌, List, ◌++◌, length, refl, sym, subst, arith, inl, inr, Result, Ok, Err}
use Rattle.pw_tariff.specs.Office.{OfficeRules}
use Rattle.pw_model.specs.declared.records.Entry.{Entry}
use Rattle.pw_model.specs.Office.{AllOfOffice, most_records}
use Rattle.pw_model.specs.Shelf.{IsTrueContent, ShelfContent}
use Rattle.pw_book.specs.declared.book.Accepted.{Accepted}
use Rattle.pw_book.specs.declared.fault.PostFault.{PostFault}
use Rattle.pw_book.specs.declared.fault.PostFault.TheVariants.{Full, Device, Memory, Reopen}
use Rattle.pw_book.specs.Posting.{HasRoom, IsAccepted, IsPosted, IsSoundContent, IsWithUpload, LeavesPosted, LeavesSound, LeavesUpload}
use Rattle.pw_model.proofs.Places.{member-split}
use Rattle.pw_book.proofs.EachOne.{record-count, record-count_same, count-joined}

module _ (office : OfficeRules) (limit : ℕ) (entries : List Entry) (old new : ShelfContent) where
  accepted-few : (a : Accepted) → limit ≤ most_records → IsAccepted office limit entries old new a → length new.records ≤ most_records
  accepted-few a m h =
      let c = record-count new.records h.content.once in
      let s = record-count_same new.records (old.records ++ entries) h.content.records in
      let j = count-joined old.records entries in
      let r = h.room in
      omega (arith, c, s, j, r, m)

  pub posted-few : (answer : Result Accepted PostFault) → limit ≤ most_records → length old.records ≤ most_records → IsPosted office limit entries old new answer → (answer ≡ Err Reopen → ⊥) → length new.records ≤ most_records
  posted-few (Ok a) m k h n = accepted-few a m h
  posted-few (Err (Full held stated)) m k h n = let P : ShelfContent → Type 0 = λ c. length c.records ≤ most_records in subst P (sym h.content) k
  posted-few (Err Device) m k h n = let P : ShelfContent → Type 0 = λ c. length c.records ≤ most_records in subst P (sym h) k
  posted-few (Err Memory) m k h n = let P : ShelfContent → Type 0 = λ c. length c.records ≤ most_records in subst P (sym h) k
  posted-few (Err Reopen) m k h n = absurd (n refl)

  pub posted-of_office : (answer : Result Accepted PostFault) → AllOfOffice office entries → AllOfOffice office old.records → IsPosted office limit entries old new answer → (answer ≡ Err Reopen → ⊥) → AllOfOffice office new.records
  posted-of_office (Ok a) m k h n = λ e q. elim (member-split e old.records entries ((h.content.records e).0 q)) [ inl x ↦ k e x | inr x ↦ m e x ]
  posted-of_office (Err (Full held stated)) m k h n = let P : ShelfContent → Type 0 = λ c. AllOfOffice office c.records in subst P (sym h.content) k
  posted-of_office (Err Device) m k h n = let P : ShelfContent → Type 0 = λ c. AllOfOffice office c.records in subst P (sym h) k
  posted-of_office (Err Memory) m k h n = let P : ShelfContent → Type 0 = λ c. AllOfOffice office c.records in subst P (sym h) k
  posted-of_office (Err Reopen) m k h n = absurd (n refl)

  pub posted-true : (answer : Result Accepted PostFault) → IsTrueContent office old → IsPosted office limit entries old new answer → (answer ≡ Err Reopen → ⊥) → IsTrueContent office new
  posted-true (Ok a) k h n = h.content.truth
  posted-true (Err (Full held stated)) k h n = subst (IsTrueContent office) (sym h.content) k
  posted-true (Err Device) k h n = subst (IsTrueContent office) (sym h) k
  posted-true (Err Memory) k h n = subst (IsTrueContent office) (sym h) k
  posted-true (Err Reopen) k h n = absurd (n refl)

  -- ---- what a crash may leave
  room-few : (c : ShelfContent) → limit ≤ most_records → HasRoom limit entries old → IsWithUpload office entries old c → length c.records ≤ most_records
  room-few c m r h =
      let a = record-count c.records h.once in
      let s = record-count_same c.records (old.records ++ entries) h.records in
      let j = count-joined old.records entries in
      omega (arith, a, s, j, r, m)

  upload-sound : (c : ShelfContent) → limit ≤ most_records → AllOfOffice office entries → AllOfOffice office old.records → HasRoom limit entries old → IsWithUpload office entries old c → IsSoundContent office c
  upload-sound c m o h r u = record {
    truth = u.truth;
    of_office = λ e q. elim (member-split e old.records entries ((u.records e).0 q)) [ inl x ↦ h e x | inr x ↦ o e x ];
    few = room-few c m r u;
  }

  leaves-sound : (left_old left_new : ShelfContent → Type 0) → limit ≤ most_records → AllOfOffice office entries → AllOfOffice office old.records → LeavesUpload office limit entries old left_old left_new → LeavesSound office left_old left_new
  leaves-sound left_old left_new m o h u = λ all c k. elim (u c k) [ inl a ↦ all c a | inr b ↦ upload-sound c m o h b.0 b.1 ]

  pub posted-sound : (left_old left_new : ShelfContent → Type 0) (answer : Result Accepted PostFault) → limit ≤ most_records → AllOfOffice office entries → AllOfOffice office old.records →
      IsPosted office limit entries old new answer → LeavesPosted office limit entries old new left_old left_new answer → LeavesSound office left_old left_new
  posted-sound left_old left_new (Ok a) m o h p l = λ all c k. subst (IsSoundContent office) (sym (l c k)) (upload-sound new m o h p.room p.content)
  posted-sound left_old left_new (Err (Full held stated)) m o h p l = λ all c k. all c (l c k)
  posted-sound left_old left_new (Err Device) m o h p l = leaves-sound left_old left_new m o h l
  posted-sound left_old left_new (Err Memory) m o h p l = leaves-sound left_old left_new m o h l
  posted-sound left_old left_new (Err Reopen) m o h p l = leaves-sound left_old left_new m o h l
