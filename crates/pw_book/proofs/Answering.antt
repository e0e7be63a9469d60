-- What an upload is answered, from how it was weighed and written.
use Rattle.std.proofs.Common.{◌≡◌, ℕ, ◌+◌, ◌-◌, ◌<◌, ◌≤◌, ◌^◌, List, ◌++◌, length, refl, ap, sym, subst, ◌∙◌, arith, inl, inr, Result, Err}
use Rattle.pw_model.specs.declared.records.Entry.{Entry}
use Rattle.pw_model.specs.Counting.{EachOnce, SameMembers}
use Rattle.pw_model.specs.Lists.{record_count}
use Rattle.pw_model.specs.Office.{most_records}
use Rattle.pw_model.specs.Shelf.{ShelfContent}
use Rattle.pw_tariff.specs.Office.{OfficeRules}
use Rattle.pw_book.specs.inner.Added.{LeavesWithUpload}
use Rattle.pw_book.specs.inner.Fresh.{AreFresh}
use Rattle.pw_shelf.specs.Left.{LeavesNoMore}
use Rattle.pw_book.specs.declared.book.Accepted.{Accepted}
use Rattle.pw_book.specs.declared.fault.PostFault.{PostFault}
use Rattle.pw_book.specs.declared.fault.PostFault.TheVariants.{Full}
use Rattle.pw_book.specs.declared.fault.BookFault.{BookFault}
use Rattle.pw_book.specs.declared.fault.BookFault.TheVariants.{Device, Memory, Reopen}
use Rattle.pw_book.specs.Faults.{post_fault_of}
use Rattle.pw_book.specs.Posting.{HasRoom, IsWithUpload, IsAccepted, IsFull, IsPosted, LeavesUpload, LeavesPosted, fresh_in, fresh_of, repeated_in}
use Rattle.pw_book.proofs.EachOne.{count-joined, count-parts, fresh-same, record-count, record-count_same, repeated-held}
use Rattle.pw_book.proofs.NotHeld.{are-fresh, fresh-joined, fresh-length}

-- how an upload was weighed: so many records are held, and of its distinct entries these aren't
pub record IsWeighed (held entries distinct fresh : List Entry) (count : ℕ) : Type 0 where
  pub each : EachOnce held
  pub once : EachOnce distinct
  pub members : SameMembers distinct entries
  pub count_is : count ≡ length held
  pub fresh_is : fresh ≡ fresh_of held distinct

module _ (office : OfficeRules) (entries distinct fresh : List Entry) (old : ShelfContent) (count limit : ℕ) (w : IsWeighed old.records entries distinct fresh count) where
  number : length fresh ≡ fresh_in old.records entries
  number = ap (λ (l : List Entry). length l) w.fresh_is ∙ fresh-length old.records distinct w.once ∙ fresh-same old.records distinct entries w.members

  held : count ≡ record_count old.records
  held = w.count_is ∙ sym (record-count old.records w.each)

  -- those that aren't fresh are repeated
  repeated : length distinct ≡ length fresh + repeated_in old.records entries
  repeated =
      let a = number in
      let b = count-parts old.records entries in
      let c = record-count distinct w.once in
      let d = record-count_same distinct entries w.members in
      omega (arith, a, b, c, d)

  pub full-is : (n : ℕ) (new : ShelfContent) → n ≡ length fresh → limit < count + n → new ≡ old → IsFull limit entries old new count limit
  full-is n new e h s =
      let f = number in
      let g = held in
      record {
        over = omega (arith, e, f, g, h);
        held_is = g;
        stated_is = refl;
        content = s;
      }

  pub accepted-is : (n r : ℕ) (new : ShelfContent) (a : Accepted) → n ≡ length fresh → r ≡ length distinct - length fresh → limit ≤ most_records → count + n ≤ limit → a.fresh ≡ n → (r < 2 ^ 32 → a.repeated ≡ r) → IsWithUpload office entries old new →
      IsAccepted office limit entries old new a
  accepted-is n r new a e d m h f p u =
      let i = number in
      let g = held in
      let q = repeated in
      let b : repeated_in old.records entries ≤ record_count old.records = repeated-held old.records entries in
      let s : r ≡ repeated_in old.records entries = omega (arith, d, q) in
      record {
        room = omega (arith, e, i, g, h);
        fresh = f ∙ e ∙ i;
        repeated = p (omega (arith, s, b, g, h, m)) ∙ s;
        content = u;
      }

  pub room-is : (n : ℕ) → n ≡ length fresh → count + n ≤ limit → HasRoom limit entries old
  room-is n e h = let f = number in let g = held in omega (arith, e, f, g, h)

  -- they are entries of the upload that aren't held, and with those held they are all
  pub written : (mid : ShelfContent) → mid ≡ old → AreFresh mid.records fresh
  written mid s =
      let P : List Entry → Type 0 = λ l. AreFresh old.records l in
      let Q : ShelfContent → Type 0 = λ c. AreFresh c.records fresh in
      subst Q (sym s) (subst P (sym w.fresh_is) (are-fresh old.records distinct w.once))

  pub whole : SameMembers (old.records ++ fresh) (old.records ++ entries)
  whole =
      let P : List Entry → Type 0 = λ l. SameMembers (old.records ++ l) (old.records ++ entries) in
      subst P (sym w.fresh_is) (fresh-joined old.records entries distinct w.members)

  -- an upload that fits
  pub fits : (n : ℕ) (mid : ShelfContent) → n ≡ length fresh → count + n ≤ limit → limit ≤ most_records → mid ≡ old → record_count (mid.records ++ fresh) ≤ most_records
  fits n mid e h m s =
      let a = room-is n e h in
      let b = count-joined old.records entries in
      let c = record-count_same (old.records ++ fresh) (old.records ++ entries) whole in
      let P : ShelfContent → Type 0 = λ x. record_count (x.records ++ fresh) ≤ most_records in
      subst P (sym s) (omega (arith, a, b, c, m))

-- ---- the fresh entries bring the upload
pub upload-same : (office : OfficeRules) (entries fresh : List Entry) (old mid new : ShelfContent) → SameMembers (old.records ++ fresh) (old.records ++ entries) → mid ≡ old → IsWithUpload office fresh mid new → IsWithUpload office entries old new
upload-same office entries fresh old mid new h s u =
    let P : ShelfContent → Type 0 = λ c. SameMembers new.records (c.records ++ fresh) in
    let r : SameMembers new.records (old.records ++ fresh) = subst P s u.records in
    record {
      once = u.once;
      records = λ x. (λ m. (h x).0 ((r x).0 m), λ m. (r x).1 ((h x).1 m));
      truth = u.truth;
    }

pub leaves-same : (office : OfficeRules) (limit : ℕ) (entries fresh : List Entry) (old mid : ShelfContent) (left_old left_mid left_new : ShelfContent → Type 0) → HasRoom limit entries old → SameMembers (old.records ++ fresh) (old.records ++ entries) → mid ≡ old → LeavesNoMore left_old left_mid →
    LeavesWithUpload office fresh mid left_mid left_new → LeavesUpload office limit entries old left_old left_new
leaves-same office limit entries fresh old mid left_old left_mid left_new r h s l u = λ c k. elim (u c k) [
  | inl a ↦ inl (l c a)
  | inr b ↦ inr (r, upload-same office entries fresh old mid c h s b)
]

pub leaves-posted : (office : OfficeRules) (limit : ℕ) (entries : List Entry) (old new : ShelfContent) (left_old left_new : ShelfContent → Type 0) (fault : BookFault) (answered : PostFault) (answer : Result Accepted PostFault) → answer ≡ Err answered → answered ≡ post_fault_of fault →
    LeavesUpload office limit entries old left_old left_new → LeavesPosted office limit entries old new left_old left_new answer
leaves-posted office limit entries old new left_old left_new fault answered answer e a u = rw (e, a) (by-fault fault)
  where
    by-fault : (f : BookFault) → LeavesPosted office limit entries old new left_old left_new (Err (post_fault_of f))
    by-fault Device = u
    by-fault Memory = u
    by-fault Reopen = u

-- ---- lists as they were lent
pub weighed-lent : (held entries distinct lent fresh gone : List Entry) (count : ℕ) → EachOnce held → EachOnce distinct → SameMembers distinct entries → count ≡ length held → lent ≡ distinct → fresh ≡ fresh_of held lent → gone ≡ fresh →
    IsWeighed held entries distinct gone count
weighed-lent held entries distinct lent fresh gone count e o m c l f g = record {
  each = e;
  once = o;
  members = m;
  count_is = c;
  fresh_is = g ∙ f ∙ ap (fresh_of held) l;
}

-- the rest of a list's length
pub rest-lent : {distinct lent : List Entry} (gone : List Entry) (n f : ℕ) → n ≡ length lent → lent ≡ distinct → f ≡ length gone → n - f ≡ length distinct - length gone
rest-lent gone n f e l g = let x = ap (λ (xs : List Entry). length xs) l in omega (arith, e, x, g)

-- what a refusal for want of room says
pub posted-full : (office : OfficeRules) (limit : ℕ) (entries : List Entry) (old new : ShelfContent) (count : ℕ) (fault : PostFault) (answer : Result Accepted PostFault) → answer ≡ Err fault → fault ≡ Full count limit → IsFull limit entries old new count limit →
    IsPosted office limit entries old new answer
posted-full office limit entries old new count fault answer e f h =
    let P : Result Accepted PostFault → Type 0 = λ r. IsPosted office limit entries old new r in
    subst P (sym (e ∙ ap (λ (x : PostFault). Err x) f)) h
