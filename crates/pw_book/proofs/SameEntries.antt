-- What an upload does depends on which entries it has, and not on their order, nor on how often each stands there.
use Rattle.std.proofs.Common.{◌≡◌, ℕ, ◌+◌, ◌*◌, cond, List, [], ◌∷◌, ◌++◌, refl, sym, subst, ◌∙◌, arith, inl, inr, Result, Ok, Err}
use Rattle.pw_tariff.specs.Office.{OfficeRules}
use Rattle.pw_model.specs.declared.records.Entry.{Entry}
use Rattle.pw_model.specs.Bearing.{bears_on}
use Rattle.pw_model.specs.Counting.{Member, SameMembers}
use Rattle.pw_model.specs.Lists.{record_count}
use Rattle.pw_model.specs.Payments.{stands_in}
use Rattle.pw_model.specs.Same.{same_entry}
use Rattle.pw_model.specs.Shelf.{ShelfContent}
use Rattle.pw_model.proofs.Once.{once-same}
use Rattle.pw_model.proofs.Places.{member-left, member-right, member-split}
use Rattle.pw_model.proofs.Same.{same_entry-decides}
use Rattle.pw_book.specs.declared.book.Accepted.{Accepted}
use Rattle.pw_book.specs.declared.fault.PostFault.{PostFault}
use Rattle.pw_book.specs.declared.fault.PostFault.TheVariants.{Full, Device, Memory, Reopen}
use Rattle.pw_book.specs.Cost.{IsBoundOf, IsCheap, RisesAtMost, classes_of}
use Rattle.pw_book.specs.Posting.{HasRoom, IsPosted, IsWithUpload, LeavesPosted, LeavesUpload, repeated_in}
use Rattle.pw_book.proofs.EachOne.{fresh-same, record-count_same}

-- one list has its own members
pub one-list : {X : Type 0} {xs ys : List X} → xs ≡ ys → SameMembers xs ys
one-list {X} {xs} {ys} e x =
    let P : List X → Type 0 = λ l. Member x l in
    (λ m. subst P e m, λ m. subst P (sym e) m)

none-same : (xs ys : List Entry) → SameMembers xs ys → ys ≡ [] → xs ≡ []
none-same [] ys m e = refl
none-same (x ∷ xs) ys m e = absurd (let P : List Entry → Type 0 = λ l. Member x l in subst P e ((m x).0 (inl refl)))

module _ (xs ys : List Entry) (same : SameMembers xs ys) where
  behind-same : (held : List Entry) → SameMembers (held ++ xs) (held ++ ys)
  behind-same held x = (
    λ m. elim (member-split x held xs m) [ inl a ↦ member-left x held ys a | inr b ↦ member-right x held ys ((same x).0 b) ],
    λ m. elim (member-split x held ys m) [ inl a ↦ member-left x held xs a | inr b ↦ member-right x held xs ((same x).1 b) ],
  )

  repeated-same : (held : List Entry) → repeated_in held xs ≡ repeated_in held ys
  repeated-same held = once-same same_entry same_entry-decides (λ e. cond (stands_in same_entry e held) 1 0) xs ys same

  room-same : (limit : ℕ) (old : ShelfContent) → HasRoom limit xs old → HasRoom limit ys old
  room-same limit old r = let f = fresh-same old.records xs ys same in omega (arith, r, f)

  with-same : (office : OfficeRules) (old new : ShelfContent) → IsWithUpload office xs old new → IsWithUpload office ys old new
  with-same office old new u = record {
    once = u.once;
    records = λ x. (λ m. (behind-same old.records x).0 ((u.records x).0 m), λ m. (u.records x).1 ((behind-same old.records x).1 m));
    truth = u.truth;
  }

  pub posted-same : (office : OfficeRules) (limit : ℕ) (old new : ShelfContent) (answer : Result Accepted PostFault) → IsPosted office limit xs old new answer → IsPosted office limit ys old new answer
  posted-same office limit old new (Ok a) h = record {
    room = room-same limit old h.room;
    fresh = h.fresh ∙ fresh-same old.records xs ys same;
    repeated = h.repeated ∙ repeated-same old.records;
    content = with-same office old new h.content;
  }
  posted-same office limit old new (Err (Full held stated)) h = record {
    over = (let f = fresh-same old.records xs ys same in let o = h.over in omega (arith, o, f));
    held_is = h.held_is;
    stated_is = h.stated_is;
    content = h.content;
  }
  posted-same office limit old new (Err Device) h = h
  posted-same office limit old new (Err Memory) h = h
  posted-same office limit old new (Err Reopen) h = h

  leaves-upload-same : (office : OfficeRules) (limit : ℕ) (content : ShelfContent) (old new : ShelfContent → Type 0) → LeavesUpload office limit xs content old new → LeavesUpload office limit ys content old new
  leaves-upload-same office limit content old new h = λ c k. elim (h c k) [
    | inl a ↦ inl a
    | inr b ↦ inr (room-same limit content b.0, with-same office content c b.1)
  ]

  pub leaves-posted-same : (office : OfficeRules) (limit : ℕ) (old new : ShelfContent) (left_old left_new : ShelfContent → Type 0) (answer : Result Accepted PostFault) → LeavesPosted office limit xs old new left_old left_new answer → LeavesPosted office limit ys old new left_old left_new answer
  leaves-posted-same office limit old new left_old left_new (Ok a) h = h
  leaves-posted-same office limit old new left_old left_new (Err (Full held stated)) h = h
  leaves-posted-same office limit old new left_old left_new (Err Device) h = leaves-upload-same office limit old left_old left_new h
  leaves-posted-same office limit old new left_old left_new (Err Memory) h = leaves-upload-same office limit old left_old left_new h
  leaves-posted-same office limit old new left_old left_new (Err Reopen) h = leaves-upload-same office limit old left_old left_new h

  pub cheap-same : (office : OfficeRules) (c : ShelfContent) (old new : ℕ) → IsCheap office xs c old new → IsCheap office ys c old new
  cheap-same office c old new h =
      let n : record_count xs ≡ record_count ys = record-count_same xs ys same in
      record {
        readings = λ starts l a.
            let P : ℕ → Type 0 = λ k. RisesAtMost (k * (24 + 4 * (starts + 1) + 6 * classes_of office)) old new in
            subst P n (h.readings starts (omega (arith, n, l)) (λ e m. a e ((same e).0 m)));
        assignment = λ e starts points s i. h.assignment e starts points (λ x. (λ m. (s x).0 ((same x).0 m), λ m. (same x).1 ((s x).1 m))) i;
        assignments = λ starts points l a.
            let P : ℕ → Type 0 = λ k. RisesAtMost (k * (56 + 4 * (starts + k + 1) + 2 * points + 12 * classes_of office)) old new in
            subst P n (h.assignments starts points (omega (arith, n, l)) (λ e m. a e ((same e).0 m)));
        several = λ most l a.
            let P : ℕ → Type 0 = λ k. RisesAtMost (k * most) old new in
            subst P n (h.several most (omega (arith, n, l)) (λ e m. let Q : ℕ → Type 0 = λ k. IsBoundOf office c k most (bears_on e) in subst Q (sym n) (a e ((same e).0 m))));
        top_ups = λ l a.
            let P : ℕ → Type 0 = λ k. RisesAtMost (k * 24) old new in
            subst P n (h.top_ups (omega (arith, n, l)) (λ e m. a e ((same e).0 m)));
        nothing = λ e. h.nothing (none-same xs ys same e);
      }
