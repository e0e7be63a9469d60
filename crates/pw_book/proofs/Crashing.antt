-- What a crash may leave behind one upload more.
use Rattle.std.proofs.Common.{◌≡◌, ◌⊎◌, ℕ, ◌≤◌, Bool, true, false, List, [], ◌∷◌, ◌++◌, length, take, refl, sym, subst, ap, ◌∙◌, inl, inr, Some, Result, Ok, Err}
use Rattle.std.proofs.lemmas.List.{append-nil, flat_map_more, take_all}
use Rattle.pw_tariff.specs.Office.{OfficeRules}
use Rattle.pw_model.specs.declared.records.Entry.{Entry}
use Rattle.pw_model.specs.Counting.{Member, SameMembers}
use Rattle.pw_model.specs.Office.{AllOfOffice, most_records}
use Rattle.pw_model.specs.Shelf.{IsTrueContent, ShelfContent}
use Rattle.pw_shelf.specs.Left.{LeavesOnly}
use Rattle.pw_book.specs.declared.book.Accepted.{Accepted}
use Rattle.pw_book.specs.declared.fault.PostFault.{PostFault}
use Rattle.pw_book.specs.declared.fault.PostFault.TheVariants.{Full, Device, Memory, Reopen}
use Rattle.pw_book.specs.declared.laws.crashes.Sent.{Sent}
use Rattle.pw_book.specs.Posting.{IsPosted, IsSoundContent, IsWithUpload, LeavesPosted, LeavesUpload}
use Rattle.pw_book.specs.Crashes.{AreWhole, acknowledged, brought, brought_by}
use Rattle.pw_model.proofs.Places.{member-left, member-right, member-split}

same-then : (a b c : List Entry) → SameMembers a b → SameMembers b c → SameMembers a c
same-then a b c f g x = (λ m. (g x).0 ((f x).0 m), λ m. (f x).1 ((g x).1 m))

same-more : (a b e : List Entry) → SameMembers a b → SameMembers (a ++ e) (b ++ e)
same-more a b e h x = (
  λ m. elim (member-split x a e m) [ inl y ↦ member-left x b e ((h x).0 y) | inr y ↦ member-right x b e y ],
  λ m. elim (member-split x b e m) [ inl y ↦ member-left x a e ((h x).1 y) | inr y ↦ member-right x a e y ],
)

-- ---- at the beginning
-- what is left is what is held, and that is sound
pub sound-first : (office : OfficeRules) (content : ShelfContent) (left : ShelfContent → Type 0) → LeavesOnly content left → IsTrueContent office content →
    AllOfOffice office content.records → length content.records ≤ most_records → (c : ShelfContent) → left c → IsSoundContent office c
sound-first office content left only t o f c l = subst (IsSoundContent office) (sym (only c l)) (record { truth = t; of_office = o; few = f })

-- ---- at the end
pub whole-all : (before : List Entry) (uploads : List Sent) (i : ℕ) (records : List Entry) → length uploads ≤ i → AreWhole before (take i uploads) records → AreWhole before uploads records
whole-all before uploads i records h w = subst (λ (l : List Sent). AreWhole before l records) (take_all i uploads h) w

pub held-all : (before : List Entry) (uploads : List Sent) (i : ℕ) (records : List Entry) → length uploads ≤ i → SameMembers records (acknowledged before (take i uploads)) → SameMembers records (acknowledged before uploads)
held-all before uploads i records h w = subst (λ (l : List Sent). SameMembers records (acknowledged before l)) (take_all i uploads h) w

-- ---- one upload more
-- a book that isn't shut behind it wasn't shut before
pub open-before : (shut : Bool) → (shut ≡ true → ⊥) → shut ≡ false
open-before false n = refl
open-before true n = absurd (n refl)

module _ (before : List Entry) (done : List Sent) (s : Sent) where
  -- with what it brought
  brought-next : acknowledged before done ++ brought s ≡ acknowledged before (done ++ s ∷ [])
  brought-next = flat_map_more brought before done s

  -- an upload that brought nothing
  none-next : brought s ≡ [] → acknowledged before done ≡ acknowledged before (done ++ s ∷ [])
  none-next e = sym (append-nil _) ∙ ap (λ (l : List Entry). acknowledged before done ++ l) (sym e) ∙ brought-next

  whole-next : brought s ≡ [] → (r : List Entry) → AreWhole before done r → AreWhole before (done ++ s ∷ []) r
  whole-next e r h =
      let P : List Entry → Type 0 = λ l. SameMembers r l ⊎ ((t : Sent) × Member t (done ++ s ∷ []) × SameMembers r (l ++ t.entries.items)) in
      subst P (none-next e) (elim h [ inl a ↦ inl a | inr a ↦ inr (a.0, member-left a.0 done (s ∷ []) a.1, a.2) ])

  whole-here : brought s ≡ [] → (r : List Entry) → SameMembers r (acknowledged before done ++ s.entries.items) → AreWhole before (done ++ s ∷ []) r
  whole-here e r h =
      let P : List Entry → Type 0 = λ l. SameMembers r l ⊎ ((t : Sent) × Member t (done ++ s ∷ []) × SameMembers r (l ++ t.entries.items)) in
      subst P (none-next e) (inr (s, member-right s done (s ∷ []) (inl refl), h))

  module _ (office : OfficeRules) (limit : ℕ) (old new : ShelfContent) where
    -- where it is as before
    as-before : brought s ≡ [] → new ≡ old → SameMembers old.records (acknowledged before done) → SameMembers new.records (acknowledged before (done ++ s ∷ []))
    as-before b e h =
        subst (λ (l : List Entry). SameMembers new.records l) (none-next b) (subst (λ (c : ShelfContent). SameMembers c.records (acknowledged before done)) (sym e) h)

    accepted-next : (a : Accepted) → s.answer ≡ Some (Ok a) → IsWithUpload office s.entries.items old new → SameMembers old.records (acknowledged before done) →
        SameMembers new.records (acknowledged before (done ++ s ∷ []))
    accepted-next a e u h =
        let b : brought s ≡ s.entries.items = ap (λ o. brought_by o s.entries.items) e in
        subst (λ (l : List Entry). SameMembers new.records l) (ap (λ (l : List Entry). acknowledged before done ++ l) (sym b) ∙ brought-next)
        (same-then new.records (old.records ++ s.entries.items) (acknowledged before done ++ s.entries.items) u.records (same-more old.records (acknowledged before done) s.entries.items h))

    -- what is held
    pub held-next : (answer : Result Accepted PostFault) → s.answer ≡ Some answer → IsPosted office limit s.entries.items old new answer → (answer ≡ Err Reopen → ⊥) →
        SameMembers old.records (acknowledged before done) → SameMembers new.records (acknowledged before (done ++ s ∷ []))
    held-next (Ok a) e p n h = accepted-next a e p.content h
    held-next (Err (Full held stated)) e p n h = as-before (ap (λ o. brought_by o s.entries.items) e) p.content h
    held-next (Err Device) e p n h = as-before (ap (λ o. brought_by o s.entries.items) e) p h
    held-next (Err Memory) e p n h = as-before (ap (λ o. brought_by o s.entries.items) e) p h
    held-next (Err Reopen) e p n h = absurd (n refl)

    -- ---- what may be left
    module _ (left_old left_new : ShelfContent → Type 0) (whole : (c : ShelfContent) → left_old c → AreWhole before done c.records) where
      -- with the upload, or as before
      upload-next : brought s ≡ [] → SameMembers old.records (acknowledged before done) → LeavesUpload office limit s.entries.items old left_old left_new →
          (c : ShelfContent) → left_new c → AreWhole before (done ++ s ∷ []) c.records
      upload-next b h l c k = elim (l c k) [
        | inl x ↦ whole-next b c.records (whole c x)
        | inr x ↦ whole-here b c.records (same-then c.records (old.records ++ s.entries.items) (acknowledged before done ++ s.entries.items) x.1.records (same-more old.records (acknowledged before done) s.entries.items h))
      ]

      posted-next : (answer : Result Accepted PostFault) → s.answer ≡ Some answer → IsPosted office limit s.entries.items old new answer →
          LeavesPosted office limit s.entries.items old new left_old left_new answer → SameMembers old.records (acknowledged before done) →
          (c : ShelfContent) → left_new c → AreWhole before (done ++ s ∷ []) c.records
      posted-next (Ok a) e p l h c k =
          subst (λ (d : ShelfContent). AreWhole before (done ++ s ∷ []) d.records) (sym (l c k)) (inl (accepted-next a e p.content h))
      posted-next (Err (Full held stated)) e p l h c k = whole-next (ap (λ o. brought_by o s.entries.items) e) c.records (whole c (l c k))
      posted-next (Err Device) e p l h c k = upload-next (ap (λ o. brought_by o s.entries.items) e) h l c k
      posted-next (Err Memory) e p l h c k = upload-next (ap (λ o. brought_by o s.entries.items) e) h l c k
      posted-next (Err Reopen) e p l h c k = upload-next (ap (λ o. brought_by o s.entries.items) e) h l c k

      -- a shut book answers Reopen, and leaves all as it is
      pub left-next : (shut : Bool) (answer : Result Accepted PostFault) → s.answer ≡ Some answer → IsPosted office limit s.entries.items old new answer →
          LeavesPosted office limit s.entries.items old new left_old left_new answer → (shut ≡ false → SameMembers old.records (acknowledged before done)) →
          (shut ≡ true → answer ≡ Err Reopen) → (shut ≡ true → (c : ShelfContent) → left_new c → left_old c) →
          (c : ShelfContent) → left_new c → AreWhole before (done ++ s ∷ []) c.records
      left-next false answer e p l h r n c k = posted-next answer e p l (h refl) c k
      left-next true answer e p l h r n c k =
          whole-next (ap (λ o. brought_by o s.entries.items) (e ∙ ap (λ (a : Result Accepted PostFault). Some a) (r refl))) c.records (whole c (n refl c k))
