-- What uploads bring depends on which they are alone.
use Rattle.std.proofs.Common.{List, [], ◌∷◌, ◌++◌, refl, subst, inl, inr, ◌⊎◌}
use Rattle.pw_tariff.specs.Office.{OfficeFile, office_of}
use Rattle.pw_model.specs.declared.records.Entry.{Entry}
use Rattle.pw_model.specs.Counting.{Member, SameMembers}
use Rattle.pw_model.proofs.Answers.{order_counts_nothing}
use Rattle.pw_record.specs.declared.fault.UploadFault.{UploadFault}
use Rattle.pw_record.specs.Uploads.{Upload, Gives, RefusesContent}
use Rattle.pw_record.specs.Laws.{HasNoTwoOutcomes}
use Rattle.pw_book.specs.After.{Brings, After, LeavesAfter, OrderOfUploadsCountsNothing}
use Rattle.pw_model.proofs.Places.{member-left, member-right, member-split}

-- what no upload of an office has
abbrev pub AreOne : OfficeFile → Type 0
AreOne file = (upload : Upload) → HasNoTwoOutcomes file upload

-- one of the uploads brings the record
abbrev pub OneBrings : OfficeFile → List Upload → Entry → Type 0
OneBrings file us x = (u : Upload) × Member u us × Brings file u x

-- ---- one upload more
more-from : (file : OfficeFile) (us : List Upload) (v : Upload) (x : Entry) → OneBrings file (us ++ v ∷ []) x → OneBrings file us x ⊎ Brings file v x
more-from file [] v x (u, inl i, b) = let P : Upload → Type 0 = λ w. Brings file w x in inr (subst P i b)
more-from file [] v x (u, inr m, b) = absurd m
more-from file (w ∷ us) v x (u, inl i, b) = inl (u, inl i, b)
more-from file (w ∷ us) v x (u, inr m, b) = elim (more-from file us v x (u, m, b)) [ inl c ↦ inl (c.0, inr c.1, c.2) | inr c ↦ inr c ]

more-old : (file : OfficeFile) (us : List Upload) (v : Upload) (x : Entry) → OneBrings file us x → OneBrings file (us ++ v ∷ []) x
more-old file [] v x b = absurd b.1
more-old file (w ∷ us) v x (u, inl i, b) = (u, inl i, b)
more-old file (w ∷ us) v x (u, inr m, b) = let c : OneBrings file (us ++ v ∷ []) x = more-old file us v x (u, m, b) in (c.0, inr c.1, c.2)

more-new : (file : OfficeFile) (us : List Upload) (v : Upload) (x : Entry) → Brings file v x → OneBrings file (us ++ v ∷ []) x
more-new file [] v x b = (v, inl refl, b)
more-new file (w ∷ us) v x b = let c : OneBrings file (us ++ v ∷ []) x = more-new file us v x b in (c.0, inr c.1, c.2)

-- an upload that gives entries brings these and no others
pub brings-these : (file : OfficeFile) → AreOne file → (v : Upload) (entries : List Entry) (x : Entry) → Gives file v entries → Brings file v x → Member x entries
brings-these file one v entries x g b =
    let P : List Entry → Type 0 = λ es. Member x es in
    subst P ((one v).entries b.0 entries b.1 g) b.2

taken-after : (file : OfficeFile) → AreOne file → (s : List Entry) (us : List Upload) (v : Upload) (entries t w : List Entry) → After file s us t → Gives file v entries →
    SameMembers w (t ++ entries) → After file s (us ++ v ∷ []) w
taken-after file one s us v entries t w a g same x = (
  λ m. elim (member-split x t entries ((same x).0 m)) [
    | inl b ↦ elim ((a x).0 b) [ inl c ↦ inl c | inr c ↦ inr (more-old file us v x c) ]
    | inr b ↦ inr (more-new file us v x (entries, g, b))
  ],
  λ m. (same x).1 (elim m [
    | inl b ↦ member-left x t entries ((a x).1 (inl b))
    | inr b ↦ elim (more-from file us v x b) [
      | inl c ↦ member-left x t entries ((a x).1 (inr c))
      | inr c ↦ member-right x t entries (brings-these file one v entries x g c)
    ]
  ]),
)

refused-after : (file : OfficeFile) → AreOne file → (s : List Entry) (us : List Upload) (v : Upload) (fault : UploadFault) (t : List Entry) → After file s us t →
    RefusesContent file v fault → After file s (us ++ v ∷ []) t
refused-after file one s us v fault t a r x = (
  λ m. elim ((a x).0 m) [ inl b ↦ inl b | inr b ↦ inr (more-old file us v x b) ],
  λ m. elim m [
    | inl b ↦ (a x).1 (inl b)
    | inr b ↦ elim (more-from file us v x b) [ inl c ↦ (a x).1 (inr c) | inr c ↦ absurd ((one v).either c.0 fault c.1 r) ]
  ],
)

pub leaves-after : (file : OfficeFile) → AreOne file → LeavesAfter file
leaves-after file one = record {
  taken = λ s us v entries limit old new accepted a g x. taken-after file one s us v entries old.records new.records a g x.content.records;
  refused = λ s us v fault t a r. refused-after file one s us v fault t a r;
}

-- ---- uploads in another order
abbrev AllIn : List Upload → List Upload → Type 0
AllIn us vs = (u : Upload) → Member u us → Member u vs

other-from : (file : OfficeFile) (us vs : List Upload) (x : Entry) → AllIn us vs → OneBrings file us x → OneBrings file vs x
other-from file us vs x h b = (b.0, h b.0 b.1, b.2)

pub in-order : (file : OfficeFile) (s : List Entry) (us vs : List Upload) (t : List Entry) → SameMembers us vs → After file s us t → After file s vs t
in-order file s us vs t h a x = (
  λ m. elim ((a x).0 m) [ inl b ↦ inl b | inr b ↦ inr (other-from file us vs x (λ u. (h u).0) b) ],
  λ m. (a x).1 (elim m [ inl b ↦ inl b | inr b ↦ inr (other-from file vs us x (λ u. (h u).1) b) ]),
)

pub one-after : (file : OfficeFile) (s : List Entry) (us : List Upload) (t w : List Entry) → After file s us t → After file s us w → SameMembers t w
one-after file s us t w a b x = (λ m. (b x).1 ((a x).0 m), λ m. (a x).1 ((b x).0 m))

pub order-of_uploads : (file : OfficeFile) → OrderOfUploadsCountsNothing file
order-of_uploads file s us vs t h a =
    let there : After file s vs t = in-order file s us vs t h a in
    record {
      after = there;
      only = λ w b. let same : SameMembers t w = one-after file s vs t w there b in (same, order_counts_nothing (office_of file) t w same);
    }
