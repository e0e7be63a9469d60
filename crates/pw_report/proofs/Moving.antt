-- A book whose exports are uploaded to another one.
use Rattle.std.proofs.Common.{◌≡◌, List, ℕ, [], ◌∷◌, map, refl, subst, inl, inr}
use Rattle.pw_tariff.specs.Office.{IsSound, OfficeFile, office_of}
use Rattle.pw_model.specs.declared.records.Entry.{Entry}
use Rattle.pw_model.specs.Counting.{Member}
use Rattle.pw_model.specs.Office.{AllOfOffice}
use Rattle.pw_model.proofs.Places.{member-left, member-right, member-split}
use Rattle.pw_record.specs.declared.row.RowKind.{RowKind}
use Rattle.pw_record.specs.declared.row.RowKind.TheVariants.{Assignment, TopUp, Withdrawal}
use Rattle.pw_record.specs.Laws.{HasNoTwoOutcomes}
use Rattle.pw_record.specs.Rows.{RowsGive}
use Rattle.pw_record.specs.Uploads.{Gives, Upload}
use Rattle.pw_record.proofs.EachListed.{listed-there_is}
use Rattle.pw_record.proofs.OneOutcome.{one-outcome}
use Rattle.pw_book.specs.After.{Brings}
use Rattle.pw_report.specs.Exports.{records_text}
use Rattle.pw_report.specs.Laws.{ExportsMoveBooks, IsPartOf, Part, part_upload, rows_upload}
use Rattle.pw_report.proofs.Uploading.{exports-are-uploads}

gives-rows : (file : OfficeFile) (kind : RowKind) (text : List ℕ) (entries : List Entry) → RowsGive file kind text entries → Gives file (rows_upload kind text) entries
gives-rows file Assignment text entries g = g
gives-rows file TopUp text entries g = g
gives-rows file Withdrawal text entries g = g

mapped-back : {X Y : Type 0} (f : X → Y) (y : Y) (xs : List X) → Member y (map f xs) → (x : X) × Member x xs × (y ≡ f x)
mapped-back f y [] m = absurd m
mapped-back f y (x ∷ xs) (inl e) = (x, inl refl, e)
mapped-back f y (x ∷ xs) (inr m) = let r = mapped-back f y xs m in (r.0, inr r.1, r.2)

mapped-to : {X Y : Type 0} (f : X → Y) (x : X) (xs : List X) → Member x xs → Member (f x) (map f xs)
mapped-to f x [] m = absurd m
mapped-to f x (y ∷ xs) (inl e) = inl (λ i. f (e i))
mapped-to f x (y ∷ xs) (inr m) = inr (mapped-to f x xs m)

-- a part brings just its records
part-gives : (file : OfficeFile) (s : List Entry) (p : Part) → IsSound file → AllOfOffice (office_of file) s → IsPartOf s p → Gives file (part_upload file p) (listed-there_is p.records).0
part-gives file s p sound o is =
    let listed = listed-there_is p.records in
    gives-rows file p.kind (records_text file p.kind p.records) listed.0 (exports-are-uploads file p.kind p.records listed.0 sound (λ e m. o e (is.held e m)) is.kinds is.few listed.1)

part-brings : (file : OfficeFile) (s : List Entry) (p : Part) → IsSound file → AllOfOffice (office_of file) s → IsPartOf s p → (e : Entry)
    → (Brings file (part_upload file p) e → Member e p.records) × (Member e p.records → Brings file (part_upload file p) e)
part-brings file s p sound o is e =
    let listed = listed-there_is p.records in
    let gives = part-gives file s p sound o is in
    let one : HasNoTwoOutcomes file (part_upload file p) = one-outcome file sound.named (part_upload file p) in (
      λ b. (listed.1.same e).1 (subst (Member e) (one.entries b.0 listed.0 b.1 gives) b.2),
      λ m. (listed.0, gives, (listed.1.same e).0 m),
    )

pub exports-move-books : ExportsMoveBooks
exports-move-books file s parts others records sound o moved after e = (
  λ m. elim ((after e).0 m) [
    | inl none ↦ absurd none
    | inr (u, among, brings) ↦ elim (member-split u (map (part_upload file) parts) others among) [
      | inl here ↦ (
          let r = mapped-back (part_upload file) u parts here in
          (moved.of_parts r.0 r.1).held e ((part-brings file s r.0 sound o (moved.of_parts r.0 r.1) e).0 (subst (λ (v : Upload). Brings file v e) r.2 brings)))
      | inr there ↦ moved.of_others u e there brings
    ]
  ],
  λ m. (after e).1 (inr (elim (moved.all e m) [
    | inl (p, among, in-part) ↦ (
      part_upload file p,
      member-left (part_upload file p) (map (part_upload file) parts) others (mapped-to (part_upload file) p parts among),
      (part-brings file s p sound o (moved.of_parts p among) e).1 in-part,
    )
    | inr (u, among, brings) ↦ (u, member-right u (map (part_upload file) parts) others among, brings)
  ])),
)
