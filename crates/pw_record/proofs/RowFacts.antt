-- One record more of a body of rows.
use Rattle.std.proofs.Common.{◌≡◌, ℕ, List, [], ◌∷◌, ◌++◌, length, refl, sym, subst, ◌∙◌, ⊎_elim, arith}
use Rattle.std.proofs.lemmas.List.{length-append}
use Rattle.pw_tariff.specs.Office.{OfficeFile, office_of}
use Rattle.pw_model.specs.declared.records.Entry.{Entry}
use Rattle.pw_model.specs.Office.{AllOfOffice}
use Rattle.pw_model.specs.Counting.{Member}
use Rattle.pw_record.specs.declared.row.RowKind.{RowKind}
use Rattle.pw_record.specs.Listed.{AreListed}
use Rattle.pw_record.specs.Row.{Row, GivesEntry}
use Rattle.pw_record.specs.Rows.{AreRows, GiveEntries, AreGoodRecords, RowsGive}
use Rattle.pw_record.specs.inner.Steps.{TakesRecord}
use Rattle.pw_record.proofs.OfOffice.{all-of-office}

give-more : (file : OfficeFile) (kind : RowKind) (rows : List Row) (row : Row) (given : List Entry) (e : Entry) → GiveEntries file kind rows given → GivesEntry file kind row e
    → GiveEntries file kind (rows ++ row ∷ []) (given ++ e ∷ [])
give-more file kind [] row [] e x y = (y, refl)
give-more file kind [] row (g ∷ given) e x y = absurd (let z : g ∷ given ≡ [] = x in cc)
give-more file kind (r ∷ rows) row [] e x y = absurd x
give-more file kind (r ∷ rows) row (g ∷ given) e x y = (x.0, give-more file kind rows row given e x.1 y)

pub good-more : (file : OfficeFile) (kind : RowKind) (records : List Row) (row : Row) (part : ℕ) (old new : List Entry) → part ≡ length records → AreGoodRecords file kind records old
    → TakesRecord file kind part row old new → AreGoodRecords file kind (records ++ row ∷ []) new
good-more file kind [] row part old new p g t = ⊎_elim
    (λ h. (h.1, omega arith, h.2 ∙ g))
    (λ h. absurd (omega (arith, h.0, p)))
    t
good-more file kind (header ∷ rows) row part old new p g t = ⊎_elim
    (λ h. absurd (omega (arith, h.0, p)))
    (λ h. (
      g.0,
      omega (arith, h.1, p, length-append rows (row ∷ [])),
      subst (GiveEntries file kind (rows ++ row ∷ [])) (sym h.2.2) (give-more file kind rows row old h.2.0 g.2 h.2.1),
    ))
    t

pub good-of-office : (file : OfficeFile) (kind : RowKind) (records : List Row) (given : List Entry) → AreGoodRecords file kind records given → AllOfOffice (office_of file) given
good-of-office file kind [] given g e m = absurd (subst (Member e) g m)
good-of-office file kind (header ∷ rows) given g e m = all-of-office file kind rows given g.2 e m

pub rows-give : (file : OfficeFile) (kind : RowKind) (body : List ℕ) (records : List Row) (given listed : List Entry) → (length records ≡ 0 → ⊥) → AreRows body records
    → AreGoodRecords file kind records given → AreListed given listed → RowsGive file kind body listed
rows-give file kind body [] given listed n r g l = absurd (n refl)
rows-give file kind body (header ∷ rows) given listed n r g l =
    let P : Row → Type 0 = λ h. AreRows body (h ∷ rows) in
    record { rows = rows; given = given; body_is = subst P g.0 r; few = g.1; each = g.2; listed = l }

pub no-rows : (body : List ℕ) (records : List Row) → length records ≡ 0 → AreRows body records → AreRows body []
no-rows body [] n r = r
no-rows body (h ∷ t) n r = absurd (omega (arith, n))
