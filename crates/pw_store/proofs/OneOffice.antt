-- A store that was opened for a text is one for the office of that text, since a text has one office alone.
use Rattle.std.proofs.Common.{◌≡◌, sym, subst, ℕ, List, Result, Ok}
use Rattle.pw_tariff.specs.Office.{OfficeFile, office_of}
use Rattle.pw_tariff.specs.Text.{IsOfficeOf}
use Rattle.pw_tariff.proofs.Answered.{one-answer}
use Rattle.pw_model.specs.Office.{AllOfOffice}
use Rattle.pw_model.specs.Shelf.{ShelfContent, IsTrueContent}
use Rattle.pw_model.specs.declared.records.Entry.{Entry}
use Rattle.sqlite.specs.Effect.{Database}
use Rattle.pw_store.specs.Opening.{IsFound}

same-ok : {A B : Type 0} (x y : A) (answer : Result A B) → answer ≡ Ok x → answer ≡ Ok y → x ≡ y
same-ok x y answer e f = cc

pub one-office : (text : List ℕ) (a b : OfficeFile) → IsOfficeOf text a → IsOfficeOf text b → a ≡ b
one-office text a b h k =
    let one = one-answer text in
    same-ok a b one.answer (sym (one.only (Ok a) h)) (sym (one.only (Ok b) k))

pub opened-of-office : (text : List ℕ) (office : OfficeFile) (records : List Entry) → IsOfficeOf text office →
    (other : OfficeFile) × IsOfficeOf text other × AllOfOffice (office_of other) records → AllOfOffice (office_of office) records
opened-of-office text office records h (other, k, all) =
    subst (λ o. AllOfOffice (office_of o) records) (one-office text other office k h) all

pub opened-true : (text : List ℕ) (office : OfficeFile) (content : ShelfContent) → IsOfficeOf text office →
    (other : OfficeFile) × IsOfficeOf text other × IsTrueContent (office_of other) content → IsTrueContent (office_of office) content
opened-true text office content h (other, k, truth) =
    subst (λ o. IsTrueContent (office_of o) content) (one-office text other office k h) truth

pub opened-found : (text : List ℕ) (office : OfficeFile) (found : Database) (content : ShelfContent) → IsOfficeOf text office →
    (other : OfficeFile) × IsOfficeOf text other × IsFound (office_of other) found content → IsFound (office_of office) found content
opened-found text office found content h (other, k, it) =
    subst (λ o. IsFound (office_of o) found content) (one-office text other office k h) it
