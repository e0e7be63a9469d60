-- A bill of what was asked of a book, one question behind another.
use Rattle.std.proofs.Common.{◌≡◌, ℕ, ◌+◌, ◌*◌, ◌≤◌, List, length, ℤ, Ok, sym, subst, ◌∙◌, arith}
use Rattle.pw_time.specs.declared.instant.TheConstants.{END_SECOND}
use Rattle.pw_tariff.specs.declared.ids.AccountId.{AccountId}
use Rattle.pw_tariff.specs.Office.{OfficeFile, office_of}
use Rattle.pw_model.specs.declared.records.Entry.{Entry}
use Rattle.pw_model.specs.Office.{AllOfOffice, most_records}
use Rattle.pw_model.specs.Payments.{balance}
use Rattle.pw_model.specs.Shelf.{ShelfContent}
use Rattle.pw_shelf.specs.declared.shelf.Shelf.{Ghosts}
use Rattle.pw_book.specs.Questions.{IsQuestion}
use Rattle.pw_book.specs.declared.book.Book.{Book}
use Rattle.pw_bills.specs.declared.billed.Bill.{Bill}
use Rattle.pw_bills.specs.declared.energies.Energies.{Energies}
use Rattle.pw_bills.specs.declared.payments.TopUpRow.{TopUpRow}
use Rattle.pw_bills.specs.Billed.{AreEnoughForBill, TellsBill}
use Rattle.pw_bills.specs.Payments.{AreEnoughForTopUps, AreTopUpRows}
use Rattle.pw_bills.specs.Reads.{AreEnoughFor, all_meters}
use Rattle.pw_bills.specs.inner.Settling.{TellsFlows}

pub bill-there : (file second third : OfficeFile) (c d e : ShelfContent) (a : AccountId) (from to : ℕ) (nano : ℤ) (rows lent : List TopUpRow) (energies : Energies) (told : Bill) → second ≡ file → third ≡ file → d ≡ c → e ≡ c → lent ≡ rows →
    AllOfOffice (office_of file) c.records → length c.records ≤ most_records → nano ≡ balance (office_of file) c.records a.0 → AreTopUpRows d.records a from END_SECOND rows →
    TellsFlows (office_of second) e.records a from to energies →
    ((s : List Entry) (b : AccountId) → AllOfOffice (office_of third) s → length s ≤ most_records → nano ≡ balance (office_of third) s b.0 → AreTopUpRows s b from END_SECOND lent → TellsFlows (office_of third) s b from to energies → TellsBill (office_of third) s b from to told) →
    TellsBill (office_of file) c.records a from to told
bill-there file second third c d e a from to nano rows lent energies told p q i j l o few b r f settles =
    let R : ShelfContent → Type 0 = λ x. AreTopUpRows x.records a from END_SECOND rows in
    let L : List TopUpRow → Type 0 = λ x. AreTopUpRows c.records a from END_SECOND x in
    let F : OfficeFile → Type 0 = λ x. TellsFlows (office_of x) e.records a from to energies in
    let G : ShelfContent → Type 0 = λ x. TellsFlows (office_of file) x.records a from to energies in
    let B : OfficeFile → Type 0 = λ x. AllOfOffice (office_of x) c.records → length c.records ≤ most_records → nano ≡ balance (office_of x) c.records a.0 → AreTopUpRows c.records a from END_SECOND lent → TellsFlows (office_of x) c.records a from to energies → TellsBill (office_of x) c.records a from to told in
    subst B q (settles c.records a) o few b (subst L (sym l) (subst R i r)) (subst G j (subst F p f))

-- ---- how much is read
pub top-ups_there : (c d : ShelfContent) (a : AccountId) (from to most : ℕ) → d ≡ c → AreEnoughForTopUps c.records a from to most → AreEnoughForTopUps d.records a from to most
top-ups_there c d a from to most q h = let P : ShelfContent → Type 0 = λ x. AreEnoughForTopUps x.records a from to most in subst P (sym q) h

flows-there : (file second : OfficeFile) (c d : ShelfContent) (a from was now : ℕ) (each : ℕ → ℕ) → second ≡ file → d ≡ c →
    ((most : ℕ → ℕ) → AreEnoughFor (office_of second) d a from END_SECOND most → now ≤ was + all_meters (office_of second) most) → AreEnoughFor (office_of file) c a from END_SECOND each →
    now ≤ was + all_meters (office_of file) each
flows-there file second c d a from was now each p q f h =
    let P : OfficeFile → Type 0 = λ x. (most : ℕ → ℕ) → AreEnoughFor (office_of x) d a from END_SECOND most → now ≤ was + all_meters (office_of x) most in
    let Q : ShelfContent → Type 0 = λ x. AreEnoughFor (office_of file) x a from END_SECOND each in
    subst P p f each (subst Q (sym q) h)

pub two-read : (first x y most was mid now : ℕ) → first + x + y ≤ most → mid ≤ was + first → now ≤ mid + x → now ≤ was + most
two-read first x y most was mid now e a b = omega (arith, e, a, b)

-- those of the balance, of the top-ups, and of what flows
pub bill-read : {S T U : Type 0} (shelf : Ghosts S) (x : T) (y : U) (b second third : Book S shelf) (a : AccountId) (from most now : ℕ) → AreEnoughForBill (office_of b.office) (shelf.state b.shelf).content a from most →
    shelf.clean third.shelf → IsQuestion shelf {T = T} (Ok x) b second → IsQuestion shelf {T = U} (Ok y) second third →
    (shelf.state second.shelf).tally ≤ (shelf.state b.shelf).tally + 2 * (2 * ((office_of b.office).periods * (office_of b.office).bands) + 1) →
    (shelf.clean third.shelf → (n : ℕ) → AreEnoughForTopUps (shelf.state second.shelf).content.records a from END_SECOND n → (shelf.state third.shelf).tally ≤ (shelf.state second.shelf).tally + n) →
    ((each : ℕ → ℕ) → AreEnoughFor (office_of third.office) (shelf.state third.shelf).content a.0 from END_SECOND each → now ≤ (shelf.state third.shelf).tally + all_meters (office_of third.office) each) →
    now ≤ (shelf.state b.shelf).tally + most
bill-read shelf x y b second third a from most now h k f g balanced topped flowed =
    let same = f.asked.content (g.asked.kept.clean k) in
    let top_ups = topped k h.top_ups (top-ups_there (shelf.state b.shelf).content (shelf.state second.shelf).content a from END_SECOND h.top_ups same h.few) in
    let flows = flows-there b.office third.office (shelf.state b.shelf).content (shelf.state third.shelf).content a.0 from (shelf.state third.shelf).tally now h.each (g.office ∙ f.office) (g.asked.content k ∙ same) flowed h.few_each in
    let enough = h.enough in
    omega (arith, enough, balanced, top_ups, flows)
