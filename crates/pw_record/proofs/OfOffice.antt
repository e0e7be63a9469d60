-- What rows give is of the office.
use Rattle.std.proofs.Common.{◌≡◌, ℕ, ◌<◌, Option, Some, None, option_map, slice_get, List, [], ◌∷◌, length, sym, ap, subst, ◌∙◌, ⊎_elim, Ok}
use Rattle.std.proofs.lemmas.Option.{slice_get_within, slice_get_cases, none-some}
use Rattle.pw_tariff.specs.declared.ids.AccountId.{AccountId}
use Rattle.pw_tariff.specs.Office.{OfficeFile, MeterText, office_of}
use Rattle.pw_time.specs.Instants.{IsInstant}
use Rattle.pw_time.specs.Outcomes.{IsUtcOutcome}
use Rattle.pw_model.specs.declared.records.Key.TheVariants as key
use Rattle.pw_model.specs.declared.records.Named.{Named}
use Rattle.pw_model.specs.declared.records.Named.TheVariants as named
use Rattle.pw_model.specs.declared.records.Content.TheVariants as content
use Rattle.pw_model.specs.declared.records.Entry.{Entry}
use Rattle.pw_model.specs.Counting.{Member, assignment_key, named_entry}
use Rattle.pw_model.specs.Lists.{reading_entry}
use Rattle.pw_model.specs.Office.{IsNamedOf, IsOfOffice, AllOfOffice, HasOwner}
use Rattle.pw_record.specs.declared.row.RowKind.{RowKind}
use Rattle.pw_record.specs.declared.row.RowKind.TheVariants.{Assignment, TopUp, Withdrawal}
use Rattle.pw_record.specs.declared.row.NamedKind.{NamedKind}
use Rattle.pw_record.specs.declared.row.NamedKind.TheVariants as of
use Rattle.pw_record.specs.Listed.{AreListed}
use Rattle.pw_record.specs.Names.{IsOwner}
use Rattle.pw_record.specs.Row.{Row, GivesAssignment, GivesTopUp, GivesReading, GivesNamed, GivesEntry}
use Rattle.pw_record.proofs.ElevenDigits.{few-watt_hours}
use Rattle.pw_record.specs.Rows.{GiveEntries}

-- what a place has lies in the list
pub within : {X Y : Type 0} (f : X → Y) (xs : List X) (i : ℕ) (y : Y) → option_map f (slice_get xs i) ≡ Some y → i < length xs
within {X} {Y} f xs i y e = ⊎_elim
    (λ x. x.1)
    (λ n. absurd (none-some y (sym (ap (option_map f) n.1) ∙ e)))
    (slice_get_cases xs i).1

pub utc-instant : (text : List ℕ) (t : ℕ) → IsUtcOutcome text (Ok t) → IsInstant t
utc-instant text t x = x.2.2

owner-of : (file : OfficeFile) (name : List ℕ) (owner : Option AccountId) → IsOwner file name owner → HasOwner (office_of file) owner
owner-of file name None x = tt
owner-of file name (Some account) x = slice_get_within file.accounts account.0 name x.1

pub given-by : (file : OfficeFile) (e f : Entry) → e ≡ f → IsOfOffice (office_of file) f → IsOfOffice (office_of file) e
given-by file e f i x = subst (IsOfOffice (office_of file)) (sym i) x

reading-of : (file : OfficeFile) (row : Row) (e : Entry) → GivesReading file row e → IsOfOffice (office_of file) e
reading-of file row e x =
    given-by file e (reading_entry x.meter x.register x.instant x.wh) x.entry_is
    (within (λ (m : MeterText). m.id) file.meters x.meter x.id x.meter_is, x.register_is.1, utc-instant x.when x.instant x.instant_is, few-watt_hours x.amount x.wh x.wh_are)

assignment-of : (file : OfficeFile) (row : Row) (e : Entry) → GivesAssignment file row e → IsOfOffice (office_of file) e
assignment-of file row e x =
    given-by file e (record { key = assignment_key x.meter x.instant; content = content.Assignment x.owner }) x.entry_is
    (within (λ (m : MeterText). m.id) file.meters x.meter x.id x.meter_is, utc-instant x.start x.instant x.start_is, owner-of file x.account x.owner x.owner_is)

top_up-of : (file : OfficeFile) (row : Row) (e : Entry) → GivesTopUp file row e → IsOfOffice (office_of file) e
top_up-of file row e x =
    given-by file e (record { key = key.TopUp x.reference; content = content.TopUp (record { 0 = x.account }) x.cents x.instant }) x.entry_is
    (x.reference_is, slice_get_within file.accounts x.account x.name x.account_is, x.cents_are.least, x.cents_are.most, utc-instant x.when x.instant x.instant_is)

named-of : (file : OfficeFile) (kind : NamedKind) (fields : Row) (e : Entry) → GivesNamed file kind fields e → IsOfOffice (office_of file) e
named-of file of.Reading fields e x = reading-of file fields e x
named-of file of.Assignment fields e x = assignment-of file fields e x
named-of file of.TopUp fields e x = top_up-of file fields e x

-- a record of the office has a name of the office
name-of : (file : OfficeFile) (n : Named) → IsOfOffice (office_of file) (named_entry n) → IsNamedOf (office_of file) n
name-of file (named.Reading m r t w) x = x
name-of file (named.Assignment m t o) x = x
name-of file (named.TopUp r a c t) x = x

pub of-office : (file : OfficeFile) (kind : RowKind) (row : Row) (e : Entry) → GivesEntry file kind row e → IsOfOffice (office_of file) e
of-office file Assignment row e x = assignment-of file row e x
of-office file TopUp row e x = top_up-of file row e x
of-office file Withdrawal row e x =
    given-by file e (record { key = key.Withdrawal x.named; content = content.Withdrawal }) x.entry_is
    (name-of file x.named (named-of file x.kind x.fields (named_entry x.named) x.named_is))

pub all-of-office : (file : OfficeFile) (kind : RowKind) (rows : List Row) (given : List Entry) → GiveEntries file kind rows given → AllOfOffice (office_of file) given
all-of-office file kind [] given x e m = absurd (subst (Member e) x m)
all-of-office file kind (row ∷ rows) [] x e m = absurd x
all-of-office file kind (row ∷ rows) (g ∷ given) x e m = ⊎_elim
    (λ (i : e ≡ g). given-by file e g i (of-office file kind row g x.0))
    (λ (n : Member e given). all-of-office file kind rows given x.1 e n)
    m

pub listed-of-office : (file : OfficeFile) (given listed : List Entry) → AreListed given listed → AllOfOffice (office_of file) given → AllOfOffice (office_of file) listed
listed-of-office file given listed l a e m = a e ((l.same e).1 m)
