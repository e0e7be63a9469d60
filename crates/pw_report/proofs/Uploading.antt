-- What was exported of records is an upload of them.
use Rattle.std.proofs.Common.{◌≡◌, ◌∙◌, ℕ, ◌≤◌, ◌<◌, suc, ◌^◌, ◌∷◌, ◌++◌, [], List, true, false, subst, Option, Some, None, Ok, length, get_or, map, ap, sym, refl, inl, inr, arith}
use Rattle.std.proofs.lemmas.Fmt.{decimal_is_IsNumeral, decimal_nonempty, length-decimal-le}
use Rattle.std.proofs.lemmas.List.Elements.{All-get_or}
use Rattle.std.proofs.lemmas.Option.{slice_get_cases, unwrap_or-slice_get}
use Rattle.std.specs.Prelude.{decimal, slice_get, option_map, unwrap_or}
use Rattle.std.specs.List.{flat_map}
use Rattle.csv.specs.Machine.{next_record}
use Rattle.csv.specs.Reading.{AreRecords, Reached, default_config, strip_bom}
use Rattle.csv.specs.Writing.{default_writer, read_back, row_text}
use Rattle.csv.specs.declared.parser.State.TheVariants as st
use Rattle.csv.proofs.RoundTrip.{read-write}
use Rattle.pw_time.specs.Instants.{IsInstant}
use Rattle.pw_time.specs.Outcomes.{IsUtcOutcome}
use Rattle.pw_time.proofs.WrittenDays.{written_text}
use Rattle.pw_tariff.specs.declared.ids.AccountId.{AccountId}
use Rattle.pw_tariff.specs.declared.limits.TheConstants.{LONGEST_ACCOUNT_NAME}
use Rattle.pw_tariff.specs.Office.{IsSound, OfficeFile, office_of}
use Rattle.pw_tariff.specs.Words.{is_name, register_named}
use Rattle.pw_tariff.specs.declared.ids.MeterId.{MeterId}
use Rattle.pw_obis.specs.declared.energy.TheConstants.{LARGEST_WATT_HOURS}
use Rattle.pw_obis.specs.declared.reference.Register.{Register}
use Rattle.pw_obis.specs.declared.reference.Register.TheVariants.{I0, I1, I2, E0, E1, E2}
use Rattle.pw_obis.specs.Registers.{register_name}
use Rattle.pw_model.specs.declared.records.Key.{Key}
use Rattle.pw_model.specs.declared.records.Key.TheVariants as key
use Rattle.pw_model.specs.declared.records.Content.{Content}
use Rattle.pw_model.specs.declared.records.Content.TheVariants as content
use Rattle.pw_model.specs.declared.records.Entry.{Entry}
use Rattle.pw_model.specs.declared.records.Named.{Named}
use Rattle.pw_model.specs.declared.records.Named.TheVariants as named
use Rattle.pw_model.specs.Counting.{Member}
use Rattle.pw_model.specs.Office.{AllOfOffice, HasOwner, IsNamedOf, IsOf, most_cents}
use Rattle.pw_record.specs.declared.row.RowKind.{RowKind}
use Rattle.pw_record.specs.declared.row.RowKind.TheVariants.{Assignment, TopUp, Withdrawal}
use Rattle.pw_record.specs.Cents.{IsCents}
use Rattle.pw_record.specs.Names.{HasId, HasName, IsOwner}
use Rattle.pw_record.specs.WattHours.{IsWattHours}
use Rattle.pw_record.specs.declared.row.NamedKind.TheVariants as of
use Rattle.pw_record.specs.Row.{GivesAssignment, GivesEntry, GivesReading, GivesTopUp, GivesWithdrawal, Row, header_of}
use Rattle.pw_record.specs.Rows.{AreRows, GiveEntries}
use Rattle.pw_report.specs.Exports.{assignment_fields, csv_line, given_name, record_fields, record_line, records_text, topup_fields, withdrawal_fields}
use Rattle.pw_report.specs.Laws.{ExportsAreUploads}
use Rattle.pw_report.specs.Layout.{instant_text}
use Rattle.pw_report.specs.Names.{account_name, meter_name}
use Rattle.pw_report.specs.Pages.{IsOfRow}

-- ---- names
there : {X : Type 0} (o : Option X) (x d : X) → o ≡ Some x → o ≡ Some (unwrap_or o d)
there None x d h = cc
there (Some y) x d h = refl

has-id : (file : OfficeFile) (m : ℕ) → m < length file.meters → HasId file (meter_name file m) m
has-id file m l = elim (slice_get_cases file.meters m).1 [
  | inl c ↦ there (option_map (λ t. t.id) (slice_get file.meters m)) c.0.id [] (ap (option_map (λ t. t.id)) c.2)
  | inr c ↦ absurd (let k = c.0 in omega (arith, l, k))
]

has-name : (file : OfficeFile) (a : ℕ) → a < length file.accounts → HasName file (account_name file a) a
has-name file a l = elim (slice_get_cases file.accounts a).1 [
  | inl c ↦ there (slice_get file.accounts a) c.0 [] c.2
  | inr c ↦ absurd (let k = c.0 in omega (arith, l, k))
]

instant-read : (t : ℕ) → IsInstant t → IsUtcOutcome (instant_text t) (Ok t)
unfolding instant_text
instant-read t h = written_text t h

watt_hours-read : (w : ℕ) → w ≤ LARGEST_WATT_HOURS → IsWattHours (decimal w) w
watt_hours-read w m =
    let wide : w < 2 ^ 64 = omega (arith, m) in
    record {
      some = decimal_nonempty w wide;
      few = length-decimal-le 11 w (omega arith) (omega (arith, m)) wide;
      digits = (decimal_is_IsNumeral w wide).0.1;
      value = sym (decimal_is_IsNumeral w wide).1;
    }

cents-read : (c : ℕ) → 1 ≤ c → c ≤ most_cents → IsCents (decimal c) c
cents-read c l m =
    let read = watt_hours-read c (omega (arith, m)) in
    record { some = read.some; few = length-decimal-le 9 c (omega arith) (omega (arith, m)) (omega (arith, m)); digits = read.digits; value = read.value; least = l; most = m }

-- an account's name isn't empty
not-empty : (file : OfficeFile) → IsSound file → (a : ℕ) → a < length file.accounts → account_name file a ≡ [] → ⊥
not-empty file s a l e =
    let is : is_name LONGEST_ACCOUNT_NAME (get_or file.accounts a []) ≡ true = All-get_or (λ name. is_name LONGEST_ACCOUNT_NAME name ≡ true) file.accounts a [] l s.written.accounts in
    let none : get_or file.accounts a [] ≡ [] = sym (unwrap_or-slice_get file.accounts a []) ∙ e in
    let f : false ≡ true = sym (ap (is_name LONGEST_ACCOUNT_NAME) none) ∙ is in
    cc

-- ---- a record's row gives the record
owner-read : (file : OfficeFile) → IsSound file → (o : Option AccountId) → HasOwner (office_of file) o → IsOwner file (given_name file o) o
owner-read file s None h = refl
owner-read file s (Some a) h = (not-empty file s a.0 h, has-name file a.0 h)

-- of an assignment, in a row of its own or in one that withdraws it
gives-assignment : (file : OfficeFile) → IsSound file → (m : MeterId) (t : ℕ) (o : Option AccountId) → IsNamedOf (office_of file) (named.Assignment m t o) →
    GivesAssignment file (assignment_fields file m t o) (record { key = key.Assignment m t; content = content.Assignment o })
gives-assignment file s m t o h = record {
  id = meter_name file m.0;
  start = instant_text t;
  account = given_name file o;
  meter = m.0;
  instant = t;
  owner = o;
  row_is = refl;
  meter_is = has-id file m.0 h.0;
  start_is = instant-read t h.1;
  owner_is = owner-read file s o h.2;
  entry_is = refl;
}

-- of a top-up
gives-topup : (file : OfficeFile) (r : List ℕ) (a : AccountId) (c t : ℕ) → IsNamedOf (office_of file) (named.TopUp r a c t) →
    GivesTopUp file (topup_fields file r a c t) (record { key = key.TopUp r; content = content.TopUp a c t })
gives-topup file r a c t h = record {
  reference = r;
  name = account_name file a.0;
  amount = decimal c;
  when = instant_text t;
  account = a.0;
  cents = c;
  instant = t;
  row_is = refl;
  reference_is = h.0;
  account_is = has-name file a.0 h.1;
  cents_are = cents-read c h.2 h.3;
  instant_is = instant-read t h.4;
  entry_is = refl;
}

-- of a reading, in a row that withdraws it
register-read : (r : Register) → register_named (register_name r) ≡ Some r
register-read I0 = refl
register-read I1 = refl
register-read I2 = refl
register-read E0 = refl
register-read E1 = refl
register-read E2 = refl

gives-reading : (file : OfficeFile) (m : MeterId) (r : Register) (t w : ℕ) → IsNamedOf (office_of file) (named.Reading m r t w) →
    GivesReading file (meter_name file m.0 ∷ register_name r ∷ instant_text t ∷ decimal w ∷ []) (record { key = key.Reading m r t; content = content.Reading w })
gives-reading file m r t w h = record {
  id = meter_name file m.0;
  name = register_name r;
  when = instant_text t;
  amount = decimal w;
  meter = m.0;
  register = r;
  instant = t;
  wh = w;
  row_is = refl;
  meter_is = has-id file m.0 h.0;
  register_is = (register-read r, h.1);
  instant_is = instant-read t h.2;
  wh_are = watt_hours-read w h.3;
  entry_is = refl;
}

-- of a withdrawal
gives-withdrawal : (file : OfficeFile) → IsSound file → (n : Named) → IsNamedOf (office_of file) n → GivesWithdrawal file (withdrawal_fields file n) (record { key = key.Withdrawal n; content = content.Withdrawal })
gives-withdrawal file s (named.Reading m r t w) h = record { kind = of.Reading; fields = _; named = named.Reading m r t w; row_is = refl; named_is = gives-reading file m r t w h; entry_is = refl }
gives-withdrawal file s (named.Assignment m t o) h = record { kind = of.Assignment; fields = _; named = named.Assignment m t o; row_is = refl; named_is = gives-assignment file s m t o h; entry_is = refl }
gives-withdrawal file s (named.TopUp r a c t) h = record { kind = of.TopUp; fields = _; named = named.TopUp r a c t; row_is = refl; named_is = gives-topup file r a c t h; entry_is = refl }

pub row-gives : (file : OfficeFile) → IsSound file → (kind : RowKind) (k : Key) (c : Content) → IsOf (office_of file) k c → IsOfRow kind k →
    GivesEntry file kind (record_fields file k c) (record { key = k; content = c })
row-gives file s Assignment (key.Assignment m t) (content.Assignment o) h i = gives-assignment file s m t o h
row-gives file s TopUp (key.TopUp r) (content.TopUp a c t) h i = gives-topup file r a c t h
row-gives file s Withdrawal (key.Withdrawal n) content.Withdrawal h i = gives-withdrawal file s n h
row-gives file s Assignment (key.Reading m r t) c h i = absurd i
row-gives file s Assignment (key.TopUp r) c h i = absurd i
row-gives file s Assignment (key.Withdrawal n) c h i = absurd i
row-gives file s Assignment (key.Assignment m t) (content.Reading w) h i = absurd h
row-gives file s Assignment (key.Assignment m t) (content.TopUp a c u) h i = absurd h
row-gives file s Assignment (key.Assignment m t) content.Withdrawal h i = absurd h
row-gives file s TopUp (key.Reading m r t) c h i = absurd i
row-gives file s TopUp (key.Assignment m t) c h i = absurd i
row-gives file s TopUp (key.Withdrawal n) c h i = absurd i
row-gives file s TopUp (key.TopUp r) (content.Reading w) h i = absurd h
row-gives file s TopUp (key.TopUp r) (content.Assignment o) h i = absurd h
row-gives file s TopUp (key.TopUp r) content.Withdrawal h i = absurd h
row-gives file s Withdrawal (key.Reading m r t) c h i = absurd i
row-gives file s Withdrawal (key.Assignment m t) c h i = absurd i
row-gives file s Withdrawal (key.TopUp r) c h i = absurd i
row-gives file s Withdrawal (key.Withdrawal n) (content.Reading w) h i = absurd h
row-gives file s Withdrawal (key.Withdrawal n) (content.Assignment o) h i = absurd h
row-gives file s Withdrawal (key.Withdrawal n) (content.TopUp a c t) h i = absurd h

-- ---- the rows of records
abbrev rows_of : OfficeFile → List Entry → List Row
rows_of file records = map (λ e. record_fields file e.key e.content) records

rows-give : (file : OfficeFile) → IsSound file → (kind : RowKind) (records : List Entry) → AllOfOffice (office_of file) records → ((e : Entry) → Member e records → IsOfRow kind e.key) →
    GiveEntries file kind (rows_of file records) records
rows-give file s kind [] o k = refl
rows-give file s kind (e ∷ records) o k =
    (row-gives file s kind e.key e.content (o e (inl refl)) (k e (inl refl)), rows-give file s kind records (λ f m. o f (inr m)) (λ f m. k f (inr m)))

rows-many : (file : OfficeFile) (records : List Entry) → length (rows_of file records) ≡ length records
rows-many file [] = refl
rows-many file (e ∷ records) = ap suc (rows-many file records)

-- ---- they are read back as they were written
-- no row is without a field
fields-back : (file : OfficeFile) (kind : RowKind) (k : Key) (c : Content) → IsOf (office_of file) k c → IsOfRow kind k → read_back (record_fields file k c) ≡ record_fields file k c
fields-back file kind (key.Assignment m t) (content.Assignment o) h i = refl
fields-back file kind (key.TopUp r) (content.TopUp a c t) h i = refl
fields-back file kind (key.Withdrawal (named.Reading m r t w)) content.Withdrawal h i = refl
fields-back file kind (key.Withdrawal (named.Assignment m t o)) content.Withdrawal h i = refl
fields-back file kind (key.Withdrawal (named.TopUp r a c t)) content.Withdrawal h i = refl
fields-back file Assignment (key.Reading m r t) c h i = absurd i
fields-back file TopUp (key.Reading m r t) c h i = absurd i
fields-back file Withdrawal (key.Reading m r t) c h i = absurd i
fields-back file kind (key.Assignment m t) (content.Reading w) h i = absurd h
fields-back file kind (key.Assignment m t) (content.TopUp a c u) h i = absurd h
fields-back file kind (key.TopUp r) (content.Reading w) h i = absurd h
fields-back file kind (key.TopUp r) (content.Assignment o) h i = absurd h
fields-back file kind (key.Withdrawal n) (content.Reading w) h i = absurd h
fields-back file kind (key.Withdrawal n) (content.Assignment o) h i = absurd h
fields-back file kind (key.Withdrawal n) (content.TopUp a c t) h i = absurd h
fields-back file kind (key.Assignment m t) content.Withdrawal h i = absurd h
fields-back file kind (key.TopUp r) content.Withdrawal h i = absurd h

rows-reached : (file : OfficeFile) (kind : RowKind) (records : List Entry) → AllOfOffice (office_of file) records → ((e : Entry) → Member e records → IsOfRow kind e.key) →
    Reached default_config st.StartRecord (flat_map (record_line file) records) (rows_of file records) st.StartRecord []
unfolding Reached csv_line
rows-reached file kind [] o k = (refl, refl)
rows-reached file kind (e ∷ records) o k =
    let fields = record_fields file e.key e.content in
    let rest = flat_map (record_line file) records in
    ((read_back fields, st.StartRecord, rest), read-write fields rest, sym (fields-back file kind e.key e.content (o e (inl refl)) (k e (inl refl))), rows-reached file kind records (λ f m. o f (inr m)) (λ f m. k f (inr m)))

-- ---- the header first
header-back : (kind : RowKind) → read_back (header_of kind) ≡ header_of kind
header-back Assignment = refl
header-back TopUp = refl
header-back Withdrawal = refl

no-mark : (file : OfficeFile) (kind : RowKind) (records : List Entry) → strip_bom (records_text file kind records) ≡ row_text default_writer (header_of kind) ++ flat_map (record_line file) records
unfolding strip_bom records_text csv_line
no-mark file Assignment records = refl
no-mark file TopUp records = refl
no-mark file Withdrawal records = refl

whole-reached : (file : OfficeFile) (kind : RowKind) (records : List Entry) → AllOfOffice (office_of file) records → ((e : Entry) → Member e records → IsOfRow kind e.key) →
    Reached default_config st.StartRecord (row_text default_writer (header_of kind) ++ flat_map (record_line file) records) (header_of kind ∷ rows_of file records) st.StartRecord []
unfolding Reached
whole-reached file kind records o k =
    let rest = flat_map (record_line file) records in
    ((read_back (header_of kind), st.StartRecord, rest), read-write (header_of kind) rest, sym (header-back kind), rows-reached file kind records o k)

-- nothing is left behind the last record
none-left : next_record default_config st.StartRecord [] [] [] ≡ None
unfolding next_record
none-left = refl

are-rows : (file : OfficeFile) (kind : RowKind) (records : List Entry) → AllOfOffice (office_of file) records → ((e : Entry) → Member e records → IsOfRow kind e.key) →
    AreRows (records_text file kind records) (header_of kind ∷ rows_of file records)
are-rows file kind records o k =
    let P : List ℕ → Type 0 = λ text. AreRecords default_config st.StartRecord text (header_of kind ∷ rows_of file records) in
    subst P (sym (no-mark file kind records)) (st.StartRecord, [], whole-reached file kind records o k, none-left)

pub exports-are-uploads : ExportsAreUploads
exports-are-uploads file kind records entries s o k few listed = record {
  rows = rows_of file records;
  given = records;
  body_is = are-rows file kind records o k;
  few = (let n = rows-many file records in omega (arith, n, few));
  each = rows-give file s kind records o k;
  listed = listed;
}
