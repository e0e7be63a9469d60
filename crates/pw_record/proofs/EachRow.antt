-- A row gives an entry, or is refused for its content.
use Rattle.std.proofs.Common.{◌≡◌, ℕ, zero, suc, ◌≤◌, ◌⊎◌, inl, inr, Bool, true, Option, Some, None, option_map, List, [], ◌∷◌, length, slice_get, refl, sym, ap, subst, ◌∙◌, arith}
use Rattle.std.specs.List.{AllPass}
use Rattle.std.specs.Char.{digit_value}
use Rattle.std.specs.Str.Parse.{AllDigits, digits_value}
use Rattle.std.proofs.lemmas.Bool.{cases_Bool, true≢false}
use Rattle.std.proofs.lemmas.Option.{none-some, same_Some}
use Rattle.pw_tariff.specs.declared.ids.AccountId.{AccountId}
use Rattle.pw_obis.specs.declared.reference.Register.{Register}
use Rattle.pw_obis.specs.declared.value.ValueFault.TheVariants.{Digits}
use Rattle.pw_tariff.specs.Office.{OfficeFile, MeterText, counts_at}
use Rattle.pw_tariff.specs.Words.{register_named}
use Rattle.pw_time.proofs.Deciding.{both, three, below-known, most-known, text-known}
use Rattle.pw_time.proofs.EachUtc.{utc-there_is}
use Rattle.pw_model.specs.declared.records.Key.TheVariants as key
use Rattle.pw_model.specs.declared.records.Content.TheVariants as content
use Rattle.pw_model.specs.declared.records.Named.{Named}
use Rattle.pw_model.specs.declared.records.Named.TheVariants as named
use Rattle.pw_model.specs.declared.records.Entry.{Entry}
use Rattle.pw_model.specs.Counting.{assignment_key, named_entry}
use Rattle.pw_model.specs.Office.{most_cents}
use Rattle.pw_model.specs.References.{is_reference_byte, IsReference}
use Rattle.pw_record.specs.declared.fault.Cause.{Cause}
use Rattle.pw_record.specs.declared.fault.Cause.TheVariants.{Instant, Value, UnknownMeter, UnknownAccount, CsvForm, Cents, Reference, Kind, RegisterName, Memory}
use Rattle.pw_record.specs.declared.row.RowKind.{RowKind}
use Rattle.pw_record.specs.declared.row.RowKind.TheVariants.{Assignment, TopUp, Withdrawal}
use Rattle.pw_record.specs.declared.row.NamedKind.{NamedKind}
use Rattle.pw_record.specs.declared.row.NamedKind.TheVariants as of
use Rattle.pw_record.specs.Names.{HasId, IsUnknownId, HasRegister, IsUnknownRegister, HasName, IsUnknownName, IsOwner, IsUnknownOwner}
use Rattle.pw_record.specs.Cents.{IsCents}
use Rattle.pw_record.specs.WattHours.{IsWattHours}
use Rattle.pw_record.specs.Row.{Row, GivesAssignment, GivesTopUp, RefusesReading, kind_name, GivesNamed, RefusesNamed, HasNoKind, GivesEntry, RefusesRow}
use Rattle.pw_record.proofs.Finding.{place-known}

-- ---- names
mapped : {X : Type 0} (f : X → List ℕ) (o : Option X) (y : List ℕ) → option_map f o ≡ Some y → (x : X) × (o ≡ Some x) × (f x ≡ y)
mapped f None y e = absurd (none-some y e)
mapped f (Some x) y e = (x, refl, same_Some (f x) y e)

pub meter-known : (file : OfficeFile) (id : List ℕ) → ((m : ℕ) × HasId file id m) ⊎ IsUnknownId file id
meter-known file id =
    let named : MeterText → List ℕ = λ m. m.id in
    elim (place-known named file.meters id) [
      | inl h ↦ inl (h.0, ap (option_map named) h.1.1 ∙ ap Some h.1.2)
      | inr n ↦ inr (λ m e. n m (mapped named (slice_get file.meters m) id e))
    ]

account-known : (file : OfficeFile) (name : List ℕ) → ((a : ℕ) × HasName file name a) ⊎ IsUnknownName file name
account-known file name =
    let named : List ℕ → List ℕ = λ a. a in
    elim (place-known named file.accounts name) [
      | inl h ↦ inl (h.0, h.1.1 ∙ ap Some h.1.2)
      | inr n ↦ inr (λ a e. n a (name, e, refl))
    ]

owner-known : (file : OfficeFile) (name : List ℕ) → ((owner : Option AccountId) × IsOwner file name owner) ⊎ IsUnknownOwner file name
owner-known file name =
    elim (text-known name []) [
      | inl e ↦ inl (None, e)
      | inr n ↦ elim (account-known file name) [
        | inl a ↦ inl (Some (record { 0 = a.0 }), (n, a.1))
        | inr m ↦ inr (n, m)
      ]
    ]

-- ---- references and cents
all-more : (p : ℕ → Bool) (x : ℕ) (xs : List ℕ) → p x ≡ true → AllPass p xs → AllPass p (x ∷ xs)
all-more p x xs e a zero d l = e
all-more p x xs e a (suc k) d l = a k d (omega (arith, l))

all-known : (p : ℕ → Bool) (xs : List ℕ) → AllPass p xs ⊎ (AllPass p xs → ⊥)
all-known p [] = inl (λ k d l. absurd (omega (arith, l)))
all-known p (x ∷ xs) =
    elim (cases_Bool (p x)) [
      | inr f ↦ inr (λ a. true≢false (sym (a 0 x (omega arith)) ∙ f))
      | inl t ↦ elim (all-known p xs) [
        | inl a ↦ inl (all-more p x xs t a)
        | inr n ↦ inr (λ a. n (λ k d l. a (suc k) d (omega (arith, l))))
      ]
    ]

reference-known : (text : List ℕ) → IsReference text ⊎ (IsReference text → ⊥)
reference-known text = three (most-known 1 (length text)) (most-known (length text) 32) (all-known is_reference_byte text)

digits-known : (text : List ℕ) → AllDigits 10 text ⊎ (AllDigits 10 text → ⊥)
digits-known [] = inl tt
digits-known (c ∷ cs) = both (below-known (digit_value c) 10) (digits-known cs)

cents-known : (text : List ℕ) → ((cents : ℕ) × IsCents text cents) ⊎ ((cents : ℕ) → IsCents text cents → ⊥)
cents-known text =
    let value : ℕ = digits_value 10 text in
    elim (both (three (most-known 1 (length text)) (most-known (length text) 9) (digits-known text)) (both (most-known 1 value) (most-known value most_cents))) [
      | inl h ↦ inl (value, record { some = h.0.0; few = h.0.1; digits = h.0.2; value = refl; least = h.1.0; most = h.1.1 })
      | inr n ↦ inr (λ cents x. n ((x.some, x.few, x.digits), (subst (λ (c : ℕ). 1 ≤ c) x.value x.least, subst (λ (c : ℕ). c ≤ most_cents) x.value x.most)))
    ]

-- ---- registers and watt-hours
counting-known : (file : OfficeFile) (meter : ℕ) (name : List ℕ) (o : Option Register) → register_named name ≡ o
    → ((register : Register) × HasRegister file meter name register) ⊎ IsUnknownRegister file meter name
counting-known file meter name None e = inr (λ register x. none-some register (sym e ∙ x.0))
counting-known file meter name (Some r) e =
    elim (cases_Bool (counts_at file meter r)) [
      | inl t ↦ inl (r, (e, t))
      | inr f ↦ inr (λ register x.
          let same : r ≡ register = same_Some r register (sym e ∙ x.0) in
          true≢false (sym x.1 ∙ ap (counts_at file meter) (sym same) ∙ f))
    ]

register-known : (file : OfficeFile) (meter : ℕ) (name : List ℕ) → ((register : Register) × HasRegister file meter name register) ⊎ IsUnknownRegister file meter name
register-known file meter name = counting-known file meter name (register_named name) refl

watt_hours-known : (text : List ℕ) → ((wh : ℕ) × IsWattHours text wh) ⊎ ((wh : ℕ) → IsWattHours text wh → ⊥)
watt_hours-known text =
    elim (three (most-known 1 (length text)) (most-known (length text) 11) (digits-known text)) [
      | inl h ↦ inl (digits_value 10 text, record { some = h.0; few = h.1; digits = h.2; value = refl })
      | inr n ↦ inr (λ wh x. n (x.some, x.few, x.digits))
    ]

-- ---- a row
-- it gives an entry, or is refused, and not for want of memory
abbrev pub HasRowOutcome : OfficeFile → RowKind → Row → Type 0
HasRowOutcome file kind row = ((entry : Entry) × GivesEntry file kind row entry) ⊎ ((cause : Cause) × RefusesRow file kind row cause × (cause ≡ Memory → ⊥))

of-three : (file : OfficeFile) (id start account : List ℕ) → HasRowOutcome file Assignment (id ∷ start ∷ account ∷ [])
of-three file id start account =
    elim (meter-known file id) [
      | inr n ↦ inr (UnknownMeter, (id, start, account, refl, n), λ e. cc)
      | inl m ↦ elim (utc-there_is start) [
        | inr f ↦ inr (Instant f.0, (id, start, account, refl, (m, f.1)), λ e. cc)
        | inl t ↦ elim (owner-known file account) [
          | inr n ↦ inr (UnknownAccount, (id, start, account, refl, (m, t, n)), λ e. cc)
          | inl o ↦ inl (
            record { key = assignment_key m.0 t.0; content = content.Assignment o.0 },
            record {
              id = id;
              start = start;
              account = account;
              meter = m.0;
              instant = t.0;
              owner = o.0;
              row_is = refl;
              meter_is = m.1;
              start_is = t.1;
              owner_is = o.1;
              entry_is = refl;
            },
          )
        ]
      ]
    ]

of-four : (file : OfficeFile) (reference name amount when : List ℕ) → HasRowOutcome file TopUp (reference ∷ name ∷ amount ∷ when ∷ [])
of-four file reference name amount when =
    elim (reference-known reference) [
      | inr n ↦ inr (Reference, (reference, name, amount, when, refl, n), λ e. cc)
      | inl r ↦ elim (account-known file name) [
        | inr n ↦ inr (UnknownAccount, (reference, name, amount, when, refl, (r, n)), λ e. cc)
        | inl a ↦ elim (cents-known amount) [
          | inr n ↦ inr (Cents, (reference, name, amount, when, refl, (r, a, n)), λ e. cc)
          | inl c ↦ elim (utc-there_is when) [
            | inr f ↦ inr (Instant f.0, (reference, name, amount, when, refl, (r, a, c, f.1)), λ e. cc)
            | inl t ↦ inl (
              record { key = key.TopUp reference; content = content.TopUp (record { 0 = a.0 }) c.0 t.0 },
              record {
                reference = reference;
                name = name;
                amount = amount;
                when = when;
                account = a.0;
                cents = c.0;
                instant = t.0;
                row_is = refl;
                reference_is = r;
                account_is = a.1;
                cents_are = c.1;
                instant_is = t.1;
                entry_is = refl;
              },
            )
          ]
        ]
      ]
    ]

of-form : (file : OfficeFile) (kind : RowKind) (row : Row) → RefusesRow file kind row CsvForm → HasRowOutcome file kind row
of-form file kind row n = inr (CsvForm, n, λ e. cc)

assignment-there_is : (file : OfficeFile) (row : Row) → HasRowOutcome file Assignment row
assignment-there_is file (id ∷ start ∷ account ∷ []) = of-three file id start account
assignment-there_is file [] = of-form file Assignment [] (λ e. omega (arith, e))
assignment-there_is file (a ∷ []) = of-form file Assignment (a ∷ []) (λ e. omega (arith, e))
assignment-there_is file (a ∷ b ∷ []) = of-form file Assignment (a ∷ b ∷ []) (λ e. omega (arith, e))
assignment-there_is file (a ∷ b ∷ c ∷ d ∷ more) = of-form file Assignment (a ∷ b ∷ c ∷ d ∷ more) (λ e. omega (arith, e))

top_up-there_is : (file : OfficeFile) (row : Row) → HasRowOutcome file TopUp row
top_up-there_is file (reference ∷ name ∷ amount ∷ when ∷ []) = of-four file reference name amount when
top_up-there_is file [] = of-form file TopUp [] (λ e. omega (arith, e))
top_up-there_is file (a ∷ []) = of-form file TopUp (a ∷ []) (λ e. omega (arith, e))
top_up-there_is file (a ∷ b ∷ []) = of-form file TopUp (a ∷ b ∷ []) (λ e. omega (arith, e))
top_up-there_is file (a ∷ b ∷ c ∷ []) = of-form file TopUp (a ∷ b ∷ c ∷ []) (λ e. omega (arith, e))
top_up-there_is file (a ∷ b ∷ c ∷ d ∷ f ∷ more) = of-form file TopUp (a ∷ b ∷ c ∷ d ∷ f ∷ more) (λ e. omega (arith, e))

-- ---- the record that a row withdraws
abbrev HasNamedOutcome : OfficeFile → NamedKind → Row → Type 0
HasNamedOutcome file kind fields = ((n : Named) × GivesNamed file kind fields (named_entry n)) ⊎ ((cause : Cause) × RefusesNamed file kind fields cause × (cause ≡ Memory → ⊥))

of-reading : (file : OfficeFile) (id name when amount : List ℕ) → HasNamedOutcome file of.Reading (id ∷ name ∷ when ∷ amount ∷ [])
of-reading file id name when amount =
    elim (meter-known file id) [
      | inr n ↦ inr (UnknownMeter, (id, name, when, amount, refl, n), λ e. cc)
      | inl m ↦ elim (register-known file m.0 name) [
        | inr n ↦ inr (RegisterName, (id, name, when, amount, refl, (m.0, m.1, n)), λ e. cc)
        | inl r ↦ elim (utc-there_is when) [
          | inr f ↦ inr (Instant f.0, (id, name, when, amount, refl, ((m.0, m.1, r), f.1)), λ e. cc)
          | inl t ↦ elim (watt_hours-known amount) [
            | inr n ↦ inr (Value Digits, (id, name, when, amount, refl, ((m.0, m.1, r), t, n)), λ e. cc)
            | inl w ↦ inl (
              named.Reading (record { 0 = m.0 }) r.0 t.0 w.0,
              record {
                id = id;
                name = name;
                when = when;
                amount = amount;
                meter = m.0;
                register = r.0;
                instant = t.0;
                wh = w.0;
                row_is = refl;
                meter_is = m.1;
                register_is = r.1;
                instant_is = t.1;
                wh_are = w.1;
                entry_is = refl;
              },
            )
          ]
        ]
      ]
    ]

no-reading : (file : OfficeFile) (fields : Row) → RefusesReading file fields CsvForm → HasNamedOutcome file of.Reading fields
no-reading file fields n = inr (CsvForm, n, λ e. cc)

named-there_is : (file : OfficeFile) (kind : NamedKind) (fields : Row) → HasNamedOutcome file kind fields
named-there_is file of.Reading (id ∷ name ∷ when ∷ amount ∷ []) = of-reading file id name when amount
named-there_is file of.Reading [] = no-reading file [] (λ e. omega (arith, e))
named-there_is file of.Reading (a ∷ []) = no-reading file (a ∷ []) (λ e. omega (arith, e))
named-there_is file of.Reading (a ∷ b ∷ []) = no-reading file (a ∷ b ∷ []) (λ e. omega (arith, e))
named-there_is file of.Reading (a ∷ b ∷ c ∷ []) = no-reading file (a ∷ b ∷ c ∷ []) (λ e. omega (arith, e))
named-there_is file of.Reading (a ∷ b ∷ c ∷ d ∷ f ∷ more) = no-reading file (a ∷ b ∷ c ∷ d ∷ f ∷ more) (λ e. omega (arith, e))
named-there_is file of.Assignment fields =
    elim (assignment-there_is file fields) [
      | inr f ↦ inr f
      | inl e ↦
          let x : GivesAssignment file fields e.0 = e.1 in
          inl (named.Assignment (record { 0 = x.meter }) x.instant x.owner, subst (GivesAssignment file fields) x.entry_is x)
    ]
named-there_is file of.TopUp fields =
    elim (top_up-there_is file fields) [
      | inr f ↦ inr f
      | inl e ↦
          let x : GivesTopUp file fields e.0 = e.1 in
          inl (named.TopUp x.reference (record { 0 = x.account }) x.cents x.instant, subst (GivesTopUp file fields) x.entry_is x)
    ]

first-is : (a b : List ℕ) (xs ys : Row) → a ∷ xs ≡ b ∷ ys → a ≡ b
first-is a b xs ys e = cc

nothing-there : (a : List ℕ) (xs : Row) → [] ≡ a ∷ xs → ⊥
nothing-there a xs e = cc

-- no kind has the name
other-name : (name : List ℕ) (fields : Row) → (name ≡ kind_name of.Reading → ⊥) → (name ≡ kind_name of.Assignment → ⊥) → (name ≡ kind_name of.TopUp → ⊥) → HasNoKind (name ∷ fields)
other-name name fields r a t of.Reading behind e = r (first-is name (kind_name of.Reading) fields behind e)
other-name name fields r a t of.Assignment behind e = a (first-is name (kind_name of.Assignment) fields behind e)
other-name name fields r a t of.TopUp behind e = t (first-is name (kind_name of.TopUp) fields behind e)

with-kind : (file : OfficeFile) (kind : NamedKind) (name : List ℕ) (fields : Row) → name ≡ kind_name kind → HasRowOutcome file Withdrawal (name ∷ fields)
with-kind file kind name fields e =
    let row : name ∷ fields ≡ kind_name kind ∷ fields = ap (λ (n : List ℕ). n ∷ fields) e in
    elim (named-there_is file kind fields) [
      | inl n ↦ inl (
        record { key = key.Withdrawal n.0; content = content.Withdrawal },
        record { kind = kind; fields = fields; named = n.0; row_is = row; named_is = n.1; entry_is = refl },
      )
      | inr f ↦ inr (f.0, inr (kind, fields, row, f.1), f.2)
    ]

withdrawal-there_is : (file : OfficeFile) (row : Row) → HasRowOutcome file Withdrawal row
withdrawal-there_is file [] = inr (Kind, inl (λ kind fields e. nothing-there (kind_name kind) fields e, refl), λ e. cc)
withdrawal-there_is file (name ∷ fields) =
    elim (text-known name (kind_name of.Reading)) [
      | inl e ↦ with-kind file of.Reading name fields e
      | inr r ↦ elim (text-known name (kind_name of.Assignment)) [
        | inl e ↦ with-kind file of.Assignment name fields e
        | inr a ↦ elim (text-known name (kind_name of.TopUp)) [
          | inl e ↦ with-kind file of.TopUp name fields e
          | inr t ↦ inr (Kind, inl (other-name name fields r a t, refl), λ e. cc)
        ]
      ]
    ]

pub row-there_is : (file : OfficeFile) (kind : RowKind) (row : Row) → HasRowOutcome file kind row
row-there_is file Assignment row = assignment-there_is file row
row-there_is file TopUp row = top_up-there_is file row
row-there_is file Withdrawal row = withdrawal-there_is file row
