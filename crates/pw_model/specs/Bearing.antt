-- Where one more record may change what is told. It serves the proofs of a book, and is the contract of a function of the module
-- `laws`.
use Rattle.std.specs.Prelude.{◌≡◌, ℕ, ◌+◌, List}
use Rattle.pw_tariff.specs.Office.{OfficeRules}
use Rattle.pw_model.specs.declared.records.Key.{Key}
use Rattle.pw_model.specs.declared.records.Key.TheVariants as key
use Rattle.pw_model.specs.declared.records.Content.{Content}
use Rattle.pw_model.specs.declared.records.Contents.TheVariants.{One}
use Rattle.pw_model.specs.declared.records.Entry.{Entry}
use Rattle.pw_model.specs.Counting.{IsInserted, named_entry, contents_at}
use Rattle.pw_model.specs.Office.{AllOfOffice}
use Rattle.pw_model.specs.Payments.{topped_up, cents_for}

-- the key of the record that a withdrawal with this key names; any other key itself
abbrev pub named_key : Key → Key
named_key (key.Reading m r t) = key.Reading m r t
named_key (key.Assignment m t) = key.Assignment m t
named_key (key.TopUp r) = key.TopUp r
named_key (key.Withdrawal n) = (named_entry n).key

-- the key at which a record may change what counts: of a withdrawal that of the record that it names, else its own
abbrev pub bears_on : Entry → Key
bears_on e = named_key e.key

-- one more record changes no contents but those at its key and at the key that it bears on, and at no key one content takes
-- another's place at once; where all records are of an office, what is topped up changes by what counts at the latter key
pub record ChangesWhereItBears (s t : List Entry) (e : Entry) : Type 0 where
  pub elsewhere : (k : Key) → (k ≡ e.key → ⊥) → (k ≡ bears_on e → ⊥) → contents_at t k ≡ contents_at s k
  pub alike : (k : Key) (c d : Content) → contents_at s k ≡ One c → contents_at t k ≡ One d → c ≡ d
  pub paid : (office : OfficeRules) → AllOfOffice office t → (a : ℕ) →
      topped_up t a + cents_for a (contents_at s (bears_on e)) ≡ topped_up s a + cents_for a (contents_at t (bears_on e))

abbrev pub OneMoreBearing : Type 0
OneMoreBearing = (s t : List Entry) (e : Entry) → IsInserted e s t → ChangesWhereItBears s t e
