-- Texts that add and find what is named, by the form in which it is kept. They serve `src/forms.rt`.
-- (A format of this project.)
use Rattle.std.specs.Prelude.{ℕ, List, ◌++◌, codes}
use Rattle.pw_model.specs.declared.records.Named.{Named}
use Rattle.pw_model.specs.declared.records.Named.TheVariants as named
use Rattle.pw_store.specs.declared.forms.Form.{Form}
use Rattle.pw_store.specs.declared.forms.Form.TheVariants.{Record, Withdrawal}

-- how the names of the tables of a form begin
abbrev pub begun : Form → List ℕ
begun Record = codes "record_"
begun Withdrawal = codes "withdrawn_"

abbrev pub insert : Form → Named → List ℕ
insert form (named.Reading m r t w) = codes "INSERT INTO " ++ begun form ++ codes "reading (meter, register, instant, wh) VALUES (?1, ?2, ?3, ?4)"
insert form (named.Assignment m t o) = codes "INSERT INTO " ++ begun form ++ codes "assignment (meter, start, owner) VALUES (?1, ?2, ?3)"
insert form (named.TopUp r a c t) = codes "INSERT INTO " ++ begun form ++ codes "topup (reference, account, cents, instant) VALUES (?1, ?2, ?3, ?4)"

abbrev pub find : Form → Named → List ℕ
find form (named.Reading m r t w) = codes "SELECT wh FROM " ++ begun form ++ codes "reading WHERE meter = ?1 AND register = ?2 AND instant = ?3 AND wh = ?4"
find form (named.Assignment m t o) = codes "SELECT owner FROM " ++ begun form ++ codes "assignment WHERE meter = ?1 AND start = ?2 AND owner = ?3"
find form (named.TopUp r a c t) = codes "SELECT account FROM " ++ begun form ++ codes "topup WHERE reference = ?1 AND account = ?2 AND cents = ?3 AND instant = ?4"
