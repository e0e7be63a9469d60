-- The statement of an account, and the tables of accounts, falls and disputes, as text. Each line ends with LF.
-- (Formats of this project.)
use Rattle.std.specs.Prelude.{ℕ, Some, List, ◌++◌, length, codes, decimal}
use Rattle.std.specs.List.{flat_map}
use Rattle.pw_obis.specs.Registers.{register_name}
use Rattle.pw_tariff.specs.declared.ids.Direction.TheVariants.{Import, Export}
use Rattle.pw_tariff.specs.Office.{OfficeFile, office_of}
use Rattle.pw_model.specs.declared.records.Key.{Key}
use Rattle.pw_model.specs.declared.records.Key.TheVariants.{Reading, Assignment, TopUp, Withdrawal}
use Rattle.pw_model.specs.declared.records.Entry.{Entry}
use Rattle.pw_model.specs.declared.records.Fall.{Fall}
use Rattle.pw_model.specs.declared.records.Dispute.{Dispute}
use Rattle.pw_model.specs.Energy.{account, energy}
use Rattle.pw_model.specs.Payments.{balance, topped_up}
use Rattle.pw_report.specs.Amounts.{balance_text, euro_text}
use Rattle.pw_report.specs.Layout.{instant_text, left, right, listed_below}
use Rattle.pw_report.specs.Names.{account_name, band_name, meter_name}

-- ---- the statement of an account
-- a band's name, and what was imported and exported in it, in Wh
abbrev pub band_line : List ℕ → List ℕ → List ℕ → List ℕ
band_line name imported exported = left 4 name ++ right 16 imported ++ right 16 exported ++ codes "\n"

-- of an account and a band
abbrev pub energy_line : OfficeFile → List Entry → ℕ → ℕ → List ℕ
energy_line file s a b =
    band_line (band_name file b) (decimal (energy (office_of file) s (Some (account a)) b Import)) (decimal (energy (office_of file) s (Some (account a)) b Export))

unfoldable pub statement_text : OfficeFile → List Entry → ℕ → List ℕ
statement_text file s a =
    codes "account " ++ account_name file a ++ codes "\n"
    ++ band_line (codes "band") (codes "import Wh") (codes "export Wh")
    ++ listed_below (length file.bands) (energy_line file s a)
    ++ codes "topped up EUR " ++ euro_text (topped_up s a) ++ codes "\n"
    ++ codes "balance EUR " ++ balance_text (balance (office_of file) s a) ++ codes "\n"

-- ---- all accounts
abbrev pub account_line : List ℕ → List ℕ → List ℕ
account_line name amount = left 32 name ++ right 16 amount ++ codes "\n"

-- of an account
abbrev pub balance_line : OfficeFile → List Entry → ℕ → List ℕ
balance_line file s a = account_line (account_name file a) (balance_text (balance (office_of file) s a))

unfoldable pub accounts_text : OfficeFile → List Entry → List ℕ
accounts_text file s = account_line (codes "account") (codes "balance EUR") ++ listed_below (length file.accounts) (balance_line file s)

-- ---- falls
-- meter and register, then the earlier reading's instant and Wh, then the later one's
abbrev pub fall_line : OfficeFile → Fall → List ℕ
fall_line file f =
    meter_name file f.meter.0 ++ codes " " ++ register_name f.register
    ++ codes " " ++ instant_text f.from ++ codes " " ++ decimal f.high
    ++ codes " " ++ instant_text f.to ++ codes " " ++ decimal f.low ++ codes "\n"

unfoldable pub falls_text : OfficeFile → List Fall → List ℕ
falls_text file falls = codes "meter register from wh to wh\n" ++ flat_map (fall_line file) falls

-- ---- disputes
-- the kind of the records, and their key (a withdrawal is never in dispute: it says one thing)
abbrev pub key_text : OfficeFile → Key → List ℕ
key_text file (Reading m r t) = codes "reading " ++ meter_name file m.0 ++ codes " " ++ register_name r ++ codes " " ++ instant_text t
key_text file (Assignment m t) = codes "assignment " ++ meter_name file m.0 ++ codes " " ++ instant_text t
key_text file (TopUp reference) = codes "topup " ++ reference
key_text file (Withdrawal named) = codes "withdrawal"

-- the key, and how many records have it
abbrev pub dispute_line : OfficeFile → Dispute → List ℕ
dispute_line file d = key_text file d.key ++ codes " " ++ decimal d.contents ++ codes "\n"

unfoldable pub disputes_text : OfficeFile → List Dispute → List ℕ
disputes_text file disputes = codes "key records\n" ++ flat_map (dispute_line file) disputes
