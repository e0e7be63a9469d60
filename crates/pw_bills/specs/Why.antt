-- Why a bill is what it is, as a book tells it.
-- (Definitions of this project.)
use Rattle.std.specs.Prelude.{◌≡◌, ℕ, Some, List, map}
use Rattle.pw_tariff.specs.declared.ids.AccountId.{AccountId}
use Rattle.pw_tariff.specs.Office.{OfficeRules}
use Rattle.pw_model.specs.declared.records.Entry.{Entry}
use Rattle.pw_model.specs.Counting.{Member, contents_at}
use Rattle.pw_months.specs.Pieces.{row_of}
use Rattle.pw_months.specs.Why.{AreWhyRows, WhyRow}
use Rattle.pw_bills.specs.declared.reasons.WhyPiece.{WhyPiece}

-- the row of a piece, with what it costs
abbrev pub row_told : OfficeRules → WhyPiece → WhyRow
row_told office w = row_of office w.meter.0 w.register w.span w.piece

-- the rows of the bill; each is a piece of the account's
pub record TellsWhy (office : OfficeRules) (s : List Entry) (a : AccountId) (from until : ℕ)
    (pieces : List WhyPiece) : Type 0 where
  pub rows : AreWhyRows office (contents_at s) a.0 from until (map (row_told office) pieces)
  pub own : (w : WhyPiece) → Member w pieces → w.piece.owner ≡ Some a
