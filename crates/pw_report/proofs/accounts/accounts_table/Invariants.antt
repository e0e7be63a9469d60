use Rattle.std.proofs.Common.{◌≡◌, ◌++◌, codes}
use Rattle.pw_report.specs.Layout.{listed_below}
use Rattle.pw_report.specs.Reports.{IsAsked}
use Rattle.pw_report.specs.Tables.{account_line, balance_line}
use Rattle.pw_report.proofs.accounts.accounts_table.Given as goal

abbrev pub invariant-loop-account : goal.invariant-loop-account
invariant-loop-account g l = record {
  text : g.S.Shelf.clean l.book.shelf → l.text.items ≡ account_line (codes "account") (codes "balance EUR")
      ++ listed_below l.account (balance_line l.fn.book.office (g.S.Shelf.state l.fn.book.shelf).content.records);
  asked : IsAsked g.S.Shelf 0 l.fn.book l.book;
}
