-- Read these, in this order:
-- Amounts: amounts of money as text
-- Tables: the statement, the tables of accounts, falls and disputes
-- Exports: the exports of readings and energies, and of records as the rows of their uploads
-- Months: the months of local calendars, as texts, and their days
-- Bills: the bill of an account for a month
-- DaysAndWhy: the days of a month, and why its bill is what it is
-- Pages: what each page says of a set of records
-- Reports: what a report leaves of a book
-- Laws: one text for each page, what the export of energies adds up to, and what a book's exports move to another one
pub mod Amounts
pub mod Tables
pub mod Exports
pub mod Months
pub mod Bills
pub mod DaysAndWhy
pub mod Pages
pub mod Reports
pub mod Laws
-- and these where a file above names them:
-- Layout: places in a line, instants, lists put behind one another
-- Names: the names of the office
pub mod Layout
pub mod Names
-- named by private functions, tests and proofs alone
pub mod inner
