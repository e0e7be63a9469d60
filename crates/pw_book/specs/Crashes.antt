-- What a crash leaves behind uploads that were posted one behind another.
-- (Definitions of this project.)
use Rattle.std.specs.Prelude.{◌⊎◌, Option, Some, None, List, [], ◌++◌, Result, Ok, Err}
use Rattle.std.specs.List.{flat_map}
use Rattle.pw_tariff.specs.Office.{OfficeRules}
use Rattle.pw_model.specs.declared.records.Entry.{Entry}
use Rattle.pw_model.specs.Counting.{Member, SameMembers}
use Rattle.pw_model.specs.Shelf.{ShelfContent}
use Rattle.pw_book.specs.declared.book.Accepted.{Accepted}
use Rattle.pw_book.specs.declared.fault.PostFault.{PostFault}
use Rattle.pw_book.specs.declared.laws.crashes.Sent.{Sent}
use Rattle.pw_book.specs.Posting.{IsSoundContent}

-- what an upload brought: its entries where it was accepted, else nothing
abbrev pub brought_by : Option (Result Accepted PostFault) → List Entry → List Entry
brought_by (Some (Ok a)) entries = entries
brought_by (Some (Err fault)) entries = []
brought_by None entries = []

abbrev pub brought : Sent → List Entry
brought sent = brought_by sent.answer sent.entries.items

-- the records before the uploads, and all that those of them brought that were accepted
abbrev pub acknowledged : List Entry → List Sent → List Entry
acknowledged before uploads = before ++ flat_map brought uploads

-- these records are those, or those with all entries of one upload more: no upload stands there in part
abbrev pub AreWhole : List Entry → List Sent → List Entry → Type 0
AreWhole before uploads records =
    SameMembers records (acknowledged before uploads)
    ⊎ ((sent : Sent) × Member sent uploads × SameMembers records (acknowledged before uploads ++ sent.entries.items))

-- what a crash leaves: a true content of at most 10,000,000 entries of the office, with each upload that was accepted,
-- and of one other at most
pub record IsLeftWhole (office : OfficeRules) (before : List Entry) (uploads : List Sent) (c : ShelfContent) : Type 0 where
  pub sound : IsSoundContent office c
  pub whole : AreWhole before uploads c.records
