-- What `pipe` comes to.
-- (Definitions of this project.)
use Rattle.std.specs.Prelude.{◌≡◌, ◌⊎◌, ℕ, List, Option, Result, Ok}
use Rattle.std.specs.Io.KnownBytes.{Appends}
use Rattle.pw_read.specs.Run.{WritesFront}
use Rattle.pw_model.specs.Shelf.{no_content}
use Rattle.pw_shelf.specs.declared.memory.MemoryShelf.{MemoryShelf}
use Rattle.pw_shelf.specs.declared.shelf.Shelf.{Ghosts}
use Rattle.pw_tariff.specs.Text.{IsOfficeOf, IsRefused}
use Rattle.pw_tariff.specs.declared.fault.OfficeFault.{OfficeFault}
use Rattle.pw_tariff.specs.declared.fault.OfficeFault.TheVariants.{Memory}
use Rattle.pw_book.specs.declared.book.Book.{Book}
use Rattle.pw_http.specs.declared.audience.Audience.TheVariants.{Everybody}
use Rattle.pw_http.specs.declared.fault.WireFault.{WireFault}
use Rattle.pw_http.specs.declared.served.Served.{Served}
use Rattle.pw_http.specs.Headline.{HasHeadline, IsKnown}
use Rattle.pw_http.specs.Steps.{held}
use Rattle.pw_commands.specs.declared.fault.Fault.{Fault}
use Rattle.pw_commands.specs.declared.fault.Fault.TheVariants as fault
use Rattle.pw_commands.specs.Faults.{fault_line}

-- the text is refused as an office file, and not for want of memory: the line of that is told
abbrev pub RefusesOffice : List ℕ → Option (List ℕ) → Option (List ℕ) → Type 0
RefusesOffice text before after =
    (why : OfficeFault) × IsRefused text why × (why ≡ Memory → ⊥) × Appends before after (fault_line (fault.Office why))

-- why it stops: the office file, the conversation, or memory for the line of either
abbrev pub Stops : List ℕ → Fault → Type 0
Stops text (fault.Office why) = IsRefused text why
Stops text (fault.Wire why) = Unit {0}
Stops text f = f ≡ fault.Memory

module _ (shelf : Ghosts MemoryShelf) where
  -- a conversation with a book of the office of a text, in which nothing is held at first, and what it answered; so behind it
  -- each figure is the definition's, for the records of the uploads that were answered 200
  pub record IsPiped (text : List ℕ) (unread left known after : Option (List ℕ)) (outcome : Result Served WireFault) : Type 0 where
    pub old : Book MemoryShelf shelf
    pub new : Book MemoryShelf shelf
    pub office : IsOfficeOf text old.office
    pub empty : held shelf old ≡ no_content
    pub headline : HasHeadline shelf Everybody unread left known after old new outcome
    pub is_known : IsKnown shelf new

  -- it ended well
  abbrev pub IsDone : List ℕ → Option (List ℕ) → Option (List ℕ) → Option (List ℕ) → Option (List ℕ) → Type 0
  IsDone text unread left known after = (served : Served) × IsPiped text unread left known after (Ok served)

  -- a front of the line of one fault is told; and a conversation wrote what it did, or nothing was written
  pub record IsStopped (text : List ℕ) (unread left known after told_before told_after : Option (List ℕ)) : Type 0 where
    pub why : Fault
    pub stops : Stops text why
    pub line : WritesFront told_before told_after (fault_line why)
    pub written : (after ≡ known) ⊎ ((outcome : Result Served WireFault) × IsPiped text unread left known after outcome)
