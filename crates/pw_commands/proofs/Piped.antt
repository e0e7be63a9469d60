-- A conversation that stopped before its end, and one whose replies were flushed.
use Rattle.std.proofs.Common.{◌≡◌, ◌∙◌, ap, subst, sym, ℕ, List, Option, Result, Ok, Err, false}
use Rattle.std.proofs.KnownBytes.{Appends-kept}
use Rattle.std.specs.Io.KnownBytes.{Keeps}
use Rattle.pw_model.specs.Shelf.{no_content}
use Rattle.pw_shelf.specs.declared.memory.MemoryShelf.{MemoryShelf}
use Rattle.pw_shelf.specs.declared.shelf.Shelf.{Ghosts}
use Rattle.pw_tariff.specs.Text.{IsOfficeOf}
use Rattle.pw_book.specs.declared.book.Book.{Book}
use Rattle.pw_http.specs.declared.audience.Audience.TheVariants.{Everybody}
use Rattle.pw_http.specs.declared.fault.WireFault.{WireFault}
use Rattle.pw_http.specs.declared.fault.WireFault.TheVariants.{Read, Write, TooManyTurns, Memory}
use Rattle.pw_http.specs.declared.served.Served.{Served}
use Rattle.pw_http.specs.Headline.{HasHeadline}
use Rattle.pw_http.specs.Steps.{held}
use Rattle.pw_commands.specs.Pipe.{IsPiped}
use Rattle.pw_commands.specs.inner.Piping.{Pipes}

module _ (shelf : Ghosts MemoryShelf) (unread left known after : Option (List ℕ)) (old new : Book MemoryShelf shelf) where
  open-still : (outcome : Result Served WireFault) → HasHeadline shelf Everybody unread left known after old new outcome → old.shut ≡ false →
      (shelf.state new.shelf).failed_abandons ≡ (shelf.state old.shelf).failed_abandons → new.shut ≡ false
  open-still (Ok served) h shut abandons = h.4.comes.stays_open shut abandons
  open-still (Err Read) h shut abandons = h.1.stays_open shut abandons
  open-still (Err TooManyTurns) h shut abandons = h.1.stays_open shut abandons
  open-still (Err Write) h shut abandons = h.5.stays_open shut abandons
  open-still (Err Memory) h shut abandons = ap (λ (b : Book MemoryShelf shelf). b.shut) h.2 ∙ shut

  pub piped : (text : List ℕ) (outcome : Result Served WireFault) → IsOfficeOf text old.office → held shelf old ≡ no_content → old.shut ≡ false →
      HasHeadline shelf Everybody unread left known after old new outcome → shelf.clean new.shelf →
      (shelf.state new.shelf).failed_abandons ≡ (shelf.state old.shelf).failed_abandons → IsPiped shelf text unread left known after outcome
  piped text outcome office empty shut h clean abandons = record {
    old = old;
    new = new;
    office = office;
    empty = empty;
    headline = h;
    is_known = (clean, open-still outcome h shut abandons);
  }

-- whatever it answers with a fault, it is a conversation up to there
pub stopped : (shelf : Ghosts MemoryShelf) {T : Type 0} (text : List ℕ) (unread left known after : Option (List ℕ)) (outcome : Result Served WireFault) (answer : Result T WireFault) (why : WireFault) →
    answer ≡ Err why → IsPiped shelf text unread left known after outcome → Pipes shelf text unread left known after answer
stopped shelf text unread left known after outcome answer why is p = subst (Pipes shelf text unread left known after) (sym is) (outcome, p)

pub flushed : (shelf : Ghosts MemoryShelf) (text : List ℕ) (unread left known after end : Option (List ℕ)) (served : Served) →
    IsPiped shelf text unread left known after (Ok served) → Keeps after end → IsPiped shelf text unread left known end (Ok served)
flushed shelf text unread left known after end served p kept = record {
  old = p.old;
  new = p.new;
  office = p.office;
  empty = p.empty;
  headline = (p.headline.0, p.headline.1, p.headline.2, Appends-kept known after end p.headline.1 p.headline.3 kept, p.headline.4);
  is_known = p.is_known;
}
