-- What the conversation of `pipe` comes to, whatever it answers. It serves `src/pipe.rt`.
use Rattle.std.specs.Prelude.{ℕ, List, Option, Result, Ok, Err}
use Rattle.pw_shelf.specs.declared.memory.MemoryShelf.{MemoryShelf}
use Rattle.pw_shelf.specs.declared.shelf.Shelf.{Ghosts}
use Rattle.pw_http.specs.declared.fault.WireFault.{WireFault}
use Rattle.pw_http.specs.declared.served.Served.{Served}
use Rattle.pw_commands.specs.Pipe.{IsDone, IsPiped}

module _ (shelf : Ghosts MemoryShelf) where
  -- it ended well; or it was cut, or what it wrote couldn't be seen to leave
  abbrev pub Pipes : {T : Type 0} → List ℕ → Option (List ℕ) → Option (List ℕ) → Option (List ℕ) → Option (List ℕ) → Result T WireFault → Type 0
  Pipes text unread left known after (Ok done) = IsDone shelf text unread left known after
  Pipes text unread left known after (Err why) = (outcome : Result Served WireFault) × IsPiped shelf text unread left known after outcome
