-- A fault that a machine is to blame for is told with status 3.
use Rattle.std.proofs.Common.{◌≡◌, ◌⊎◌, inl, inr, ◌∙◌, refl, sym, subst, ℕ, List, Option, Result, length}
use Rattle.std.proofs.Math.Seq.{take-length}
use Rattle.std.specs.Io.KnownBytes.{Appends}
use Rattle.pw_read.specs.Run.{WritesFront}
use Rattle.pw_shelf.specs.declared.memory.MemoryShelf.{MemoryShelf}
use Rattle.pw_shelf.specs.declared.shelf.Shelf.{Ghosts}
use Rattle.pw_http.specs.declared.fault.WireFault.{WireFault}
use Rattle.pw_http.specs.declared.served.Served.{Served}
use Rattle.pw_commands.specs.Faults.{IsTold, fault_line, fault_status}
use Rattle.pw_commands.specs.Pipe.{IsPiped, IsStopped, Stops}
use Rattle.pw_commands.specs.declared.fault.Fault.{Fault}
use Rattle.pw_commands.specs.declared.fault.Fault.TheVariants as fault

pub told-three : (fault : Fault) (before after : Option (List ℕ)) (status : ℕ) → fault_status fault ≡ 3 →
    IsTold fault before after status → (status ≡ 0) ⊎ (status ≡ 3)
told-three fault before after status e (inl (inl h)) = inr (h.0 ∙ e)
told-three fault before after status e (inl (inr h)) = inr h.0
told-three fault before after status e (inr (inl h)) = inr h.0
told-three fault before after status e (inr (inr h)) = inr h.0

-- all of a line is a front of it
whole : (before after : Option (List ℕ)) (line : List ℕ) → Appends before after line → WritesFront before after line
whole before after line h = (length line, subst (Appends before after) (sym (take-length line)) h)

module _ (shelf : Ghosts MemoryShelf) (text : List ℕ) (unread left known after before told : Option (List ℕ))
    (written : (after ≡ known) ⊎ ((outcome : Result Served WireFault) × IsPiped shelf text unread left known after outcome)) where
  by : (why : Fault) → Stops text why → WritesFront before told (fault_line why) → IsStopped shelf text unread left known after before told
  by why stops line = record { why = why; stops = stops; line = line; written = written }

  pub stopped : (given : Fault) (status : ℕ) → Stops text given → IsTold given before told status → IsStopped shelf text unread left known after before told
  stopped given status stops (inl (inl h)) = by given stops (whole before told (fault_line given) h.1)
  stopped given status stops (inl (inr h)) = by given stops h.1
  stopped given status stops (inr (inl h)) = by fault.Memory refl (whole before told (fault_line fault.Memory) h.1)
  stopped given status stops (inr (inr h)) = by fault.Memory refl h.1
