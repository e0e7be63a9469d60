-- What a connection still sends and was told, and what one call does to it.
-- (Definitions of this project.)
use Rattle.std.specs.Prelude.{◌≡◌, ◌≢◌, ◌≤◌, ◌<◌, true, ℕ, Bool, List, length, take, Option, Some, option_map, Result, Ok, Err}
use Rattle.std.specs.Io.KnownBytes.{Appends, Consumes, IsAtEnd, Keeps}
use Rattle.pw_serve.specs.declared.connections.Ending.{Ending}
use Rattle.pw_serve.specs.declared.connections.Event.{Event}
use Rattle.pw_serve.specs.declared.connections.Event.TheVariants.{Quiet, Knocked, Ready, Expired, Closing}
use Rattle.pw_serve.specs.declared.connections.Stop.{Stop}
use Rattle.pw_serve.specs.declared.connections.Stop.TheVariants.{NotNow, Failed}

pub record Connection : Type 0 where
  -- the bytes that it still sends, and those that it was told, where they are known
  pub unread : Option (List ℕ)
  pub told : Option (List ℕ)
  -- whether a read or a write failed, or its client was waited for too long; and why it was ended, if it was: where this
  -- is known
  pub broken : Option Bool
  pub ended : Option (Option Ending)

-- ---- one connection
-- nothing happens to it
pub record Stays (old new : Connection) : Type 0 where
  pub unread : Keeps old.unread new.unread
  pub told : Keeps old.told new.told
  pub broken : new.broken ≡ old.broken
  pub ended : new.ended ≡ old.ended

pub record Breaks (old new : Connection) : Type 0 where
  pub unread : Keeps old.unread new.unread
  pub told : Keeps old.told new.told
  pub broken : new.broken ≡ option_map (λ _. true) old.broken
  pub ended : new.ended ≡ old.ended

-- it is ended
pub record IsEnded (why : Ending) (old new : Connection) : Type 0 where
  pub unread : Keeps old.unread new.unread
  pub told : Keeps old.told new.told
  pub broken : new.broken ≡ old.broken
  pub ended : new.ended ≡ option_map (λ _. Some why) old.ended

-- a read gives so many bytes; none only at the end of what is sent
pub record Gives (bytes : List ℕ) (old : Connection) (n : ℕ) (new : Connection) : Type 0 where
  pub within : n ≤ length bytes
  pub unread : Consumes old.unread new.unread (take n bytes)
  pub end : n ≡ 0 → 0 < length bytes → IsAtEnd new.unread
  pub told : Keeps old.told new.told
  pub broken : new.broken ≡ old.broken
  pub ended : new.ended ≡ old.ended

-- a write takes so many of the bytes
pub record Takes (bytes : List ℕ) (old : Connection) (n : ℕ) (new : Connection) : Type 0 where
  pub within : n ≤ length bytes
  pub told : Appends old.told new.told (take n bytes)
  pub unread : Keeps old.unread new.unread
  pub broken : new.broken ≡ old.broken
  pub ended : new.ended ≡ old.ended

-- a call that didn't read or write: it isn't the time, or the connection is of no use any more
abbrev pub IsStopped : Stop → Connection → Connection → Type 0
IsStopped NotNow old new = Stays old new
IsStopped Failed old new = Breaks old new

abbrev pub IsRead : List ℕ → Connection → Connection → Result ℕ Stop → Type 0
IsRead bytes old new (Ok n) = Gives bytes old n new
IsRead bytes old new (Err why) = IsStopped why old new

abbrev pub IsWrite : List ℕ → Connection → Connection → Result ℕ Stop → Type 0
IsWrite bytes old new (Ok n) = Takes bytes old n new
IsWrite bytes old new (Err why) = IsStopped why old new

-- ---- all connections, by their numbers
abbrev pub AllStay : (ℕ → Connection) → (ℕ → Connection) → Type 0
AllStay old new = (j : ℕ) → Stays (old j) (new j)

abbrev pub OthersStay : ℕ → (ℕ → Connection) → (ℕ → Connection) → Type 0
OthersStay k old new = (j : ℕ) → j ≢ k → Stays (old j) (new j)

-- who was waited for too long is broken
abbrev pub IsTold : Event → (ℕ → Connection) → (ℕ → Connection) → Type 0
IsTold (Expired k) old new = Breaks (old k) (new k) × OthersStay k old new
IsTold Quiet old new = AllStay old new
IsTold Knocked old new = AllStay old new
IsTold (Ready k) old new = AllStay old new
IsTold Closing old new = AllStay old new
