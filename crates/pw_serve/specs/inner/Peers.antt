-- How a connection stands in the loop. It serves `src/peer.rt` and `src/turn.rt`.
use Rattle.std.specs.Prelude.{◌≡◌, ◌≢◌, ◌<◌, true, false, ℕ, Bool, List, [], ◌++◌, length, drop, ◌⊎◌}
use Rattle.std.specs.List.{list_any}
use Rattle.pw_serve.specs.declared.peer.Peer.{Peer}
use Rattle.pw_serve.specs.declared.peer.Task.{Task}
use Rattle.pw_serve.specs.declared.peer.Task.TheVariants.{Write, End, Read, Answer}
use Rattle.pw_serve.specs.Connections.{Connection}
use Rattle.pw_serve.specs.Exchanges.{Exchange, asked_bytes, is_last}
use Rattle.pw_serve.specs.Served.{IsAllOf, Talk}

-- what of the reply isn't taken yet
abbrev pub waiting : Peer → List ℕ
waiting c = drop c.sent c.outbox.items

abbrev pub closes_behind : List Exchange → Bool
closes_behind own = list_any (λ e. is_last e.asked) own

-- the connection's own exchanges so far have left this
pub record IsPeer (first now : Connection) (own : List Exchange) (c : Peer) : Type 0 where
  pub talk : Talk first now own c.inbox.items (waiting c)
  pub same_end : now.ended ≡ first.ended
  pub closes : closes_behind own ≡ c.closes
  pub at_end : c.ended ≡ true → IsAllOf first.unread (asked_bytes own ++ c.inbox.items)

pub record IsIdle (c : Peer) : Type 0 where
  pub taken : waiting c ≡ []
  pub none : c.inbox.items ≡ []

-- it goes on, and its reply is taken
pub record IsFree (c : Peer) : Type 0 where
  pub taken : waiting c ≡ []
  pub goes_on : c.closes ≡ false

-- what was received was looked at, or there is nothing
abbrev pub MayWait : Peer → Type 0
MayWait c = (c.inbox.items ≡ []) ⊎ (c.looked ≡ true)

-- it isn't taken to be looked at where it wasn't before, with the same bytes
abbrev pub KeepsLooked : Peer → Peer → Type 0
KeepsLooked c d = d.looked ≡ true → (c.looked ≡ true) × (d.inbox.items ≡ c.inbox.items)

module _ (waits : List ℕ → Type 0) where
  -- where it was looked at, the service waits on what was received
  abbrev pub HasLooked : Peer → Type 0
  HasLooked c = c.looked ≡ true → waits c.inbox.items

  -- nothing is to be done of it before an event: its reply isn't wholly taken, nothing was received, or the service waits
  -- on that
  abbrev pub IsResting : Peer → Type 0
  IsResting c = (c.sent < length c.outbox.items) ⊎ ((c.inbox.items ≡ []) ⊎ waits c.inbox.items)

-- what is to be done
abbrev pub HasTask : Peer → Task → Type 0
HasTask c Write = c.sent < length c.outbox.items
HasTask c End = (waiting c ≡ []) × (c.closes ≡ false → (c.inbox.items ≡ []) × (c.ended ≡ true))
HasTask c Read = IsFree c × (c.ended ≡ false) × MayWait c
HasTask c Answer = IsFree c × (c.inbox.items ≢ [])
