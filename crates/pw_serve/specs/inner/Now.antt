-- How all connections stand in the loop. It serves `src/peers.rt` and `src/serve.rt`.
use Rattle.std.specs.Prelude.{◌≡◌, ◌≢◌, ◌≤◌, ◌⊎◌, ℕ, List, [], Option, Some, None}
use Rattle.std.specs.BTreeMap.{BTreeMap, get}
use Rattle.std.specs.Io.KnownBytes.{Keeps}
use Rattle.std.specs.Ordering.{nat_cmp}
use Rattle.pw_serve.specs.declared.peer.Peer.{Peer}
use Rattle.pw_serve.specs.declared.peers.Peers.{Peers as InLoop}
use Rattle.pw_serve.specs.declared.turn.Next.{Next}
use Rattle.pw_serve.specs.declared.turn.Next.TheVariants.{Waits}
use Rattle.pw_serve.specs.Connections.{AllStay, Connection, OthersStay}
use Rattle.pw_serve.specs.Exchanges.{Asked, Chain, Exchange, exchanges_of}
use Rattle.pw_serve.specs.Served.{IsEndOf, Talk}
use Rattle.pw_serve.specs.inner.Peers.{HasLooked, IsPeer}
use Rattle.pw_serve.specs.inner.Turns.{IsAfter, Leads, Rests}

-- the peers by their numbers
abbrev pub Peers : Type 0
Peers = ℕ → Option Peer

-- one that is in the loop no more, or not yet
pub record IsAway (first now : Connection) (own : List Exchange) : Type 0 where
  pub rest : List ℕ
  pub wait : List ℕ
  pub talk : Talk first now own rest wait
  pub end : IsEndOf first now own rest wait

abbrev pub IsAt : Option Peer → Connection → Connection → List Exchange → Type 0
IsAt (Some c) first now own = IsPeer first now own c
IsAt None first now own = IsAway first now own

-- a number that wasn't used yet
pub record IsUnused (spot : Option Peer) (first now : Connection) (own : List Exchange) : Type 0 where
  pub away : spot ≡ None
  pub none : own ≡ []
  pub unread : Keeps first.unread now.unread
  pub told : Keeps first.told now.told
  pub ended : now.ended ≡ first.ended

-- another peer, or none, is at k
pub record IsSet (k : ℕ) (spot : Option Peer) (old new : Peers) : Type 0 where
  pub one : new k ≡ spot
  pub others : (j : ℕ) → j ≢ k → new j ≡ old j

abbrev pub AreSame : Peers → Peers → Type 0
AreSame old new = (j : ℕ) → new j ≡ old j

-- the service waits on what was received of each that was looked at
abbrev pub HaveLooked : (List ℕ → Type 0) → Peers → Type 0
HaveLooked waits peers = (j : ℕ) → (c : Peer) → peers j ≡ Some c → HasLooked waits c

-- it does so of those in the loop, where it did before
abbrev pub StillHaveLooked : (List ℕ → Type 0) → BTreeMap ℕ Peer → BTreeMap ℕ Peer → Type 0
StillHaveLooked waits old new = HaveLooked waits (get nat_cmp old) → HaveLooked waits (get nat_cmp new)

-- the one at k, if there is one, rests where it is left to an event
abbrev pub RestsAt : (List ℕ → Type 0) → Next → Peers → ℕ → Type 0
RestsAt waits next peers k = (c : Peer) → peers k ≡ Some c → Rests waits next c

module _ {S : Type 0} (answers : S → Asked → List ℕ → S → Type 0) where
  -- up to a moment: the exchanges so far, and where each connection stands
  pub record Now (old : S) (first now : ℕ → Connection) (new : S) (peers : Peers) (next : ℕ) : Type 0 where
    pub order : List Exchange
    pub chain : Chain answers old order new
    pub each : (j : ℕ) → IsAt (peers j) (first j) (now j) (exchanges_of j order)
    pub unused : (j : ℕ) → next ≤ j → IsUnused (peers j) (first j) (now j) (exchanges_of j order)

  -- a step keeps all that, whatever was before it
  abbrev pub Onward : S → (ℕ → Connection) → Peers → ℕ → S → (ℕ → Connection) → Peers → ℕ → Type 0
  Onward b now peers next c after others behind = (a : S) (first : ℕ → Connection) → Now a first now b peers next → Now a first after c others behind

  -- so does one from the loop's peers to others, where this is known of the connections
  abbrev pub KeepOnward : {C : Type 0} → (C → ℕ → Connection) → S → C → InLoop → S → C → InLoop → Type 0
  KeepOnward connection b now peers c after others =
      Onward b (connection now) (get nat_cmp peers.rows) peers.next c (connection after) (get nat_cmp others.rows) others.next

  -- the turn of the peer at k, if there is one
  pub record IsTurn (k : ℕ) (c d : Peer) (old : S) (now : ℕ → Connection) (peers : Peers) (new : S) (after : ℕ → Connection) (others : Peers) (next : Next) : Type 0 where
    pub was : peers k ≡ Some c
    pub set : IsSet k (Some d) peers others
    pub leads : Leads answers k old (now k) c new (IsAfter next (after k) d)
    pub stay : OthersStay k now after

  pub record IsNoTurn (old : S) (now : ℕ → Connection) (peers : Peers) (new : S) (after : ℕ → Connection) (others : Peers) (next : Next) : Type 0 where
    pub same : new ≡ old
    pub peers_same : AreSame peers others
    pub stay : AllStay now after
    pub next_is : next ≡ Waits

  abbrev pub IsVisit : ℕ → S → (ℕ → Connection) → Peers → S → (ℕ → Connection) → Peers → Next → Type 0
  IsVisit k old now peers new after others next =
      ((c : Peer) × (d : Peer) × IsTurn k c d old now peers new after others next) ⊎ IsNoTurn old now peers new after others next
