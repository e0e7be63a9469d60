-- What a step and a turn do. It serves `src/turn.rt` and `src/peers.rt`.
use Rattle.std.specs.Prelude.{◌≡◌, ℕ, List, ◌++◌}
use Rattle.std.specs.List.{AllByRecursion}
use Rattle.pw_serve.specs.declared.connections.Ending.{Ending}
use Rattle.pw_serve.specs.declared.peer.Peer.{Peer}
use Rattle.pw_serve.specs.declared.turn.Next.{Next}
use Rattle.pw_serve.specs.declared.turn.Next.TheVariants.{Goes, Replied, Waits, Held, Ends}
use Rattle.pw_serve.specs.Connections.{Connection, OthersStay}
use Rattle.pw_serve.specs.Exchanges.{Asked, Chain, Exchange}
use Rattle.pw_serve.specs.Served.{IsOwed, Talk}
use Rattle.pw_serve.specs.inner.Peers.{IsPeer, IsResting}

-- all other connections stay as they are, as far as it is known of them
abbrev pub LeavesOthers : {C : Type 0} → (C → ℕ → Connection) → ℕ → C → C → Type 0
LeavesOthers connection k old new = OthersStay k (connection old) (connection new)

-- a connection that is to be ended, and why it may be
pub record IsLeaving (why : Ending) (first now : Connection) (own : List Exchange) : Type 0 where
  pub rest : List ℕ
  pub wait : List ℕ
  pub talk : Talk first now own rest wait
  pub owed : IsOwed why first.unread now.broken own rest wait
  pub same_end : now.ended ≡ first.ended

abbrev pub IsAfter : Next → Connection → Peer → Connection → List Exchange → Type 0
IsAfter Goes now c first own = IsPeer first now own c
IsAfter Replied now c first own = IsPeer first now own c
IsAfter Waits now c first own = IsPeer first now own c
IsAfter Held now c first own = IsPeer first now own c
IsAfter (Ends why) now c first own = IsLeaving why first now own

-- whatever was asked before
abbrev pub Moves : Connection → Peer → (Connection → List Exchange → Type 0) → Type 0
Moves before c P = (first : Connection) (own : List Exchange) → IsPeer first before own c → P first own

-- who is left to an event rests
abbrev pub Rests : (List ℕ → Type 0) → Next → Peer → Type 0
Rests waits Waits c = IsResting waits c
Rests waits Goes c = Unit {0}
Rests waits Replied c = Unit {0}
Rests waits Held c = Unit {0}
Rests waits (Ends why) c = Unit {0}

abbrev pub IsBy : ℕ → Exchange → Type 0
IsBy k e = e.who ≡ k

module _ {S : Type 0} (answers : S → Asked → List ℕ → S → Type 0) where
  -- connection k asked this, and was answered
  pub record Leads (k : ℕ) (old : S) (before : Connection) (c : Peer) (new : S) (P : Connection → List Exchange → Type 0) : Type 0 where
    pub es : List Exchange
    pub chain : Chain answers old es new
    pub mine : AllByRecursion (IsBy k) es
    pub leads : (first : Connection) (own : List Exchange) → IsPeer first before own c → P first (own ++ es)
