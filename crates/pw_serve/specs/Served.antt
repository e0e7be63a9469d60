-- What serving many connections comes to, whatever order their bytes come in and however they are cut.
-- (RFC 9112, sections 9.3 and 9.6; definitions of this project.)
use Rattle.std.specs.Prelude.{◌≡◌, ◌≢◌, ◌⊎◌, true, false, ℕ, Bool, List, [], ◌∷◌, ◌++◌, Option, Some, None}
use Rattle.std.specs.List.{list_any}
use Rattle.std.specs.Io.KnownBytes.{Appends, Consumes}
use Rattle.pw_serve.specs.declared.connections.Ending.{Ending}
use Rattle.pw_serve.specs.declared.connections.Ending.TheVariants.{Over, Displaced, Broken, Short}
use Rattle.pw_serve.specs.Connections.{Connection}
use Rattle.pw_serve.specs.Exchanges.{Asked, Chain, Exchange, asked_bytes, exchanges_of, is_at_end, is_last, reply_bytes}

-- these are all the bytes that it sends, where they are known
abbrev pub IsAllOf : Option (List ℕ) → List ℕ → Type 0
IsAllOf None got = Unit {0}
IsAllOf (Some bytes) got = bytes ≡ got

-- nothing is asked behind what ends the connection; and what was refused because the stream ended stands at its end, with
-- nothing behind it
abbrev pub AreInTurn : Option (List ℕ) → List ℕ → List ℕ → List Exchange → Type 0
AreInTurn stream got rest [] = Unit {0}
AreInTurn stream got rest (e ∷ []) = is_at_end e.asked ≡ true → (rest ≡ []) × IsAllOf stream got
AreInTurn stream got rest (e ∷ f ∷ es) = (is_last e.asked ≡ false) × AreInTurn stream got rest (f ∷ es)

-- A connection and its own exchanges: what was read of it is what they asked, and then `rest`; what it was told is their
-- replies, but for what still waits.
pub record Talk (old new : Connection) (own : List Exchange) (rest wait : List ℕ) : Type 0 where
  pub read : Consumes old.unread new.unread (asked_bytes own ++ rest)
  pub in_turn : AreInTurn old.unread (asked_bytes own ++ rest) rest own
  pub out : List ℕ
  pub written : Appends old.told new.told out
  pub replies_are : reply_bytes own ≡ out ++ wait

-- each byte that it sent is of a request that was answered, or what it asked last ends it; and it was told each reply
abbrev pub IsComplete : Option (List ℕ) → List Exchange → List ℕ → List ℕ → Type 0
IsComplete stream own rest wait =
    (wait ≡ []) × (((rest ≡ []) × IsAllOf stream (asked_bytes own)) ⊎ (list_any (λ e. is_last e.asked) own ≡ true))

-- why a connection was ended: it was over, and is complete; it was idle, and another took its place; it was broken; or
-- memory was refused
abbrev pub IsOwed : Ending → Option (List ℕ) → Option Bool → List Exchange → List ℕ → List ℕ → Type 0
IsOwed Over stream broken own rest wait = IsComplete stream own rest wait
IsOwed Displaced stream broken own rest wait = (wait ≡ []) × (rest ≡ [])
IsOwed Broken stream broken own rest wait = broken ≢ Some false
IsOwed Short stream broken own rest wait = Unit {0}

-- of one that wasn't ended before, where that is known
abbrev pub IsEndOf : Connection → Connection → List Exchange → List ℕ → List ℕ → Type 0
IsEndOf old new own rest wait = (why : Ending) → old.ended ≡ Some None → new.ended ≡ Some (Some why) → IsOwed why old.unread new.broken own rest wait

module _ {S : Type 0} (answers : S → Asked → List ℕ → S → Type 0) where
  -- There is one order of all exchanges, in which the service answered one after another; and each connection's own ones,
  -- in that order, are its talk.
  pub record IsServed (old : S) (first last : ℕ → Connection) (new : S) : Type 0 where
    pub order : List Exchange
    pub chain : Chain answers old order new
    pub rest : ℕ → List ℕ
    pub wait : ℕ → List ℕ
    pub talks : (k : ℕ) → Talk (first k) (last k) (exchanges_of k order) (rest k) (wait k)
    pub ends : (k : ℕ) → IsEndOf (first k) (last k) (exchanges_of k order) (rest k) (wait k)
