-- What serving many connections comes to: requests of each, answered in one order, and replies to each.
-- (RFC 9112, sections 9.3 and 9.6; definitions of this project.)
use Rattle.std.specs.Prelude.{◌≡◌, ◌≢◌, ◌==◌, true, false, ℕ, List, [], ◌∷◌, ◌++◌, Option, Some, None, map}
use Rattle.std.specs.List.{filter, flat_map}
use Rattle.std.specs.Io.KnownBytes.{Appends, Consumes}
use Rattle.pw_serve.specs.declared.connections.Ending.{Ending}
use Rattle.pw_serve.specs.declared.connections.Ending.TheVariants.{Over, Displaced, Broken, Short}
use Rattle.pw_serve.specs.Connections.{Connection}
use Rattle.pw_http.specs.declared.audience.Audience.{Audience}
use Rattle.pw_http.specs.Replies.{Reply, reply_bytes}
use Rattle.pw_http.specs.Requests.{Request, Asked, Whole, Faulty, Begins, Requests, Stands, closes, is_last}
use Rattle.pw_http.specs.Runs.{Asking, Chain, Step, Tells}

-- ---- one order
-- what a connection asked, and what was replied
pub record Exchange : Type 0 where
  pub who : ℕ
  pub asked : Asked
  pub reply : Reply

-- whoever asked
abbrev pub said : List Exchange → List (Asked × Reply)
said order = map (λ e. (e.asked, e.reply)) order

-- those of one connection
abbrev pub exchanges_of : ℕ → List Exchange → List Exchange
exchanges_of k order = filter (λ e. k == e.who) order

-- the bytes of the replies; the last says that the conversation ends
abbrev pub replies_bytes : List Exchange → List ℕ
replies_bytes own = flat_map (λ e. reply_bytes (is_last e.asked) e.reply) own

-- ---- one connection
-- requests behind which the conversation goes on, and what ends it, if anything does
abbrev pub in_turn : List Request → Option Asked → List Asked
in_turn [] None = []
in_turn [] (Some asked) = asked ∷ []
in_turn (r ∷ requests) last = Whole r ∷ in_turn requests last

module _ (audience : Audience) where
  -- what ends it stands behind the others, where `left` was read, and `more` comes behind that: a whole request was
  -- wholly read; what is refused stands in all of it
  abbrev pub LastStands : List ℕ → List ℕ → Option Asked → Type 0
  LastStands left more None = Unit {0}
  LastStands left more (Some (Whole r)) = Stands audience left (Whole r) × (closes r.head ≡ true)
  LastStands left more (Some (Faulty why)) = Stands audience (left ++ more) (Faulty why)

  -- A connection and its own exchanges: its bytes, read from their front, are what it asked, in turn; and it was told the
  -- bytes of the replies, but for what still waits.
  pub record OwnTalk (old new : Connection) (own : List Exchange) : Type 0 where
    -- what was read of it, and what it sends behind that
    pub got : List ℕ
    pub more : List ℕ
    pub read : Consumes old.unread new.unread got
    pub sends : Tells old.unread (got ++ more)
    -- its requests
    pub requests : List Request
    pub last : Option Asked
    pub asked_are : map (λ e. e.asked) own ≡ in_turn requests last
    pub left : List ℕ
    pub begins : Begins audience got requests left
    pub ends : LastStands left more last
    -- what it was told
    pub text : List ℕ
    pub wait : List ℕ
    pub written : Appends old.told new.told text
    pub replies_are : replies_bytes own ≡ text ++ wait

  -- Why it was ended: it was over, and then its requests are those of its whole stream, and it was told each reply; it was
  -- idle, and another took its place; it was broken; or memory was refused.
  abbrev pub MayEnd : {old new : Connection} {own : List Exchange} → OwnTalk old new own → Ending → Type 0
  MayEnd t Over = (t.wait ≡ []) × Requests audience (t.got ++ t.more) t.requests t.last
  MayEnd t Displaced = (t.wait ≡ []) × (t.last ≡ None → t.left ≡ [])
  MayEnd {new} t Broken = new.broken ≢ Some false
  MayEnd t Short = Unit {0}

  -- of one that wasn't ended before, where that is known
  abbrev pub EndsRightly : {old new : Connection} {own : List Exchange} → OwnTalk old new own → Type 0
  EndsRightly {old} {new} t = (why : Ending) → old.ended ≡ Some None → new.ended ≡ Some (Some why) → MayEnd t why

module _ (audience : Audience) {S : Type 0} (serves : S → Asking → Reply → S → Type 0) where
  -- There is one order of all exchanges, in which the service answered one after another; and each connection's own ones,
  -- in that order, are what its bytes ask, and what it was told.
  pub record IsManyTalks (old : S) (first last : ℕ → Connection) (new : S) : Type 0 where
    pub order : List Exchange
    pub chain : Chain (Step serves) old (said order) new
    pub talks : (k : ℕ) → OwnTalk audience (first k) (last k) (exchanges_of k order)
    pub ends : (k : ℕ) → EndsRightly audience (talks k)
