-- What a service answers, step by step, and what a conversation is. A service is known by what it may answer to a
-- request: a relation between its state before, the request's method, target and body, the reply, and its state
-- behind it. (Definitions of this project.)
use Rattle.std.specs.Prelude.{false, ◌≡◌, ◌+◌, ◌≤◌, ℕ, List, Bool, [], ◌∷◌, ◌++◌, length, take, Option, Some, None, Result, Ok, Err}
use Rattle.std.specs.List.{flat_map}
use Rattle.std.specs.Io.KnownBytes.{Appends, Consumes}
use Rattle.pw_http.specs.declared.audience.Audience.{Audience}
use Rattle.pw_http.specs.declared.fault.WireFault.{WireFault}
use Rattle.pw_http.specs.declared.fault.WireFault.TheVariants.{Read, Write, TooManyTurns, Memory}
use Rattle.pw_http.specs.declared.served.Served.{Served}
use Rattle.pw_http.specs.Requests.{Request, Asked, Whole, Faulty, Stands, is_last, Begins, Requests, HasNoWhole}
use Rattle.pw_http.specs.Replies.{Reply, reply_bytes, refusal_reply}
use Rattle.pw_http.specs.Writing.{Writes}

-- what a service is asked
pub record Asking : Type 0 where
  pub method : List ℕ
  pub target : List ℕ
  pub body : List ℕ

abbrev pub asking_of : Request → Asking
asking_of r = record { method = r.head.method; target = r.head.target; body = r.body }

abbrev pub replies_text : List Reply → List ℕ
replies_text replies = flat_map (reply_bytes false) replies

-- the bytes of a reader that tells them
abbrev pub Tells : Option (List ℕ) → List ℕ → Type 0
Tells None stream = Unit {0}
Tells (Some bytes) stream = bytes ≡ stream

-- requests with their replies
abbrev pub pairs : List Request → List Reply → List (Asked × Reply)
pairs [] replies = []
pairs (r ∷ requests) [] = []
pairs (r ∷ requests) (reply ∷ replies) = (Whole r, reply) ∷ pairs requests replies

module _ {S : Type 0} (serves : S → Asking → Reply → S → Type 0) where
  -- ---- runs
  -- one step: to a whole request what the service gives, to anything else its refusal
  abbrev pub Step : S → Asked → Reply → S → Type 0
  Step old (Whole r) reply new = serves old (asking_of r) reply new
  Step old (Faulty why) reply new = (reply ≡ refusal_reply why) × (new ≡ old)

  -- the replies to these requests, one step after another
  abbrev pub Run : S → List Request → List Reply → S → Type 0
  Run old [] [] new = new ≡ old
  Run old (r ∷ requests) (reply ∷ replies) new = (mid : S) × Step old (Whole r) reply mid × Run mid requests replies new
  Run old [] (reply ∷ replies) new = ⊥
  Run old (r ∷ requests) [] new = ⊥

  -- the last reply, which says that the conversation ends
  abbrev pub EndsWith : S → Option Asked → List ℕ → ℕ → S → Type 0
  EndsWith mid None text count new = (text ≡ []) × (count ≡ 0) × (new ≡ mid)
  EndsWith mid (Some asked) text count new = (reply : Reply) × Step mid asked reply new × (text ≡ reply_bytes (is_last asked) reply) × (count ≡ 1)

  -- the last request with its reply
  abbrev pub last_pair : (mid new : S) (text : List ℕ) (count : ℕ) (last : Option Asked) → EndsWith mid last text count new → List (Asked × Reply)
  last_pair mid new text count None ends = []
  last_pair mid new text count (Some asked) ends = (asked, ends.0) ∷ []

  -- what a service wrote and became
  abbrev pub Serving : {T E : Type 0} → S → Asking → Bool → Option (List ℕ) → Option (List ℕ) → S → Result T E → Type 0
  Serving old asking closing known after new r = (reply : Reply) × serves old asking reply new × Writes known after (reply_bytes closing reply) r

-- requests with their replies, one behind another, each of which does so much
abbrev pub Chain : {S : Type 0} → (S → Asked → Reply → S → Type 0) → S → List (Asked × Reply) → S → Type 0
Chain does old [] new = new ≡ old
Chain {S} does old (e ∷ es) new = (mid : S) × does old e.0 e.1 mid × Chain does mid es new

module _ (audience : Audience) {S : Type 0} (serves : S → Asking → Reply → S → Type 0) where
  -- ---- what was said
  -- up to a place: the requests that were wholly received and answered, and what came after them
  pub record Told (old : S) (got text : List ℕ) (count : ℕ) (new : S) (rest : List ℕ) : Type 0 where
    pub requests : List Request
    pub replies : List Reply
    pub begins : Begins audience got requests rest
    pub run : Run serves old requests replies new
    pub text_is : text ≡ replies_text replies
    pub count_is : count ≡ length replies

  -- the bytes written are the replies of one run over the requests of the stream, and so many
  pub record Conversation (old : S) (stream text : List ℕ) (count : ℕ) (new : S) : Type 0 where
    pub requests : List Request
    pub last : Option Asked
    pub are : Requests audience stream requests last
    pub replies : List Reply
    pub mid : S
    pub run : Run serves old requests replies mid
    pub end_text : List ℕ
    pub end_count : ℕ
    pub ends : EndsWith serves mid last end_text end_count new
    pub text_is : text ≡ replies_text replies ++ end_text
    pub count_is : count ≡ length replies + end_count

  -- each request with its reply, the last one too
  abbrev pub exchanges : {old new : S} {stream text : List ℕ} {count : ℕ} → Conversation old stream text count new → List (Asked × Reply)
  exchanges {new} c = pairs c.requests c.replies ++ last_pair serves c.mid new c.end_text c.end_count c.last c.ends

  -- a conversation cut within a reply: the replies to the first requests, and a front of the next reply
  pub record Cut (old : S) (stream text : List ℕ) (new : S) : Type 0 where
    pub before : List ℕ
    pub count : ℕ
    pub mid : S
    pub rest : List ℕ
    pub told : Told old stream before count mid rest
    pub asked : Asked
    pub stands : Stands audience rest asked
    pub reply : Reply
    pub step : Step serves mid asked reply new
    pub taken : ℕ
    pub text_is : text ≡ before ++ take taken (reply_bytes (is_last asked) reply)

  -- each request that was told of with its reply; and of a conversation that was cut, the one whose reply is cut too
  abbrev pub told_exchanges : {old new : S} {got text rest : List ℕ} {count : ℕ} → Told old got text count new rest → List (Asked × Reply)
  told_exchanges t = pairs t.requests t.replies

  abbrev pub cut_exchanges : {old new : S} {stream text : List ℕ} → Cut old stream text new → List (Asked × Reply)
  cut_exchanges c = told_exchanges c.told ++ (c.asked, c.reply) ∷ []

  -- the requests whose head and body were wholly read were answered, and no others
  pub record Interrupted (unread left known after : Option (List ℕ)) (old new : S) : Type 0 where
    pub got : List ℕ
    pub text : List ℕ
    pub count : ℕ
    pub rest : List ℕ
    pub consumed : Consumes unread left got
    pub written : Appends known after text
    pub told : Told old got text count new rest
    pub no_other : HasNoWhole audience rest

  -- ---- a conversation
  -- what it reads, writes and leaves: with Ok the whole, by at most so many reads; where the reader fails, or is
  -- called too often, the replies to all that was wholly read; where the writer fails, a front of the replies;
  -- nothing without memory
  abbrev pub IsTalk : Option (List ℕ) → Option (List ℕ) → Option (List ℕ) → Option (List ℕ) → S → S → ℕ → Result Served WireFault → Type 0
  IsTalk unread left known after old new turns (Ok s) = (stream : List ℕ) × (text : List ℕ) × Tells unread stream × Appends known after text × Conversation old stream text s.requests new
  IsTalk unread left known after old new turns (Err Read) = Interrupted unread left known after old new
  IsTalk unread left known after old new turns (Err TooManyTurns) = (p : Interrupted unread left known after old new) × (turns ≤ length p.got)
  IsTalk unread left known after old new turns (Err Write) = (stream : List ℕ) × (text : List ℕ) × Tells unread stream × Appends known after text × Cut old stream text new
  IsTalk unread left known after old new turns (Err Memory) = (left ≡ unread) × (after ≡ known) × (new ≡ old)
