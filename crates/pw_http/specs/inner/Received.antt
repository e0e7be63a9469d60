-- What the bytes received so far say. It serves `src/heads.rt`, `src/requests.rt` and `src/inbox.rt`.
use Rattle.std.specs.Prelude.{true, false, ◌≡◌, ◌≤◌, ◌<◌, ◌⊎◌, ℕ, List, Bool, [], ◌++◌, length, drop, slice_range, Option, Some}
use Rattle.std.specs.Io.KnownBytes.{Consumes, IsAtEnd}
use Rattle.httparse.specs.Grammar.{RequestHead, MayBecomeRequest}
use Rattle.httparse.specs.Spans.{IsRequestAt, IsRequestWithin, IsWithin, span_bytes}
use Rattle.httparse.specs.declared.spans.HeaderSpan.{HeaderSpan}
use Rattle.httparse.specs.declared.spans.RequestSpans.{RequestSpans}
use Rattle.pw_http.specs.Heads.{IsHead, HasNoHead, longest_head}
use Rattle.pw_http.specs.Requests.{Request, Faulty, IsWhole, Stands, body_length, closes, is_coded, is_let_in, longest_body, request_bytes}
use Rattle.pw_http.specs.declared.audience.Audience.{Audience}
use Rattle.pw_http.specs.declared.heads.Outcome.{Outcome}
use Rattle.pw_http.specs.declared.heads.Outcome.TheVariants as head
use Rattle.pw_http.specs.declared.requests.Next.{Next}
use Rattle.pw_http.specs.declared.requests.Next.TheVariants.{Nothing, More, Refused, Ready}
use Rattle.pw_http.specs.declared.requests.Places.{Places}
use Rattle.pw_http.specs.declared.requests.TheConstants.{ROOM}

-- ---- a head
-- the spans are those of a head at the front of the bytes
pub record IsHeadAt (buf : List ℕ) (headers : List HeaderSpan) (r : RequestSpans) : Type 0 where
  pub head : RequestHead
  pub is_head : IsHead buf head (drop r.len buf)
  pub at : IsRequestAt buf headers r head
  pub within : IsRequestWithin buf headers r

-- there is none yet, and more bytes can make one
pub record MayHaveHead (buf : List ℕ) : Type 0 where
  pub none : HasNoHead buf
  pub short : length buf < longest_head
  pub may : MayBecomeRequest buf

abbrev pub IsOutcome : List ℕ → List HeaderSpan → Outcome → Type 0
IsOutcome buf headers (head.Head r) = IsHeadAt buf headers r
IsOutcome buf headers head.More = MayHaveHead buf
IsOutcome buf headers head.Bad = (more : List ℕ) → HasNoHead (buf ++ more)

-- ---- a request
module _ (audience : Audience) where
  -- the parts of a whole request at the front stand at these places
  pub record IsWholeAt (buf : List ℕ) (p : Places) (r : Request) : Type 0 where
    pub whole : IsWhole audience r
    pub closes_is : closes r.head ≡ p.closes
    pub bytes : buf ≡ request_bytes r ++ drop p.len buf
    pub method : span_bytes buf p.method ≡ r.head.method
    pub target : span_bytes buf p.target ≡ r.head.target
    pub body : slice_range buf p.start p.len ≡ r.body
    pub method_within : IsWithin (length buf) p.method
    pub target_within : IsWithin (length buf) p.target
    pub order : p.start ≤ p.len
    pub within : p.len ≤ length buf
    pub some : 0 < p.len

  -- there is a head without a coding, with a length within the limit, and its body has not wholly come
  pub record WaitsForBody (buf : List ℕ) : Type 0 where
    pub head : RequestHead
    pub rest : List ℕ
    pub size : ℕ
    pub is_head : IsHead buf head rest
    pub let_in : is_let_in audience head ≡ true
    pub plain : is_coded head ≡ false
    pub said : body_length head ≡ Some size
    pub fits : size ≤ longest_body
    pub short : length rest < size

  -- nothing yet, no head yet, or no whole body yet: no refusal is certain
  abbrev pub Waits : List ℕ → Type 0
  Waits buf = (buf ≡ []) ⊎ (MayHaveHead buf ⊎ WaitsForBody buf)

  -- `ended` tells that no more bytes come
  abbrev pub IsNext : List ℕ → Bool → Next → Type 0
  IsNext buf ended Nothing = (buf ≡ []) × (ended ≡ true)
  IsNext buf ended More = Waits buf × (ended ≡ false) × (length buf < ROOM)
  IsNext buf ended (Refused why) = (left : List ℕ) → (ended ≡ true → left ≡ []) → Stands audience (buf ++ left) (Faulty why)
  IsNext buf ended (Ready p) = (r : Request) × IsWholeAt buf p r

-- ---- what one read adds
pub record IsFilled (old new : List ℕ) (left after : Option (List ℕ)) (n : ℕ) : Type 0 where
  pub piece : List ℕ
  pub new_is : new ≡ old ++ piece
  pub length_is : length piece ≡ n
  pub room : length new ≤ ROOM
  pub consumed : Consumes left after piece
  pub end : n ≡ 0 → IsAtEnd after
