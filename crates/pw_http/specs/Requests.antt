-- What a stream of bytes asks, whatever pieces it comes in: requests back to back, each with its body.
-- (RFC 9112, in this project's profile: no chunked bodies, no Host needed.)
use Rattle.std.specs.Prelude.{true, false, ◌≡◌, ◌≢◌, ◌≤◌, ◌<◌, ◌⊎◌, ◌==◌, ◌||◌, ◌&&◌, ℕ, List, Bool, [], ◌∷◌, ◌++◌, length, codes, Option, Some, None, All, if◌then◌else◌, nat_le}
use Rattle.std.specs.List.{flat_map, list_any, list_all}
use Rattle.std.specs.Char.{is_ascii_digit}
use Rattle.std.specs.Str.Parse.{digits_value}
use Rattle.httparse.specs.Grammar.{RequestHead, IsRequestHead, print_request}
use Rattle.pw_http.specs.Audience.{lets_in}
use Rattle.pw_http.specs.Heads.{IsHead, HasNoHead, headers_of, is_named, longest_head, most_fields, same_name, values_of}
use Rattle.pw_http.specs.declared.audience.Audience.{Audience}
use Rattle.pw_http.specs.declared.requests.Refusal.{Refusal}
use Rattle.pw_http.specs.declared.requests.Refusal.TheVariants.{BadHead, NotForThisServer, NotSupported, BodyTooLarge, BadBody}

-- the greatest length of a body
abbrev pub longest_body : ℕ
longest_body = 262_144

-- 1 to 10 digits
abbrev pub number_of : List ℕ → Option ℕ
number_of text = if nat_le 1 (length text) && (nat_le (length text) 10 && list_all is_ascii_digit text) then Some (digits_value 10 text) else None

-- the length that the values say
abbrev pub length_said : List (List ℕ × List ℕ) → Option ℕ
length_said [] = Some 0
length_said (f ∷ []) = number_of f.1
length_said (f ∷ g ∷ fs) = None

abbrev pub body_length : RequestHead → Option ℕ
body_length h = length_said (values_of (codes "content-length") (headers_of h))

abbrev pub is_coded : RequestHead → Bool
is_coded h = list_any (is_named (codes "transfer-encoding")) (headers_of h)

-- the conversation ends after the answer
abbrev pub asks_close : List ℕ × List ℕ → Bool
asks_close f = is_named (codes "connection") f && same_name f.1 (codes "close")

abbrev pub closes : RequestHead → Bool
closes h = (h.minor == 0) || list_any asks_close (headers_of h)

-- a request with its body
pub record Request : Type 0 where
  pub head : RequestHead
  pub body : List ℕ

abbrev pub request_bytes : Request → List ℕ
request_bytes r = print_request r.head ++ r.body

-- what stands in a stream where a request would: a whole request, or why there is none
pub data Asked : Type 0 where
  Whole : Request → Asked
  Faulty : Refusal → Asked

-- the conversation ends after it
abbrev pub is_last : Asked → Bool
is_last (Whole r) = closes r.head
is_last (Faulty why) = true

module _ (audience : Audience) where
  -- a head by whose headers the request is let in
  abbrev pub is_let_in : RequestHead → Bool
  is_let_in h = lets_in audience (headers_of h)

  pub record IsWhole (r : Request) : Type 0 where
    pub head : IsRequestHead r.head
    pub size : length (print_request r.head) ≤ longest_head
    pub fields : length r.head.fields ≤ most_fields
    pub let_in : is_let_in r.head ≡ true
    pub plain : is_coded r.head ≡ false
    pub said : body_length r.head ≡ Some (length r.body)
    pub fits : length r.body ≤ longest_body

  -- a whole request after which the conversation goes on
  abbrev pub GoesOn : Request → Type 0
  GoesOn r = IsWhole r × (closes r.head ≡ false)

  -- why what is left is no whole request, where something is left: no head; who isn't let in, whatever else is wrong; a
  -- coded body; a length that is none, or too long; a body that doesn't come
  abbrev pub Refuses : List ℕ → Refusal → Type 0
  Refuses left BadHead = HasNoHead left ⊎ ((h : RequestHead) × (rest : List ℕ) × IsHead left h rest × (is_let_in h ≡ true) × (is_coded h ≡ false) × (body_length h ≡ None))
  Refuses left NotForThisServer = (h : RequestHead) × (rest : List ℕ) × IsHead left h rest × (is_let_in h ≡ false)
  Refuses left NotSupported = (h : RequestHead) × (rest : List ℕ) × IsHead left h rest × (is_let_in h ≡ true) × (is_coded h ≡ true)
  Refuses left BodyTooLarge = (h : RequestHead) × (rest : List ℕ) × (n : ℕ) × IsHead left h rest × (is_let_in h ≡ true) × (is_coded h ≡ false) × (body_length h ≡ Some n) × (longest_body < n)
  Refuses left BadBody = (h : RequestHead) × (rest : List ℕ) × (n : ℕ) × IsHead left h rest × (is_let_in h ≡ true) × (is_coded h ≡ false) × (body_length h ≡ Some n) × (n ≤ longest_body) × (length rest < n)

  -- no whole request stands at the front
  abbrev pub HasNoWhole : List ℕ → Type 0
  HasNoWhole left = (r : Request) (rest : List ℕ) → IsWhole r → left ≡ request_bytes r ++ rest → ⊥

  -- the stream begins with these requests, after which the conversation goes on, and then comes the rest
  pub record Begins (stream : List ℕ) (requests : List Request) (rest : List ℕ) : Type 0 where
    pub bytes : stream ≡ flat_map request_bytes requests ++ rest
    pub each : All GoesOn requests

  -- what is left begins with it
  abbrev pub Stands : List ℕ → Asked → Type 0
  Stands left (Whole r) = (more : List ℕ) × IsWhole r × (left ≡ request_bytes r ++ more)
  Stands left (Faulty why) = (left ≢ []) × Refuses left why

  -- what is left is the end, or a last request
  abbrev pub Ends : List ℕ → Option Asked → Type 0
  Ends left None = left ≡ []
  Ends left (Some asked) = Stands left asked × (is_last asked ≡ true)

  -- the requests of a whole stream: those after which the conversation goes on, and the last, if it ends with one
  pub record Requests (stream : List ℕ) (requests : List Request) (last : Option Asked) : Type 0 where
    pub rest : List ℕ
    pub begins : Begins stream requests rest
    pub ends : Ends rest last
