-- Request heads, as `httparse` defines them in its default configuration (RFC 9112), within the limits of this
-- server: 8,192 bytes and 64 header fields.
use Rattle.std.specs.Prelude.{◌≤◌, ℕ, List, Bool, length, map, bytes_eq}
use Rattle.std.specs.List.{filter}
use Rattle.std.specs.Char.{to_ascii_lowercase}
use Rattle.httparse.specs.Grammar.{RequestHead, ReadsRequest, print_request}
use Rattle.httparse.specs.Spans.{name_and_value}

abbrev pub longest_head : ℕ
longest_head = 8192

abbrev pub most_fields : ℕ
most_fields = 64

-- the bytes begin with the head h, and then come the rest
pub record IsHead (left : List ℕ) (h : RequestHead) (rest : List ℕ) : Type 0 where
  pub reads : ReadsRequest left h rest
  pub size : length (print_request h) ≤ longest_head
  pub fields : length h.fields ≤ most_fields

-- no prefix of at most 8,192 bytes is a request head with at most 64 header fields
abbrev pub HasNoHead : List ℕ → Type 0
HasNoHead left = (h : RequestHead) (rest : List ℕ) → ¬ (IsHead left h rest)

-- two names are the same in any letter case
abbrev pub same_name : List ℕ → List ℕ → Bool
same_name a b = bytes_eq (map to_ascii_lowercase a) (map to_ascii_lowercase b)

-- the headers of a head, and those of a name
abbrev pub headers_of : RequestHead → List (List ℕ × List ℕ)
headers_of h = map name_and_value h.fields

abbrev pub is_named : List ℕ → List ℕ × List ℕ → Bool
is_named name f = same_name f.0 name

abbrev pub values_of : List ℕ → List (List ℕ × List ℕ) → List (List ℕ × List ℕ)
values_of name headers = filter (is_named name) headers
