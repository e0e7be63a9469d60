-- What is asked in a stream of bytes, and one order of requests and replies. A service is known by what it may answer:
-- a relation between its state before, what is asked, the bytes of the reply, and its state behind it.
-- (RFC 9112; definitions of this project.)
use Rattle.std.specs.Prelude.{◌≡◌, ◌==◌, false, true, ℕ, Bool, List, [], ◌∷◌}
use Rattle.std.specs.List.{filter, flat_map}

-- What stands in a stream where a request would: a whole request (RFC 9112, section 2.1), and whether the connection
-- ends behind its reply (9.6); or bytes that are refused, behind which nothing is asked, and whether the stream ended
-- with them.
pub data Asked : Type 0 where
  Whole : List ℕ → Bool → Asked
  Refused : List ℕ → Bool → Asked

abbrev pub bytes_of : Asked → List ℕ
bytes_of (Whole bytes closes) = bytes
bytes_of (Refused bytes ended) = bytes

-- the connection ends behind its reply
abbrev pub is_last : Asked → Bool
is_last (Whole bytes closes) = closes
is_last (Refused bytes ended) = true

-- it is what it is because the stream ended with it
abbrev pub is_at_end : Asked → Bool
is_at_end (Whole bytes closes) = false
is_at_end (Refused bytes ended) = ended

-- what a connection asked, with its reply
pub record Exchange : Type 0 where
  pub who : ℕ
  pub asked : Asked
  pub reply : List ℕ

-- those of one connection
abbrev pub exchanges_of : ℕ → List Exchange → List Exchange
exchanges_of k order = filter (λ e. k == e.who) order

abbrev pub asked_bytes : List Exchange → List ℕ
asked_bytes own = flat_map (λ e. bytes_of e.asked) own

abbrev pub reply_bytes : List Exchange → List ℕ
reply_bytes own = flat_map (λ e. e.reply) own

module _ {S : Type 0} (answers : S → Asked → List ℕ → S → Type 0) where
  -- one exchange after another
  abbrev pub Chain : S → List Exchange → S → Type 0
  Chain old [] new = new ≡ old
  Chain old (e ∷ es) new = (mid : S) × answers old e.asked e.reply mid × Chain mid es new
