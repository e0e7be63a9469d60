-- What is answered to the bytes of one of many connections. It serves `src/answering.rt`.
use Rattle.std.specs.Prelude.{true, false, ◌≡◌, ℕ, List, Bool, [], ◌++◌}
use Rattle.pw_serve.specs.Exchanges as raw
use Rattle.pw_serve.specs.declared.service.Answer.{Answer}
use Rattle.pw_serve.specs.declared.service.Answer.TheVariants as answer
use Rattle.pw_http.specs.declared.audience.Audience.{Audience}
use Rattle.pw_http.specs.declared.requests.Places.{Places}
use Rattle.pw_http.specs.Replies.{Reply, reply_bytes}
use Rattle.pw_http.specs.Requests.{Asked, Whole, Faulty, HasNoWhole, IsWhole, Stands, closes, is_last, request_bytes}
use Rattle.pw_http.specs.Routes.{place_of}
use Rattle.pw_http.specs.Runs.{Asking, Step}
use Rattle.pw_http.specs.inner.Large.{is_large_at}
use Rattle.pw_http.specs.inner.Turns.{asking_at}

module _ (audience : Audience) where
  -- the bytes are this request; or they are refused for this, whatever follows them
  abbrev pub Holds : raw.Asked → Asked → Type 0
  Holds (raw.Whole bytes ends) (Whole r) = IsWhole audience r × (bytes ≡ request_bytes r) × (ends ≡ closes r.head)
  Holds (raw.Whole bytes ends) (Faulty why) = ⊥
  Holds (raw.Refused bytes ended) (Whole r) = ⊥
  Holds (raw.Refused bytes ended) (Faulty why) = (left : List ℕ) → (ended ≡ true → left ≡ []) → Stands audience (bytes ++ left) (Faulty why)

-- no whole request stands in front of the bytes, whoever is let in
abbrev pub IsStillCut : List ℕ → Type 0
IsStillCut bytes = (audience : Audience) → HasNoWhole audience bytes

module _ (audience : Audience) {S : Type 0} (serves : S → Asking → Reply → S → Type 0) where
  -- the step that answers what the bytes hold, and the bytes of its reply
  pub record IsAnswered (old : S) (sent : raw.Asked) (text : List ℕ) (new : S) : Type 0 where
    pub asked : Asked
    pub holds : Holds audience sent asked
    pub reply : Reply
    pub step : Step serves old asked reply new
    pub text_is : text ≡ reply_bytes (is_last asked) reply

-- whether the reply to the request at these places may be a large one
abbrev pub is_large_in : List ℕ → Places → Bool
is_large_in buf p = is_large_at (place_of (asking_at buf p).method (asking_at buf p).target)

module _ {S : Type 0} (serves : S → Asking → Reply → S → Type 0) where
  -- What comes of a whole request at these places: a reply that may be large has to wait, until it may; and without
  -- memory for the reply it is lost.
  abbrev pub IsReply : S → List ℕ → Places → Bool → S → List ℕ → Answer → Type 0
  IsReply old buf p may_be_large new text answer.Later = (new ≡ old) × (may_be_large ≡ false) × (is_large_in buf p ≡ true) × (text ≡ [])
  IsReply old buf p may_be_large new text (answer.Replied n ends) =
      (n ≡ p.len) × (ends ≡ p.closes) × (is_large_in buf p ≡ true → may_be_large ≡ true)
      × (reply : Reply) × serves old (asking_at buf p) reply new × (text ≡ reply_bytes p.closes reply)
  IsReply old buf p may_be_large new text answer.Short = (reply : Reply) × serves old (asking_at buf p) reply new
  IsReply old buf p may_be_large new text answer.Waits = ⊥
  IsReply old buf p may_be_large new text answer.Refused = ⊥
