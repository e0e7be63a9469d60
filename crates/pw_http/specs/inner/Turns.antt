-- What one look at the bytes received led to. It serves `src/conversation.rt`.
use Rattle.std.specs.Prelude.{true, false, ◌≡◌, ◌+◌, ◌≤◌, ◌<◌, ℕ, List, Bool, [], ◌++◌, length, slice_range, take, Option, Result, Ok, Err}
use Rattle.std.specs.Io.KnownBytes.{Appends}
use Rattle.httparse.specs.Spans.{span_bytes}
use Rattle.pw_http.specs.declared.audience.Audience.{Audience}
use Rattle.pw_http.specs.declared.conversation.Batch.{Batch}
use Rattle.pw_http.specs.declared.conversation.Turn.{Turn}
use Rattle.pw_http.specs.declared.conversation.Turn.TheVariants.{Waits, Over, Replied, Last}
use Rattle.pw_http.specs.declared.fault.WireFault.{WireFault}
use Rattle.pw_http.specs.declared.fault.WireFault.TheVariants.{Write}
use Rattle.pw_http.specs.declared.requests.Places.{Places}
use Rattle.pw_http.specs.declared.requests.TheConstants.{ROOM}
use Rattle.pw_http.specs.Replies.{Reply, reply_bytes}
use Rattle.pw_http.specs.Requests.{Request, Asked, Whole, GoesOn, HasNoWhole, Stands, is_last, request_bytes}
use Rattle.pw_http.specs.Runs.{Asking, Conversation, Cut, Step, Told}

-- the parts of a request at these places
abbrev pub asking_at : List ℕ → Places → Asking
asking_at buf p = record { method = span_bytes buf p.method; target = span_bytes buf p.target; body = slice_range buf p.start p.len }

module _ (audience : Audience) {S : Type 0} (serves : S → Asking → Reply → S → Type 0) where
  -- a reply is written to what the bytes received begin with, whatever comes after them
  pub record Replies (old : S) (buf : List ℕ) (ended : Bool) (new : S) : Type 0 where
    pub asked : Asked
    pub stands : (left : List ℕ) → (ended ≡ true → left ≡ []) → Stands audience (buf ++ left) asked
    pub reply : Reply
    pub step : Step serves old asked reply new

  abbrev pub IsTurn : S → List ℕ → Bool → Option (List ℕ) → Option (List ℕ) → S → List ℕ → Result Turn WireFault → Type 0
  IsTurn old buf ended known after new rest (Ok Waits) = HasNoWhole audience buf × (ended ≡ false) × (length buf < ROOM) × (new ≡ old) × Appends known after [] × (rest ≡ buf)
  IsTurn old buf ended known after new rest (Ok Over) = (buf ≡ []) × (ended ≡ true) × (new ≡ old) × Appends known after []
  IsTurn old buf ended known after new rest (Ok Replied) = (r : Request) × (reply : Reply) × GoesOn audience r × (buf ≡ request_bytes r ++ rest) × Step serves old (Whole r) reply new × Appends known after (reply_bytes false reply) × (length rest < length buf)
  IsTurn old buf ended known after new rest (Ok Last) = (p : Replies old buf ended new) × (is_last p.asked ≡ true) × Appends known after (reply_bytes true p.reply)
  IsTurn old buf ended known after new rest (Err e) = (p : Replies old buf ended new) × (n : ℕ) × Appends known after (take n (reply_bytes (is_last p.asked) p.reply)) × (e ≡ Write)

  -- what is answered of the bytes received, until more are needed or the conversation is over
  abbrev pub IsBatchBy : S → List ℕ → Bool → Option (List ℕ) → Option (List ℕ) → S → List ℕ → ℕ → Bool → Type 0
  IsBatchBy old buf ended known after new rest replies true = (text : List ℕ) × Appends known after text × ((left : List ℕ) → (ended ≡ true → left ≡ []) → Conversation audience serves old (buf ++ left) text replies new)
  IsBatchBy old buf ended known after new rest replies false = (text : List ℕ) × Appends known after text × Told audience serves old buf text replies new rest × HasNoWhole audience rest × (ended ≡ false) × (length rest < ROOM) × (replies + length rest ≤ length buf)

  abbrev pub IsBatch : S → List ℕ → Bool → Option (List ℕ) → Option (List ℕ) → S → List ℕ → Result Batch WireFault → Type 0
  IsBatch old buf ended known after new rest (Ok b) = IsBatchBy old buf ended known after new rest b.replies b.is_over
  IsBatch old buf ended known after new rest (Err e) = (text : List ℕ) × Appends known after text × ((left : List ℕ) → (ended ≡ true → left ≡ []) → Cut audience serves old (buf ++ left) text new) × (e ≡ Write)
