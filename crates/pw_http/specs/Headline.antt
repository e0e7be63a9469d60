-- What conversations with a book come to, in words of uploads, records and figures.
-- (Definitions of this project.)
use Rattle.std.specs.Prelude.{◌≡◌, ◌≢◌, ◌⊎◌, false, ℕ, Option, Some, None, List, [], ◌∷◌, ◌++◌, Result, Ok, Err}
use Rattle.std.specs.Io.KnownBytes.{Appends}
use Rattle.pw_tariff.specs.Office.{OfficeFile, office_of}
use Rattle.pw_model.specs.declared.records.Entry.{Entry}
use Rattle.pw_model.specs.Counting.{SameMembers}
use Rattle.pw_model.specs.Laws.{HaveSameAnswers}
use Rattle.pw_record.specs.declared.fault.UploadFault.{UploadFault}
use Rattle.pw_record.specs.Causes.{want_of_memory}
use Rattle.pw_record.specs.Uploads.{Upload, RefusesContent}
use Rattle.pw_shelf.specs.declared.shelf.Shelf.{Ghosts}
use Rattle.pw_book.specs.After.{After, Refused}
use Rattle.pw_book.specs.declared.book.Book.{Book}
use Rattle.pw_serve.specs.Connections.{Connection}
use Rattle.pw_http.specs.declared.audience.Audience.{Audience}
use Rattle.pw_http.specs.declared.fault.WireFault.{WireFault}
use Rattle.pw_http.specs.declared.fault.WireFault.TheVariants.{Read, Write, TooManyTurns, Memory}
use Rattle.pw_http.specs.declared.replies.Status.{Status}
use Rattle.pw_http.specs.declared.replies.Status.TheVariants.{Fine, BadRequest, Forbidden, NotFound, MethodNotAllowed, PayloadTooLarge, NotImplemented, Unavailable, InsufficientStorage}
use Rattle.pw_http.specs.declared.served.Served.{Served}
use Rattle.pw_http.specs.Many.{IsManyTalks, said}
use Rattle.pw_http.specs.Replies.{Reply}
use Rattle.pw_http.specs.Requests.{Asked, Whole, Faulty}
use Rattle.pw_http.specs.Runs.{Asking, Conversation, Cut, Interrupted, Tells, asking_of, cut_exchanges, exchanges, told_exchanges}
use Rattle.pw_http.specs.Steps.{Answers, held, upload_of, upload_reply}

-- ---- uploads
-- what a request sends; nothing that is no whole request sends an upload
abbrev pub sent_by : Asked → Option Upload
sent_by (Whole request) = upload_of (asking_of request)
sent_by (Faulty why) = None

-- answered 200
abbrev pub if_fine : Status → Option Upload → List Upload
if_fine Fine (Some upload) = upload ∷ []
if_fine Fine None = []
if_fine BadRequest sent = []
if_fine Forbidden sent = []
if_fine NotFound sent = []
if_fine MethodNotAllowed sent = []
if_fine PayloadTooLarge sent = []
if_fine NotImplemented sent = []
if_fine Unavailable sent = []
if_fine InsufficientStorage sent = []

-- the uploads that were answered 200
abbrev pub accepted : List (Asked × Reply) → List Upload
accepted [] = []
accepted (e ∷ es) = if_fine e.1.status (sent_by e.0) ++ accepted es

-- ---- one exchange
-- an upload is answered 400 where the definition of records refuses its path and body for its content, and nowhere
-- else, unless the line of want of memory stands in its place
pub record IsJudged (file : OfficeFile) (upload : Upload) (reply : Reply) : Type 0 where
  pub only : reply.status ≡ BadRequest → (fault : UploadFault) × RefusesContent file upload fault × (reply ≡ upload_reply (Refused fault))
  pub each : (fault : UploadFault) → RefusesContent file upload fault → (reply ≡ upload_reply (Refused fault)) ⊎ (reply ≡ upload_reply (Refused want_of_memory))

module _ {S : Type 0} (shelf : Ghosts S) where
  pub record IsFair (old : Book S shelf) (asking : Asking) (reply : Reply) (new : Book S shelf) : Type 0 where
    pub judged : (upload : Upload) → upload_of asking ≡ Some upload → IsJudged old.office upload reply
    -- whatever isn't answered 200 leaves records, points, starts and totals as they were, unless the book couldn't
    -- take an upload back: then an `abandon` failed in this exchange
    pub kept : shelf.clean new.shelf → (shelf.state new.shelf).failed_abandons ≡ (shelf.state old.shelf).failed_abandons →
        reply.status ≢ Fine → held shelf new ≡ held shelf old

  -- whatever a book may answer is fair
  abbrev pub AnswersAreFair : Type 0
  AnswersAreFair = (old : Book S shelf) (asking : Asking) (reply : Reply) (new : Book S shelf) → Answers shelf old asking reply new → IsFair old asking reply new

  -- what a book answers, judged by the book that answers and the one behind it
  pub record AnswersFairly (old : Book S shelf) (asking : Asking) (reply : Reply) (new : Book S shelf) : Type 0 where
    pub answers : Answers shelf old asking reply new
    pub fair : IsFair old asking reply new

  -- ---- a conversation
  -- a book that isn't shut, over a store that returned what was written
  abbrev pub IsKnown : Book S shelf → Type 0
  IsKnown book = shelf.clean book.shelf × (book.shut ≡ false)

  -- what exchanges come to: behind the last one each figure is the definition's, for the records held before with those
  -- of the uploads that were answered 200
  pub record ComesTo (old : Book S shelf) (exchanges : List (Asked × Reply)) (new : Book S shelf) : Type 0 where
    pub office : new.office ≡ old.office
    -- a book that wasn't shut is shut only where an `abandon` failed
    pub stays_open : old.shut ≡ false → (shelf.state new.shelf).failed_abandons ≡ (shelf.state old.shelf).failed_abandons → new.shut ≡ false
    pub after : IsKnown new → After old.office (held shelf old).records (accepted exchanges) (held shelf new).records
    pub figures : IsKnown new → (records : List Entry) → After old.office (held shelf old).records (accepted exchanges) records →
        HaveSameAnswers (office_of old.office) (held shelf new).records records

  -- the bytes written are the replies of one run over the requests of the stream, each of whose steps is fair
  pub record Headline (audience : Audience) (stream text : List ℕ) (count : ℕ) (old new : Book S shelf) : Type 0 where
    pub talk : Conversation audience AnswersFairly old stream text count new
    pub comes : ComesTo old (exchanges audience AnswersFairly talk) new

  -- the same of what was read and written
  abbrev pub IsHeadline : Audience → Option (List ℕ) → Option (List ℕ) → Option (List ℕ) → Book S shelf → Book S shelf → ℕ → Type 0
  IsHeadline audience unread known after old new count =
      (stream : List ℕ) × (text : List ℕ) × Tells unread stream × Appends known after text × Headline audience stream text count old new

  -- where the reader failed, or was called too often: of the requests that were wholly read
  abbrev pub IsHeadlineSoFar : Audience → Option (List ℕ) → Option (List ℕ) → Option (List ℕ) → Option (List ℕ) → Book S shelf → Book S shelf → Type 0
  IsHeadlineSoFar audience unread left known after old new =
      (talk : Interrupted audience AnswersFairly unread left known after old new) × ComesTo old (told_exchanges audience AnswersFairly talk.told) new

  -- where the writer failed: of the requests that were answered, the one whose reply is cut among them
  abbrev pub IsHeadlineCut : Audience → Option (List ℕ) → Option (List ℕ) → Option (List ℕ) → Book S shelf → Book S shelf → Type 0
  IsHeadlineCut audience unread known after old new =
      (stream : List ℕ) × (text : List ℕ) × Tells unread stream × Appends known after text
      × (talk : Cut audience AnswersFairly old stream text new) × ComesTo old (cut_exchanges audience AnswersFairly talk) new

  -- whatever the conversation answers; without memory for it nothing is read, written or changed
  abbrev pub HasHeadline : Audience → Option (List ℕ) → Option (List ℕ) → Option (List ℕ) → Option (List ℕ) → Book S shelf → Book S shelf → Result Served WireFault → Type 0
  HasHeadline audience unread left known after old new (Ok served) = IsHeadline audience unread known after old new served.requests
  HasHeadline audience unread left known after old new (Err Read) = IsHeadlineSoFar audience unread left known after old new
  HasHeadline audience unread left known after old new (Err TooManyTurns) = IsHeadlineSoFar audience unread left known after old new
  HasHeadline audience unread left known after old new (Err Write) = IsHeadlineCut audience unread known after old new
  HasHeadline audience unread left known after old new (Err Memory) = (left ≡ unread) × (after ≡ known) × (new ≡ old)

  -- ---- two conversations, each ended or cut
  -- from books with the same records; the uploads that were answered 200 are the same set, in whatever order and
  -- however often
  pub record AcceptTheSame (a : Book S shelf) (es : List (Asked × Reply)) (c : Book S shelf) (fs : List (Asked × Reply)) : Type 0 where
    pub office : a.office ≡ c.office
    pub records : SameMembers (held shelf a).records (held shelf c).records
    pub uploads : SameMembers (accepted es) (accepted fs)

  -- then they end with the same records, and with the same answers to every question
  abbrev pub EndTheSame : Type 0
  EndTheSame = (a b c d : Book S shelf) (es fs : List (Asked × Reply)) → ComesTo a es b → ComesTo c fs d → AcceptTheSame a es c fs → IsKnown b → IsKnown d →
      SameMembers (held shelf b).records (held shelf d).records × HaveSameAnswers (office_of a.office) (held shelf b).records (held shelf d).records

  -- ---- many connections
  -- their exchanges in one order, each of whose steps is fair, and what they come to
  pub record ManyHeadline (audience : Audience) (old : Book S shelf) (first last : ℕ → Connection) (new : Book S shelf) : Type 0 where
    pub talks : IsManyTalks audience AnswersFairly old first last new
    pub comes : ComesTo old (said talks.order) new

  -- whatever order their requests come in
  abbrev pub ManyHaveHeadlines : Type 0
  ManyHaveHeadlines = (audience : Audience) (old new : Book S shelf) (first last : ℕ → Connection) →
      IsManyTalks audience (Answers shelf) old first last new → ManyHeadline audience old first last new

  -- two servers, whose exchanges are each in some order, end with the same records, and with the same answers
  abbrev pub ManyEndTheSame : Type 0
  ManyEndTheSame = (audience others : Audience) (a b c d : Book S shelf) (first last opened closed : ℕ → Connection) →
      (one : IsManyTalks audience (Answers shelf) a first last b) (two : IsManyTalks others (Answers shelf) c opened closed d) →
      AcceptTheSame a (said one.order) c (said two.order) → IsKnown b → IsKnown d →
      SameMembers (held shelf b).records (held shelf d).records × HaveSameAnswers (office_of a.office) (held shelf b).records (held shelf d).records
