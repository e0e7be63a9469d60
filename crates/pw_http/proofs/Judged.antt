-- What a step of a book does with its records.
use Rattle.std.proofs.Common.{◌≡◌, ◌≤◌, ◌⊎◌, ◌∙◌, ℕ, zero, suc, List, [], ◌++◌, Bool, Option, Some, None, Result, Ok, Err, refl, sym, ap, subst, inl, inr, true, false, true≢false, arith}
use Rattle.std.specs.Prelude.{◌≢◌}
use Rattle.std.proofs.lemmas.List.{append-nil}
use Rattle.std.proofs.lemmas.Option.{none-some}
use Rattle.pw_tariff.specs.Office.{OfficeFile}
use Rattle.pw_model.specs.declared.records.Entry.{Entry}
use Rattle.pw_model.specs.Shelf.{ShelfContent}
use Rattle.pw_record.specs.declared.fault.Cause.{Cause}
use Rattle.pw_record.specs.declared.fault.Cause.TheVariants as cause
use Rattle.pw_record.specs.declared.fault.UploadFault.{UploadFault}
use Rattle.pw_record.specs.Causes.{want_of_memory}
use Rattle.pw_record.specs.Uploads.{Upload, Telegrams, Readouts, Assignments, TopUps, Withdrawals, Refuses, Gives}
use Rattle.pw_shelf.specs.declared.shelf.Shelf.{Ghosts}
use Rattle.pw_book.specs.After.{After, Outcome, Refused, Posted}
use Rattle.pw_book.specs.declared.book.Book.{Book}
use Rattle.pw_book.specs.declared.book.Accepted.{Accepted}
use Rattle.pw_book.specs.declared.fault.PostFault.{PostFault}
use Rattle.pw_book.specs.declared.fault.PostFault.TheVariants as post
use Rattle.pw_book.proofs.Order.{AreOne, leaves-after}
use Rattle.pw_record.proofs.OneOutcome.{one-outcome}
use Rattle.pw_tariff.specs.declared.ids.AccountId.{AccountId}
use Rattle.pw_report.specs.declared.page.MonthPage.{MonthPage}
use Rattle.pw_report.specs.declared.page.Page.{Page}
use Rattle.pw_report.specs.declared.page.Page.TheVariants as page
use Rattle.pw_http.specs.declared.replies.Status.{Status}
use Rattle.pw_http.specs.declared.replies.Status.TheVariants.{Fine, BadRequest, Forbidden, NotFound, MethodNotAllowed, PayloadTooLarge, NotImplemented, Unavailable, InsufficientStorage}
use Rattle.pw_http.specs.declared.routes.Place.{Place}
use Rattle.pw_http.specs.declared.routes.Place.TheVariants.{NoPage, NoMethod, At}
use Rattle.pw_http.specs.declared.routes.Route.TheVariants as route
use Rattle.pw_http.specs.Headline.{AnswersFairly, IsJudged, if_fine, sent_by}
use Rattle.pw_http.specs.Replies.{Reply}
use Rattle.pw_http.specs.Requests.{Asked, Whole, Faulty}
use Rattle.pw_http.specs.Routes.{account_in, exported_meter_in, meter_in, month_in, place_of}
use Rattle.pw_http.specs.Runs.{Asking, Step, asking_of}
use Rattle.pw_http.specs.Steps.{Answers, AnswersAt, ArePosted, IsTaken, Shows, ShowsAccount, ShowsMeter, ShowsMonth, ShowsMonthOf, Takes, held, posted_reply, refused_status, upload_at, upload_of, upload_reply}

-- ---- want of memory
memory-or-not : (c : Cause) → (c ≡ cause.Memory) ⊎ (refused_status c ≡ BadRequest)
memory-or-not (cause.Instant fault) = inr refl
memory-or-not (cause.Frame fault) = inr refl
memory-or-not (cause.Line fault) = inr refl
memory-or-not (cause.Value fault) = inr refl
memory-or-not cause.NoMeter = inr refl
memory-or-not cause.UnknownMeter = inr refl
memory-or-not cause.WrongKind = inr refl
memory-or-not cause.NoInstant = inr refl
memory-or-not cause.RegisterTwice = inr refl
memory-or-not cause.NoRegister = inr refl
memory-or-not cause.UnknownAccount = inr refl
memory-or-not cause.CsvForm = inr refl
memory-or-not cause.Header = inr refl
memory-or-not cause.Cents = inr refl
memory-or-not cause.Reference = inr refl
memory-or-not cause.TooManyParts = inr refl
memory-or-not cause.TwiceGiven = inr refl
memory-or-not cause.Kind = inr refl
memory-or-not cause.RegisterName = inr refl
memory-or-not cause.Memory = inl refl

abbrev IsBad : Status → Type 0
IsBad BadRequest = Unit {0}
IsBad _ = ⊥

abbrev IsFine : Status → Type 0
IsFine Fine = Unit {0}
IsFine _ = ⊥

zero-or-not : (n : ℕ) → (n ≡ 0) ⊎ (n ≡ 0 → ⊥)
zero-or-not zero = inl refl
zero-or-not (suc n) = inr (λ e. omega (arith, e))

isn't-memory : (f : UploadFault) → refused_status f.cause ≡ BadRequest → f ≡ want_of_memory → ⊥
isn't-memory f b e =
    let u : refused_status f.cause ≡ Unavailable = ap (λ (g : UploadFault). refused_status g.cause) e in
    subst IsBad (sym b ∙ u) tt

want-or-not : (f : UploadFault) → (f ≡ want_of_memory) ⊎ (f ≡ want_of_memory → ⊥)
want-or-not f = elim (memory-or-not f.cause) [
  | inl m ↦ elim (zero-or-not f.part) [
    | inl z ↦ inl (λ i. record { part = z i; cause = m i })
    | inr n ↦ inr (λ e. n (ap (λ (g : UploadFault). g.part) e))
  ]
  | inr b ↦ inr (isn't-memory f b)
]

-- ---- an upload is judged by its content
judged-refused : (file : OfficeFile) → AreOne file → (upload : Upload) (fault : UploadFault) → Refuses file upload fault → IsJudged file upload (upload_reply (Refused fault))
judged-refused file one upload fault r = record {
  only = λ b. (fault, (r, isn't-memory fault b), refl);
  each = λ f c. elim (want-or-not fault) [
    | inl w ↦ inr (ap (λ (g : UploadFault). upload_reply (Refused g)) w)
    | inr n ↦ inl (ap (λ (g : UploadFault). upload_reply (Refused g)) ((one upload).refusal fault f (r, n) c))
  ];
}

posted-not-bad : (answer : Result Accepted PostFault) → (posted_reply answer).status ≡ BadRequest → ⊥
posted-not-bad (Ok a) e = subst IsBad (sym e) tt
posted-not-bad (Err (post.Full held limit)) e = subst IsBad (sym e) tt
posted-not-bad (Err post.Device) e = subst IsBad (sym e) tt
posted-not-bad (Err post.Memory) e = subst IsBad (sym e) tt
posted-not-bad (Err post.Reopen) e = subst IsBad (sym e) tt

judged-posted : (file : OfficeFile) → AreOne file → (upload : Upload) (entries : List Entry) (answer : Result Accepted PostFault) → Gives file upload entries → IsJudged file upload (posted_reply answer)
judged-posted file one upload entries answer g = record {
  only = λ b. absurd (posted-not-bad answer b);
  each = λ f c. absurd ((one upload).either entries f g c);
}

judged-other : (file : OfficeFile) (reply : Reply) (upload : Upload) → None ≡ Some upload → IsJudged file upload reply
judged-other file reply upload e = absurd (none-some upload e)

-- ---- one step
fine-or-nothing : (s : Status) → (s ≡ Fine) ⊎ ((sent : Option Upload) → if_fine s sent ≡ [])
fine-or-nothing Fine = inl refl
fine-or-nothing BadRequest = inr (λ sent. refl)
fine-or-nothing Forbidden = inr (λ sent. refl)
fine-or-nothing NotFound = inr (λ sent. refl)
fine-or-nothing MethodNotAllowed = inr (λ sent. refl)
fine-or-nothing PayloadTooLarge = inr (λ sent. refl)
fine-or-nothing NotImplemented = inr (λ sent. refl)
fine-or-nothing Unavailable = inr (λ sent. refl)
fine-or-nothing InsufficientStorage = inr (λ sent. refl)

if-not-fine : (s : Status) (sent : Option Upload) → (s ≡ Fine → ⊥) → if_fine s sent ≡ []
if-not-fine s sent n = elim (fine-or-nothing s) [ inl e ↦ absurd (n e) | inr none ↦ none sent ]

if-nothing : (s : Status) → if_fine s None ≡ []
if-nothing s = elim (fine-or-nothing s) [ inl e ↦ ap (λ (k : Status). if_fine k None) e | inr none ↦ none None ]

after-none : (file : OfficeFile) (before t : List Entry) (us more : List Upload) → more ≡ [] → After file before us t → After file before (us ++ more) t
after-none file before t us more e a = let P : List Upload → Type 0 = λ vs. After file before vs t in subst P (sym (append-nil us) ∙ ap (λ (vs : List Upload). us ++ vs) (sym e)) a

after-same : (file : OfficeFile) (before : List Entry) (us : List Upload) (c d : ShelfContent) → d ≡ c → After file before us c.records → After file before us d.records
after-same file before us c d e a = let P : ShelfContent → Type 0 = λ x. After file before us x.records in subst P (sym e) a

some-same : (upload u : Upload) → Some upload ≡ Some u → upload ≡ u
some-same upload u e = ap (λ (o : Option Upload). elim o [ Some v ↦ v | None ↦ upload ]) e

judged-it : (file : OfficeFile) (upload u : Upload) (reply : Reply) → Some upload ≡ Some u → IsJudged file upload reply → IsJudged file u reply
judged-it file upload u reply e j = let P : Upload → Type 0 = λ v. IsJudged file v reply in subst P (some-same upload u e) j

refused-not-fine : (c : Cause) → refused_status c ≡ Fine → ⊥
refused-not-fine c e = elim (memory-or-not c) [
  | inl m ↦ let u : refused_status c ≡ Unavailable = ap refused_status m in subst IsFine (sym e ∙ u) tt
  | inr b ↦ subst IsFine (sym e ∙ b) tt
]

shut-or-not : (b : Bool) → (b ≡ true) ⊎ (b ≡ false)
shut-or-not true = inl refl
shut-or-not false = inr refl

module _ {S : Type 0} (shelf : Ghosts S) where
  pub record Comes (a : Book S shelf) (sent : Option Upload) (reply : Reply) (b : Book S shelf) : Type 0 where
    pub office : b.office ≡ a.office
    pub clean : shelf.clean b.shelf → shelf.clean a.shelf
    pub shut : b.shut ≡ false → a.shut ≡ false
    pub rises : (shelf.state a.shelf).failed_abandons ≤ (shelf.state b.shelf).failed_abandons
    pub stays_open : a.shut ≡ false → (shelf.state b.shelf).failed_abandons ≡ (shelf.state a.shelf).failed_abandons → b.shut ≡ false
    pub judged : (upload : Upload) → sent ≡ Some upload → IsJudged a.office upload reply
    pub kept : shelf.clean b.shelf → (shelf.state b.shelf).failed_abandons ≡ (shelf.state a.shelf).failed_abandons → reply.status ≢ Fine → held shelf b ≡ held shelf a
    pub taken : shelf.clean b.shelf → b.shut ≡ false → (before : List Entry) (us : List Upload) → After a.office before us (held shelf a).records → After a.office before (us ++ if_fine reply.status sent) (held shelf b).records

  -- nothing is done
  nothing-comes : (a : Book S shelf) (reply : Reply) (b : Book S shelf) → b ≡ a → Comes a None reply b
  nothing-comes a reply b e = let P : Book S shelf → Type 0 = λ x. Comes a None reply x in subst P (sym e) (record {
    office = refl;
    clean = λ k. k;
    shut = λ k. k;
    rises = omega arith;
    stays_open = λ o f. o;
    judged = judged-other a.office reply;
    kept = λ k f n. refl;
    taken = λ k o before us h. after-none a.office before (held shelf a).records us (if_fine reply.status None) (if-nothing reply.status) h;
  })

  -- a page is asked for
  shows-comes : (shown : Page) (a : Book S shelf) (reply : Reply) (b : Book S shelf) → Shows shelf shown a reply b → Comes a None reply b
  shows-comes shown a reply b (answer, e, x) = record {
    office = x.report.asked.office;
    clean = x.report.asked.kept.clean;
    shut = λ k. sym x.report.asked.shut ∙ k;
    rises = omega (arith, x.report.asked.kept.counts.failed_abandons);
    stays_open = λ o f. x.report.asked.shut ∙ o;
    judged = judged-other a.office reply;
    kept = λ k f n. x.report.asked.content k;
    taken = λ k o before us h. after-none a.office before (held shelf b).records us (if_fine reply.status None) (if-nothing reply.status) (after-same a.office before us (held shelf a) (held shelf b) (x.report.asked.content k) h);
  }

  -- a body is refused
  refused-comes : (upload : Upload) (fault : UploadFault) (a b : Book S shelf) → Refuses a.office upload fault → b ≡ a → Comes a (Some upload) (upload_reply (Refused fault)) b
  refused-comes upload fault a b r e =
      let one : AreOne a.office = one-outcome a.office a.sound.named in
      let P : Book S shelf → Type 0 = λ x. Comes a (Some upload) (upload_reply (Refused fault)) x in
      subst P (sym e) (record {
        office = refl;
        clean = λ k. k;
        shut = λ k. k;
        rises = omega arith;
        stays_open = λ o f. o;
        judged = λ u s. judged-it a.office upload u (upload_reply (Refused fault)) s (judged-refused a.office one upload fault r);
        kept = λ k f n. refl;
        taken = λ k o before us h. after-none a.office before (held shelf a).records us (if_fine (refused_status fault.cause) (Some upload)) (if-not-fine (refused_status fault.cause) (Some upload) (refused-not-fine fault.cause)) h;
      })

  -- what it gives is posted
  posted-kept : (entries : List Entry) (answer : Result Accepted PostFault) (a b : Book S shelf) → ArePosted shelf entries answer a b → shelf.clean b.shelf → (shelf.state b.shelf).failed_abandons ≡ (shelf.state a.shelf).failed_abandons →
      (posted_reply answer).status ≢ Fine → held shelf b ≡ held shelf a
  posted-kept entries (Ok accepted) a b p k f n = absurd (n refl)
  posted-kept entries (Err (post.Full stated limit)) a b p k f n = let x = p.posted k in x.content
  posted-kept entries (Err post.Device) a b p k f n = p.posted k
  posted-kept entries (Err post.Memory) a b p k f n = p.posted k
  posted-kept entries (Err post.Reopen) a b p k f n = elim (p.reopen.0 refl) [
    | inl t ↦ ap (λ (s : S). (shelf.state s).content) (p.untouched t)
    | inr l ↦ absurd (omega (arith, f, l))
  ]

  posted-taken : (upload : Upload) (entries : List Entry) (answer : Result Accepted PostFault) (a b : Book S shelf) → Gives a.office upload entries → ArePosted shelf entries answer a b → shelf.clean b.shelf → b.shut ≡ false →
      (before : List Entry) (us : List Upload) → After a.office before us (held shelf a).records → After a.office before (us ++ if_fine (posted_reply answer).status (Some upload)) (held shelf b).records
  posted-taken upload entries (Ok accepted) a b g p k o before us h =
      (leaves-after a.office (one-outcome a.office a.sound.named)).taken before us upload entries a.limit (held shelf a) (held shelf b) accepted h g (p.posted k)
  posted-taken upload entries (Err (post.Full stated limit)) a b g p k o before us h =
      let x = p.posted k in after-none a.office before (held shelf b).records us [] refl (after-same a.office before us (held shelf a) (held shelf b) x.content h)
  posted-taken upload entries (Err post.Device) a b g p k o before us h = after-none a.office before (held shelf b).records us [] refl (after-same a.office before us (held shelf a) (held shelf b) (p.posted k) h)
  posted-taken upload entries (Err post.Memory) a b g p k o before us h = after-none a.office before (held shelf b).records us [] refl (after-same a.office before us (held shelf a) (held shelf b) (p.posted k) h)
  posted-taken upload entries (Err post.Reopen) a b g p k o before us h = absurd (true≢false (sym (p.shut.1 refl) ∙ o))

  posted-open : (entries : List Entry) (answer : Result Accepted PostFault) (a b : Book S shelf) → ArePosted shelf entries answer a b → b.shut ≡ false → a.shut ≡ false
  posted-open entries answer a b p o = elim (shut-or-not a.shut) [
    | inl t ↦ absurd (true≢false (sym (p.shut.1 (p.reopen.1 (inl t))) ∙ o))
    | inr f ↦ f
  ]

  posted-stays : (entries : List Entry) (answer : Result Accepted PostFault) (a b : Book S shelf) → ArePosted shelf entries answer a b → a.shut ≡ false → (shelf.state b.shelf).failed_abandons ≡ (shelf.state a.shelf).failed_abandons → b.shut ≡ false
  posted-stays entries answer a b p o f = elim (shut-or-not b.shut) [
    | inl t ↦ elim (p.reopen.0 (p.shut.0 t)) [ inl u ↦ absurd (true≢false (sym u ∙ o)) | inr l ↦ absurd (omega (arith, f, l)) ]
    | inr k ↦ k
  ]

  posted-comes : (upload : Upload) (entries : List Entry) (answer : Result Accepted PostFault) (a b : Book S shelf) → Gives a.office upload entries → ArePosted shelf entries answer a b → Comes a (Some upload) (posted_reply answer) b
  posted-comes upload entries answer a b g p =
      let one : AreOne a.office = one-outcome a.office a.sound.named in
      record {
        office = p.office;
        clean = p.clean;
        shut = posted-open entries answer a b p;
        rises = omega (arith, p.abandons);
        stays_open = posted-stays entries answer a b p;
        judged = λ u s. judged-it a.office upload u (posted_reply answer) s (judged-posted a.office one upload entries answer g);
        kept = posted-kept entries answer a b p;
        taken = posted-taken upload entries answer a b g p;
      }

  taken-comes : (upload : Upload) (outcome : Outcome) (a b : Book S shelf) → IsTaken shelf upload outcome a b → Comes a (Some upload) (upload_reply outcome) b
  taken-comes upload (Refused fault) a b x = refused-comes upload fault a b x.0 x.1
  taken-comes upload (Posted answer) a b x = posted-comes upload x.0 answer a b x.1 x.2

  takes-comes : (upload : Upload) (a : Book S shelf) (reply : Reply) (b : Book S shelf) → Takes shelf upload a reply b → Comes a (Some upload) reply b
  takes-comes upload a reply b (outcome, e, x) = let P : Reply → Type 0 = λ r. Comes a (Some upload) r b in subst P (sym e) (taken-comes upload outcome a b x)

  account-comes : (name : List ℕ) (a : Book S shelf) (reply : Reply) (b : Book S shelf) → ShowsAccount shelf name a reply b → Comes a None reply b
  account-comes name a reply b (inl x) = nothing-comes a reply b x.1.1
  account-comes name a reply b (inr x) = shows-comes (page.Statement x.0) a reply b x.2

  month-of-comes : (what : MonthPage) (account : AccountId) (text : List ℕ) (a : Book S shelf) (reply : Reply) (b : Book S shelf) → ShowsMonthOf shelf what account text a reply b → Comes a None reply b
  month-of-comes what account text a reply b (inl x) = nothing-comes a reply b x.1.1
  month-of-comes what account text a reply b (inr x) = shows-comes (page.Month what account x.0) a reply b x.2

  month-comes : (what : MonthPage) (name text : List ℕ) (a : Book S shelf) (reply : Reply) (b : Book S shelf) → ShowsMonth shelf what name text a reply b → Comes a None reply b
  month-comes what name text a reply b (inl x) = nothing-comes a reply b x.1.1
  month-comes what name text a reply b (inr x) = month-of-comes what x.0 text a reply b x.2

  meter-comes : (id : List ℕ) (a : Book S shelf) (reply : Reply) (b : Book S shelf) → ShowsMeter shelf id a reply b → Comes a None reply b
  meter-comes id a reply b (inl x) = nothing-comes a reply b x.1.1
  meter-comes id a reply b (inr x) = shows-comes (page.MeterReadings x.0) a reply b x.2

  -- by where the request goes
  pub answer-comes : (p : Place) (target body : List ℕ) (a : Book S shelf) (reply : Reply) (b : Book S shelf) → AnswersAt shelf p target body a reply b → Comes a (upload_at p target body) reply b
  answer-comes NoPage target body a reply b x = nothing-comes a reply b x.1
  answer-comes NoMethod target body a reply b x = nothing-comes a reply b x.1
  answer-comes (At route.Telegrams) target body a reply b x = takes-comes (Telegrams body) a reply b x
  answer-comes (At route.Readouts) target body a reply b x = takes-comes (Readouts (meter_in target) body) a reply b x
  answer-comes (At route.Assignments) target body a reply b x = takes-comes (Assignments body) a reply b x
  answer-comes (At route.TopUps) target body a reply b x = takes-comes (TopUps body) a reply b x
  answer-comes (At route.Withdrawals) target body a reply b x = takes-comes (Withdrawals body) a reply b x
  answer-comes (At route.Account) target body a reply b x = account-comes (account_in target) a reply b x
  answer-comes (At (route.Month what)) target body a reply b x = month-comes what (account_in target) (month_in target) a reply b x
  answer-comes (At route.MeterReadings) target body a reply b x = meter-comes (exported_meter_in target) a reply b x
  answer-comes (At (route.Table table)) target body a reply b x = shows-comes (page.Table table) a reply b x
  answer-comes (At (route.File file)) target body a reply b x = nothing-comes a reply b x.1

  pub asked-comes : (a : Book S shelf) (asking : Asking) (reply : Reply) (b : Book S shelf) → Answers shelf a asking reply b → Comes a (upload_of asking) reply b
  asked-comes a asking reply b x = answer-comes (place_of asking.method asking.target) asking.target asking.body a reply b x

  -- of whatever stands in a stream
  pub step-comes : (a : Book S shelf) (asked : Asked) (reply : Reply) (b : Book S shelf) → Step (AnswersFairly shelf) a asked reply b → Comes a (sent_by asked) reply b
  step-comes a (Whole r) reply b x = asked-comes a (asking_of r) reply b x.answers
  step-comes a (Faulty why) reply b x = nothing-comes a reply b x.1
