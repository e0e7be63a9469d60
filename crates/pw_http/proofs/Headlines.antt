-- What conversations with a book come to.
use Rattle.std.proofs.Common.{◌≡◌, ◌≤◌, ◌∙◌, ℕ, List, [], ◌∷◌, ◌++◌, Option, Result, Ok, Err, refl, sym, subst, append_assoc, arith, false, inl, inr}
use Rattle.std.proofs.lemmas.List.{append-nil}
use Rattle.pw_tariff.specs.Office.{OfficeFile, office_of}
use Rattle.pw_model.specs.declared.records.Entry.{Entry}
use Rattle.pw_model.specs.Counting.{SameMembers}
use Rattle.pw_model.proofs.Answers.{order_counts_nothing}
use Rattle.pw_record.specs.Uploads.{Upload}
use Rattle.pw_shelf.specs.declared.shelf.Shelf.{Ghosts}
use Rattle.pw_book.specs.After.{After}
use Rattle.pw_book.specs.declared.book.Book.{Book}
use Rattle.pw_book.proofs.Order.{in-order, one-after}
use Rattle.pw_http.specs.declared.audience.Audience.{Audience}
use Rattle.pw_http.specs.declared.fault.WireFault.{WireFault}
use Rattle.pw_http.specs.declared.fault.WireFault.TheVariants.{Read, Write, TooManyTurns, Memory}
use Rattle.pw_http.specs.declared.served.Served.{Served}
use Rattle.pw_http.specs.Headline.{AnswersAreFair, AnswersFairly, ComesTo, EndTheSame, HasHeadline, Headline, IsHeadlineSoFar, IsKnown, ManyEndTheSame, ManyHaveHeadlines, accepted, if_fine, sent_by}
use Rattle.pw_http.specs.Many.{said}
use Rattle.pw_http.specs.Replies.{Reply}
use Rattle.pw_http.specs.Requests.{Asked}
use Rattle.pw_http.specs.Runs.{Asking, Chain, Conversation, Cut, Interrupted, IsTalk, Step, cut_exchanges, exchanges, told_exchanges}
use Rattle.pw_http.specs.Steps.{Answers, held, upload_of}
use Rattle.pw_http.proofs.Exchanges.{chain-cut, chain-of, chain-told, cut-also, interrupted-also, talk-also}
use Rattle.pw_http.proofs.ManyTalks.{chain-through}
use Rattle.pw_http.proofs.Judged.{Comes, asked-comes, step-comes}

behind-nothing : (file : OfficeFile) (s : List Entry) → After file s [] s
behind-nothing file s x = (λ m. inl m, λ m. elim m [ inl b ↦ b | inr b ↦ absurd b.1 ])

from-same : (file : OfficeFile) (s s' : List Entry) (us : List Upload) (t : List Entry) → SameMembers s s' → After file s us t → After file s' us t
from-same file s s' us t h a x = (
  λ m. elim ((a x).0 m) [ inl b ↦ inl ((h x).0 b) | inr b ↦ inr b ],
  λ m. (a x).1 (elim m [ inl b ↦ inl ((h x).1 b) | inr b ↦ inr b ]),
)

module _ {S : Type 0} (shelf : Ghosts S) where
  abbrev Does : Book S shelf → Asked → Reply → Book S shelf → Type 0
  Does = Step (AnswersFairly shelf)

  pub always-fair : AnswersAreFair shelf
  always-fair a asking reply b x = let y : Comes shelf a (upload_of asking) reply b = asked-comes shelf a asking reply b x in record { judged = y.judged; kept = y.kept }

  fairly : (a : Book S shelf) (asking : Asking) (reply : Reply) (b : Book S shelf) → Answers shelf a asking reply b → AnswersFairly shelf a asking reply b
  fairly a asking reply b x = record { answers = x; fair = always-fair a asking reply b x }

  known-before : (a c : Book S shelf) (es : List (Asked × Reply)) → Chain Does a es c → IsKnown shelf c → IsKnown shelf a
  known-before a c [] x k = let P : Book S shelf → Type 0 = IsKnown shelf in subst P x k
  known-before a c (e ∷ es) (b, x, more) k =
      let y : Comes shelf a (sent_by e.0) e.1 b = step-comes shelf a e.0 e.1 b x in
      let m : IsKnown shelf b = known-before b c es more k in
      (y.clean m.0, y.shut m.1)

  one-office : (a c : Book S shelf) (es : List (Asked × Reply)) → Chain Does a es c → c.office ≡ a.office
  one-office a c [] x = let P : Book S shelf → Type 0 = λ b. b.office ≡ a.office in subst P (sym x) refl
  one-office a c (e ∷ es) (b, x, more) = let y : Comes shelf a (sent_by e.0) e.1 b = step-comes shelf a e.0 e.1 b x in one-office b c es more ∙ y.office

  after-chain : (a c : Book S shelf) (es : List (Asked × Reply)) (before : List Entry) (us : List Upload) → Chain Does a es c → IsKnown shelf c → After a.office before us (held shelf a).records →
      After a.office before (us ++ accepted es) (held shelf c).records
  after-chain a c [] before us x k h =
      let P : Book S shelf → Type 0 = λ b. After a.office before us (held shelf b).records in
      let Q : List Upload → Type 0 = λ vs. After a.office before vs (held shelf c).records in
      subst Q (sym (append-nil us)) (subst P (sym x) h)
  after-chain a c (e ∷ es) before us (b, x, more) k h =
      let y : Comes shelf a (sent_by e.0) e.1 b = step-comes shelf a e.0 e.1 b x in
      let m : IsKnown shelf b = known-before b c es more k in
      let P : OfficeFile → Type 0 = λ file. After file before (us ++ if_fine e.1.status (sent_by e.0)) (held shelf b).records in
      let R : OfficeFile → Type 0 = λ file. After file before ((us ++ if_fine e.1.status (sent_by e.0)) ++ accepted es) (held shelf c).records in
      let Q : List Upload → Type 0 = λ vs. After a.office before vs (held shelf c).records in
      let here : After b.office before (us ++ if_fine e.1.status (sent_by e.0)) (held shelf b).records = subst P (sym y.office) (y.taken m.0 m.1 before us h) in
      let there : After b.office before ((us ++ if_fine e.1.status (sent_by e.0)) ++ accepted es) (held shelf c).records = after-chain b c es before (us ++ if_fine e.1.status (sent_by e.0)) more k here in
      subst Q (append_assoc us (if_fine e.1.status (sent_by e.0)) (accepted es)) (subst R y.office there)

  rises-through : (a c : Book S shelf) (es : List (Asked × Reply)) → Chain Does a es c → (shelf.state a.shelf).failed_abandons ≤ (shelf.state c.shelf).failed_abandons
  rises-through a c [] x = let P : Book S shelf → Type 0 = λ b. (shelf.state a.shelf).failed_abandons ≤ (shelf.state b.shelf).failed_abandons in subst P (sym x) (omega arith)
  rises-through a c (e ∷ es) (b, x, more) =
      let y : Comes shelf a (sent_by e.0) e.1 b = step-comes shelf a e.0 e.1 b x in
      let r : (shelf.state b.shelf).failed_abandons ≤ (shelf.state c.shelf).failed_abandons = rises-through b c es more in
      omega (arith, y.rises, r)

  stays-open : (a c : Book S shelf) (es : List (Asked × Reply)) → Chain Does a es c → a.shut ≡ false → (shelf.state c.shelf).failed_abandons ≡ (shelf.state a.shelf).failed_abandons → c.shut ≡ false
  stays-open a c [] x o f = let P : Book S shelf → Type 0 = λ b. b.shut ≡ false in subst P (sym x) o
  stays-open a c (e ∷ es) (b, x, more) o f =
      let y : Comes shelf a (sent_by e.0) e.1 b = step-comes shelf a e.0 e.1 b x in
      let r : (shelf.state b.shelf).failed_abandons ≤ (shelf.state c.shelf).failed_abandons = rises-through b c es more in
      let l : (shelf.state a.shelf).failed_abandons ≤ (shelf.state b.shelf).failed_abandons = y.rises in
      let first : (shelf.state b.shelf).failed_abandons ≡ (shelf.state a.shelf).failed_abandons = omega (arith, f, r, l) in
      let later : (shelf.state c.shelf).failed_abandons ≡ (shelf.state b.shelf).failed_abandons = omega (arith, f, r, l) in
      stays-open b c es more (y.stays_open o first) later

  comes-to : (a c : Book S shelf) (es : List (Asked × Reply)) → Chain Does a es c → ComesTo shelf a es c
  comes-to a c es chain =
      let after : IsKnown shelf c → After a.office (held shelf a).records (accepted es) (held shelf c).records =
      λ k. after-chain a c es (held shelf a).records [] chain k (behind-nothing a.office (held shelf a).records) in
      record {
        office = one-office a c es chain;
        stays_open = stays-open a c es chain;
        after = after;
        figures = λ k records h. order_counts_nothing (office_of a.office) (held shelf c).records records (one-after a.office (held shelf a).records (accepted es) (held shelf c).records records (after k) h);
      }

  headline-of : (audience : Audience) (stream text : List ℕ) (count : ℕ) (a c : Book S shelf) → Conversation audience (Answers shelf) a stream text count c → Headline shelf audience stream text count a c
  headline-of audience stream text count a c talk =
      let fair : Conversation audience (AnswersFairly shelf) a stream text count c = talk-also audience (Answers shelf) (AnswersFairly shelf) fairly a c stream text count talk in
      record { talk = fair; comes = comes-to a c (exchanges audience (AnswersFairly shelf) fair) (chain-of audience (AnswersFairly shelf) a c stream text count fair) }

  headline-cut : (audience : Audience) (stream text : List ℕ) (a c : Book S shelf) → Cut audience (Answers shelf) a stream text c
      → (talk : Cut audience (AnswersFairly shelf) a stream text c) × ComesTo shelf a (cut_exchanges audience (AnswersFairly shelf) talk) c
  headline-cut audience stream text a c talk =
      let fair : Cut audience (AnswersFairly shelf) a stream text c = cut-also audience (Answers shelf) (AnswersFairly shelf) fairly a c stream text talk in
      (fair, comes-to a c (cut_exchanges audience (AnswersFairly shelf) fair) (chain-cut audience (AnswersFairly shelf) a c stream text fair))

  headline-so-far : (audience : Audience) (unread left known after : Option (List ℕ)) (a c : Book S shelf) → Interrupted audience (Answers shelf) unread left known after a c → IsHeadlineSoFar shelf audience unread left known after a c
  headline-so-far audience unread left known after a c talk =
      let fair : Interrupted audience (AnswersFairly shelf) unread left known after a c = interrupted-also audience (Answers shelf) (AnswersFairly shelf) fairly unread left known after a c talk in
      (fair, comes-to a c (told_exchanges audience (AnswersFairly shelf) fair.told) (chain-told audience (AnswersFairly shelf) a c fair.got fair.text fair.count fair.rest fair.told))

  pub same-end : EndTheSame shelf
  same-end a b c d es fs one two same k l =
      let us : List Upload = accepted es in
      let vs : List Upload = accepted fs in
      let P : OfficeFile → Type 0 = λ file. After file (held shelf c).records vs (held shelf d).records in
      let x : After a.office (held shelf a).records vs (held shelf b).records = in-order a.office (held shelf a).records us vs (held shelf b).records same.uploads (one.after k) in
      let y : After a.office (held shelf c).records vs (held shelf b).records = from-same a.office (held shelf a).records (held shelf c).records vs (held shelf b).records same.records x in
      let z : After a.office (held shelf c).records vs (held shelf d).records = subst P (sym same.office) (two.after l) in
      let members : SameMembers (held shelf b).records (held shelf d).records = one-after a.office (held shelf c).records vs (held shelf b).records (held shelf d).records y z in
      (members, order_counts_nothing (office_of a.office) (held shelf b).records (held shelf d).records members)

  pub talk-headline : (audience : Audience) (unread left known after : Option (List ℕ)) (a c : Book S shelf) (turns : ℕ) (r : Result Served WireFault) → IsTalk audience (Answers shelf) unread left known after a c turns r
      → HasHeadline shelf audience unread left known after a c r
  talk-headline audience unread left known after a c turns (Ok s) x = (x.0, x.1, x.2, x.3, headline-of audience x.0 x.1 s.requests a c x.4)
  talk-headline audience unread left known after a c turns (Err Read) x = headline-so-far audience unread left known after a c x
  talk-headline audience unread left known after a c turns (Err TooManyTurns) x = headline-so-far audience unread left known after a c x.0
  talk-headline audience unread left known after a c turns (Err Write) x = let y = headline-cut audience x.0 x.1 a c x.4 in (x.0, x.1, x.2, x.3, y.0, y.1)
  talk-headline audience unread left known after a c turns (Err Memory) x = x

  -- ---- many connections
  fair-chain : (a c : Book S shelf) (es : List (Asked × Reply)) → Chain (Step (Answers shelf)) a es c → Chain Does a es c
  fair-chain a c es x = chain-through (λ (b : Book S shelf). b) (Answers shelf) (AnswersFairly shelf) fairly a c es x

  pub many-headline : ManyHaveHeadlines shelf
  many-headline audience a c first last x =
      let chain : Chain Does a (said x.order) c = fair-chain a c (said x.order) x.chain in
      record {
        talks = record { order = x.order; chain = chain; talks = x.talks; ends = x.ends };
        comes = comes-to a c (said x.order) chain;
      }

  pub many-same-end : ManyEndTheSame shelf
  many-same-end audience others a b c d first last opened closed one two same k l =
      same-end a b c d (said one.order) (said two.order)
      (comes-to a b (said one.order) (fair-chain a b (said one.order) one.chain))
      (comes-to c d (said two.order) (fair-chain c d (said two.order) two.chain))
      same k l
