-- What is answered to the first bytes of a connection.
use Rattle.std.proofs.Common.{◌≡◌, ℕ, List, [], ◌++◌, ◌<◌, ◌⊎◌, length, take, drop, Bool, true, false, inl, inr, refl, subst, sym, ap, ◌∙◌, arith, length-append, length-drop}
use Rattle.std.proofs.Math.Seq.{take-append_seam}
use Rattle.pw_serve.specs.Answered.{IsAnswer}
use Rattle.pw_serve.specs.Exchanges as raw
use Rattle.pw_serve.specs.declared.service.Answer.{Answer}
use Rattle.pw_serve.specs.declared.service.Answer.TheVariants as answer
use Rattle.pw_http.specs.declared.audience.Audience.{Audience}
use Rattle.pw_http.specs.declared.requests.Next.{Next}
use Rattle.pw_http.specs.declared.requests.Next.TheVariants.{Nothing, More}
use Rattle.pw_http.specs.declared.requests.Places.{Places}
use Rattle.pw_http.specs.declared.requests.Refusal.{Refusal}
use Rattle.pw_http.specs.Replies.{Reply, refusal_reply, reply_bytes}
use Rattle.pw_http.specs.Requests.{Request, Whole, Faulty, Stands, request_bytes}
use Rattle.pw_http.specs.Runs.{Asking}
use Rattle.pw_http.specs.inner.Answering.{IsAnswered, IsReply, IsStillCut}
use Rattle.pw_http.specs.inner.Received.{IsNext, IsWholeAt, Waits}
use Rattle.pw_http.specs.inner.Turns.{asking_at}
use Rattle.pw_http.proofs.Asks.{none_while_waiting}
use Rattle.pw_http.proofs.ManyTalks.{Answers}
use Rattle.pw_http.proofs.Turns.{whole_step}

-- all that an empty box holds
pub put : (old new text : List ℕ) → old ≡ [] → new ≡ old ++ text → new ≡ text
put old new text e x = x ∙ ap (λ (t : List ℕ). t ++ text) e

-- the bytes of a whole request stand before its end
front-is : (audience : Audience) (buf : List ℕ) (p : Places) (q : Request) → IsWholeAt audience buf p q → take p.len buf ≡ request_bytes q
front-is audience buf p q w =
    let size : p.len ≡ length (request_bytes q) = omega (arith, ap length w.bytes, length-append (request_bytes q) (drop p.len buf), length-drop p.len buf, w.within) in
    ap (λ (n : ℕ). take n buf) size
    ∙ ap (take (length (request_bytes q))) w.bytes
    ∙ take-append_seam (request_bytes q) (drop p.len buf)

-- what is waited on is still cut
pub waited : (audience : Audience) (bytes : List ℕ) → Waits audience bytes → IsStillCut bytes
waited audience bytes w = λ anybody. none_while_waiting audience anybody bytes w

-- a look that finds neither a request nor a fault in some bytes finds them cut, while more may come
pub cut-so-far : (audience : Audience) (bytes : List ℕ) (ended : Bool) (next : Next) → (next ≡ Nothing) ⊎ (next ≡ More) → IsNext audience bytes ended next → 0 < length bytes → (ended ≡ false) × IsStillCut bytes
cut-so-far audience bytes ended next (inl e) n some =
    let m : IsNext audience bytes ended Nothing = subst (λ (x : Next). IsNext audience bytes ended x) e n in
    absurd (omega (arith, ap length m.0, some))
cut-so-far audience bytes ended next (inr e) n some =
    let m : IsNext audience bytes ended More = subst (λ (x : Next). IsNext audience bytes ended x) e n in
    (m.1, waited audience bytes m.0)

module _ (audience : Audience) {S : Type 0} (serves : S → Asking → Reply → S → Type 0) where
  pub refused-answered : (old : S) (bytes : List ℕ) (ended : Bool) (why : Refusal) (text : List ℕ) → ((left : List ℕ) → (ended ≡ true → left ≡ []) → Stands audience (bytes ++ left) (Faulty why)) → text ≡ reply_bytes true (refusal_reply why)
      → IsAnswered audience serves old (raw.Refused bytes ended) text old
  refused-answered old bytes ended why text stands e = record { asked = Faulty why; holds = stands; reply = refusal_reply why; step = (refl, refl); text_is = e }

  whole-answered : (old : S) (buf : List ℕ) (p : Places) (q : Request) (new : S) (n : ℕ) (ends : Bool) (text : List ℕ) (reply : Reply) → IsWholeAt audience buf p q → serves old (asking_at buf p) reply new → n ≡ p.len → ends ≡ p.closes → text ≡ reply_bytes p.closes reply
      → IsAnswered audience serves old (raw.Whole (take n buf) ends) text new
  whole-answered old buf p q new n ends text reply w served size last e = record {
    asked = Whole q;
    holds = (w.whole, ap (λ (m : ℕ). take m buf) size ∙ front-is audience buf p q w, last ∙ sym w.closes_is);
    reply = reply;
    step = whole_step audience serves old buf new p q reply w served;
    text_is = e ∙ ap (λ (b : Bool). reply_bytes b reply) (sym w.closes_is);
  }

  -- what comes of a whole request is an answer
  pub reply-answer : (old : S) (buf : List ℕ) (p : Places) (q : Request) (ended may_be_large : Bool) (new : S) (text : List ℕ) (r : Answer) → IsWholeAt audience buf p q → IsReply serves old buf p may_be_large new text r
      → IsAnswer (IsAnswered audience serves) IsStillCut old buf ended may_be_large new text r
  reply-answer old buf p q ended may_be_large new text answer.Waits w x = absurd x
  reply-answer old buf p q ended may_be_large new text answer.Later w x = (x.0, x.1, x.3)
  reply-answer old buf p q ended may_be_large new text (answer.Replied n ends) w x =
      (omega (arith, x.0, w.some), omega (arith, x.0, w.within), whole-answered old buf p q new n ends text x.3 w x.4 x.0 x.1 x.5)
  reply-answer old buf p q ended may_be_large new text answer.Refused w x = absurd x
  reply-answer old buf p q ended may_be_large new text answer.Short w x =
      inr (p.len, p.closes, reply_bytes p.closes x.0, w.within, whole-answered old buf p q new p.len p.closes (reply_bytes p.closes x.0) x.0 w x.1 refl refl refl)

-- an answer of a part of a state, where the rest stays
module _ {A N S : Type 0} (name : A → N) (audience : A → Audience) (service : A → S) (serves : S → Asking → Reply → S → Type 0) where
  pub answer-of : (a b : A) (bytes : List ℕ) (ended may_be_large : Bool) (text : List ℕ) (r : Answer) → name b ≡ name a → audience b ≡ audience a → (service b ≡ service a → b ≡ a)
      → IsAnswer (IsAnswered (audience a) serves) IsStillCut (service a) bytes ended may_be_large (service b) text r → IsAnswer (Answers name audience service serves) IsStillCut a bytes ended may_be_large b text r
  answer-of a b bytes ended may_be_large text answer.Waits d e f x = (f x.0, x.1, x.2, x.3)
  answer-of a b bytes ended may_be_large text answer.Later d e f x = (f x.0, x.1, x.2)
  answer-of a b bytes ended may_be_large text (answer.Replied n ends) d e f x = (x.0, x.1, (d, e, x.2))
  answer-of a b bytes ended may_be_large text answer.Refused d e f x = (d, e, x)
  answer-of a b bytes ended may_be_large text answer.Short d e f x = elim x [
    | inl y ↦ inl (f y)
    | inr y ↦ inr (y.0, y.1, y.2, y.3, (d, e, y.4))
  ]
