-- From the bytes that many connections sent and were told to their requests and replies.
use Rattle.std.proofs.Common.{◌≡◌, ℕ, List, [], ◌∷◌, ◌++◌, length, map, Option, Some, None, Bool, true, false, inl, inr, refl, sym, ap, ◌∙◌, append_assoc, append-nil, arith, length-append, subst}
use Rattle.std.specs.Prelude.{cond, ◌==◌, ◌||◌}
use Rattle.std.specs.List.{flat_map, list_any}
use Rattle.std.specs.Io.KnownBytes.{Consumes}
use Rattle.std.proofs.lemmas.Bool.{true≢false}
use Rattle.std.proofs.lemmas.List.{nil_from_length}
use Rattle.std.proofs.lemmas.List.Elements.{All-cons, All-nil}
use Rattle.pw_serve.specs.declared.connections.Ending.{Ending}
use Rattle.pw_serve.specs.declared.connections.Ending.TheVariants.{Over, Displaced, Broken, Short}
use Rattle.pw_serve.specs.Connections.{Connection}
use Rattle.pw_serve.specs.Exchanges as raw
use Rattle.pw_serve.specs.Served as rawly
use Rattle.pw_http.specs.declared.audience.Audience.{Audience}
use Rattle.pw_http.specs.Many.{EndsRightly, Exchange, IsManyTalks, LastStands, MayEnd, OwnTalk, exchanges_of, in_turn, replies_bytes, said}
use Rattle.pw_http.specs.Replies.{Reply, reply_bytes}
use Rattle.pw_http.specs.Requests.{Request, Asked, Whole, Faulty, Begins, Ends, GoesOn, Requests, Stands, is_last, request_bytes}
use Rattle.pw_http.specs.Runs.{Asking, Chain, Step, Tells, asking_of}
use Rattle.pw_http.specs.inner.Answering.{Holds, IsAnswered}
use Rattle.pw_http.proofs.Streaming.{left_of}

-- ---- what comes behind what was read, where it is known
abbrev more_of : Option (List ℕ) → Option (List ℕ) → List ℕ
more_of None w = []
more_of (Some xs) w = left_of w

tells-more : (u w : Option (List ℕ)) (got : List ℕ) → Consumes u w got → Tells u (got ++ more_of u w)
tells-more None w got x = tt
tells-more (Some xs) None got x = absurd x
tells-more (Some xs) (Some ys) got x = x

no-more : (u w : Option (List ℕ)) (got : List ℕ) → Consumes u w got → rawly.IsAllOf u got → more_of u w ≡ []
no-more None w got x y = refl
no-more (Some xs) None got x y = absurd x
no-more (Some xs) (Some ys) got x y = nil_from_length ys (omega (arith, ap length x, ap length y, length-append got ys))

-- both are nothing
both-nothing : (a b : List ℕ) → a ≡ [] → b ≡ [] → a ++ b ≡ []
both-nothing a b x y = ap (λ (t : List ℕ). t ++ b) x ∙ y

module _ (audience : Audience) where
  -- ---- one exchange in bytes, and as a request with its reply
  pub record IsSame (e : raw.Exchange) (f : Exchange) : Type 0 where
    pub who : e.who ≡ f.who
    pub holds : Holds audience e.asked f.asked
    pub reply : e.reply ≡ reply_bytes (is_last f.asked) f.reply

  abbrev pub AreSame : List raw.Exchange → List Exchange → Type 0
  AreSame [] [] = Unit {0}
  AreSame [] (f ∷ fs) = ⊥
  AreSame (e ∷ es) [] = ⊥
  AreSame (e ∷ es) (f ∷ fs) = IsSame e f × AreSame es fs

  picked : (e : raw.Exchange) (f : Exchange) (es : List raw.Exchange) (fs : List Exchange) (b c : Bool) → b ≡ c → IsSame e f → AreSame es fs → AreSame (cond b (e ∷ es) es) (cond c (f ∷ fs) fs)
  picked e f es fs true true h s m = (s, m)
  picked e f es fs true false h s m = absurd (true≢false h)
  picked e f es fs false true h s m = absurd (true≢false (sym h))
  picked e f es fs false false h s m = m

  own-same : (k : ℕ) (es : List raw.Exchange) (fs : List Exchange) → AreSame es fs → AreSame (raw.exchanges_of k es) (exchanges_of k fs)
  own-same k [] [] m = tt
  own-same k [] (f ∷ fs) m = absurd m
  own-same k (e ∷ es) [] m = absurd m
  own-same k (e ∷ es) (f ∷ fs) m =
      picked e f (raw.exchanges_of k es) (exchanges_of k fs) (k == e.who) (k == f.who) (ap (λ (n : ℕ). k == n) m.0.who) m.0 (own-same k es fs m.1)

  texts-same : (es : List raw.Exchange) (fs : List Exchange) → AreSame es fs → raw.reply_bytes es ≡ replies_bytes fs
  texts-same [] [] m = refl
  texts-same [] (f ∷ fs) m = absurd m
  texts-same (e ∷ es) [] m = absurd m
  texts-same (e ∷ es) (f ∷ fs) m =
      ap (λ (t : List ℕ). t ++ raw.reply_bytes es) m.0.reply
      ∙ ap (λ (t : List ℕ). reply_bytes (is_last f.asked) f.reply ++ t) (texts-same es fs m.1)

  -- ---- what a connection asked, of its bytes
  record Parts (got more rest : List ℕ) (asked : List Asked) (closed : Bool) : Type 0 where
    requests : List Request
    last : Option Asked
    left : List ℕ
    asked_are : asked ≡ in_turn requests last
    begins : Begins audience got requests left
    ends : LastStands audience left more last
    open_yet : last ≡ None → (left ≡ rest) × (closed ≡ false)

  begins-here : (got : List ℕ) → Begins audience got [] got
  begins-here got = record { bytes = refl; each = All-nil (GoesOn audience) }

  begins-with : (r : Request) (bytes got left : List ℕ) (rs : List Request) → bytes ≡ request_bytes r → GoesOn audience r → Begins audience got rs left → Begins audience (bytes ++ got) (r ∷ rs) left
  begins-with r bytes got left rs e goes b = record {
    bytes =
        ap (λ (t : List ℕ). t ++ got) e
        ∙ ap (λ (t : List ℕ). request_bytes r ++ t) b.bytes
        ∙ sym (append_assoc (request_bytes r) (flat_map request_bytes rs) left);
    each = All-cons (GoesOn audience) r rs goes b.each;
  }

  begins-more : (got more left : List ℕ) (rs : List Request) → Begins audience got rs left → Begins audience (got ++ more) rs (left ++ more)
  begins-more got more left rs b = record {
    bytes = ap (λ (t : List ℕ). t ++ more) b.bytes ∙ append_assoc (flat_map request_bytes rs) left more;
    each = b.each;
  }

  stands-more : (left more : List ℕ) (r : Request) → Stands audience left (Whole r) → Stands audience (left ++ more) (Whole r)
  stands-more left more r s = (s.0 ++ more, s.1, ap (λ (t : List ℕ). t ++ more) s.2 ∙ append_assoc (request_bytes r) s.0 more)

  is-some : (asked : Asked) (X : Type 0) → Some asked ≡ None → X
  is-some asked X e = let z : Some asked ≡ None = e in cc

  -- the last one
  part-last : (rest more : List ℕ) (sent : raw.Asked) (asked : Asked) → Holds audience sent asked → (raw.is_at_end sent ≡ true → (rest ≡ []) × (more ≡ [])) → Parts (raw.bytes_of sent ++ rest) more rest (asked ∷ []) (raw.is_last sent || false)
  part-last rest more (raw.Whole bytes true) (Whole r) h end = record {
    requests = [];
    last = Some (Whole r);
    left = bytes ++ rest;
    asked_are = refl;
    begins = begins-here (bytes ++ rest);
    ends = ((rest, h.0, ap (λ (t : List ℕ). t ++ rest) h.1), sym h.2);
    open_yet = is-some (Whole r) ((bytes ++ rest ≡ rest) × (true ≡ false));
  }
  part-last rest more (raw.Whole bytes false) (Whole r) h end = record {
    requests = r ∷ [];
    last = None;
    left = rest;
    asked_are = refl;
    begins = begins-with r bytes rest rest [] h.1 (h.0, sym h.2) (begins-here rest);
    ends = tt;
    open_yet = λ _. (refl, refl);
  }
  part-last rest more (raw.Refused bytes ended) (Faulty why) h end = record {
    requests = [];
    last = Some (Faulty why);
    left = bytes ++ rest;
    asked_are = refl;
    begins = begins-here (bytes ++ rest);
    ends = subst (λ (t : List ℕ). Stands audience t (Faulty why)) (sym (append_assoc bytes rest more)) (h (rest ++ more) (λ e. both-nothing rest more (end e).0 (end e).1));
    open_yet = is-some (Faulty why) ((bytes ++ rest ≡ rest) × (true ≡ false));
  }
  part-last rest more (raw.Whole bytes ends) (Faulty why) h end = absurd h
  part-last rest more (raw.Refused bytes ended) (Whole r) h end = absurd h

  -- one before others
  part-before : (got rest more : List ℕ) (asks : List Asked) (closed : Bool) (sent : raw.Asked) (asked : Asked) → Holds audience sent asked → raw.is_last sent ≡ false → Parts got more rest asks closed → Parts (raw.bytes_of sent ++ got) more rest (asked ∷ asks) (raw.is_last sent || closed)
  part-before got rest more asks closed (raw.Whole bytes true) asked h on p = absurd (true≢false on)
  part-before got rest more asks closed (raw.Whole bytes false) (Whole r) h on p = record {
    requests = r ∷ p.requests;
    last = p.last;
    left = p.left;
    asked_are = ap (λ (t : List Asked). Whole r ∷ t) p.asked_are;
    begins = begins-with r bytes got p.left p.requests h.1 (h.0, sym h.2) p.begins;
    ends = p.ends;
    open_yet = p.open_yet;
  }
  part-before got rest more asks closed (raw.Whole bytes false) (Faulty why) h on p = absurd h
  part-before got rest more asks closed (raw.Refused bytes ended) asked h on p = absurd (true≢false on)

  parts : (stream : Option (List ℕ)) (all rest more : List ℕ) (es : List raw.Exchange) (fs : List Exchange) → AreSame es fs → rawly.AreInTurn stream all rest es → ((rest ≡ []) × rawly.IsAllOf stream all → more ≡ [])
      → Parts (raw.asked_bytes es ++ rest) more rest (map (λ e. e.asked) fs) (list_any (λ e. raw.is_last e.asked) es)
  parts stream all rest more [] [] m t end = record {
    requests = [];
    last = None;
    left = rest;
    asked_are = refl;
    begins = begins-here rest;
    ends = tt;
    open_yet = λ _. (refl, refl);
  }
  parts stream all rest more [] (f ∷ fs) m t end = absurd m
  parts stream all rest more (e ∷ es) [] m t end = absurd m
  parts stream all rest more (e ∷ []) (f ∷ []) m t end =
      subst (λ (got : List ℕ). Parts got more rest (f.asked ∷ []) (raw.is_last e.asked || false))
      (sym (append_assoc (raw.bytes_of e.asked) [] rest))
      (part-last rest more e.asked f.asked m.0.holds (λ h. ((t h).0, end (t h))))
  parts stream all rest more (e ∷ []) (f ∷ g ∷ fs) m t end = absurd m.1
  parts stream all rest more (e ∷ d ∷ es) (f ∷ []) m t end = absurd m.1
  parts stream all rest more (e ∷ d ∷ es) (f ∷ g ∷ fs) m t end =
      subst (λ (got : List ℕ). Parts got more rest (map (λ e. e.asked) (f ∷ g ∷ fs)) (list_any (λ e. raw.is_last e.asked) (e ∷ d ∷ es)))
      (sym (append_assoc (raw.bytes_of e.asked) (raw.asked_bytes (d ∷ es)) rest))
      (part-before (raw.asked_bytes (d ∷ es) ++ rest) rest more (map (λ e. e.asked) (g ∷ fs)) (list_any (λ e. raw.is_last e.asked) (d ∷ es)) e.asked f.asked m.0.holds t.0
      (parts stream all rest more (d ∷ es) (g ∷ fs) m.1 t.1 end))

  -- ---- the talk of one connection
  all-ends : (left more : List ℕ) (last : Option Asked) → LastStands audience left more last → (last ≡ None → left ++ more ≡ []) → Ends audience (left ++ more) last
  all-ends left more None s nothing = nothing refl
  all-ends left more (Some (Whole r)) s nothing = (stands-more left more r s.0, s.1)
  all-ends left more (Some (Faulty why)) s nothing = (s, refl)

  -- where it is complete, and nothing ended it, nothing is left
  nothing-left : (u w : Option (List ℕ)) (rest wait left : List ℕ) (es : List raw.Exchange) → Consumes u w (raw.asked_bytes es ++ rest) → rawly.IsComplete u es rest wait
      → (left ≡ rest) × (list_any (λ e. raw.is_last e.asked) es ≡ false) → left ++ more_of u w ≡ []
  nothing-left u w rest wait left es c x y = elim x.1 [
    | inl z ↦
        let all : rawly.IsAllOf u (raw.asked_bytes es ++ rest) = subst (λ (t : List ℕ). rawly.IsAllOf u t) (sym (ap (λ (t : List ℕ). raw.asked_bytes es ++ t) z.0 ∙ append-nil (raw.asked_bytes es))) z.1 in
        both-nothing left (more_of u w) (y.0 ∙ z.0) (no-more u w (raw.asked_bytes es ++ rest) c all)
    | inr z ↦ absurd (true≢false (sym z ∙ y.1))
  ]

  module _ (old new : Connection) (es : List raw.Exchange) (fs : List Exchange) (rest wait : List ℕ) where
    abbrev Own : Type 0
    Own = (t : OwnTalk audience old new fs) × EndsRightly audience t

    own-talk : AreSame es fs → rawly.Talk old new es rest wait → rawly.IsEndOf old new es rest wait → Own
    own-talk m t end =
        let more = more_of old.unread new.unread in
        let got = raw.asked_bytes es ++ rest in
        let p : Parts got more rest (map (λ e. e.asked) fs) (list_any (λ e. raw.is_last e.asked) es) =
        parts old.unread got rest more es fs m t.in_turn (λ y. no-more old.unread new.unread got t.read y.1) in
        let talk : OwnTalk audience old new fs = record {
          got = got;
          more = more;
          read = t.read;
          sends = tells-more old.unread new.unread got t.read;
          requests = p.requests;
          last = p.last;
          asked_are = p.asked_are;
          left = p.left;
          begins = p.begins;
          ends = p.ends;
          text = t.out;
          wait = wait;
          written = t.written;
          replies_are = sym (texts-same es fs m) ∙ t.replies_are;
        } in
        let all : rawly.IsComplete old.unread es rest wait → Requests audience (got ++ more) p.requests p.last =
        λ x. record {
          rest = p.left ++ more;
          begins = begins-more got more p.left p.requests p.begins;
          ends = all-ends p.left more p.last p.ends (λ n. nothing-left old.unread new.unread rest wait p.left es t.read x (p.open_yet n));
        } in
        let owed : (why : Ending) → rawly.IsOwed why old.unread new.broken es rest wait → MayEnd audience talk why =
        λ why. elim why as (λ (k : Ending). rawly.IsOwed k old.unread new.broken es rest wait → MayEnd audience talk k) [
          | Over ↦ λ x. (x.0, all x)
          | Displaced ↦ λ x. (x.0, λ n. (p.open_yet n).0 ∙ x.1)
          | Broken ↦ λ x. x
          | Short ↦ λ x. tt
        ] in
        (talk, λ why o n. owed why (end why o n))

-- ---- the order
-- a service of bytes whose state has a name, an audience and a service of requests
module _ {A N S : Type 0} (name : A → N) (audience : A → Audience) (service : A → S) (serves : S → Asking → Reply → S → Type 0) where
  abbrev pub Answers : A → raw.Asked → List ℕ → A → Type 0
  Answers a sent text b = (name b ≡ name a) × (audience b ≡ audience a) × IsAnswered (audience a) serves (service a) sent text (service b)

  chain-same : (a b : A) (es : List raw.Exchange) → raw.Chain Answers a es b → (fs : List Exchange) × Chain (Step serves) (service a) (said fs) (service b) × AreSame (audience a) es fs
  chain-same a b [] x = ([], ap service x, tt)
  chain-same a b (e ∷ es) x =
      let y = x.1.2 in
      let more = chain-same x.0 b es x.2 in
      let f : Exchange = record { who = e.who; asked = y.asked; reply = y.reply } in
      (f ∷ more.0, (service x.0, y.step, more.1), (record { who = refl; holds = y.holds; reply = y.text_is }, subst (λ (z : Audience). AreSame z es more.0) x.1.1 more.2))

  chain-name : (a b : A) (es : List raw.Exchange) → raw.Chain Answers a es b → name b ≡ name a
  chain-name a b [] x = ap name x
  chain-name a b (e ∷ es) x = chain-name x.0 b es x.2 ∙ x.1.0

  pub many-name : (a b : A) (first last : ℕ → Connection) → rawly.IsServed Answers a first last b → name b ≡ name a
  many-name a b first last s = chain-name a b s.order s.chain

  pub many-talks : (a b : A) (first last : ℕ → Connection) → rawly.IsServed Answers a first last b → IsManyTalks (audience a) serves (service a) first last (service b)
  many-talks a b first last s =
      let c = chain-same a b s.order s.chain in
      let each : (k : ℕ) → Own (audience a) (first k) (last k) (raw.exchanges_of k s.order) (exchanges_of k c.0) (s.rest k) (s.wait k) =
      λ k. own-talk (audience a) (first k) (last k) (raw.exchanges_of k s.order) (exchanges_of k c.0) (s.rest k) (s.wait k) (own-same (audience a) k s.order c.0 c.2) (s.talks k) (s.ends k) in
      record { order = c.0; chain = c.1; talks = λ k. (each k).0; ends = λ k. (each k).1 }

-- ---- the same exchanges, of another service
module _ {T S : Type 0} (f : T → S) (serves : T → Asking → Reply → T → Type 0) (others : S → Asking → Reply → S → Type 0) (g : (a : T) (asking : Asking) (reply : Reply) (b : T) → serves a asking reply b → others (f a) asking reply (f b)) where
  step-through : (a : T) (asked : Asked) (reply : Reply) (b : T) → Step serves a asked reply b → Step others (f a) asked reply (f b)
  step-through a (Whole r) reply b x = g a (asking_of r) reply b x
  step-through a (Faulty why) reply b x = (x.0, ap f x.1)

  pub chain-through : (a b : T) (es : List (Asked × Reply)) → Chain (Step serves) a es b → Chain (Step others) (f a) es (f b)
  chain-through a b [] x = ap f x
  chain-through a b (e ∷ es) x = (f x.0, step-through a e.0 e.1 x.0 x.1, chain-through x.0 b es x.2)

  pub many-through : (audience : Audience) (a b : T) (first last : ℕ → Connection) → IsManyTalks audience serves a first last b → IsManyTalks audience others (f a) first last (f b)
  many-through audience a b first last x = record { order = x.order; chain = chain-through a b (said x.order) x.chain; talks = x.talks; ends = x.ends }
