-- Steps of one connection.
use Rattle.std.proofs.Common.{◌≡◌, ◌≢◌, ◌<◌, ◌⊎◌, ℕ, List, [], ◌∷◌, ◌++◌, length, take, drop, Option, Some, None, Bool, true, false, inl, inr, refl, sym, ap, ◌∙◌, append_assoc, subst}
use Rattle.std.proofs.lemmas.Bool.{true≢false}
use Rattle.std.proofs.lemmas.List.{append-nil, take-append-drop}
use Rattle.std.proofs.Math.Seq.{drop-nil}
use Rattle.std.specs.Io.KnownBytes.{Keeps}
use Rattle.std.specs.List.{AllByRecursion}
use Rattle.std.specs.Prelude.{option_map}
use Rattle.pw_serve.specs.declared.connections.Ending.TheVariants.{Over, Displaced, Broken, Short}
use Rattle.pw_serve.specs.declared.peer.Peer.{Peer}
use Rattle.pw_serve.specs.declared.peer.Task.TheVariants.{End}
use Rattle.pw_serve.specs.declared.turn.Next.{Next}
use Rattle.pw_serve.specs.declared.turn.Next.TheVariants.{Goes, Replied, Ends}
use Rattle.pw_serve.specs.declared.service.Answer.TheVariants as answer
use Rattle.pw_serve.specs.Answered.{IsAnswer}
use Rattle.pw_serve.specs.Connections.{Breaks, Connection, Gives, Stays, Takes}
use Rattle.pw_serve.specs.Exchanges.{Asked, Whole, Refused, Chain, Exchange, asked_bytes, bytes_of, is_at_end, is_last}
use Rattle.pw_serve.specs.Served.{IsAllOf, IsOwed, Talk}
use Rattle.pw_serve.specs.inner.Peers.{HasTask, IsFree, IsIdle, IsPeer, closes_behind, waiting}
use Rattle.pw_serve.specs.inner.Turns.{IsAfter, IsBy, IsLeaving, Leads, Moves}
use Rattle.pw_serve.proofs.Known.{Keeps-same, Keeps-then, all-read}
use Rattle.pw_serve.proofs.Own.{closes-more}
use Rattle.pw_serve.proofs.Talks.{bytes-more, talk-came, talk-kept, talk-more, talk-sent}

-- nothing is read or written, and it is not ended
pub record Lasts (now behind : Connection) : Type 0 where
  pub unread : Keeps now.unread behind.unread
  pub told : Keeps now.told behind.told
  pub broken : now.broken ≢ Some false → behind.broken ≢ Some false
  pub ended : behind.ended ≡ now.ended

pub is_broken : (b d : Option Bool) → d ≡ option_map (λ _. true) b → d ≢ Some false
is_broken None d e f = let z : None ≡ Some false = sym e ∙ f in cc
is_broken (Some b) d e f = let z : Some true ≡ Some false = sym e ∙ f in cc

pub lasts-stays : (now behind : Connection) → Stays now behind → Lasts now behind
lasts-stays now behind s = record { unread = s.unread; told = s.told; broken = λ h e. h (sym s.broken ∙ e); ended = s.ended }

pub lasts-breaks : (now behind : Connection) → Breaks now behind → Lasts now behind
lasts-breaks now behind s = record { unread = s.unread; told = s.told; broken = λ _. is_broken now.broken behind.broken s.broken; ended = s.ended }

pub stays-then : (old mid new : Connection) → Stays old mid → Stays mid new → Stays old new
stays-then old mid new x y = record { unread = Keeps-then old.unread mid.unread new.unread x.unread y.unread; told = Keeps-then old.told mid.told new.told x.told y.told; broken = y.broken ∙ x.broken; ended = y.ended ∙ x.ended }

pub stays-same : (c : Connection) → Stays c c
stays-same c = record { unread = Keeps-same c.unread; told = Keeps-same c.told; broken = refl; ended = refl }

-- ---- a peer
pub waiting-none : (c : Peer) → c.outbox.items ≡ [] → waiting c ≡ []
waiting-none c e = ap (λ (t : List ℕ). drop c.sent t) e ∙ drop-nil c.sent

waiting-all : (c : Peer) → c.sent ≡ 0 → waiting c ≡ c.outbox.items
waiting-all c e = ap (λ (n : ℕ). drop n c.outbox.items) e

pub peer-kept : (first now behind : Connection) (own : List Exchange) (c : Peer) → IsPeer first now own c → Lasts now behind → IsPeer first behind own c
peer-kept first now behind own c p s = record {
  talk = talk-kept first now behind own c.inbox.items (waiting c) p.talk s.unread s.told;
  same_end = s.ended ∙ p.same_end;
  closes = p.closes;
  at_end = p.at_end;
}

-- the same but for what the contracts don't see
pub peer-same : (first now : Connection) (own : List Exchange) (c d : Peer) → IsPeer first now own c → d.inbox.items ≡ c.inbox.items → waiting d ≡ waiting c → d.closes ≡ c.closes → d.ended ≡ c.ended → IsPeer first now own d
peer-same first now own c d p inbox wait closes ended = record {
  talk = subst (λ (r : List ℕ). Talk first now own r (waiting d)) (sym inbox) (subst (λ (w : List ℕ). Talk first now own c.inbox.items w) (sym wait) p.talk);
  same_end = p.same_end;
  closes = p.closes ∙ sym closes;
  at_end = λ e. subst (λ (r : List ℕ). IsAllOf first.unread (asked_bytes own ++ r)) (sym inbox) (p.at_end (sym ended ∙ e));
}

pub leaving-short : (first now : Connection) (own : List Exchange) (c : Peer) → IsPeer first now own c → IsLeaving Short first now own
leaving-short first now own c p = record { rest = c.inbox.items; wait = waiting c; talk = p.talk; owed = tt; same_end = p.same_end }

pub leaving-broken : (first now behind : Connection) (own : List Exchange) (c : Peer) → IsPeer first now own c → Breaks now behind → IsLeaving Broken first behind own
leaving-broken first now behind own c p b = record {
  rest = c.inbox.items;
  wait = waiting c;
  talk = talk-kept first now behind own c.inbox.items (waiting c) p.talk b.unread b.told;
  owed = is_broken now.broken behind.broken b.broken;
  same_end = b.ended ∙ p.same_end;
}

pub leaving-expired : (first now : Connection) (own : List Exchange) (c : Peer) → now.broken ≢ Some false → IsPeer first now own c → IsLeaving Broken first now own
leaving-expired first now own c b p = record { rest = c.inbox.items; wait = waiting c; talk = p.talk; owed = b; same_end = p.same_end }

pub leaving-idle : (first now : Connection) (own : List Exchange) (c : Peer) → IsPeer first now own c → IsIdle c → IsLeaving Displaced first now own
leaving-idle first now own c p i = record { rest = c.inbox.items; wait = waiting c; talk = p.talk; owed = (i.taken, i.none); same_end = p.same_end }

over_owed : (first now : Connection) (own : List Exchange) (c : Peer) (b : Bool) → c.closes ≡ b → IsPeer first now own c → HasTask c End → IsOwed Over first.unread now.broken own c.inbox.items (waiting c)
over_owed first now own c true e p t = (t.0, inr (p.closes ∙ e))
over_owed first now own c false e p t =
    let x = t.1 e in
    let all : IsAllOf first.unread (asked_bytes own) = subst (λ (b : List ℕ). IsAllOf first.unread b) (ap (λ (r : List ℕ). asked_bytes own ++ r) x.0 ∙ append-nil (asked_bytes own)) (p.at_end x.1) in
    (t.0, inl (x.0, all))

pub leaving-over : (first now : Connection) (own : List Exchange) (c : Peer) → IsPeer first now own c → HasTask c End → IsLeaving Over first now own
leaving-over first now own c p t = record { rest = c.inbox.items; wait = waiting c; talk = p.talk; owed = over_owed first now own c c.closes refl p t; same_end = p.same_end }

-- ---- writes and reads
pub peer-sent : (first now behind : Connection) (own : List Exchange) (c d : Peer) (bytes : List ℕ) (n : ℕ) → IsPeer first now own c → Takes bytes now n behind → bytes ≡ waiting c → d ≡ record c { outbox = d.outbox; sent = d.sent; since = d.since } → waiting d ≡ drop n (waiting c) → IsPeer first behind own d
peer-sent first now behind own c d bytes n p t e same wait =
    let split : waiting c ≡ take n bytes ++ waiting d = sym (take-append-drop n (waiting c)) ∙ ap (λ (b : List ℕ). take n b ++ drop n (waiting c)) (sym e) ∙ ap (λ (b : List ℕ). take n bytes ++ b) (sym wait) in
    let inbox : c.inbox.items ≡ d.inbox.items = sym (ap (λ (q : Peer). q.inbox.items) same) in
    let talk : Talk first behind own c.inbox.items (waiting d) = talk-sent first now behind own c.inbox.items (take n bytes) (waiting d) (waiting c) p.talk split t.unread t.told in
    record {
      talk = subst (λ (r : List ℕ). Talk first behind own r (waiting d)) inbox talk;
      same_end = t.ended ∙ p.same_end;
      closes = p.closes ∙ sym (ap (λ (q : Peer). q.closes) same);
      at_end = λ x. subst (λ (r : List ℕ). IsAllOf first.unread (asked_bytes own ++ r)) inbox (p.at_end (sym (ap (λ (q : Peer). q.ended) same) ∙ x));
    }

-- the end of what is sent
pub peer-ended : (first now behind : Connection) (own : List Exchange) (c d : Peer) (bytes : List ℕ) → IsPeer first now own c → IsFree c → Gives bytes now 0 behind → 0 < length bytes → d.inbox.items ≡ c.inbox.items → waiting d ≡ waiting c → d.closes ≡ c.closes → IsPeer first behind own d
peer-ended first now behind own c d bytes p f g some inbox wait closes =
    let talk : Talk first behind own (c.inbox.items ++ []) (waiting c) = talk-came first now behind own c.inbox.items (waiting c) [] p.talk (p.closes ∙ f.goes_on) g.unread g.told in
    let same : Talk first behind own d.inbox.items (waiting c) = subst (λ (r : List ℕ). Talk first behind own r (waiting c)) (append-nil c.inbox.items ∙ sym inbox) talk in
    record {
      talk = subst (λ (w : List ℕ). Talk first behind own d.inbox.items w) (sym wait) same;
      same_end = g.ended ∙ p.same_end;
      closes = p.closes ∙ sym closes;
      at_end = λ _. all-read first.unread behind.unread (asked_bytes own ++ d.inbox.items) same.read (g.end refl some);
    }

pub peer-came : (first now behind : Connection) (own : List Exchange) (c d : Peer) (bytes : List ℕ) (n : ℕ) → IsPeer first now own c → IsFree c → c.ended ≡ false → Gives bytes now n behind → d.inbox.items ≡ c.inbox.items ++ take n bytes → waiting d ≡ waiting c → d.closes ≡ c.closes → d.ended ≡ c.ended → IsPeer first behind own d
peer-came first now behind own c d bytes n p f still g inbox wait closes ended =
    let talk : Talk first behind own (c.inbox.items ++ take n bytes) (waiting c) = talk-came first now behind own c.inbox.items (waiting c) (take n bytes) p.talk (p.closes ∙ f.goes_on) g.unread g.told in
    record {
      talk = subst (λ (w : List ℕ). Talk first behind own d.inbox.items w) (sym wait) (subst (λ (r : List ℕ). Talk first behind own r (waiting c)) (sym inbox) talk);
      same_end = g.ended ∙ p.same_end;
      closes = p.closes ∙ sym closes;
      at_end = λ x. absurd (true≢false (sym x ∙ ended ∙ still));
    }

pub leaving-came : (first now behind : Connection) (own : List Exchange) (c : Peer) (bytes : List ℕ) (n : ℕ) → IsPeer first now own c → IsFree c → Gives bytes now n behind → IsLeaving Short first behind own
leaving-came first now behind own c bytes n p f g = record {
  rest = c.inbox.items ++ take n bytes;
  wait = waiting c;
  talk = talk-came first now behind own c.inbox.items (waiting c) (take n bytes) p.talk (p.closes ∙ f.goes_on) g.unread g.told;
  owed = tt;
  same_end = g.ended ∙ p.same_end;
}

-- ---- exchanges
abbrev exchange : ℕ → Asked → List ℕ → Exchange
exchange k asked reply = record { who = k; asked = asked; reply = reply }

module _ {S : Type 0} (answers : S → Asked → List ℕ → S → Type 0) where
  pub Chain-then : (a b c : S) (es fs : List Exchange) → Chain answers a es b → Chain answers b fs c → Chain answers a (es ++ fs) c
  Chain-then a b c [] fs x y = subst (λ (s : S). Chain answers s fs c) x y
  Chain-then a b c (e ∷ es) fs x y = (x.0, x.1, Chain-then x.0 b c es fs x.2 y)

  pub all-then : (k : ℕ) (es fs : List Exchange) → AllByRecursion (IsBy k) es → AllByRecursion (IsBy k) fs → AllByRecursion (IsBy k) (es ++ fs)
  all-then k [] fs x y = y
  all-then k (e ∷ es) fs x y = (x.0, all-then k es fs x.1 y)

  pub leads-none : (k : ℕ) (old : S) (before : Connection) (c : Peer) (P : Connection → List Exchange → Type 0) → Moves before c P → Leads answers k old before c old P
  leads-none k old before c P m = record {
    es = [];
    chain = refl;
    mine = tt;
    leads = λ first own p. subst (λ (o : List Exchange). P first o) (sym (append-nil own)) (m first own p);
  }

  pub leads-then : (k : ℕ) (x y z : S) (before mid : Connection) (c d : Peer) (P : Connection → List Exchange → Type 0) → Leads answers k x before c y (IsAfter Goes mid d) → Leads answers k y mid d z P → Leads answers k x before c z P
  leads-then k x y z before mid c d P l m = record {
    es = l.es ++ m.es;
    chain = Chain-then x y z l.es m.es l.chain m.chain;
    mine = all-then k l.es m.es l.mine m.mine;
    leads = λ first own p. subst (λ (o : List Exchange). P first o) (append_assoc own l.es m.es) (m.leads first (own ++ l.es) (l.leads first own p));
  }

  pub leads-goes : (k : ℕ) (old new : S) (before now : Connection) (c d : Peer) (next : Next) → (next ≡ Goes) ⊎ (next ≡ Replied) → Leads answers k old before c new (IsAfter next now d) → Leads answers k old before c new (IsAfter Goes now d)
  leads-goes k old new before now c d next e l = elim e [
    | inl e ↦ subst (λ (n : Next). Leads answers k old before c new (IsAfter n now d)) e l
    | inr e ↦ subst (λ (n : Next). Leads answers k old before c new (IsAfter n now d)) e l
  ]

  -- one exchange, and what comes of the peer
  leads-asked : (k : ℕ) (old new : S) (now : Connection) (c : Peer) (asked : Asked) (reply more : List ℕ) (P : Connection → List Exchange → Type 0)
      → IsFree c → answers old asked reply new → c.inbox.items ≡ bytes_of asked ++ more → (is_at_end asked ≡ true → (more ≡ []) × (c.ended ≡ true))
      → ((first : Connection) (own : List Exchange) → IsPeer first now own c → closes_behind own ≡ false → Talk first now (own ++ exchange k asked reply ∷ []) more reply → P first (own ++ exchange k asked reply ∷ []))
      → Leads answers k old now c new P
  leads-asked k old new now c asked reply more P f answered bytes end go = record {
    es = exchange k asked reply ∷ [];
    chain = (new, answered, refl);
    mine = (refl, tt);
    leads = λ first own p.
        let still : closes_behind own ≡ false = p.closes ∙ f.goes_on in
        let before : Talk first now own c.inbox.items [] = subst (λ (w : List ℕ). Talk first now own c.inbox.items w) f.taken p.talk in
        go first own p still (talk-more first now own (exchange k asked reply) c.inbox.items more before still bytes (λ x. ((end x).0, p.at_end (end x).1)));
  }

  pub leads-one : (k : ℕ) (old new : S) (now : Connection) (c d : Peer) (asked : Asked) (reply : List ℕ) → IsFree c → answers old asked reply new → c.inbox.items ≡ bytes_of asked ++ d.inbox.items → waiting d ≡ reply → d.closes ≡ is_last asked → d.ended ≡ c.ended → (is_at_end asked ≡ true → (d.inbox.items ≡ []) × (c.ended ≡ true)) → Leads answers k old now c new (IsAfter Replied now d)
  leads-one k old new now c d asked reply f answered bytes wait closes ended end =
      let e = exchange k asked reply in
      leads-asked k old new now c asked reply d.inbox.items (IsAfter Replied now d) f answered bytes end
      (λ first own p still talk. record {
        talk = subst (λ (w : List ℕ). Talk first now (own ++ e ∷ []) d.inbox.items w) (sym wait) talk;
        same_end = p.same_end;
        closes = closes-more own e still ∙ sym closes;
        at_end = λ x. subst (λ (b : List ℕ). IsAllOf first.unread b) (bytes-more own e c.inbox.items d.inbox.items bytes) (p.at_end (sym ended ∙ x));
      })

  -- one whose reply is lost
  pub leads-lost : (k : ℕ) (old new : S) (now : Connection) (c : Peer) (n : ℕ) (closes : Bool) (reply : List ℕ) → IsFree c → answers old (Whole (take n c.inbox.items) closes) reply new → Leads answers k old now c new (IsAfter (Ends Short) now c)
  leads-lost k old new now c n closes reply f answered =
      leads-asked k old new now c (Whole (take n c.inbox.items) closes) reply (drop n c.inbox.items) (IsAfter (Ends Short) now c) f answered (sym (take-append-drop n c.inbox.items)) (λ x. absurd (true≢false (sym x)))
      (λ first own p still talk. record { rest = drop n c.inbox.items; wait = reply; talk = talk; owed = tt; same_end = p.same_end })

  -- nothing was answered
  pub leads-same : (k : ℕ) (old new : S) (now : Connection) (c d : Peer) (P : Connection → List Exchange → Type 0) → ((first : Connection) (own : List Exchange) → IsPeer first now own d → P first own)
      → IsFree c → new ≡ old → d.inbox.items ≡ c.inbox.items → d.outbox.items ≡ [] → d.closes ≡ c.closes → d.ended ≡ c.ended → Leads answers k old now c new P
  leads-same k old new now c d P f free same inbox empty closes ended =
      subst (λ (s : S). Leads answers k old now c s P) (sym same)
      (leads-none k old now c P (λ first own p. f first own (peer-same first now own c d p inbox (waiting-none d empty ∙ sym free.taken) closes ended)))

  pub leads-replied : (k : ℕ) (old new : S) (now : Connection) (c d : Peer) (bytes text : List ℕ) (n : ℕ) (closes : Bool)
      → IsFree c → answers old (Whole (take n bytes) closes) text new → bytes ≡ c.inbox.items → d.inbox.items ≡ drop n c.inbox.items
      → d.outbox.items ≡ text → d.sent ≡ 0 → d.closes ≡ closes → d.ended ≡ c.ended → Leads answers k old now c new (IsAfter Replied now d)
  leads-replied k old new now c d bytes text n closes free answered same inbox outbox sent last ended =
      let split : c.inbox.items ≡ take n bytes ++ d.inbox.items = sym (take-append-drop n c.inbox.items) ∙ ap (λ (b : List ℕ). take n b ++ drop n c.inbox.items) (sym same) ∙ ap (λ (b : List ℕ). take n bytes ++ b) (sym inbox) in
      leads-one k old new now c d (Whole (take n bytes) closes) text free answered split (waiting-all d sent ∙ outbox) last ended (λ x. absurd (true≢false (sym x)))

  pub leads-refused : (k : ℕ) (old new : S) (now : Connection) (c d : Peer) (bytes text : List ℕ) (ended : Bool)
      → IsFree c → answers old (Refused bytes ended) text new → bytes ≡ c.inbox.items → ended ≡ c.ended → d.inbox.items ≡ []
      → d.outbox.items ≡ text → d.sent ≡ 0 → d.closes ≡ true → d.ended ≡ c.ended → Leads answers k old now c new (IsAfter Replied now d)
  leads-refused k old new now c d bytes text ended free answered same was inbox outbox sent last end =
      let split : c.inbox.items ≡ bytes ++ d.inbox.items = sym same ∙ sym (append-nil bytes) ∙ ap (λ (b : List ℕ). bytes ++ b) (sym inbox) in
      leads-one k old new now c d (Refused bytes ended) text free answered split (waiting-all d sent ∙ outbox) last end (λ x. (inbox, sym was ∙ x))

  pub leads-short : (waits : List ℕ → Type 0) (k : ℕ) (old new : S) (now : Connection) (c d : Peer) (bytes text : List ℕ) (ended may_be_large : Bool)
      → IsFree c → IsAnswer answers waits old bytes ended may_be_large new text answer.Short → bytes ≡ c.inbox.items → Leads answers k old now c new (IsAfter (Ends Short) now d)
  leads-short waits k old new now c d bytes text ended may_be_large free x same = elim x [
    | inl e ↦ subst (λ (s : S). Leads answers k old now c s (IsAfter (Ends Short) now d)) (sym e) (leads-none k old now c (IsAfter (Ends Short) now d) (λ first own p. leaving-short first now own c p))
    | inr y ↦ leads-lost k old new now c y.0 y.1 y.2 free (subst (λ (b : List ℕ). answers old (Whole (take y.0 b) y.1) y.2 new) same y.4)
  ]
