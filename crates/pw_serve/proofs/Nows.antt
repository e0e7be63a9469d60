-- How all connections stand, step by step.
use Rattle.std.proofs.Common.{◌≡◌, ◌≢◌, ◌≤◌, ◌+◌, ◌⊎◌, ℕ, List, [], ◌++◌, Option, Some, None, Bool, false, inl, inr, refl, sym, ap, ◌∙◌, arith, subst}
use Rattle.std.proofs.lemmas.Bool.{cases_eq, true≢false}
use Rattle.std.proofs.lemmas.List.{append-nil}
use Rattle.std.specs.List.{AllByRecursion}
use Rattle.std.specs.Prelude.{option_map}
use Rattle.pw_serve.specs.declared.connections.Ending.{Ending}
use Rattle.pw_serve.specs.declared.connections.Ending.TheVariants.{Over, Displaced, Broken, Short}
use Rattle.pw_serve.specs.declared.connections.Event.{Event}
use Rattle.pw_serve.specs.declared.connections.Event.TheVariants.{Quiet, Knocked, Ready, Expired, Closing}
use Rattle.pw_serve.specs.declared.peer.Peer.{Peer}
use Rattle.pw_serve.specs.declared.turn.Next.{Next}
use Rattle.pw_serve.specs.declared.turn.Next.TheVariants.{Goes, Replied, Waits, Held, Ends}
use Rattle.pw_serve.specs.Connections.{AllStay, Connection, IsEnded, IsTold, OthersStay}
use Rattle.pw_serve.specs.Exchanges.{Asked, Chain, Exchange, exchanges_of}
use Rattle.pw_serve.specs.Served.{IsOwed, IsServed, Talk}
use Rattle.pw_serve.specs.inner.Now.{AreSame, IsAt, IsAway, IsSet, IsUnused, IsVisit, Now, Onward, Peers}
use Rattle.pw_serve.specs.inner.Peers.{IsPeer, waiting}
use Rattle.pw_serve.specs.inner.Turns.{IsAfter, IsBy, IsLeaving}
use Rattle.pw_serve.proofs.Known.{Keeps-same, Keeps-then}
use Rattle.pw_serve.proofs.Own.{own-more, own-other}
use Rattle.pw_serve.proofs.Talks.{talk-kept, talk-new}
use Rattle.pw_serve.proofs.Turns.{Chain-then, Lasts, lasts-breaks, lasts-stays, peer-kept, stays-then}

-- ---- one connection
owed-kept : (why : Ending) (stream : Option (List ℕ)) (b d : Option Bool) (own : List Exchange) (rest wait : List ℕ) → (b ≢ Some false → d ≢ Some false) → IsOwed why stream b own rest wait → IsOwed why stream d own rest wait
owed-kept Over stream b d own rest wait h x = x
owed-kept Displaced stream b d own rest wait h x = x
owed-kept Broken stream b d own rest wait h x = h x
owed-kept Short stream b d own rest wait h x = tt

at-kept : (spot : Option Peer) (first now behind : Connection) (own : List Exchange) → Lasts now behind → IsAt spot first now own → IsAt spot first behind own
at-kept (Some c) first now behind own l x = peer-kept first now behind own c x l
at-kept None first now behind own l x = record {
  rest = x.rest;
  wait = x.wait;
  talk = talk-kept first now behind own x.rest x.wait x.talk l.unread l.told;
  end = λ why e f. owed-kept why first.unread now.broken behind.broken own x.rest x.wait l.broken (x.end why e (sym l.ended ∙ f));
}

no_ending : (why : Ending) (e : Option (Option Ending)) → e ≡ Some None → e ≡ Some (Some why) → ⊥
no_ending why e x y = let z : Some None ≡ Some (Some why) = sym x ∙ y in cc

same_ending : (a b : Ending) (d e : Option (Option Ending)) → d ≡ Some None → e ≡ option_map (λ _. Some a) d → e ≡ Some (Some b) → a ≡ b
same_ending a b d e still x y = let z : Some (Some a) ≡ Some (Some b) = ap (λ (o : Option (Option Ending)). option_map (λ _. Some a) o) (sym still) ∙ sym x ∙ y in cc

-- what it is left with, once it is ended
pub away-ended : (why : Ending) (first now behind : Connection) (own : List Exchange) → IsLeaving why first now own → IsEnded why now behind → IsAway first behind own
away-ended why first now behind own l e = record {
  rest = l.rest;
  wait = l.wait;
  talk = talk-kept first now behind own l.rest l.wait l.talk e.unread e.told;
  end = λ other o f.
      let same : why ≡ other = same_ending why other now.ended behind.ended (l.same_end ∙ o) e.ended f in
      subst (λ (y : Ending). IsOwed y first.unread behind.broken own l.rest l.wait) same (owed-kept why first.unread now.broken behind.broken own l.rest l.wait (λ h g. h (sym e.broken ∙ g)) l.owed);
}

-- one that is in the loop isn't ended
pub end-still : (spot : Option Peer) (first now : Connection) (own : List Exchange) → IsAt spot first now own → IsAway first now own
end-still (Some c) first now own p = record {
  rest = c.inbox.items;
  wait = waiting c;
  talk = p.talk;
  end = λ why e f. absurd (no_ending why now.ended (p.same_end ∙ e) f);
}
end-still None first now own p = p

pub unused-kept : (spot : Option Peer) (first now behind : Connection) (own : List Exchange) → Lasts now behind → IsUnused spot first now own → IsUnused spot first behind own
unused-kept spot first now behind own l x = record {
  away = x.away;
  none = x.none;
  unread = Keeps-then first.unread now.unread behind.unread x.unread l.unread;
  told = Keeps-then first.told now.told behind.told x.told l.told;
  ended = l.ended ∙ x.ended;
}

pub unused-away : (first now : Connection) (own : List Exchange) (spot : Option Peer) → IsUnused spot first now own → IsAway first now own
unused-away first now own spot x = record {
  rest = [];
  wait = [];
  talk = subst (λ (o : List Exchange). Talk first now o [] []) (sym x.none) (talk-new first now x.unread x.told);
  end = λ why e f. absurd (no_ending why now.ended (x.ended ∙ e) f);
}

-- a new one
pub peer-new : (first now : Connection) (own : List Exchange) (spot : Option Peer) (c : Peer) → c.inbox.items ≡ [] → waiting c ≡ [] → c.ended ≡ false → c.closes ≡ false → IsUnused spot first now own → IsPeer first now own c
peer-new first now own spot c inbox wait ended closes x =
    let talk : Talk first now [] [] [] = talk-new first now x.unread x.told in
    let boxes : Talk first now [] c.inbox.items (waiting c) = subst (λ (r : List ℕ). Talk first now [] r (waiting c)) (sym inbox) (subst (λ (w : List ℕ). Talk first now [] [] w) (sym wait) talk) in
    subst (λ (o : List Exchange). IsPeer first now o c) (sym x.none) (record {
      talk = boxes;
      same_end = x.ended;
      closes = sym closes;
      at_end = λ e. absurd (true≢false (sym e ∙ ended));
    })

some_none : (c : Peer) (spot : Option Peer) → spot ≡ Some c → spot ≡ None → ⊥
some_none c spot x y = let z : Some c ≡ None = sym x ∙ y in cc

-- the turn leaves the peer in the loop
abbrev pub IsStaying : Next → Type 0
IsStaying Goes = Unit {0}
IsStaying Replied = Unit {0}
IsStaying Waits = Unit {0}
IsStaying Held = Unit {0}
IsStaying (Ends why) = ⊥

pub staying : (next : Next) → (next ≡ Goes) ⊎ (next ≡ Replied) → IsStaying next
staying next e = elim e [
  | inl e ↦ subst (λ (n : Next). IsStaying n) (sym e) tt
  | inr e ↦ subst (λ (n : Next). IsStaying n) (sym e) tt
]

after-peer : (next : Next) (first now : Connection) (own : List Exchange) (d : Peer) → IsStaying next → IsAfter next now d first own → IsPeer first now own d
after-peer Goes first now own d s x = x
after-peer Replied first now own d s x = x
after-peer Waits first now own d s x = x
after-peer Held first now own d s x = x
after-peer (Ends why) first now own d s x = absurd s

-- the turn ended it
ends_waits : (why : Ending) → Ends why ≡ Waits → ⊥
ends_waits why e = cc

-- what is told of moves nothing
lasts-told : (event : Event) (now behind : ℕ → Connection) → IsTold event now behind → (j : ℕ) → Lasts (now j) (behind j)
lasts-told Quiet now behind told j = lasts-stays (now j) (behind j) (told j)
lasts-told Knocked now behind told j = lasts-stays (now j) (behind j) (told j)
lasts-told (Ready k) now behind told j = lasts-stays (now j) (behind j) (told j)
lasts-told Closing now behind told j = lasts-stays (now j) (behind j) (told j)
lasts-told (Expired k) now behind told j = elim (cases_eq j k) [
  | inl same ↦ subst (λ (n : ℕ). Lasts (now n) (behind n)) (sym same) (lasts-breaks (now k) (behind k) told.0)
  | inr other ↦ lasts-stays (now j) (behind j) (told.1 j other)
]

module _ {S : Type 0} (answers : S → Asked → List ℕ → S → Type 0) where
  pub now-new : (a : S) (first : ℕ → Connection) (peers : Peers) (next : ℕ) → ((j : ℕ) → peers j ≡ None) → Now answers a first first a peers next
  now-new a first peers next none =
      let unused : (j : ℕ) → IsUnused (peers j) (first j) (first j) [] = λ j. record { away = none j; none = refl; unread = Keeps-same (first j).unread; told = Keeps-same (first j).told; ended = refl } in
      record {
        order = [];
        chain = refl;
        each = λ j. subst (λ (spot : Option Peer). IsAt spot (first j) (first j) []) (sym (none j)) (unused-away (first j) (first j) [] (peers j) (unused j));
        unused = λ j _. unused j;
      }

  pub now-kept : (a b : S) (first now behind : ℕ → Connection) (peers : Peers) (next : ℕ) → ((j : ℕ) → Lasts (now j) (behind j)) → Now answers a first now b peers next → Now answers a first behind b peers next
  now-kept a b first now behind peers next l x = record {
    order = x.order;
    chain = x.chain;
    each = λ j. at-kept (peers j) (first j) (now j) (behind j) (exchanges_of j x.order) (l j) (x.each j);
    unused = λ j h. unused-kept (peers j) (first j) (now j) (behind j) (exchanges_of j x.order) (l j) (x.unused j h);
  }

  pub now-same : (a b : S) (first now : ℕ → Connection) (peers others : Peers) (next : ℕ) → AreSame peers others → Now answers a first now b peers next → Now answers a first now b others next
  now-same a b first now peers others next s x = record {
    order = x.order;
    chain = x.chain;
    each = λ j. subst (λ (spot : Option Peer). IsAt spot (first j) (now j) (exchanges_of j x.order)) (sym (s j)) (x.each j);
    unused = λ j h. subst (λ (spot : Option Peer). IsUnused spot (first j) (now j) (exchanges_of j x.order)) (sym (s j)) (x.unused j h);
  }

  -- the peer at k went on, or is away
  pub now-set : (a b c : S) (first now behind : ℕ → Connection) (peers others : Peers) (next k : ℕ) (was : Peer) (spot : Option Peer) (es : List Exchange)
      → peers k ≡ Some was → Chain answers b es c → AllByRecursion (IsBy k) es → OthersStay k now behind → IsSet k spot peers others
      → ((own : List Exchange) → IsPeer (first k) (now k) own was → IsAt spot (first k) (behind k) (own ++ es))
      → Now answers a first now b peers next → Now answers a first behind c others next
  now-set a b c first now behind peers others next k was spot es there chain mine stay set step x = record {
    order = x.order ++ es;
    chain = Chain-then answers a b c x.order es x.chain chain;
    each = λ j. elim (cases_eq j k) [
      | inl same ↦
          let own = exchanges_of k x.order in
          let p : IsPeer (first k) (now k) own was = subst (λ (o : Option Peer). IsAt o (first k) (now k) own) there (x.each k) in
          let q : IsAt spot (first k) (behind k) (exchanges_of k (x.order ++ es)) = subst (λ (o : List Exchange). IsAt spot (first k) (behind k) o) (sym (own-more k x.order es mine)) (step own p) in
          let r : IsAt (others k) (first k) (behind k) (exchanges_of k (x.order ++ es)) = subst (λ (o : Option Peer). IsAt o (first k) (behind k) (exchanges_of k (x.order ++ es))) (sym set.one) q in
          subst (λ (n : ℕ). IsAt (others n) (first n) (behind n) (exchanges_of n (x.order ++ es))) (sym same) r
      | inr other ↦
          let own = exchanges_of j x.order in
          let q : IsAt (peers j) (first j) (behind j) own = at-kept (peers j) (first j) (now j) (behind j) own (lasts-stays (now j) (behind j) (stay j other)) (x.each j) in
          let r : IsAt (others j) (first j) (behind j) own = subst (λ (o : Option Peer). IsAt o (first j) (behind j) own) (sym (set.others j other)) q in
          subst (λ (o : List Exchange). IsAt (others j) (first j) (behind j) o) (sym (own-other j k x.order es other mine)) r
    ];
    unused = λ j h.
        let y = x.unused j h in
        let other : j ≢ k = λ same. some_none was (peers j) (subst (λ (n : ℕ). peers n ≡ Some was) (sym same) there) y.away in
        let own = exchanges_of j x.order in
        let q : IsUnused (peers j) (first j) (behind j) own = unused-kept (peers j) (first j) (now j) (behind j) own (lasts-stays (now j) (behind j) (stay j other)) y in
        let r : IsUnused (others j) (first j) (behind j) own = subst (λ (o : Option Peer). IsUnused o (first j) (behind j) own) (sym (set.others j other)) q in
        subst (λ (o : List Exchange). IsUnused (others j) (first j) (behind j) o) (sym (own-other j k x.order es other mine)) r;
  }

  -- ---- steps of the loop
  pub onward-kept : (b : S) (now behind : ℕ → Connection) (peers others : Peers) (next : ℕ) → AllStay now behind → AreSame peers others → Onward answers b now peers next b behind others next
  onward-kept b now behind peers others next stay same a first x =
      now-same a b first behind peers others next same (now-kept a b first now behind peers next (λ j. lasts-stays (now j) (behind j) (stay j)) x)

  -- the peer at k is ended, for a reason that holds of it
  pub onward-ended : (b : S) (now behind : ℕ → Connection) (peers others : Peers) (next k : ℕ) (why : Ending) (was : Peer)
      → peers k ≡ Some was → ((first : Connection) (own : List Exchange) → IsPeer first (now k) own was → IsLeaving why first (now k) own)
      → IsEnded why (now k) (behind k) → OthersStay k now behind → IsSet k None peers others → Onward answers b now peers next b behind others next
  onward-ended b now behind peers others next k why was there leaves ended stay set a first x =
      now-set a b b first now behind peers others next k was None [] there refl tt stay set
      (λ own p. subst (λ (o : List Exchange). IsAway (first k) (behind k) o) (sym (append-nil own)) (away-ended why (first k) (now k) (behind k) own (leaves (first k) own p) ended)) x

  pub onward-turn : (b c : S) (now mid behind : ℕ → Connection) (peers others last : Peers) (number k : ℕ) (next : Next)
      → IsStaying next → IsVisit answers k b now peers c mid others next → AllStay mid behind → AreSame others last → Onward answers b now peers number c behind last number
  onward-turn b c now mid behind peers others last number k next s v stay same a first x = elim v [
    | inl t ↦
        let y : Now answers a first mid c others number = now-set a b c first now mid peers others number k t.0 (Some t.1) t.2.leads.es t.2.was t.2.leads.chain t.2.leads.mine t.2.stay t.2.set
        (λ own p. after-peer next (first k) (mid k) (own ++ t.2.leads.es) t.1 s (t.2.leads.leads (first k) own p)) x in
        onward-kept c mid behind others last number stay same a first y
    | inr n ↦
        let y : Now answers a first mid b others number = onward-kept b now mid peers others number n.stay n.peers_same a first x in
        onward-kept c mid behind others last number stay same a first (subst (λ (z : S). Now answers a first mid z others number) (sym n.same) y)
  ]

  pub onward-over : (b c : S) (now mid behind : ℕ → Connection) (peers others last : Peers) (number k : ℕ) (why : Ending)
      → IsVisit answers k b now peers c mid others (Ends why) → IsEnded why (mid k) (behind k) → OthersStay k mid behind → IsSet k None others last → Onward answers b now peers number c behind last number
  onward-over b c now mid behind peers others last number k why v ended stay set a first x = elim v [
    | inl t ↦
        let both : OthersStay k now behind = λ j d. stays-then (now j) (mid j) (behind j) (t.2.stay j d) (stay j d) in
        let gone : IsSet k None peers last = record { one = set.one; others = λ j d. set.others j d ∙ t.2.set.others j d } in
        now-set a b c first now behind peers last number k t.0 None t.2.leads.es t.2.was t.2.leads.chain t.2.leads.mine both gone
        (λ own p. away-ended why (first k) (mid k) (behind k) (own ++ t.2.leads.es) (t.2.leads.leads (first k) own p) ended) x
    | inr n ↦ absurd (ends_waits why n.next_is)
  ]

  -- a client was taken in
  pub onward-added : (b : S) (now behind : ℕ → Connection) (peers others : Peers) (next more : ℕ) (c : Peer)
      → more ≡ next + 1 → c.inbox.items ≡ [] → waiting c ≡ [] → c.ended ≡ false → c.closes ≡ false → AllStay now behind → IsSet next (Some c) peers others → Onward answers b now peers next b behind others more
  onward-added b now behind peers others next more c one inbox wait ended closes stay set a first x = record {
    order = x.order;
    chain = x.chain;
    each = λ j. elim (cases_eq j next) [
      | inl same ↦
          let own = exchanges_of next x.order in
          let u : IsUnused (peers next) (first next) (behind next) own = unused-kept (peers next) (first next) (now next) (behind next) own (lasts-stays (now next) (behind next) (stay next)) (x.unused next (omega arith)) in
          let p : IsAt (Some c) (first next) (behind next) own = peer-new (first next) (behind next) own (peers next) c inbox wait ended closes u in
          let q : IsAt (others next) (first next) (behind next) own = subst (λ (o : Option Peer). IsAt o (first next) (behind next) own) (sym set.one) p in
          subst (λ (n : ℕ). IsAt (others n) (first n) (behind n) (exchanges_of n x.order)) (sym same) q
      | inr other ↦
          let own = exchanges_of j x.order in
          subst (λ (o : Option Peer). IsAt o (first j) (behind j) own) (sym (set.others j other)) (at-kept (peers j) (first j) (now j) (behind j) own (lasts-stays (now j) (behind j) (stay j)) (x.each j))
    ];
    unused = λ j h.
        let own = exchanges_of j x.order in
        let past : next ≤ j = omega (arith, h, one) in
        let other : j ≢ next = λ e. let no : ⊥ = omega (arith, h, one, e) in no in
        let u : IsUnused (peers j) (first j) (behind j) own = unused-kept (peers j) (first j) (now j) (behind j) own (lasts-stays (now j) (behind j) (stay j)) (x.unused j past) in
        subst (λ (o : Option Peer). IsUnused o (first j) (behind j) own) (sym (set.others j other)) u;
  }

  -- there was no memory for it
  pub onward-unfit : (b : S) (now mid behind : ℕ → Connection) (peers others : Peers) (next more : ℕ)
      → more ≡ next + 1 → AllStay now mid → IsEnded Short (mid next) (behind next) → OthersStay next mid behind → AreSame peers others → Onward answers b now peers next b behind others more
  onward-unfit b now mid behind peers others next more one stay ended rest same a first x =
      let y : Now answers a first mid b others next = onward-kept b now mid peers others next stay same a first x in
      record {
        order = y.order;
        chain = y.chain;
        each = λ j. elim (cases_eq j next) [
          | inl e ↦
              let own = exchanges_of next y.order in
              let u = y.unused next (omega arith) in
              let w = unused-away (first next) (mid next) own (others next) u in
              let l : IsLeaving Short (first next) (mid next) own = record { rest = w.rest; wait = w.wait; talk = w.talk; owed = tt; same_end = u.ended } in
              let p : IsAt None (first next) (behind next) own = away-ended Short (first next) (mid next) (behind next) own l ended in
              let q : IsAt (others next) (first next) (behind next) own = subst (λ (o : Option Peer). IsAt o (first next) (behind next) own) (sym u.away) p in
              subst (λ (n : ℕ). IsAt (others n) (first n) (behind n) (exchanges_of n y.order)) (sym e) q
          | inr other ↦ at-kept (others j) (first j) (mid j) (behind j) (exchanges_of j y.order) (lasts-stays (mid j) (behind j) (rest j other)) (y.each j)
        ];
        unused = λ j h.
            let past : next ≤ j = omega (arith, h, one) in
            let other : j ≢ next = λ e. let no : ⊥ = omega (arith, h, one, e) in no in
            unused-kept (others j) (first j) (mid j) (behind j) (exchanges_of j y.order) (lasts-stays (mid j) (behind j) (rest j other)) (y.unused j past);
      }

  pub onward-told : (b : S) (now behind : ℕ → Connection) (peers : Peers) (next : ℕ) (event : Event) → IsTold event now behind → Onward answers b now peers next b behind peers next
  onward-told b now behind peers next event told a first x = now-kept a b first now behind peers next (lasts-told event now behind told) x

  pub onward-then : (b c d : S) (now mid behind : ℕ → Connection) (peers others last : Peers) (next more most : ℕ) → Onward answers b now peers next c mid others more → Onward answers c mid others more d behind last most → Onward answers b now peers next d behind last most
  onward-then b c d now mid behind peers others last next more most f g a first x = g a first (f a first x)

  -- nothing more happens to the connections
  pub onward-settled : (b c : S) (now mid behind : ℕ → Connection) (peers others last : Peers) (next more most : ℕ)
      → Onward answers b now peers next c mid others more → AllStay mid behind → AreSame others last → most ≡ more → Onward answers b now peers next c behind last most
  onward-settled b c now mid behind peers others last next more most f stay same e a first x =
      subst (λ (n : ℕ). Now answers a first behind c last n) (sym e) (onward-kept c mid behind others last more stay same a first (f a first x))

  -- ---- the whole
  pub served : (a b : S) (first now : ℕ → Connection) (peers : Peers) (next : ℕ) → Now answers a first now b peers next → IsServed answers a first now b
  served a b first now peers next x =
      let away : (k : ℕ) → IsAway (first k) (now k) (exchanges_of k x.order) = λ k. end-still (peers k) (first k) (now k) (exchanges_of k x.order) (x.each k) in
      record {
        order = x.order;
        chain = x.chain;
        rest = λ k. (away k).rest;
        wait = λ k. (away k).wait;
        talks = λ k. (away k).talk;
        ends = λ k. (away k).end;
      }
