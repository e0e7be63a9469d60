-- The rows that the points of a register add: of a pair, of a chain of pairs, and of all that spans an interval.
use Rattle.std.proofs.Common.{◌≡◌, ◌&&◌, ◌⊎◌, ℕ, ◌+◌, ◌<◌, ◌≤◌, nat_le, nat_lt, true, Option, Some, List, [], ◌∷◌, ◌++◌, map, filter, refl, ap, sym, subst, ◌∙◌, inl, inr, arith}
use Rattle.std.proofs.lemmas.Bool.{and_parts, cases_Bool, eq-eqb, le-leb, leb-true, lt-ltb, ltb-true}
use Rattle.std.proofs.lemmas.List.{append_assoc, append-nil}
use Rattle.std.proofs.lemmas.Option.{none-some}
use Rattle.pw_obis.specs.declared.reference.Register.{Register}
use Rattle.pw_time.specs.declared.instant.TheConstants.{END_SECOND}
use Rattle.pw_flow.specs.Flow.{AreNeighbours, IsSpanned, flow}
use Rattle.pw_flow.specs.Pairs.{Chain, last_of}
use Rattle.pw_flow.proofs.Neighbours.{flow-rises, flow-spanned}
use Rattle.pw_tariff.specs.declared.ids.AccountId.{AccountId}
use Rattle.pw_tariff.specs.declared.ids.MeterId.{MeterId}
use Rattle.pw_tariff.specs.declared.spread.Piece.{Piece}
use Rattle.pw_tariff.specs.declared.spread.Span.{Span}
use Rattle.pw_tariff.specs.Office.{OfficeFile, OfficeRules, counts_at, office_of, register_place}
use Rattle.pw_tariff.specs.Owners.{owner_by_starts, same_owner}
use Rattle.pw_tariff.specs.Pieces.{ListsPieces}
use Rattle.pw_model.specs.declared.records.Key.{Key}
use Rattle.pw_model.specs.declared.records.Contents.{Contents}
use Rattle.pw_model.specs.Counting.{Member, point}
use Rattle.pw_model.specs.Energy.{account, owner_at}
use Rattle.pw_model.proofs.Filtered.{filtered-member, member-filtered}
use Rattle.pw_model.proofs.Places.{member-left, member-right, member-split}
use Rattle.pw_model.proofs.Same.{register-one}
use Rattle.pw_book.specs.inner.Settling.{EndsBefore}
use Rattle.pw_months.specs.Between.{lies_in}
use Rattle.pw_months.specs.Pieces.{IsCountingPair}
use Rattle.pw_months.proofs.PieceRows.{NamesIn, all-found, rows-from}
use Rattle.pw_bills.specs.declared.reasons.WhyPiece.{WhyPiece}
use Rattle.pw_bills.specs.inner.Flows.{Covers}
use Rattle.pw_bills.specs.inner.Naming.{NamesStretches, OwnerStart}
use Rattle.pw_bills.specs.inner.Rows.{AreApart, AreRowsUpTo, GivenBetween, GivenBy, GivenByPoints, IsAsked, IsRowUpTo, IsTold, IsUpTo, gives_something, span_of, why_of}
use Rattle.pw_bills.proofs.Apart.{apart-joined, split-register, split-second, up-then}
use Rattle.pw_bills.proofs.NamedStarts.{account-is}

-- ---- what is told as far as a place
module _ (office : OfficeRules) (at : Key → Contents) (a : AccountId) (x y : ℕ) where
  row-later : (m i t k j u : ℕ) (w : WhyPiece) → IsUpTo m i t k j u → IsRowUpTo office at a x y m i t w → IsRowUpTo office at a x y k j u w
  row-later m i t k j u w g h = record {
    row = h.row;
    own = h.own;
    ended = up-then w.meter.0 (register_place w.register) w.piece.until m i t k j u h.ended g;
  }

  -- no rows more
  pub none-more : (m i t k j u : ℕ) (ws : List WhyPiece) → IsUpTo m i t k j u →
      ((n : ℕ) (r : Register) (s : ℕ) → IsUpTo n (register_place r) (s + 1) k j u →
      IsUpTo n (register_place r) (s + 1) m i t ⊎ (IsAsked office at a x y n r s → flow (point at n r) office.end s ≡ 0)) →
      AreRowsUpTo office at a x y m i t ws → AreRowsUpTo office at a x y k j u ws
  none-more m i t k j u ws g f h = record {
    each = λ w l. row-later m i t k j u w g (h.each w l);
    apart = h.apart;
    all = λ n r s l q. elim (f n r s l) [ inl o ↦ h.all n r s o q | inr z ↦ inl (z q) ];
  }

  told-left : (ws given : List WhyPiece) (n : ℕ) (r : Register) (s : ℕ) → IsTold office at ws n r s → IsTold office at (ws ++ given) n r s
  told-left ws given n r s (inl z) = inl z
  told-left ws given n r s (inr k) = inr (k.0, member-left k.0 ws given k.1, k.2)

  told-right : (ws given : List WhyPiece) (n : ℕ) (r : Register) (s : ℕ) → IsTold office at given n r s → IsTold office at (ws ++ given) n r s
  told-right ws given n r s (inl z) = inl z
  told-right ws given n r s (inr k) = inr (k.0, member-right k.0 ws given k.1, k.2)

  -- rows more, that begin where the others end
  pub some-more : (m i t k j u : ℕ) (ws given : List WhyPiece) → IsUpTo m i t k j u → AreApart given →
      ((w : WhyPiece) → Member w given → IsRowUpTo office at a x y k j u w × IsUpTo m i t w.meter.0 (register_place w.register) w.piece.begin) →
      ((n : ℕ) (r : Register) (s : ℕ) → IsUpTo n (register_place r) (s + 1) k j u →
      IsUpTo n (register_place r) (s + 1) m i t ⊎ (IsAsked office at a x y n r s → IsTold office at given n r s)) →
      AreRowsUpTo office at a x y m i t ws → AreRowsUpTo office at a x y k j u (ws ++ given)
  some-more m i t k j u ws given g d e f h = record {
    each = λ w l. elim (member-split w ws given l) [ inl b ↦ row-later m i t k j u w g (h.each w b) | inr b ↦ (e w b).0 ];
    apart = apart-joined ws given h.apart d (λ v w b c. up-then v.meter.0 (register_place v.register) v.piece.until m i t w.meter.0 (register_place w.register) w.piece.begin (h.each v b).ended (e w c).1);
    all = λ n r s l q. elim (f n r s l) [ inl o ↦ told-left ws given n r s (h.all n r s o q) | inr z ↦ told-right ws given n r s (z q) ];
  }

  -- of the same register
  pub told-same : (ws : List WhyPiece) (n m : ℕ) (q r : Register) (s : ℕ) → n ≡ m → register_place q ≡ register_place r → IsTold office at ws m r s → IsTold office at ws n q s
  told-same ws n m q r s e f t =
      let P : ℕ → Type 0 = λ k. IsTold office at ws k q s in
      let Q : Register → Type 0 = λ k. IsTold office at ws m k s in
      subst P (sym e) (subst Q (sym (register-one q r f)) t)

  pub asked-same : (n m : ℕ) (q r : Register) (s : ℕ) → n ≡ m → register_place q ≡ register_place r → IsAsked office at a x y n q s → IsAsked office at a x y m r s
  asked-same n m q r s e f t =
      let P : ℕ → Type 0 = λ k. IsAsked office at a x y k r s in
      let Q : Register → Type 0 = λ k. IsAsked office at a x y n k s in
      subst P e (subst Q (register-one q r f) t)

  pub flow-same : (n m : ℕ) (q r : Register) (s : ℕ) → n ≡ m → register_place q ≡ register_place r → flow (point at m r) office.end s ≡ 0 → flow (point at n q) office.end s ≡ 0
  flow-same n m q r s e f t =
      let P : ℕ → Type 0 = λ k. flow (point at k q) office.end s ≡ 0 in
      let Q : Register → Type 0 = λ k. flow (point at m k) office.end s ≡ 0 in
      subst P (sym e) (subst Q (sym (register-one q r f)) t)

-- ---- the pieces of a pair
pub mapped-member : {X Y : Type 0} (f : X → Y) (xs : List X) (y : Y) → Member y (map f xs) → (x : X) × Member x xs × (y ≡ f x)
mapped-member f [] y m = absurd m
mapped-member f (x ∷ xs) y (inl i) = (x, inl refl, i)
mapped-member f (x ∷ xs) y (inr m) = let r = mapped-member f xs y m in (r.0, inr r.1, r.2)

pub member-mapped : {X Y : Type 0} (f : X → Y) (xs : List X) (x : X) → Member x xs → Member (f x) (map f xs)
member-mapped f [] x m = absurd m
member-mapped f (y ∷ ys) x (inl i) = inl (ap f i)
member-mapped f (y ∷ ys) x (inr m) = inr (member-mapped f ys x m)

module _ (file : OfficeFile) (owners : List OwnerStart) (span : Span) where
  -- each begins where those before it end, or behind
  begin-later : (at : ℕ) (ps : List Piece) → ListsPieces file owners span at ps → (p : Piece) → Member p ps → at ≤ p.begin
  begin-later at [] h p i = absurd i
  begin-later at (q ∷ ps) h p (inl e) =
      let b : p.begin ≡ q.begin = ap (λ (n : Piece). n.begin) e in
      let c = h.0 in
      omega (arith, b, c)
  begin-later at (q ∷ ps) h p (inr i) =
      let k = begin-later q.until ps h.2 p i in
      let b = h.1.begun in
      let c = h.0 in
      omega (arith, k, b, c)

  given-apart : (a : AccountId) (m : MeterId) (r : Register) (at : ℕ) (ps : List Piece) → ListsPieces file owners span at ps → AreApart (map (why_of a m r span) (filter gives_something ps))
  given-apart a m r at [] h = tt
  given-apart a m r at (q ∷ ps) h = elim (cases_Bool (gives_something q)) [
    | inr n ↦ rw n (given-apart a m r q.until ps h.2)
    | inl y ↦ rw y (
      λ w l.
          let k = mapped-member (why_of a m r span) (filter gives_something ps) w l in
          let b = begin-later q.until ps h.2 k.0 (filtered-member gives_something ps k.0 k.1).0 in
          let P : WhyPiece → Type 0 = λ v. IsUpTo m.0 (register_place r) q.until v.meter.0 (register_place v.register) v.piece.begin in
          subst P (sym k.2) (inr (refl, inr (refl, b))),
      given-apart a m r q.until ps h.2,
    )
  ]

gives-own : (p : Piece) → gives_something p ≡ true → (p.owner ≡ Some (account 0)) × (0 < p.wh)
gives-own p h =
    let k = and_parts (same_owner p.owner (Some (account 0))) (nat_lt 0 p.wh) h in
    (account-is p.owner (account 0) k.0, ltb-true 0 p.wh k.1)

own-gives : (p : Piece) → p.owner ≡ Some (account 0) → 0 < p.wh → gives_something p ≡ true
own-gives p o w =
    let s : same_owner p.owner (Some (account 0)) ≡ true = ap (λ (q : Option AccountId). same_owner q (Some (account 0))) o in
    rw (s, lt-ltb 0 p.wh w) refl

-- the stretch's number is the account's name in it
names-in : (at : Key → Contents) (m : ℕ) (a : AccountId) (x y : ℕ) (owners : List OwnerStart) (end : ℕ) → end ≤ END_SECOND → NamesStretches at m a (x ∷ []) y owners → NamesIn at m a.0 x y (account 0) owners end
names-in at m a x y owners end l h = λ t k.
    let told : same_owner (owner_by_starts owners t) (Some (account 0)) ≡ (lies_in x y t && same_owner (owner_at at m t) (Some a)) = h 0 (omega arith) t (omega (arith, k, l)) in (
      λ e.
          let one : same_owner (owner_by_starts owners t) (Some (account 0)) ≡ true = ap (λ (o : Option AccountId). same_owner o (Some (account 0))) e in
          let both = and_parts (lies_in x y t) (same_owner (owner_at at m t) (Some a)) (sym told ∙ one) in
          let here = and_parts (nat_le x t) (nat_lt t y) both.0 in
          (leb-true x t here.0, ltb-true t y here.1, account-is (owner_at at m t) a both.1),
      λ p.
          let within : lies_in x y t ≡ true = λ i. le-leb x t p.0 i && lt-ltb t y p.1 i in
          let own : same_owner (owner_at at m t) (Some a) ≡ true = ap (λ (o : Option AccountId). same_owner o (Some a)) p.2 ∙ eq-eqb a.0 a.0 refl in
          account-is (owner_by_starts owners t) (account 0) (told ∙ (λ i. within i && own i)),
    )

-- ---- a register
module _ (file : OfficeFile) (at : Key → Contents) (a : AccountId) (x y : ℕ) (m : MeterId) (r : Register) (owners : List OwnerStart)
    (here : m.0 < (office_of file).meters) (counts : counts_at file m.0 r ≡ true) (ended : EndsBefore END_SECOND (point at m.0 r)) (names : NamesStretches at m.0 a (x ∷ []) y owners) where
  abbrev UpTo : ℕ → ℕ → List WhyPiece → Type 0
  UpTo i t ws = AreRowsUpTo (office_of file) at a x y m.0 i t ws

  -- second s lies between neighbours
  spanned : (p q : ℕ × ℕ) (s : ℕ) → AreNeighbours (point at m.0 r) p.0 p.1 q.0 q.1 → p.0 ≤ s → s < q.0 → IsSpanned (point at m.0 r) END_SECOND s p.0 p.1 q.0 q.1
  spanned p q s n b c = let e = ended q.0 q.1 n.second in record { neighbours = n; seen = omega (arith, e); begun = b; under_way = c }

  -- a pair that doesn't fall
  rise-told : (p q : ℕ × ℕ) (given ws : List WhyPiece) → AreNeighbours (point at m.0 r) p.0 p.1 q.0 q.1 → p.1 ≤ q.1 → GivenBy file owners a m r (span_of p q) given →
      UpTo (register_place r) p.0 ws → UpTo (register_place r) q.0 (ws ++ given)
  rise-told p q given ws n l g h =
      let span : Span = span_of p q in
      let e = ended q.0 q.1 n.second in
      let ps : List Piece = g.0 in
      let pair : IsCountingPair (office_of file) at m.0 r span = record { meter = here; counts = counts; neighbours = n; rising = l; seen = omega (arith, e) } in
      let named : NamesIn at m.0 a.0 x y (account 0) owners span.to = names-in at m.0 a x y owners span.to (omega (arith, e)) names in
      let f = n.earlier in
      let first : IsUpTo m.0 (register_place r) p.0 m.0 (register_place r) q.0 = inr (refl, inr (refl, omega (arith, f))) in
      let S : List WhyPiece → Type 0 = λ ws. UpTo (register_place r) q.0 ws in
      let M : List WhyPiece → Type 0 = λ vs. UpTo (register_place r) q.0 (ws ++ vs) in
      let made : List WhyPiece = map (why_of a m r span) (filter gives_something ps) in
      let each : (w : WhyPiece) → Member w made → IsRowUpTo (office_of file) at a x y m.0 (register_place r) q.0 w × IsUpTo m.0 (register_place r) p.0 w.meter.0 (register_place w.register) w.piece.begin
      = λ w i. (
      let k = mapped-member (why_of a m r span) (filter gives_something ps) w i in
      let b = filtered-member gives_something ps k.0 k.1 in
      let o = gives-own k.0 b.1 in
      let row = rows-from file at m.0 r a.0 x y (account 0) owners span pair named span.from ps g.1 (inl refl) (omega arith) k.0 b.0 o.0 o.1 in
      let P : WhyPiece → Type 0 = λ v. IsRowUpTo (office_of file) at a x y m.0 (register_place r) q.0 v × IsUpTo m.0 (register_place r) p.0 v.meter.0 (register_place v.register) v.piece.begin in
      subst P (sym k.2) (record { row = row; own = refl; ended = inr (refl, inr (refl, row.piece.2)) }, inr (refl, inr (refl, row.piece.0)))) in
      let told : (s : ℕ) → p.0 ≤ s → s < q.0 → IsAsked (office_of file) at a x y m.0 r s → IsTold (office_of file) at made m.0 r s
      = λ s b c k. elim (all-found file at m.0 r a.0 x y (account 0) owners span pair named ps g.1 s b c k.begun k.within k.own) [
        | inl z ↦ inl (flow-spanned (point at m.0 r) END_SECOND s p.0 p.1 q.0 q.1 (spanned p q s n b c) ∙ z)
        | inr w ↦ inr (why_of a m r span w.0, member-mapped (why_of a m r span) (filter gives_something ps) w.0 (member-filtered gives_something ps w.0 w.1 (own-gives w.0 w.2 w.3)), w.4)
      ] in
      subst M (sym g.2) (some-more (office_of file) at a x y m.0 (register_place r) p.0 m.0 (register_place r) q.0 ws made first (given-apart file owners span a m r span.from ps g.1) each
      (λ k o s b. elim (split-second k (register_place o) s m.0 (register_place r) p.0 q.0 b) [
        | inl c ↦ inl c
        | inr c ↦ inr (λ v. told-same (office_of file) at a x y made k m.0 o r s c.0 c.1 (told s c.2 c.3 (asked-same (office_of file) at a x y k m.0 o r s c.0 c.1 v)))
      ]) h)

  -- a pair that falls
  fall-told : (p q : ℕ × ℕ) (ws : List WhyPiece) → AreNeighbours (point at m.0 r) p.0 p.1 q.0 q.1 → q.1 < p.1 → UpTo (register_place r) p.0 ws → UpTo (register_place r) q.0 ws
  fall-told p q ws n l h =
      let f = n.earlier in
      none-more (office_of file) at a x y m.0 (register_place r) p.0 m.0 (register_place r) q.0 ws (inr (refl, inr (refl, omega (arith, f))))
      (λ k o s b. elim (split-second k (register_place o) s m.0 (register_place r) p.0 q.0 b) [
        | inl c ↦ inl c
        | inr c ↦ inr (λ v. flow-same (office_of file) at a x y k m.0 o r s c.0 c.1 ((flow-rises (point at m.0 r) END_SECOND s).falling p.0 p.1 q.0 q.1 (spanned p q s n c.2 c.3) l))
      ]) h

  pair-told : (p q : ℕ × ℕ) (given ws : List WhyPiece) → AreNeighbours (point at m.0 r) p.0 p.1 q.0 q.1 → GivenBetween file owners a m r p q given →
      UpTo (register_place r) p.0 ws → UpTo (register_place r) q.0 (ws ++ given)
  pair-told p q given ws n (inl g) h = rise-told p q given ws n g.0 g.1 h
  pair-told p q given ws n (inr g) h =
      let P : List WhyPiece → Type 0 = λ vs. UpTo (register_place r) q.0 vs in
      let Q : List WhyPiece → Type 0 = λ vs. UpTo (register_place r) q.0 (ws ++ vs) in
      subst Q (sym g.1) (subst P (sym (append-nil ws)) (fall-told p q ws n g.0 h))

  -- pairs one behind another
  chain-told : (p : ℕ × ℕ) (ps : List (ℕ × ℕ)) (given ws : List WhyPiece) → Chain (point at m.0 r) p ps → GivenByPoints file owners a m r (p ∷ ps) given →
      UpTo (register_place r) p.0 ws → UpTo (register_place r) (last_of p ps).0 (ws ++ given)
  chain-told p [] given ws c g h =
      let P : List WhyPiece → Type 0 = λ vs. UpTo (register_place r) p.0 vs in
      let Q : List WhyPiece → Type 0 = λ vs. UpTo (register_place r) p.0 (ws ++ vs) in
      subst Q (sym g) (subst P (sym (append-nil ws)) h)
  chain-told p (q ∷ ps) given ws c g h =
      let one : List WhyPiece = g.0 in
      let others : List WhyPiece = g.1 in
      let P : List WhyPiece → Type 0 = λ vs. UpTo (register_place r) (last_of q ps).0 vs in
      let Q : List WhyPiece → Type 0 = λ vs. UpTo (register_place r) (last_of q ps).0 (ws ++ vs) in
      let first = pair-told p q one ws c.0 g.2 h in
      let rest = chain-told q ps others (ws ++ one) c.1 g.3 first in
      subst Q (sym g.4) (subst P (append_assoc ws one others) rest)

  -- no point at all, or before a second, or behind one
  nothing-flows : (s : ℕ) → ((p w q v : ℕ) → p ≤ s → s < q → point at m.0 r p ≡ Some w → point at m.0 r q ≡ Some v → ⊥) → flow (point at m.0 r) END_SECOND s ≡ 0
  nothing-flows s h = (flow-rises (point at m.0 r) END_SECOND s).unspanned (λ p w q v k. h p w q v k.begun k.under_way k.neighbours.first k.neighbours.second)

  -- all points of the interval
  pub register-told : (points : List (ℕ × ℕ)) (given ws : List WhyPiece) → Covers (point at m.0 r) x y points → GivenByPoints file owners a m r points given →
      UpTo (register_place r) 0 ws → UpTo (register_place r + 1) 0 (ws ++ given)
  register-told [] given ws c g h =
      let P : List WhyPiece → Type 0 = λ vs. UpTo (register_place r + 1) 0 vs in
      let Q : List WhyPiece → Type 0 = λ vs. UpTo (register_place r + 1) 0 (ws ++ vs) in
      let all : UpTo (register_place r + 1) 0 ws
      = none-more (office_of file) at a x y m.0 (register_place r) 0 m.0 (register_place r + 1) 0 ws (inr (refl, inl (omega arith)))
      (λ k o s b. elim (split-register k (register_place o) s m.0 (register_place r) 0 b) [
        | inl d ↦ inl d
        | inr d ↦ inr (λ v. flow-same (office_of file) at a x y k m.0 o r s d.0 d.1 (nothing-flows s (λ p w q u e f i j. none-some w (sym (c p) ∙ i))))
      ]) h in
      subst Q (sym g) (subst P (sym (append-nil ws)) all)
  register-told (p ∷ ps) given ws c g h =
      let z : ℕ = (last_of p ps).0 in
      let begun : UpTo (register_place r) p.0 ws
      = none-more (office_of file) at a x y m.0 (register_place r) 0 m.0 (register_place r) p.0 ws (inr (refl, inr (refl, omega arith)))
      (λ k o s b. elim (split-second k (register_place o) s m.0 (register_place r) 0 p.0 b) [
        | inl d ↦ inl d
        | inr d ↦ inr (λ v. elim c.begins [
          | inl e ↦ (let f = v.begun in let i = d.3 in absurd (omega (arith, e, f, i)))
          | inr n ↦ flow-same (office_of file) at a x y k m.0 o r s d.0 d.1 (nothing-flows s (λ t w q u e f i j. none-some w (sym (n t (let l = d.3 in omega (arith, e, l))) ∙ i)))
        ])
      ]) h in
      let all = chain-told p ps given ws c.chain g begun in
      none-more (office_of file) at a x y m.0 (register_place r) z m.0 (register_place r + 1) 0 (ws ++ given) (inr (refl, inl (omega arith)))
      (λ k o s b. elim (split-register k (register_place o) s m.0 (register_place r) z b) [
        | inl d ↦ inl d
        | inr d ↦ inr (λ v. elim c.ends [
          | inl e ↦ (let f = v.within in let i = d.2 in absurd (omega (arith, e, f, i)))
          | inr n ↦ flow-same (office_of file) at a x y k m.0 o r s d.0 d.1 (nothing-flows s (λ t w q u e f i j. none-some u (sym (n q (let l = d.2 in omega (arith, f, l))) ∙ j)))
        ])
      ]) all
