-- The rows of a pass over registers and meters.
use Rattle.std.proofs.Common.{◌≡◌, ℕ, ◌+◌, ◌<◌, true, false, Option, Some, List, [], ◌∷◌, length, refl, ap, sym, subst, ◌∙◌, inl, inr, arith}
use Rattle.std.proofs.lemmas.Bool.{true≢false}
use Rattle.pw_obis.specs.declared.reference.Register.{Register}
use Rattle.pw_tariff.specs.declared.ids.AccountId.{AccountId}
use Rattle.pw_tariff.specs.declared.ids.MeterId.{MeterId}
use Rattle.pw_tariff.specs.Office.{OfficeFile, OfficeRules, counts_at, office_of, register_place}
use Rattle.pw_model.specs.declared.records.Entry.{Entry}
use Rattle.pw_model.specs.declared.records.Key.{Key}
use Rattle.pw_model.specs.declared.records.Contents.{Contents}
use Rattle.pw_model.specs.Counting.{contents_at, point}
use Rattle.pw_model.specs.Energy.{owner_at}
use Rattle.pw_model.specs.Lists.{IsInOrder}
use Rattle.pw_model.specs.Seconds.{by_second}
use Rattle.pw_model.specs.Shelf.{ShelfContent}
use Rattle.pw_parts.proofs.Sharing.{points-end}
use Rattle.pw_book.specs.Posting.{IsSoundContent}
use Rattle.pw_book.proofs.Segments.{place-few}
use Rattle.pw_months.specs.Why.{IsWhyRow, WhyRow}
use Rattle.pw_bills.specs.declared.reasons.Reasons.{Reasons}
use Rattle.pw_bills.specs.declared.reasons.WhyPiece.{WhyPiece}
use Rattle.pw_bills.specs.ReadUpTo.{IsAccountsIn}
use Rattle.pw_bills.specs.Stretches.{first_of}
use Rattle.pw_bills.specs.Why.{TellsWhy, row_told}
use Rattle.pw_bills.specs.inner.Flows.{Covers}
use Rattle.pw_bills.specs.inner.Gathering.{Pass, IsGathered, first_second}
use Rattle.pw_bills.specs.inner.Naming.{NamesStretches, OwnerStart}
use Rattle.pw_bills.specs.inner.Rows.{Adds, AddsRows, AreRowsUpTo, GivenByPoints, IsAsked}
use Rattle.pw_bills.proofs.Apart.{all-registers, apart-in_order, apart-once, split-meter, split-register}
use Rattle.pw_bills.proofs.Covered.{covered-order}
use Rattle.pw_bills.proofs.PairRows.{asked-same, mapped-member, member-mapped, none-more, register-told}
use Rattle.pw_bills.proofs.StepByStep.{gathered-keep}

-- ---- a register
module _ (file : OfficeFile) (a : AccountId) (x y : ℕ) (m : MeterId) (r : Register) (owners : List OwnerStart) (old new : List WhyPiece) where
  -- its points' pairs
  pub register-added : (c : ShelfContent) (points lent : List (ℕ × ℕ)) → m.0 < length file.meters → counts_at file m.0 r ≡ true → IsSoundContent (office_of file) c →
      NamesStretches (contents_at c.records) m.0 a (x ∷ []) y owners → Covers (c.point m.0 r) x y points → lent ≡ points →
      (IsInOrder by_second lent → Adds (GivenByPoints file owners a m r lent) old new) →
      AreRowsUpTo (office_of file) (contents_at c.records) a x y m.0 (register_place r) 0 old → AreRowsUpTo (office_of file) (contents_at c.records) a x y m.0 (register_place r + 1) 0 new
  register-added c points lent here counts s o h v f rows =
      let at : Key → Contents = contents_at c.records in
      let told : ℕ → Option ℕ = point at m.0 r in
      let e : c.point m.0 r ≡ told = ap (λ (p : ℕ → Register → ℕ → Option ℕ). p m.0 r) s.truth.points in
      let C : (ℕ → Option ℕ) → Type 0 = λ t. Covers t x y points in
      let O : List (ℕ × ℕ) → Type 0 = λ ps. IsInOrder by_second ps in
      let all : Covers told x y points = subst C e h in
      let added = f (subst O (sym v) (covered-order told x y points all)) in
      let G : List (ℕ × ℕ) → Type 0 = λ ps. GivenByPoints file owners a m r ps added.0 in
      let R : List WhyPiece → Type 0 = λ ws. AreRowsUpTo (office_of file) at a x y m.0 (register_place r + 1) 0 ws in
      let more = register-told file at a x y m r owners here counts (points-end (office_of file) c.records m.0 r s.of_office) o points added.0 old all (subst G v added.1) rows in
      subst R (sym added.2) more

-- ---- as far as a pass has come
module _ (file : OfficeFile) (at : Key → Contents) (a : AccountId) (x y : ℕ) where
  abbrev UpTo : ℕ → ℕ → List WhyPiece → Type 0
  UpTo m i ws = AreRowsUpTo (office_of file) at a x y m i 0 ws

  -- no rows of a register that doesn't count
  register-left : (m : ℕ) (r : Register) (ws : List WhyPiece) → counts_at file m r ≡ false → UpTo m (register_place r) ws → UpTo m (register_place r + 1) ws
  register-left m r ws n =
      none-more (office_of file) at a x y m (register_place r) 0 m (register_place r + 1) 0 ws (inr (refl, inl (omega arith)))
      (λ k o s b. elim (split-register k (register_place o) s m (register_place r) 0 b) [
        | inl d ↦ inl d
        | inr d ↦ inr (λ v. (
            let q : IsAsked (office_of file) at a x y m r s = asked-same (office_of file) at a x y k m o r s d.0 d.1 v in
            absurd (true≢false (sym q.counts ∙ n))))
      ])

  -- all of a meter
  registers-told : (m : ℕ) (ws : List WhyPiece) → UpTo m 6 ws → UpTo (m + 1) 0 ws
  registers-told m ws = none-more (office_of file) at a x y m 6 0 (m + 1) 0 0 ws (inl (omega arith)) (λ n r s b. inl (all-registers n (register_place r) s m (place-few r) b))

  -- no rows of a meter that is never the account's
  meter-left : (m : ℕ) (ws : List WhyPiece) → ¬ (IsAccountsIn at a x y m) → UpTo m 0 ws → UpTo (m + 1) 0 ws
  meter-left m ws n =
      none-more (office_of file) at a x y m 0 0 (m + 1) 0 0 ws (inl (omega arith)) (λ k r t b. elim (split-meter k (register_place r) t m b) [
        | inl o ↦ inl o
        | inr e ↦ inr (λ w. (
            let P : ℕ → Type 0 = λ z. owner_at at z t ≡ Some a in
            absurd (n (t, (w.begun, w.within), subst P e w.own))))
      ])

-- ---- all meters
none-yet : (office : OfficeRules) (at : Key → Contents) (a : AccountId) (x y : ℕ) → AreRowsUpTo office at a x y 0 0 0 []
none-yet office at a x y = record {
  each = λ w m. absurd m;
  apart = tt;
  all = λ n r s h q. elim h [
    | inl l ↦ absurd (omega (arith, l))
    | inr g ↦ elim g.1 [ inl l ↦ absurd (omega (arith, l)) | inr k ↦ (let e = k.1 in absurd (omega (arith, e))) ]
  ];
}

all-told : (office : OfficeRules) (s : List Entry) (a : AccountId) (x y m : ℕ) (ws : List WhyPiece) → m ≡ office.meters → AreRowsUpTo office (contents_at s) a x y m 0 0 ws → TellsWhy office s a x y ws
all-told office s a x y m ws e h = record {
  rows = record {
    in_order = apart-in_order office ws (λ w i. (h.each w i).row.piece.1) h.apart;
    each = λ row i.
        let k = mapped-member (row_told office) ws row i in
        let P : WhyRow → Type 0 = λ v. IsWhyRow office (contents_at s) a.0 x y v in
        subst P (sym k.2) (h.each k.0 k.1).row;
    once = λ n r t. apart-once office n r t ws h.apart;
    all = λ n r t l c b u o. elim (h.all n r t (inl (omega (arith, e, l))) (record { meter = l; counts = c; begun = b; within = u; own = o })) [
      | inl z ↦ inl z
      | inr k ↦ inr (row_told office k.0, member-mapped (row_told office) ws k.0 k.1, k.2)
    ];
  };
  own = λ w i. (h.each w i).own;
}

-- all that is gathered of an office, in one stretch
pub rows-told : (q : Pass) (x : ℕ) (old new : Reasons) → q.begins ≡ x ∷ [] → old.rows.items ≡ [] → IsGathered AddsRows q old new → TellsWhy (office_of q.file) q.content.records q.account (first_second q) q.end new.rows.items
rows-told q x old new one e h =
    let at : Key → Contents = contents_at q.content.records in
    let y : ℕ = first_second q in
    let same : q.begins ≡ y ∷ [] = one ∙ ap (λ (begins : List ℕ). first_of begins q.end ∷ []) (sym one) in
    let Z : List WhyPiece → Type 0 = λ ws. AreRowsUpTo (office_of q.file) at q.account y q.end 0 0 0 ws in
    let all : AreRowsUpTo (office_of q.file) at q.account y q.end (length q.file.meters) 0 0 new.rows.items
    = gathered-keep AddsRows q (λ m i g. AreRowsUpTo (office_of q.file) at q.account y q.end m i 0 g.rows.items)
    (λ m r mid next l o n f b. f y same b) (λ m r mid n b. register-left q.file at q.account y q.end m r mid.rows.items n b) (λ m mid b. registers-told q.file at q.account y q.end m mid.rows.items b)
    (λ m mid n b. meter-left q.file at q.account y q.end m mid.rows.items n b) old new (subst Z (sym e) (none-yet (office_of q.file) at q.account y q.end)) h in
    all-told (office_of q.file) q.content.records q.account y q.end (length q.file.meters) new.rows.items refl all
