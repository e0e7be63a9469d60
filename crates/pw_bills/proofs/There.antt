-- What is given and read in a content that is the same.
use Rattle.std.proofs.Common.{IsNone, ◌≡◌, ℕ, ◌+◌, ◌≤◌, true, false, Option, List, ap, sym, subst, ◌∙◌, arith}
use Rattle.std.specs.List.{list_any}
use Rattle.pw_obis.specs.declared.reference.Register.{Register}
use Rattle.pw_time.specs.declared.instant.TheConstants.{END_SECOND}
use Rattle.pw_flow.specs.Time.{last}
use Rattle.pw_tariff.specs.declared.ids.AccountId.{AccountId}
use Rattle.pw_tariff.specs.declared.ids.Direction.{Direction}
use Rattle.pw_tariff.specs.Office.{OfficeFile, OfficeRules, counts_at, office_of}
use Rattle.pw_tariff.specs.Owners.{StartsIncrease, owner_from}
use Rattle.pw_model.specs.declared.records.TotalKey.{TotalKey}
use Rattle.pw_model.specs.Counting.{contents_at, point, start}
use Rattle.pw_model.specs.Energy.{owner_at}
use Rattle.pw_model.specs.Lists.{IsInOrder}
use Rattle.pw_model.specs.Same.{direction_of}
use Rattle.pw_model.specs.Seconds.{ListsSeconds, by_second}
use Rattle.pw_model.specs.Shelf.{ShelfContent}
use Rattle.pw_parts.specs.Changes.{pairs_for}
use Rattle.pw_parts.proofs.Sharing.{points-end}
use Rattle.pw_shelf.specs.declared.shelf.Shelf.{Ghosts}
use Rattle.pw_book.specs.Asking.{IsOnlyAsked}
use Rattle.pw_book.specs.Posting.{IsSoundContent}
use Rattle.pw_book.specs.inner.Settling.{EndsBefore}
use Rattle.pw_bills.specs.ReadUpTo.{IsAccountsIn}
use Rattle.pw_bills.specs.Reads.{IsOwned}
use Rattle.pw_bills.specs.Stretches.{AreStretches, first_of}
use Rattle.pw_bills.specs.inner.Flows.{Covers, IsOfStretch, register_between}
use Rattle.pw_bills.specs.inner.Gathering.{CanAsk, IsEnoughToGather, IsSoundPass, Pass, RegisterAdds, counted_reads, pass_of}
use Rattle.pw_bills.specs.inner.Naming.{NamesStretches, OwnerStart, named_from, names_somebody}
use Rattle.pw_bills.proofs.Covered.{covered-order}
use Rattle.pw_bills.proofs.Given.{register-given}
use Rattle.pw_bills.proofs.Named.{rises}
use Rattle.pw_bills.proofs.NamedStarts.{named-increase, names-stretches, nobody-owns, owned-there}

-- ---- a register
module _ (file : OfficeFile) (m : ℕ) (r : Register) (a : AccountId) (begins : List ℕ) (end : ℕ) (named : List OwnerStart) (old new : TotalKey → ℕ) where
  -- its points' pairs, shared out
  pub register-shared : (c : ShelfContent) (way : Direction) (points lent : List (ℕ × ℕ)) → counts_at file m r ≡ true → way ≡ direction_of r → AreStretches begins end → IsSoundContent (office_of file) c →
      NamesStretches (contents_at c.records) m a begins end named → Covers (c.point m r) (first_of begins end) end points → lent ≡ points →
      (IsInOrder by_second lent → (k : TotalKey) → new k ≡ old k + pairs_for file named way lent k) → (k : TotalKey) → IsOfStretch begins k →
      new k ≡ old k + register_between (office_of file) (contents_at c.records) a begins end m k r
  register-shared c way points lent y d w s n h v f k o =
      let told : ℕ → Option ℕ = point (contents_at c.records) m r in
      let e : c.point m r ≡ told = ap (λ (p : ℕ → Register → ℕ → Option ℕ). p m r) s.truth.points in
      let C : (ℕ → Option ℕ) → Type 0 = λ t. Covers t (first_of begins end) end points in
      let O : List (ℕ × ℕ) → Type 0 = λ ps. IsInOrder by_second ps in
      let all : Covers told (first_of begins end) end points = subst C e h in
      let ended : EndsBefore END_SECOND told = points-end (office_of file) c.records m r s.of_office in
      let shared = f (subst O (sym v) (covered-order told (first_of begins end) end points all)) k in
      let same : pairs_for file named way lent k ≡ pairs_for file named way points k = ap (λ (ps : List (ℕ × ℕ)). pairs_for file named way ps k) v in
      let x = register-given file (contents_at c.records) m r a begins end named points way y d ended (rises begins end w.rising) all n k o in
      omega (arith, shared, same, x)

-- ---- the owners of a meter, under the numbers of stretches
module _ (office : OfficeRules) (c : ShelfContent) (m : ℕ) (a : AccountId) (begins : List ℕ) (end : ℕ) (starts lent named : List OwnerStart) (w : AreStretches begins end) (s : IsSoundContent office c)
    (l : ListsSeconds (c.start m) starts) (v : lent ≡ starts) (q : named ≡ named_from lent a 0 begins end) where
  start-told : c.start m ≡ start (contents_at c.records) m
  start-told = ap (λ (f : ℕ → ℕ → Option (Option AccountId)). f m) s.truth.starts

  list-told : ListsSeconds (start (contents_at c.records) m) starts
  list-told = let L : (ℕ → Option (Option AccountId)) → Type 0 = λ f. ListsSeconds f starts in subst L start-told l

  named-is : named ≡ named_from starts a 0 begins end
  named-is = q ∙ ap (λ (xs : List OwnerStart). named_from xs a 0 begins end) v

  pub names-held : NamesStretches (contents_at c.records) m a begins end named
  names-held = names-stretches (contents_at c.records) m a begins end starts named named-is list-told (rises begins end w.rising)

  pub increase-held : StartsIncrease named
  increase-held = let I : List OwnerStart → Type 0 = λ xs. StartsIncrease xs in subst I (sym named-is) (named-increase starts a begins end l.rising (rises begins end w.rising))

  somebody-told : list_any names_somebody named ≡ true → list_any names_somebody (named_from starts a 0 begins end) ≡ true
  somebody-told h = ap (λ (xs : List OwnerStart). list_any names_somebody xs) (sym named-is) ∙ h

  pub accounts-held : list_any names_somebody named ≡ true → IsAccountsIn (contents_at c.records) a (first_of begins end) end m
  accounts-held h = owned-there (contents_at c.records) m starts a begins end list-told (rises begins end w.rising) (somebody-told h)

  pub owned-held : list_any names_somebody named ≡ true → IsOwned c a.0 (first_of begins end) end m
  unfolding owner_at
  owned-held h = let r = accounts-held h in (r.0, r.1, ap (λ (f : ℕ → Option (Option AccountId)). owner_from (last f r.0)) start-told ∙ r.2)

  pub never-held : list_any names_somebody named ≡ false → ¬ (IsAccountsIn (contents_at c.records) a (first_of begins end) end m)
  never-held h = nobody-owns (contents_at c.records) m a begins end named w.ended names-held h

-- ---- what is asked of a content is asked of the same
module _ (q : Pass) (d : ShelfContent) (same : d ≡ q.content) where
  pub asked-there : (P : Pass → Type 0) → P (pass_of q.file d q.account q.begins q.end) → P q
  asked-there P h = let Q : ShelfContent → Type 0 = λ z. P (pass_of q.file z q.account q.begins q.end) in subst Q same h

-- ---- what can be asked
pub asked-able : {S : Type 0} (shelf : Ghosts S) (file : OfficeFile) (begins : List ℕ) (end m : ℕ) (a b : S) → IsOnlyAsked shelf 0 a b → CanAsk shelf file begins end m a → CanAsk shelf file begins end m b
asked-able shelf file begins end m a b h c =
    let P : Option ShelfContent → Type 0 = λ o. IsNone o in
    record { idle = subst P (sym h.kept.upload) c.idle; stretches = c.stretches; meter = c.meter }

pub register-read_there : (reads : Pass → ℕ → Register → ℕ → Type 0) (q : Pass) (d : ShelfContent) (m : ℕ) (r : Register) (each : Register → ℕ) (was now : ℕ) → d ≡ q.content →
    ((most : Register → ℕ) → reads (pass_of q.file d q.account q.begins q.end) m r (most r) → now ≤ was + counted_reads q.file m most r) → reads q m r (each r) → now ≤ was + counted_reads q.file m each r
register-read_there reads q d m r each was now e f =
    let P : Pass → Type 0 = λ z. reads z m r (each r) → now ≤ was + counted_reads q.file m each r in
    asked-there q d e P (f each)

pub register-adds_there : {T : Type 0} (adds : Pass → ℕ → Register → T → T → Type 0) (q : Pass) (d : ShelfContent) (m : ℕ) (owners : List OwnerStart) (i place : ℕ) (old new : T) → d ≡ q.content → place ≡ i →
    RegisterAdds adds (pass_of q.file d q.account q.begins q.end) m owners place old new → RegisterAdds adds q m owners i old new
register-adds_there adds q d m owners i place old new e p f =
    let P : Pass → Type 0 = λ z. RegisterAdds adds z m owners place old new in
    let R : ℕ → Type 0 = λ k. RegisterAdds adds q m owners k old new in
    subst R p (asked-there q d e P f)

pub meter-read_there : (reads : Pass → ℕ → Register → ℕ → Type 0) (q : Pass) (d : ShelfContent) (m most was now : ℕ) → d ≡ q.content →
    (IsSoundPass (pass_of q.file d q.account q.begins q.end) → (few : ℕ) → IsEnoughToGather reads (pass_of q.file d q.account q.begins q.end) m few → now ≤ was + few) → IsSoundPass q → IsEnoughToGather reads q m most → now ≤ was + most
meter-read_there reads q d m most was now e f s h =
    let P : Pass → Type 0 = λ z. IsSoundPass z → (few : ℕ) → IsEnoughToGather reads z m few → now ≤ was + few in
    asked-there q d e P f s most h
