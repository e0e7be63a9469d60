-- Records that weren't sent.
use Rattle.std.proofs.Common.{◌≡◌, ℕ, ◌+◌, ◌*◌, ◌<◌, Bool, true, cond, not, List, [], ◌∷◌, ◌++◌, Err, Equal, filter, length, take, get_or, refl, ap, sym, subst, ◌∙◌, inl, inr, arith}
use Rattle.std.proofs.lemmas.Bool.{cases_Bool, cases_lt, true≢false}
use Rattle.std.proofs.lemmas.Cmp.{tied_itself}
use Rattle.std.proofs.lemmas.List.{append_assoc}
use Rattle.std.proofs.lemmas.List.Sorted.{searchable_from_sorted}
use Rattle.std.specs.List.Sorted.{IsBinarySearchResult, IsSorted}
use Rattle.pw_tariff.specs.Office.{OfficeRules}
use Rattle.pw_model.specs.declared.records.Entry.{Entry}
use Rattle.pw_model.specs.Counting.{Member}
use Rattle.pw_model.specs.Kinds.{ListsHeld}
use Rattle.pw_model.specs.Lists.{IsBeforeAll, IsInOrder, Lists}
use Rattle.pw_model.specs.Office.{AllOfOffice}
use Rattle.pw_model.specs.Same.{entry_order, same_entry}
use Rattle.pw_model.specs.Payments.{stands_in}
use Rattle.pw_model.specs.Shelf.{ShelfContent}
use Rattle.pw_model.proofs.EntryOrder.{before-all}
use Rattle.pw_model.proofs.Filtered.{filtered-member}
use Rattle.pw_model.proofs.InOrder.{before-member}
use Rattle.pw_model.proofs.Once.{stands-decides}
use Rattle.pw_model.proofs.Places.{at-member, member-at}
use Rattle.pw_model.proofs.Same.{same_entry-decides}
use Rattle.pw_shelf.specs.Orders.{record_order}
use Rattle.pw_shelf.proofs.InOrder.{order_exact, order_total}
use Rattle.pw_book.specs.Posting.{fresh_of}
use Rattle.pw_book.specs.inner.Places.{key_place}
use Rattle.pw_book.proofs.Contested.{key-before, key-within}
use Rattle.pw_book.proofs.NotHeld.{fresh-more}
use Rattle.pw_book.proofs.Segments.{segment-all, segment-more, segment-none}
use Rattle.pw_carrying.specs.Unsent.{AreUnsent}
use Rattle.pw_carrying.specs.declared.lists.HeldList.{HeldList}
use Rattle.pw_carrying.specs.inner.Stages.{IsListOf, IsOfList, list_place}
use Rattle.pw_carrying.specs.inner.Unsent.{AddsUnsent, UnsentBefore}
use Rattle.pw_carrying.proofs.Listing.{entry-before, list-place, placed}
use Rattle.pw_carrying.proofs.Missing.{are-lacking}

-- ---- what a search tells
pub found-member : (sent : List Entry) (e : Entry) (i : ℕ) → i < length sent → record_order (get_or sent i e) e ≡ Equal → Member e sent
found-member sent e i l h = at-member sent i e (l, order_exact (get_or sent i e) e h)

pub not-found : (sent : List Entry) (e : Entry) (i : ℕ) → IsSorted record_order sent → IsBinarySearchResult (λ y. record_order y e) sent (Err i) → Member e sent → ⊥
not-found sent e i s r m =
    let parted = r (searchable_from_sorted order_total (λ (x : Entry). x) sent e s) in
    let at = member-at sent e m in
    let P : Entry → Type 0 = λ x. record_order x e ≡ Equal in
    let same : record_order (get_or sent at.0 e) e ≡ Equal = subst P (sym at.1.1) (tied_itself order_total e) in
    elim (cases_lt at.0 i) [
      | inl l ↦ (let h = parted.0 at.0 e (omega arith) l in cc)
      | inr l ↦ (let h = parted.1 at.0 e l at.1.0 in cc)
    ]

pub sent-told : (sent : List Entry) (e : Entry) (b : Bool) → (b ≡ true → Member e sent) × (Member e sent → b ≡ true) → b ≡ stands_in same_entry e sent
sent-told sent e b h =
    let d = stands-decides same_entry same_entry-decides (λ x. 0) e sent in
    elim (cases_Bool b) [
      | inl t ↦ t ∙ sym (d.1 (h.0 t))
      | inr f ↦ elim (cases_Bool (stands_in same_entry e sent)) [
        | inl t ↦ absurd (true≢false (sym (h.1 (d.0 t)) ∙ f))
        | inr n ↦ f ∙ sym n
      ]
    ]

-- ---- what is left of a list
-- one record more is looked at
pub lacking-next : (sent xs : List Entry) (i : ℕ) (e : Entry) (old was now : List Entry) (b : Bool) → i < length xs → e ≡ get_or xs i e → b ≡ stands_in same_entry e sent → was ≡ old ++ fresh_of sent (take i xs) → now ≡ was ++ cond b [] (e ∷ []) →
    now ≡ old ++ fresh_of sent (take (i + 1) xs)
lacking-next sent xs i e old was now b l g s w n =
    let before = fresh_of sent (take i xs) in
    n ∙ ap (λ (ys : List Entry). ys ++ cond b [] (e ∷ [])) w
    ∙ append_assoc old before (cond b [] (e ∷ []))
    ∙ ap (λ (ys : List Entry). old ++ ys) (fresh-more sent xs i e before (before ++ cond b [] (e ∷ [])) b l g s refl refl)

module _ (p : Entry → Bool) where
  before-filtered : (e : Entry) (xs : List Entry) → IsBeforeAll entry_order e xs → IsBeforeAll entry_order e (filter p xs)
  before-filtered e xs h = before-all entry_order e (filter p xs) (λ x m. before-member entry_order e x xs h (filtered-member p xs x m).0)

  rising-filtered : (xs : List Entry) → IsInOrder entry_order xs → IsInOrder entry_order (filter p xs)
  rising-filtered [] r = tt
  rising-filtered (x ∷ xs) r = elim (cases_Bool (p x)) [
    | inl t ↦ rw t (before-filtered x xs r.0, rising-filtered xs r.1)
    | inr f ↦ rw f (rising-filtered xs r.1)
  ]

module _ (office : OfficeRules) (sent : List Entry) where
  left-of : (Of : HeldList) (records held : List Entry) → ListsHeld (IsOfList Of) records held → Lists entry_order (λ e. (Member e records × (Member e sent → ⊥)) × IsOfList Of e.key) (fresh_of sent held)
  left-of Of records held h =
      let left = are-lacking sent held (fresh_of sent held) refl in
      record {
        rising = rising-filtered (λ e. not (stands_in same_entry e sent)) held h.rising;
        members = λ e. (
          λ m. (
              let k = (left.members e).0 m in
              let i = (h.members e).0 k.0 in
              ((i.0, k.1), i.1)),
          λ q. (left.members e).1 ((h.members e).1 (q.0.0, q.1), q.0.1),
        );
      }

  -- the list at the next place
  pub unsent-more : (l : HeldList) (records held more old new : List Entry) → IsListOf office.meters l → (AllOfOffice office records → ListsHeld (IsOfList l) records held) → more ≡ fresh_of sent held → new ≡ old ++ more →
      AddsUnsent office records sent (list_place office.meters l) (list_place office.meters l + 1) old new
  unsent-more l records held more old new h rows e f of before =
      let F : List Entry → Type 0 = λ xs. UnsentBefore office records sent (list_place office.meters l + 1) xs in
      let P : Entry → Type 0 = λ x. Member x records × (Member x sent → ⊥) in
      subst F (sym (f ∙ ap (λ (xs : List Entry). old ++ xs) e))
      (segment-more entry_order P (λ x. IsOfList l x.key) (λ x. key_place office.meters x.key) (list_place office.meters l) old (fresh_of sent held) before (left-of l records held (rows of))
      (λ x m. list-place office.meters l h x.key (key-within office x.key x.content (of x m.0)))
      (λ x y m n p. entry-before x y (key-before office.meters x.key y.key (key-within office x.key x.content (of x m.0)) (key-within office y.key y.content (of y n.0)) p)))

  pub unsent-at : (records : List Entry) (from to from' to' : ℕ) (old new : List Entry) → from ≡ from' → to ≡ to' → AddsUnsent office records sent from to old new → AddsUnsent office records sent from' to' old new
  unsent-at records from to from' to' old new e f a =
      let P : ℕ → ℕ → Type 0 = λ m n. AddsUnsent office records sent m n old new in
      subst (λ m. P m to') e (subst (λ n. P from n) f a)

  pub unsent-none : (records : List Entry) (n : ℕ) (old : List Entry) → AddsUnsent office records sent n n old old
  unsent-none records n old of before = before

  pub unsent-then : (was is : ShelfContent) (from to end : ℕ) (old mid new : List Entry) → is ≡ was → AddsUnsent office was.records sent from to old mid → AddsUnsent office is.records sent to end mid new → AddsUnsent office was.records sent from end old new
  unsent-then was is from to end old mid new e a b =
      let P : ShelfContent → Type 0 = λ c. AddsUnsent office c.records sent to end mid new in
      λ of before. subst P e b of (a of before)

  pub unsent-all : (records old new : List Entry) → AllOfOffice office records → old ≡ [] → AddsUnsent office records sent 0 (7 * office.meters + 2) old new → AreUnsent records sent new
  unsent-all records old new of e a =
      let P : Entry → Type 0 = λ x. Member x records × (Member x sent → ⊥) in
      let B : List Entry → Type 0 = λ xs. UnsentBefore office records sent 0 xs in
      segment-all entry_order P (λ x. key_place office.meters x.key) (7 * office.meters + 2) new (a of (subst B (sym e) (segment-none entry_order P (λ x. key_place office.meters x.key))))
      (λ x m. placed office.meters x.key (key-within office x.key x.content (of x m.0)))
