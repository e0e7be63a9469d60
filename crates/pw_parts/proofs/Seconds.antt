-- The readings and assignments that count, by the second.
use Rattle.std.proofs.Common.{◌≡◌, ℕ, Option, Some, List, [], ◌∷◌, refl, ap, sym, ◌∙◌, inl, inr, Ordering, Less}
use Rattle.std.specs.List.{filter_map}
use Rattle.std.specs.Ordering.{nat_cmp}
use Rattle.std.proofs.lemmas.Option.{none-some, same_Some}
use Rattle.pw_obis.specs.declared.reference.Register.{Register}
use Rattle.pw_tariff.specs.declared.ids.AccountId.{AccountId}
use Rattle.pw_tariff.specs.declared.ids.MeterId.{MeterId}
use Rattle.pw_tariff.specs.Office.{register_place}
use Rattle.pw_model.specs.declared.records.Key.{Key}
use Rattle.pw_model.specs.declared.records.Key.TheVariants as key
use Rattle.pw_model.specs.declared.records.Content.{Content}
use Rattle.pw_model.specs.declared.records.Content.TheVariants as content
use Rattle.pw_model.specs.declared.records.Entry.{Entry}
use Rattle.pw_model.specs.declared.records.Contents.{Contents}
use Rattle.pw_model.specs.declared.records.Contents.TheVariants.{Nothing, One, Several}
use Rattle.pw_model.specs.Counting.{Member, contents_at, point, start, wh_of, owner_of, reading_key, assignment_key}
use Rattle.pw_model.specs.Lists.{IsInOrder}
use Rattle.pw_model.specs.Same.{key_order, key_numbers, entry_order}
use Rattle.pw_model.proofs.Counting.{entry, counts-one, one-is_counting}
use Rattle.pw_model.specs.Kinds.{IsReadingOf, IsAssignmentOf}
use Rattle.pw_parts.specs.Shown.{shown, shown_at}
use Rattle.pw_model.specs.Seconds.{ListsSeconds, by_second}
use Rattle.pw_parts.specs.inner.Counted.{ListsCounting, given, given_at}
use Rattle.pw_flow.proofs.Points.{option-cases}
use Rattle.pw_parts.proofs.Keys.{keys-apart, key-less}
use Rattle.pw_model.proofs.InOrder.{before-member}
use Rattle.pw_model.proofs.EntryOrder.{before-all}

-- ---- what a list tells
module _ {X Y : Type 0} (h : X → Option Y) where
  pub told-from : (xs : List X) (y : Y) → Member y (filter_map h xs) → (x : X) × Member x xs × (h x ≡ Some y)
  told-from [] y m = absurd m
  told-from (x ∷ xs) y m = elim (option-cases (h x)) [
    | inl e ↦ (
        let n : Member y (filter_map h xs) = rw e at m in
        let r = told-from xs y n in
        (r.0, inr r.1, r.2))
    | inr w ↦ (
        let n : Member y (w.0 ∷ filter_map h xs) = rw w.1 at m in
        elim n [
          | inl i ↦ (x, inl refl, w.1 ∙ ap (λ v. Some v) (sym i))
          | inr k ↦ (let r = told-from xs y k in (r.0, inr r.1, r.2))
        ])
  ]

  pub told-to : (xs : List X) (x : X) (y : Y) → Member x xs → h x ≡ Some y → Member y (filter_map h xs)
  told-to [] x y m e = absurd m
  told-to (z ∷ xs) x y m e = elim (option-cases (h z)) [
    | inl o ↦ rw o (elim m [
      | inl i ↦ absurd (none-some y (sym o ∙ ap h (sym i) ∙ e))
      | inr k ↦ told-to xs x y k e
    ])
    | inr w ↦ rw w.1 (elim m [
      | inl i ↦ inl (same_Some y w.0 (sym e ∙ ap h i ∙ w.1))
      | inr k ↦ inr (told-to xs x y k e)
    ])
  ]

  pub told-rising : (order : X → X → Ordering) (other : Y → Y → Ordering) (xs : List X) → IsInOrder order xs →
      ((a b : X) → Member a xs → Member b xs → order a b ≡ Less → (y z : Y) → h a ≡ Some y → h b ≡ Some z → other y z ≡ Less) → IsInOrder other (filter_map h xs)
  told-rising order other [] r k = tt
  told-rising order other (x ∷ xs) r k =
      let behind = told-rising order other xs r.1 (λ a b m n. k a b (inr m) (inr n)) in
      elim (option-cases (h x)) [
        | inl e ↦ rw e behind
        | inr w ↦ rw w.1 (
          before-all other w.0 (filter_map h xs) (λ y m. let f = told-from xs y m in k x f.0 (inl refl) (inr f.1) (before-member order x f.0 xs r.0 f.1) w.0 y w.1 f.2),
          behind,
        )
      ]

-- ---- readings
pub shown-of : (m : MeterId) (r : Register) (k : Key) (c : Content) (a : ℕ × ℕ) → IsReadingOf m r k → shown_at k c ≡ Some a → (k ≡ reading_key m.0 r a.0) × (c ≡ content.Reading a.1)
shown-of m r (key.Reading n s t) (content.Reading w) a h e =
    let i : a ≡ (t, w) = same_Some a (t, w) (sym e) in
    rw (i, h.0, h.1) (refl, refl)
shown-of m r (key.Reading n s t) (content.Assignment o) a h e = absurd (none-some a e)
shown-of m r (key.Reading n s t) (content.TopUp b c u) a h e = absurd (none-some a e)
shown-of m r (key.Assignment n t) c a h e = absurd h
shown-of m r (key.TopUp f) c a h e = absurd h
shown-of m r (key.Reading n s t) content.Withdrawal a h e = absurd (none-some a e)
shown-of m r (key.Withdrawal x) c a h e = absurd h

pub wh-one : (c : Contents) (w : ℕ) → wh_of c ≡ Some w → c ≡ One (content.Reading w)
wh-one Nothing w e = absurd (none-some w e)
wh-one Several w e = absurd (none-some w e)
wh-one (One (content.Reading v)) w e = ap (λ x. One (content.Reading x)) (same_Some v w e)
wh-one (One (content.Assignment o)) w e = absurd (none-some w e)
wh-one (One (content.TopUp a c t)) w e = absurd (none-some w e)
wh-one (One content.Withdrawal) w e = absurd (none-some w e)

-- the later of two readings of a register stands behind
later-reading : (m : MeterId) (r : Register) (t u : ℕ) → key_order (reading_key m.0 r t) (reading_key m.0 r u) ≡ Less → nat_cmp t u ≡ Less
unfolding key_numbers
later-reading m r t u e = key-less (0 ∷ m.0 ∷ register_place r ∷ []) t u e

pub seconds-shown : (m : MeterId) (r : Register) (s counted : List Entry) → ListsCounting (IsReadingOf m r) s counted → ListsSeconds (point (contents_at s) m.0 r) (filter_map shown counted)
seconds-shown m r s counted l = record {
  rising = told-rising shown entry_order by_second counted l.rising (λ a b ma mb o y z ya zb.
      let ca = (l.members a).0 ma in
      let cb = (l.members b).0 mb in
      let ka = (shown-of m r a.key a.content y ca.1 ya).0 in
      let kb = (shown-of m r b.key b.content z cb.1 zb).0 in
      later-reading m r y.0 z.0 (rw (ka, kb) at (keys-apart s a b ca.0 cb.0 o)));
  members = λ a. (
    λ q.
        let f = told-from shown counted a q in
        let c = (l.members f.0).0 f.1 in
        let k = shown-of m r f.0.key f.0.content a c.1 f.2 in
        let one : contents_at s f.0.key ≡ One f.0.content = counts-one s f.0 c.0 in
        (let two : contents_at s (reading_key m.0 r a.0) ≡ One (content.Reading a.1) = rw (k.0, k.1) at one in rw two refl),
    λ q.
        let one : contents_at s (reading_key m.0 r a.0) ≡ One (content.Reading a.1) = wh-one (contents_at s (reading_key m.0 r a.0)) a.1 q in
        let e : Entry = entry (reading_key m.0 r a.0) (content.Reading a.1) in
        told-to shown counted e a ((l.members e).1 ((one-is_counting s e tt).0 one, (refl, refl))) refl,
  );
}

-- ---- assignments
given-of : (m : MeterId) (k : Key) (c : Content) (a : ℕ × Option AccountId) → IsAssignmentOf m k → given_at k c ≡ Some a → (k ≡ assignment_key m.0 a.0) × (c ≡ content.Assignment a.1)
given-of m (key.Assignment n t) (content.Assignment o) a h e =
    let i : a ≡ (t, o) = same_Some a (t, o) (sym e) in
    rw (i, h) (refl, refl)
given-of m (key.Assignment n t) (content.Reading w) a h e = absurd (none-some a e)
given-of m (key.Assignment n t) (content.TopUp b c u) a h e = absurd (none-some a e)
given-of m (key.Reading n s t) c a h e = absurd h
given-of m (key.TopUp f) c a h e = absurd h
given-of m (key.Assignment n t) content.Withdrawal a h e = absurd (none-some a e)
given-of m (key.Withdrawal x) c a h e = absurd h

pub owner-one : (c : Contents) (o : Option AccountId) → owner_of c ≡ Some o → c ≡ One (content.Assignment o)
owner-one Nothing o e = absurd (none-some o e)
owner-one Several o e = absurd (none-some o e)
owner-one (One (content.Reading v)) o e = absurd (none-some o e)
owner-one (One (content.Assignment p)) o e = ap (λ x. One (content.Assignment x)) (same_Some p o e)
owner-one (One (content.TopUp a c t)) o e = absurd (none-some o e)
owner-one (One content.Withdrawal) o e = absurd (none-some o e)

later-assignment : (m : MeterId) (t u : ℕ) → key_order (assignment_key m.0 t) (assignment_key m.0 u) ≡ Less → nat_cmp t u ≡ Less
unfolding key_numbers
later-assignment m t u e = key-less (1 ∷ m.0 ∷ []) t u e

pub seconds-given : (m : MeterId) (s counted : List Entry) → ListsCounting (IsAssignmentOf m) s counted → ListsSeconds (start (contents_at s) m.0) (filter_map given counted)
seconds-given m s counted l = record {
  rising = told-rising given entry_order by_second counted l.rising (λ a b ma mb o y z ya zb.
      let ca = (l.members a).0 ma in
      let cb = (l.members b).0 mb in
      let ka = (given-of m a.key a.content y ca.1 ya).0 in
      let kb = (given-of m b.key b.content z cb.1 zb).0 in
      later-assignment m y.0 z.0 (rw (ka, kb) at (keys-apart s a b ca.0 cb.0 o)));
  members = λ a. (
    λ q.
        let f = told-from given counted a q in
        let c = (l.members f.0).0 f.1 in
        let k = given-of m f.0.key f.0.content a c.1 f.2 in
        let one : contents_at s f.0.key ≡ One f.0.content = counts-one s f.0 c.0 in
        (let two : contents_at s (assignment_key m.0 a.0) ≡ One (content.Assignment a.1) = rw (k.0, k.1) at one in rw two refl),
    λ q.
        let one : contents_at s (assignment_key m.0 a.0) ≡ One (content.Assignment a.1) = owner-one (contents_at s (assignment_key m.0 a.0)) a.1 q in
        let e : Entry = entry (assignment_key m.0 a.0) (content.Assignment a.1) in
        told-to given counted e a ((l.members e).1 ((one-is_counting s e tt).0 one, refl)) refl,
  );
}
