-- The points round an instant, and what their pairs give with a reading there and without it.
use Rattle.std.proofs.Common.{◌≡◌, ◌==◌, ◌&&◌, ℕ, ◌+◌, ◌-◌, ◌<◌, ◌≤◌, Bool, true, cond, Option, Some, None, List, [], ◌++◌, length, Less, refl, ap, sym, subst, ◌∙◌, arith, inl, inr}
use Rattle.std.specs.Cmp.{nat_cmp_is}
use Rattle.std.specs.Ordering.{nat_cmp}
use Rattle.std.proofs.lemmas.Bool.{cases_eq}
use Rattle.pw_flow.specs.Pairs.{StandAround, cell_between, pairs_sum}
use Rattle.pw_flow.proofs.Points.{LastIs, NextIs, last-told, next-told}
use Rattle.pw_obis.specs.declared.reference.Register.{Register}
use Rattle.pw_tariff.specs.declared.ids.AccountId.{AccountId}
use Rattle.pw_tariff.specs.declared.ids.Direction.{Direction}
use Rattle.pw_tariff.specs.Office.{OfficeFile, office_of, period_at, band_at}
use Rattle.pw_tariff.specs.Owners.{StartsIncrease, owner_by_starts, same_owner}
use Rattle.pw_tariff.specs.Shares.{class_seconds}
use Rattle.pw_model.specs.declared.records.Key.{Key}
use Rattle.pw_model.specs.declared.records.Contents.{Contents}
use Rattle.pw_model.specs.declared.records.TotalKey.{TotalKey}
use Rattle.pw_model.specs.declared.records.TotalKey.TheVariants.{Energy, TopUps}
use Rattle.pw_model.specs.Changes.{IsOneMoreReading, in_direction}
use Rattle.pw_model.specs.Counting.{point, start}
use Rattle.pw_model.specs.Energy.{asked_seconds, of_class, owner_at as owner_told}
use Rattle.pw_model.specs.Lists.{IsInOrder}
use Rattle.pw_model.specs.Same.{direction_of, same_direction}
use Rattle.pw_model.proofs.Energy.{one-more_reading}
use Rattle.pw_model.specs.Seconds.{ListsSeconds, by_second}
use Rattle.pw_shelf.specs.Seconds.{IsBefore, IsBehind}
use Rattle.pw_book.specs.inner.Settling.{EndsBefore}
use Rattle.pw_model.specs.Shelf.{ShelfContent}
use Rattle.pw_parts.specs.Changes.{other_side, pairs_for}
use Rattle.pw_parts.specs.declared.changes.Side.{Side}
use Rattle.pw_parts.specs.declared.changes.Side.TheVariants.{Loses, Gains}
use Rattle.pw_book.specs.Listed.{point_listed}
use Rattle.pw_book.specs.inner.Sums.{energy_told}
use Rattle.pw_parts.proofs.Owning.{owners-told, starts-rise}

-- ---- the points next to an instant at which none stands
last-from : (p q : ℕ → Option ℕ) (z : ℕ) (below : Option (ℕ × ℕ)) → ((u : ℕ) → (u ≡ z → ⊥) → p u ≡ q u) → q z ≡ None → IsBefore p z below → LastIs q z below
last-from p q z None s n h = λ u l. elim (cases_eq u z) [ inl e ↦ ap q e ∙ n | inr d ↦ sym (s u d) ∙ h u (omega (arith, l, d)) ]
last-from p q z (Some a) s n h =
    let b = h.before in
    record {
      holds = sym (s a.0 (λ e. absurd (omega (arith, e, b)))) ∙ h.here;
      early = omega (arith, b);
      none = λ u c d. elim (cases_eq u z) [ inl e ↦ ap q e ∙ n | inr f ↦ sym (s u f) ∙ h.between u c (omega (arith, d, f)) ];
    }

-- an end that no point reaches
abbrev above-ends : ℕ → Option (ℕ × ℕ) → Type 0
above-ends end None = Unit {0}
above-ends end (Some a) = a.0 < end

next-from : (p q : ℕ → Option ℕ) (end z : ℕ) (above : Option (ℕ × ℕ)) → ((u : ℕ) → (u ≡ z → ⊥) → p u ≡ q u) → z < end → above-ends end above → IsBehind p z above → NextIs q z (end - z) above
next-from p q end z None s i e h = λ u l m. sym (s u (λ x. absurd (omega (arith, x, l)))) ∙ h u l
next-from p q end z (Some a) s i e h =
    let b = h.behind in
    record {
      holds = sym (s a.0 (λ x. absurd (omega (arith, x, b)))) ∙ h.here;
      late = b;
      early = omega (arith, b, e);
      none = λ u c d. sym (s u (λ x. absurd (omega (arith, x, c)))) ∙ h.between u c d;
    }

above-end : (p q : ℕ → Option ℕ) (end z : ℕ) (above : Option (ℕ × ℕ)) → ((u : ℕ) → (u ≡ z → ⊥) → p u ≡ q u) → EndsBefore end q → IsBehind p z above → above-ends end above
above-end p q end z None s e h = tt
above-end p q end z (Some a) s e h = let b = h.behind in e a.0 a.1 (sym (s a.0 (λ x. absurd (omega (arith, x, b)))) ∙ h.here)

pub stand-around : (p q r : ℕ → Option ℕ) (end z w : ℕ) (below above : Option (ℕ × ℕ)) → ((u : ℕ) → (u ≡ z → ⊥) → p u ≡ q u) → ((u : ℕ) → (u ≡ z → ⊥) → q u ≡ r u) → q z ≡ None → r z ≡ Some w → EndsBefore end r →
    IsBefore p z below → IsBehind p z above → StandAround q end z below above
stand-around p q r end z w below above s t n h e b a =
    let inside : z < end = e z w h in
    let f : EndsBefore end q = λ u v i. elim (cases_eq u z) [
      | inl x ↦ rw x inside
      | inr d ↦ e u v (sym (t u d) ∙ i)
    ] in
    record {
      inside = inside;
      last_is = last-told q z below (last-from p q z below s n b);
      next_is = next-told q z (end - z) above (next-from p q end z above s inside (above-end p q end z above s f a) a);
    }

-- ---- their pairs
pub pairs-without : (keeps : ℕ → Bool) (below above : Option (ℕ × ℕ)) → pairs_sum keeps (point_listed below (point_listed None (point_listed above []))) ≡ cell_between keeps below above
pairs-without keeps None None = refl
pairs-without keeps None (Some b) = refl
pairs-without keeps (Some a) None = refl
pairs-without keeps (Some a) (Some b) = omega arith

pub pairs-with : (keeps : ℕ → Bool) (below above : Option (ℕ × ℕ)) (here : ℕ × ℕ) →
    pairs_sum keeps (point_listed below (point_listed (Some here) (point_listed above []))) ≡ cell_between keeps below (Some here) + cell_between keeps (Some here) above
pairs-with keeps None None here = refl
pairs-with keeps None (Some b) here = omega arith
pairs-with keeps (Some a) None here = omega arith
pairs-with keeps (Some a) (Some b) here = omega arith

-- ---- the seconds of an owner, a period and a band
pub seconds-told : (file : OfficeFile) (owners : List (ℕ × Option AccountId)) (at : Key → Contents) (m : ℕ) (owner : Option AccountId) (period band : ℕ) → ((t : ℕ) → owner_by_starts owners t ≡ owner_told at m t) →
    class_seconds file owners owner period band ≡ asked_seconds at (of_class (office_of file) owner period band) m
seconds-told file owners at m owner period band h = λ i t. (same_owner (h t i) owner && ((period_at file t == period) && (band_at file t == band)))

-- ---- with a reading and without it
pub around-differ : (file : OfficeFile) (free is : Key → Contents) (m : ℕ) (r : Register) (z w : ℕ) (p : ℕ → Option ℕ) (owners : List (ℕ × Option AccountId)) (below above : Option (ℕ × ℕ)) (without with : List (ℕ × ℕ)) (k : TotalKey) →
    m < (office_of file).meters → (office_of file).counts m r ≡ true →
    ((u : ℕ) → (u ≡ z → ⊥) → p u ≡ point free m r u) → IsOneMoreReading free is m r z w → EndsBefore (office_of file).end (point is m r) → ((t : ℕ) → owner_by_starts owners t ≡ owner_told free m t) →
    IsBefore p z below → IsBehind p z above →
    without ≡ point_listed below (point_listed None (point_listed above [])) → with ≡ point_listed below (point_listed (Some (z, w)) (point_listed above [])) →
    energy_told (office_of file) free k + pairs_for file owners (direction_of r) with k ≡ energy_told (office_of file) is k + pairs_for file owners (direction_of r) without k
around-differ file free is m r z w p owners below above without with (TopUps a) l c s o e h b f g j = refl
around-differ file free is m r z w p owners below above without with (Energy owner period band d) l c s o e h b f g j =
    let office = office_of file in
    let asked = of_class office owner period.0 band.0 in
    let same : (u : ℕ) → (u ≡ z → ⊥) → point free m r u ≡ point is m r u = λ u n. o.elsewhere m r u (λ _ _. n) in
    let around = stand-around p (point free m r) (point is m r) office.end z w below above s same o.free o.here e b f in
    let law = one-more_reading office free is m r z w below above o around l c asked d in
    let keeps = class_seconds file owners owner period.0 band.0 in
    let t : keeps ≡ asked_seconds free asked m = seconds-told file owners free m owner period.0 band.0 h in
    let one : pairs_sum keeps without ≡ cell_between (asked_seconds free asked m) below above = ap (pairs_sum keeps) g ∙ pairs-without keeps below above ∙ ap (λ (q : ℕ → Bool). cell_between q below above) t in
    let two : pairs_sum keeps with ≡ cell_between (asked_seconds free asked m) below (Some (z, w)) + cell_between (asked_seconds free asked m) (Some (z, w)) above =
    ap (pairs_sum keeps) j ∙ pairs-with keeps below above (z, w) ∙ ap (λ (q : ℕ → Bool). cell_between q below (Some (z, w)) + cell_between q (Some (z, w)) above) t in
    let x : cond (same_direction (direction_of r) d) (pairs_sum keeps without) 0 ≡ in_direction d r (cell_between (asked_seconds free asked m) below above) = ap (λ n. cond (same_direction (direction_of r) d) n 0) one in
    let y : cond (same_direction (direction_of r) d) (pairs_sum keeps with) 0 ≡ in_direction d r (cell_between (asked_seconds free asked m) below (Some (z, w)) + cell_between (asked_seconds free asked m) (Some (z, w)) above) = ap (λ n. cond (same_direction (direction_of r) d) n 0) two in
    omega (arith, law, x, y)

-- ---- the list of those that are there
pub three-listed : (below here above : Option (ℕ × ℕ)) (none one two three : List (ℕ × ℕ)) → none ≡ [] → one ≡ none ++ point_listed below [] → two ≡ one ++ point_listed here [] → three ≡ two ++ point_listed above [] →
    three ≡ point_listed below (point_listed here (point_listed above []))
three-listed below here above none one two three n a b c =
    c ∙ ap (λ xs. xs ++ point_listed above []) (b ∙ ap (λ xs. xs ++ point_listed here []) (a ∙ ap (λ xs. xs ++ point_listed below []) n)) ∙ together below here above
  where
    together : (below here above : Option (ℕ × ℕ)) → (([] ++ point_listed below []) ++ point_listed here []) ++ point_listed above [] ≡ point_listed below (point_listed here (point_listed above []))
    together None None above = refl
    together None (Some b) above = refl
    together (Some a) None above = refl
    together (Some a) (Some b) above = refl

-- there are three at most, in order
pub three-few : (below here above : Option (ℕ × ℕ)) → length (point_listed below (point_listed here (point_listed above []))) ≤ 3
three-few None None None = omega arith
three-few None None (Some c) = omega arith
three-few None (Some b) None = omega arith
three-few None (Some b) (Some c) = omega arith
three-few (Some a) None None = omega arith
three-few (Some a) None (Some c) = omega arith
three-few (Some a) (Some b) None = omega arith
three-few (Some a) (Some b) (Some c) = omega arith

is-less : (x y : ℕ) → x < y → nat_cmp x y ≡ Less
is-less x y l = sym (nat_cmp_is x y Less l)

pub in-time-with : (p : ℕ → Option ℕ) (z w : ℕ) (below above : Option (ℕ × ℕ)) → IsBefore p z below → IsBehind p z above → IsInOrder by_second (point_listed below (point_listed (Some (z, w)) (point_listed above [])))
in-time-with p z w None None b f = (tt, tt)
in-time-with p z w None (Some c) b f = ((is-less z c.0 f.behind, tt), (tt, tt))
in-time-with p z w (Some a) None b f = ((is-less a.0 z b.before, tt), (tt, tt))
in-time-with p z w (Some a) (Some c) b f = (let x = b.before in let y = f.behind in ((is-less a.0 z x, (is-less a.0 c.0 (omega (arith, x, y)), tt)), ((is-less z c.0 y, tt), (tt, tt))))

pub in-time-without : (p : ℕ → Option ℕ) (z : ℕ) (below above : Option (ℕ × ℕ)) → IsBefore p z below → IsBehind p z above → IsInOrder by_second (point_listed below (point_listed None (point_listed above [])))
in-time-without p z None None b f = tt
in-time-without p z None (Some c) b f = (tt, tt)
in-time-without p z (Some a) None b f = (tt, tt)
in-time-without p z (Some a) (Some c) b f = (let x = b.before in let y = f.behind in ((is-less a.0 c.0 (omega (arith, x, y)), tt), (tt, tt)))

-- ---- all of it
pub around-sums : (file : OfficeFile) (free is : Key → Contents) (m : ℕ) (r : Register) (z w : ℕ) (was one two : ShelfContent) (d : Direction) (starts lent again : List (ℕ × Option AccountId)) (below above : Option (ℕ × ℕ))
    (apart apart_lent joined joined_lent : List (ℕ × ℕ)) (less more old_less old_more : TotalKey → ℕ) → one ≡ was → two ≡ one → d ≡ direction_of r →
    m < (office_of file).meters → (office_of file).counts m r ≡ true → ((u : ℕ) → (u ≡ z → ⊥) → was.point m r u ≡ point free m r u) → was.start m ≡ start free m →
    IsOneMoreReading free is m r z w → EndsBefore (office_of file).end (point is m r) → ListsSeconds (was.start m) starts → lent ≡ starts → again ≡ starts →
    IsBefore (one.point m r) z below → IsBehind (two.point m r) z above →
    apart ≡ point_listed below (point_listed None (point_listed above [])) → apart_lent ≡ apart → joined ≡ point_listed below (point_listed (Some (z, w)) (point_listed above [])) → joined_lent ≡ joined →
    (StartsIncrease lent → IsInOrder by_second apart_lent → (k : TotalKey) → less k ≡ old_less k + pairs_for file lent d apart_lent k) →
    (StartsIncrease again → IsInOrder by_second joined_lent → (k : TotalKey) → more k ≡ old_more k + pairs_for file again d joined_lent k) →
    (k : TotalKey) → energy_told (office_of file) free k + more k + old_less k ≡ energy_told (office_of file) is k + less k + old_more k
around-sums file free is m r z w was one two d starts lent again below above apart apart_lent joined joined_lent less more old_less old_more e f g l c s t o n h p q b a u v x y i j k =
    let told : ListsSeconds (start free m) starts = (let P : (ℕ → Option (Option AccountId)) → Type 0 = λ told. ListsSeconds told starts in subst P t h) in
    let owners : (t : ℕ) → owner_by_starts starts t ≡ owner_told free m t = owners-told free m starts told in
    let increase : StartsIncrease starts = starts-rise starts h.rising in
    let before : IsBefore (was.point m r) z below = (let P : ShelfContent → Type 0 = λ c. IsBefore (c.point m r) z below in subst P e b) in
    let behind : IsBehind (was.point m r) z above = (let P : ShelfContent → Type 0 = λ c. IsBehind (c.point m r) z above in subst P (f ∙ e) a) in
    let O : List (ℕ × ℕ) → Type 0 = λ ps. IsInOrder by_second ps in
    let S : List (ℕ × Option AccountId) → Type 0 = StartsIncrease in
    let first = i (subst S (sym p) increase) (subst O (sym (v ∙ u)) (in-time-without (was.point m r) z below above before behind)) k in
    let second = j (subst S (sym q) increase) (subst O (sym (y ∙ x)) (in-time-with (was.point m r) z w below above before behind)) k in
    let law = around-differ file free is m r z w (was.point m r) starts below above apart joined k l c s o n owners before behind u x in
    let one_is : less k ≡ old_less k + pairs_for file starts (direction_of r) apart k = first ∙ (λ i. old_less k + pairs_for file (p i) (g i) (v i) k) in
    let two_is : more k ≡ old_more k + pairs_for file starts (direction_of r) joined k = second ∙ (λ i. old_more k + pairs_for file (q i) (g i) (y i) k) in
    omega (arith, law, one_is, two_is)

-- elsewhere nothing else counts
pub others-agree : (free is : Key → Contents) (m : ℕ) (r : Register) (z w : ℕ) → IsOneMoreReading free is m r z w → (u : ℕ) → (u ≡ z → ⊥) → point is m r u ≡ point free m r u
others-agree free is m r z w o u n = sym (o.elsewhere m r u (λ _ _. n))

pub starts-agree : (free is : Key → Contents) (m : ℕ) (r : Register) (z w : ℕ) → IsOneMoreReading free is m r z w → start is m ≡ start free m
starts-agree free is m r z w o = λ i. sym o.starts i m

-- the other side of the other
pub other-back : (side : Side) → other_side (other_side side) ≡ side
other-back Loses = refl
other-back Gains = refl
