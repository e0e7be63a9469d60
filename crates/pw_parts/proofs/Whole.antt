-- The records of a set that count tell all of its points, starts and totals.
use Rattle.std.proofs.Common.{◌≡◌, ℕ, ◌+◌, ◌^◌, ◌<◌, ◌≤◌, Option, Some, None, List, [], ◌∷◌, length, ◌↔◌, refl, sym, ◌∙◌, inl, inr, arith, Ordering}
use Rattle.std.proofs.lemmas.Bool.{cases_Bool, true≢false}
use Rattle.pw_obis.specs.declared.reference.Register.{Register}
use Rattle.pw_tariff.specs.declared.ids.AccountId.{AccountId}
use Rattle.pw_tariff.specs.declared.ids.Direction.{Direction}
use Rattle.pw_tariff.specs.Office.{OfficeRules}
use Rattle.pw_model.specs.declared.records.Key.{Key}
use Rattle.pw_model.specs.declared.records.Content.TheVariants as content
use Rattle.pw_model.specs.declared.records.Contents.TheVariants.{One}
use Rattle.pw_model.specs.declared.records.Entry.{Entry}
use Rattle.pw_model.specs.declared.records.TotalKey.{TotalKey}
use Rattle.pw_model.specs.declared.records.TotalKey.TheVariants.{Energy, TopUps}
use Rattle.pw_model.specs.Counting.{Member, IsNoWithdrawal, is_withdrawn, standing, Counts, contents_at, point, start, reading_key, assignment_key}
use Rattle.pw_model.specs.Energy.{Asked, energy_where, of_class}
use Rattle.pw_model.specs.Laws.{AreTopUps}
use Rattle.pw_model.specs.Lists.{IsBeforeAll, IsInOrder, Lists}
use Rattle.pw_model.specs.Office.{AllOfOffice, IsOffice, most_records}
use Rattle.pw_model.specs.Payments.{topped_up}
use Rattle.pw_model.specs.Same.{entry_order}
use Rattle.pw_model.specs.Shelf.{total_among}
use Rattle.pw_model.proofs.Counting.{entry, standing-part, standing-told, standing-all, all-stand, withdrawn-to, withdrawn-back, one-is_counting}
use Rattle.pw_model.proofs.Energy.{energy-alike}
use Rattle.pw_model.proofs.PlainEnergy.{energy-fits, topped-fits}
use Rattle.pw_model.proofs.TopUps.{top-ups_add_up}
use Rattle.pw_parts.specs.Parts.{by_key}
use Rattle.pw_parts.specs.inner.Given.{AreCounted, energies_given, payments_given}
use Rattle.pw_model.specs.Kinds.{IsTopUp, ListsHeld}
use Rattle.pw_parts.proofs.Keys.{keys-apart}
use Rattle.pw_parts.proofs.Meters.{all-count}
use Rattle.pw_parts.proofs.Paid.{topped-up-is}
use Rattle.pw_parts.proofs.Seconds.{wh-one, owner-one}

-- ---- a list of what holds alike
pub lists-alike : {X : Type 0} (order : X → X → Ordering) (P Q : X → Type 0) (xs : List X) → ((x : X) → P x ↔ Q x) → Lists order P xs → Lists order Q xs
lists-alike order P Q xs h l = record {
  rising = l.rising;
  members = λ x. (λ m. (h x).0 ((l.members x).0 m), λ q. (l.members x).1 ((h x).1 q));
}

-- what is there in one exactly where it is in the other
pub options-same : {X : Type 0} (a b : Option X) → ((x : X) → a ≡ Some x ↔ b ≡ Some x) → a ≡ b
options-same None None h = refl
options-same None (Some x) h = (h x).1 refl
options-same (Some x) b h = sym ((h x).0 refl)

-- ---- records that count stand in the order of their keys
keys-before : (s : List Entry) (x : Entry) (xs : List Entry) → Counts s x → ((e : Entry) → Member e xs → Counts s e) → IsBeforeAll entry_order x xs → IsBeforeAll by_key x xs
keys-before s x [] c h b = tt
keys-before s x (y ∷ xs) c h b = (keys-apart s x y c (h y (inl refl)) b.0, keys-before s x xs c (λ e m. h e (inr m)) b.1)

keys-rise : (s : List Entry) (xs : List Entry) → ((e : Entry) → Member e xs → Counts s e) → IsInOrder entry_order xs → IsInOrder by_key xs
keys-rise s [] h r = tt
keys-rise s (x ∷ xs) h r = (keys-before s x xs (h x (inl refl)) (λ e m. h e (inr m)) r.0, keys-rise s xs (λ e m. h e (inr m)) r.1)

module _ (s counted : List Entry) (l : Lists entry_order (Counts s) counted) where
  -- ---- what counts among those that count
  counted-stand : standing counted ≡ counted
  counted-stand = standing-all counted (λ e m. elim (cases_Bool (is_withdrawn counted e)) [
    | inr n ↦ n
    | inl y ↦ absurd (
        let w = withdrawn-to counted e y in
        let by = (l.members w.0).0 w.1.0 in
        let stands = standing-told s e ((l.members e).0 m).0 in
        true≢false (sym (withdrawn-back s e w.0 (standing-part s w.0 by.0) w.1.1) ∙ stands.1))
  ])

  pub counted-counts : (e : Entry) → Counts counted e ↔ Counts s e
  counted-counts e = (
    λ c. (l.members e).0 (standing-part counted e c.0),
    λ c. (all-stand counted e counted-stand ((l.members e).1 c), λ f m k. c.1 f ((l.members f).0 (standing-part counted f m)).0 k, c.2),
  )

  pub are-counted : (office : OfficeRules) → AllOfOffice office s → AreCounted office counted
  are-counted office h = record {
    rising = l.rising;
    counting = λ e m. (counted-counts e).1 ((l.members e).0 m);
    of_office = λ e m. h e (standing-part s e ((l.members e).0 m).0);
  }

  pub kind-listed : (Of : Key → Type 0) (found : List Entry) → ListsHeld Of counted found → Lists by_key (λ e. Counts s e × Of e.key) found
  kind-listed Of found h = record {
    rising = keys-rise s found (λ e m. (l.members e).0 ((h.members e).0 m).0) h.rising;
    members = λ e. (
      λ m. (let a = (h.members e).0 m in ((l.members e).0 a.0, a.1)),
      λ a. (h.members e).1 ((l.members e).1 a.0, a.1),
    );
  }

  -- ---- points and starts
  one-same : (e : Entry) → IsNoWithdrawal e.content → contents_at counted e.key ≡ One e.content ↔ contents_at s e.key ≡ One e.content
  one-same e n = (
    λ q. (one-is_counting s e n).1 ((counted-counts e).0 ((one-is_counting counted e n).0 q)),
    λ q. (one-is_counting counted e n).1 ((counted-counts e).1 ((one-is_counting s e n).0 q)),
  )

  points-same : (m : ℕ) (r : Register) (t : ℕ) → point (contents_at counted) m r t ≡ point (contents_at s) m r t
  points-same m r t =
      let there : (w : ℕ) → point (contents_at counted) m r t ≡ Some w ↔ point (contents_at s) m r t ≡ Some w = λ w. (
        λ q. (let o : contents_at s (reading_key m r t) ≡ One (content.Reading w) = (one-same (entry (reading_key m r t) (content.Reading w)) tt).0 (wh-one (contents_at counted (reading_key m r t)) w q) in rw o refl),
        λ q. (let o : contents_at counted (reading_key m r t) ≡ One (content.Reading w) = (one-same (entry (reading_key m r t) (content.Reading w)) tt).1 (wh-one (contents_at s (reading_key m r t)) w q) in rw o refl),
      ) in
      options-same (point (contents_at counted) m r t) (point (contents_at s) m r t) there

  starts-same : (m t : ℕ) → start (contents_at counted) m t ≡ start (contents_at s) m t
  starts-same m t =
      let there : (o : Option AccountId) → start (contents_at counted) m t ≡ Some o ↔ start (contents_at s) m t ≡ Some o = λ o. (
        λ q. (let i : contents_at s (assignment_key m t) ≡ One (content.Assignment o) = (one-same (entry (assignment_key m t) (content.Assignment o)) tt).0 (owner-one (contents_at counted (assignment_key m t)) o q) in rw i refl),
        λ q. (let i : contents_at counted (assignment_key m t) ≡ One (content.Assignment o) = (one-same (entry (assignment_key m t) (content.Assignment o)) tt).1 (owner-one (contents_at s (assignment_key m t)) o q) in rw i refl),
      ) in
      options-same (start (contents_at counted) m t) (start (contents_at s) m t) there

  -- ---- totals
  energies-same : (office : OfficeRules) (d : Direction) (asked : Asked) → energy_where office (contents_at counted) d asked ≡ energy_where office (contents_at s) d asked
  energies-same office d asked = energy-alike office (contents_at counted) (contents_at s) d asked (λ i m r t. points-same m r t i) (λ i m t. starts-same m t i)

  topped-same : (a : ℕ) → topped_up counted a ≡ topped_up s a
  topped-same a =
      let c = top-ups_add_up counted a in
      let es = c.exists.0 in
      let h = c.exists.1 in
      let t : AreTopUps s a es = record {
        once = h.once;
        members = λ e. (
          λ m. (let q = (h.members e).0 m in ((counted-counts e).0 q.0, q.1)),
          λ q. (h.members e).1 ((counted-counts e).1 q.0, q.1),
        );
      } in
      c.sum es h ∙ sym ((top-ups_add_up s a).sum es t)

  pub totals-same : (office : OfficeRules) (k : TotalKey) → total_among office counted k ≡ total_among office s k
  totals-same office (Energy o p b d) = energies-same office d (of_class office o p.0 b.0)
  totals-same office (TopUps a) = topped-same a.0

-- ---- totals of records that all count
pub totals-whole : (office : OfficeRules) (s tops : List Entry) (k : TotalKey) → AreCounted office s → ListsHeld IsTopUp s tops → energies_given office s k + payments_given tops k ≡ total_among office s k
totals-whole office s tops (Energy o p b d) c l = omega arith
totals-whole office s tops (TopUps a) c l = let e = topped-up-is office s tops a.0 c.of_office (all-count IsTopUp s tops c.counting l) in omega (arith, e)

pub total-fits : (office : OfficeRules) (s : List Entry) (k : TotalKey) → IsOffice office → AllOfOffice office s → length s ≤ most_records → total_among office s k < 2 ^ 64
total-fits office s (Energy q p b d) o h few = let f = energy-fits office s d (of_class office q p.0 b.0) o h few in omega (arith, f)
total-fits office s (TopUps a) o h few = let f = topped-fits office s a.0 o h few in omega (arith, f)

pub energies-fit : (office : OfficeRules) (s : List Entry) (k : TotalKey) → IsOffice office → AllOfOffice office s → length s ≤ most_records → energies_given office s k < 2 ^ 64
energies-fit office s (Energy q p b d) o h few = total-fits office s (Energy q p b d) o h few
energies-fit office s (TopUps a) o h few = omega arith
