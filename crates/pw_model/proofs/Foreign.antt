-- What is no account, period or band of the office has no total.
use Rattle.std.proofs.Common.{◌≡◌, ℕ, ◌<◌, ◌≤◌, Bool, true, false, cond, ◌==◌, ◌&&◌, Option, Some, None, List, refl, ap, subst, arith}
use Rattle.std.proofs.lemmas.Bool.{ne_eqb, and_left}
use Rattle.pw_tariff.specs.declared.ids.AccountId.{AccountId}
use Rattle.pw_tariff.specs.declared.ids.Direction.{Direction}
use Rattle.pw_tariff.specs.Office.{OfficeRules}
use Rattle.pw_tariff.specs.Owners.{same_owner}
use Rattle.pw_model.specs.declared.records.Key.{Key}
use Rattle.pw_model.specs.declared.records.Key.TheVariants as key
use Rattle.pw_model.specs.declared.records.Content.TheVariants as content
use Rattle.pw_model.specs.declared.records.Contents.{Contents}
use Rattle.pw_model.specs.declared.records.Contents.TheVariants.{Nothing, One, Several}
use Rattle.pw_model.specs.declared.records.Entry.{Entry}
use Rattle.pw_model.specs.Same.{same_key}
use Rattle.pw_model.specs.Counting.{contents_at, point}
use Rattle.pw_model.specs.Office.{AllOfOffice, HasOwner}
use Rattle.pw_model.specs.Energy.{Asked, owner_at, asked_seconds, share_of, meter_share, energy_where, of_class}
use Rattle.pw_model.specs.Payments.{keys, cents_for, topped_up}
use Rattle.pw_model.specs.Laws.{ForeignTotalsAreNone}
use Rattle.pw_flow.specs.Energy.{kept, register_energy}
use Rattle.pw_flow.specs.Flow.{flow}
use Rattle.pw_flow.proofs.Sums.{sum-none}
use Rattle.pw_model.proofs.Once.{once-zero}
use Rattle.pw_model.proofs.Bounded.{ToldOf, contents-of, cond-zero, registers-zero}
use Rattle.pw_model.proofs.Whole.{owner-fits}

-- ---- where no second is asked for, there is no energy
none-kept : (k : ℕ → Bool) (p : ℕ → Option ℕ) (end : ℕ) → ((t : ℕ) → k t ≡ false) → register_energy k p end ≡ 0
unfolding register_energy
none-kept k p end h = sum-none (kept k (flow p end)) 0 end (λ t x y. ap (λ (b : Bool). cond b (flow p end t) 0) (h t))

pub none-asked : (office : OfficeRules) (at : Key → Contents) (d : Direction) (asked : Asked) → ((m t : ℕ) → asked (owner_at at m t) t ≡ false) → energy_where office at d asked ≡ 0
unfolding energy_where
none-asked office at d asked h =
    sum-none (meter_share office at d asked) 0 office.meters
    (λ m x y. registers-zero d (share_of office at asked m) (λ r. cond-zero (office.counts m r) _ (none-kept (asked_seconds at asked m) (point at m r) office.end (h m))))

other-owner : (office : OfficeRules) (o p : Option AccountId) (b : Bool) → HasOwner office o → (HasOwner office p → ⊥) → (same_owner o p && b) ≡ false
other-owner office o None b h n = absurd (n tt)
other-owner office None (Some a) b h n = refl
other-owner office (Some c) (Some a) b h n =
    rw (ne_eqb c.0 a.0 (λ e. let P : ℕ → Type 0 = λ v. v < office.accounts in n (subst P e h)))

pub other-period : (c : Bool) (p period : ℕ) (b : Bool) → (p ≡ period → ⊥) → (c && ((p == period) && b)) ≡ false
other-period true p period b n = and_left (p == period) b (ne_eqb p period n)
other-period false p period b n = refl

other-band : (c d : Bool) (b band bands : ℕ) → b < bands → bands ≤ band → (c && (d && (b == band))) ≡ false
other-band true true b band bands l k = ne_eqb b band (λ e. absurd (omega arith))
other-band true false b band bands l k = refl
other-band false d b band bands l k = refl

-- ---- top-ups
no-cents : (office : OfficeRules) (a : ℕ) (k : Key) (r : Contents) → office.accounts ≤ a → ToldOf office k r → cents_for a r ≡ 0
no-cents office a k Nothing l h = refl
no-cents office a k Several l h = refl
no-cents office a k (One (content.Reading w)) l h = refl
no-cents office a k (One (content.Assignment o)) l h = refl
no-cents office a k (One content.Withdrawal) l h = refl
no-cents office a (key.Reading m r t) (One (content.TopUp b c i)) l h = absurd h
no-cents office a (key.Assignment m t) (One (content.TopUp b c i)) l h = absurd h
no-cents office a (key.Withdrawal n) (One (content.TopUp b c i)) l h = absurd h
no-cents office a (key.TopUp r) (One (content.TopUp b c i)) l h =
    let f : b.0 < office.accounts = h.1 in
    rw (ne_eqb b.0 a (λ e. absurd (omega arith)))

no-top_ups : (office : OfficeRules) (s : List Entry) (a : ℕ) → AllOfOffice office s → office.accounts ≤ a → topped_up s a ≡ 0
unfolding topped_up
no-top_ups office s a h l = once-zero same_key (λ k. cents_for a (contents_at s k)) (keys s) (λ k m. no-cents office a k (contents_at s k) l (contents-of office s k h))

pub foreign-totals_are_none : ForeignTotalsAreNone
foreign-totals_are_none office s = record {
  owners = λ h o p b d n. none-asked office (contents_at s) d (of_class office o p.0 b.0)
      (λ m t. other-owner office (owner_at (contents_at s) m t) o ((office.period t == p.0) && (office.band t == b.0)) (owner-fits office s m t h) n);
  periods = λ h o p b d l. none-asked office (contents_at s) d (of_class office o p.0 b.0)
      (λ m t. other-period (same_owner (owner_at (contents_at s) m t) o) (office.period t) p.0 (office.band t == b.0) (λ e. let k = h t in absurd (omega (arith, e, k, l))));
  bands = λ h o p b d l. none-asked office (contents_at s) d (of_class office o p.0 b.0)
      (λ m t. other-band (same_owner (owner_at (contents_at s) m t) o) (office.period t == p.0) (office.band t) b.0 office.bands (h t) l);
  top_ups = λ h a l. no-top_ups office s a.0 h l;
}
