-- A change at one key of a table is the one change of what it tells.
use Rattle.std.proofs.Common.{◌≡◌, ℕ, Bool, cond, Option, Some, None, Result, Ok, Err, true, false, refl, sym, ap, subst, ◌∙◌, inl, inr}
use Rattle.std.specs.Option.{IsSome, unwrap_or}
use Rattle.std.specs.Result.{OnOk, OnErr}
use Rattle.std.specs.Ordering.{is_eq}
use Rattle.std.proofs.lemmas.Bool.{cases_Bool}
use Rattle.pw_obis.specs.declared.reference.Register.{Register}
use Rattle.pw_tariff.specs.declared.ids.AccountId.{AccountId}
use Rattle.pw_tariff.specs.declared.ids.MeterId.{MeterId}
use Rattle.pw_time.specs.Instants.{IsInstant}
use Rattle.pw_model.specs.declared.records.TotalKey.{TotalKey}
use Rattle.pw_model.specs.Counting.{assignment_key}
use Rattle.pw_model.specs.Same.{same_key}
use Rattle.pw_model.proofs.Same.{same_key-decides}
use Rattle.pw_shelf.specs.declared.table.Table.{Table}
use Rattle.pw_shelf.specs.Changes.{points_with, starts_with, totals_with}
use Rattle.pw_model.specs.Same.{total_key_order}
use Rattle.pw_shelf.specs.Orders.{point_order, start_order}
use Rattle.pw_shelf.specs.Standing.{meter_id, point_now, start_now, total_now}
use Rattle.pw_shelf.specs.Table.{at_now}
use Rattle.pw_shelf.specs.inner.Held.{AreDated}
use Rattle.pw_shelf.specs.inner.Table.{TellsAt}
use Rattle.pw_model.proofs.TotalKeys.{total-tested}
use Rattle.pw_shelf.proofs.RowKeys.{point-tested, start-tested}

-- ---- what is told by meter, register and second, and so on
pub points-same : (f g : MeterId × Register × ℕ → Option ℕ) → ((k : MeterId × Register × ℕ) → f k ≡ g k) →
    ◌≡◌ {A = ℕ → Register → ℕ → Option ℕ} (λ m r t. f (meter_id m, r, t)) (λ m r t. g (meter_id m, r, t))
points-same f g h = λ i m r t. h (meter_id m, r, t) i

pub starts-same : (f g : MeterId × ℕ → Option (Option AccountId)) → ((k : MeterId × ℕ) → f k ≡ g k) →
    ◌≡◌ {A = ℕ → ℕ → Option (Option AccountId)} (λ m t. f (meter_id m, t)) (λ m t. g (meter_id m, t))
starts-same f g h = λ i m t. h (meter_id m, t) i

pub totals-same : (f g : TotalKey → Option ℕ) → ((k : TotalKey) → f k ≡ g k) →
    ◌≡◌ {A = TotalKey → ℕ} (λ k. unwrap_or (f k) 0) (λ k. unwrap_or (g k) 0)
totals-same f g h = λ i k. unwrap_or (h k i) 0

-- ---- one change
pub points-change : (old new : Table (MeterId × Register × ℕ) ℕ) (m : MeterId) (r : Register) (t : ℕ) (w : Option ℕ) →
    TellsAt point_order (m, r, t) w (at_now point_order old) (at_now point_order new) →
    point_now new ≡ points_with (point_now old) m.0 r t w
points-change old new m r t w h = λ i n s u. (h (meter_id n, s, u)
    ∙ ap (λ (b : Bool). cond b w (point_now old n s u)) (point-tested m.0 r t n s u)) i

pub starts-change : (old new : Table (MeterId × ℕ) (Option AccountId)) (m : MeterId) (t : ℕ)
    (o : Option (Option AccountId)) → TellsAt start_order (m, t) o (at_now start_order old) (at_now start_order new) →
    start_now new ≡ starts_with (start_now old) m.0 t o
starts-change old new m t o h = λ i n u. (h (meter_id n, u)
    ∙ ap (λ (b : Bool). cond b o (start_now old n u)) (start-tested m.0 t n u)) i

chosen : (b : Bool) (a : ℕ) (o : Option ℕ) → unwrap_or (cond b (Some a) o) 0 ≡ cond b a (unwrap_or o 0)
chosen true a o = refl
chosen false a o = refl

pub totals-change : (old new : Table TotalKey ℕ) (k : TotalKey) (a : ℕ) →
    TellsAt total_key_order k (Some a) (at_now total_key_order old) (at_now total_key_order new) →
    total_now new ≡ totals_with (total_now old) k a
totals-change old new k a h = λ i l. (ap (λ (o : Option ℕ). unwrap_or o 0) (h l)
    ∙ chosen (is_eq (total_key_order k l)) a (at_now total_key_order old l)
    ∙ ap (λ (b : Bool). cond b a (total_now old l)) (total-tested k l)) i

-- ---- each start stands at an instant
abbrev Told : Type 0
Told = ℕ → ℕ → Option (Option AccountId)

pub dated-more : (old new : Told) (m t : ℕ) (o : Option (Option AccountId)) → new ≡ starts_with old m t o →
    IsInstant t → AreDated old → AreDated new
dated-more old new m t o h i d n u s =
    elim (cases_Bool (same_key (assignment_key m t) (assignment_key n u))) [
      | inl e ↦ (let same : assignment_key m t ≡ assignment_key n u =
          (same_key-decides (assignment_key m t) (assignment_key n u)).0 e in
          let at : t ≡ u = cc in subst IsInstant at i)
      | inr e ↦ (let is : new n u ≡ old n u = (λ j. h j n u) ∙ ap (λ (b : Bool). cond b o (old n u)) e in
          let P : Option (Option AccountId) → Type 0 = IsSome in d n u (subst P is s))
    ]

pub dated-less : (old new : Told) (m t : ℕ) → new ≡ starts_with old m t None → AreDated old → AreDated new
dated-less old new m t h d n u s =
    elim (cases_Bool (same_key (assignment_key m t) (assignment_key n u))) [
      | inl e ↦ (let none : new n u ≡ None = (λ j. h j n u)
          ∙ ap (λ (b : Bool). cond b None (old n u)) e in
          let P : Option (Option AccountId) → Type 0 = IsSome in
          let f : IsSome {T = Option AccountId} None = subst P none s in cc)
      | inr e ↦ (let is : new n u ≡ old n u = (λ j. h j n u) ∙ ap (λ (b : Bool). cond b None (old n u)) e in
          let P : Option (Option AccountId) → Type 0 = IsSome in d n u (subst P is s))
    ]

pub dated-same : (old new : Told) → new ≡ old → AreDated old → AreDated new
dated-same old new h d = subst AreDated (sym h) d

-- whether there was memory for it or not
module _ (old new : Table (MeterId × ℕ) (Option AccountId)) (m : MeterId) (t : ℕ) where
  abbrev Changed : Option (Option AccountId) → Type 0
  Changed o = TellsAt start_order (m, t) o (at_now start_order old) (at_now start_order new)

  abbrev Same : Type 0
  Same = (k : MeterId × ℕ) → at_now start_order new k ≡ at_now start_order old k

  pub dated-put : {T E : Type 0} (o : Option AccountId) (r : Result T E) → OnOk r (Changed (Some o)) → OnErr r Same →
      IsInstant t → AreDated (start_now old) → AreDated (start_now new)
  dated-put o (Ok x) h u i d =
      dated-more (start_now old) (start_now new) m.0 t (Some o) (starts-change old new m t (Some o) h) i d
  dated-put o (Err e) h u i d = dated-same (start_now old) (start_now new) (starts-same _ _ u) d

  pub dated-deleted : {T E : Type 0} (r : Result T E) → OnOk r (Changed None) → OnErr r Same →
      AreDated (start_now old) → AreDated (start_now new)
  dated-deleted (Ok x) h u d =
      dated-less (start_now old) (start_now new) m.0 t (starts-change old new m t None h) d
  dated-deleted (Err e) h u d = dated-same (start_now old) (start_now new) (starts-same _ _ u) d
