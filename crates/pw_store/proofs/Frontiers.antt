-- What is remembered of a register, once a record is added.
use Rattle.std.proofs.Common.{◌≡◌, ◌<◌, ◌≤◌, ◌+◌, ◌⊎◌, inl, inr, ℕ, List, ◌∷◌, Option, Some, None, IfSome, sym, ap, subst, ◌∙◌, arith}
use Rattle.pw_obis.specs.declared.reference.Register.{Register}
use Rattle.pw_tariff.specs.declared.ids.MeterId.{MeterId}
use Rattle.pw_model.specs.declared.records.Entry.{Entry}
use Rattle.pw_model.specs.declared.records.Key.TheVariants.{Reading}
use Rattle.pw_model.specs.Counting.{IsInserted, Member}
use Rattle.pw_store.specs.Frontier.{NoneFrom}
use Rattle.pw_store.proofs.Finding.{second_of}
use Rattle.pw_store.proofs.OfKinds.{member_behind, member_front, member_in}

module _ (m : MeterId) (r : Register) (entry : Entry) (records all : List Entry) (one : IsInserted entry records all) where
  -- it is the new one, or was there
  new_or_old : (e : Entry) → Member e all → (e ≡ entry) ⊎ Member e records
  new_or_old e member = elim (member_in e one.0 (entry ∷ one.1) (subst (Member e) one.3 member)) [
    | inl front ↦ inr (subst (Member e) (sym one.2) (member_front e one.0 one.1 front))
    | inr rest ↦ elim rest [
      | inl same ↦ inl same
      | inr back ↦ inr (subst (Member e) (sym one.2) (member_behind e one.0 one.1 back))
    ]
  ]

  pub other_added : (from : Option ℕ) → ((t : ℕ) → entry.key ≡ Reading m r t → ⊥) → NoneFrom m r from records → NoneFrom m r from all
  other_added None apart none = tt
  other_added (Some from) apart none = λ e t member is high. elim (new_or_old e member) [
    | inl same ↦ apart t (ap (λ (x : Entry). x.key) (sym same) ∙ is)
    | inr old ↦ none e t old is high
  ]

  -- of the register, at this instant
  module _ (t : ℕ) (here : entry.key ≡ Reading m r t) where
    same_second : (e : Entry) (u : ℕ) → e ≡ entry → e.key ≡ Reading m r u → t ≡ u
    same_second e u same is = ap second_of (sym here ∙ ap (λ (x : Entry). x.key) (sym same) ∙ is)

    pub earlier_added : (from : ℕ) → t < from → NoneFrom m r (Some from) records → NoneFrom m r (Some from) all
    earlier_added from low none e u member is high = elim (new_or_old e member) [
      | inl same ↦ (let at = same_second e u same is in omega (arith, at, low, high))
      | inr old ↦ none e u old is high
    ]

    pub later_added : (from : ℕ) → from ≤ t → (next : Option ℕ) → IfSome next (λ n. n ≡ t + 1) → NoneFrom m r (Some from) records → NoneFrom m r next all
    later_added from low None is_next none = tt
    later_added from low (Some n) is_next none = λ e u member is high. elim (new_or_old e member) [
      | inl same ↦ (let at = same_second e u same is in omega (arith, at, is_next, high))
      | inr old ↦ none e u old is (omega (arith, low, is_next, high))
    ]
