-- Within an upload the connection is open, so its tables are what is held.
use Rattle.std.proofs.Common.{◌≡◌, Bool, true, false, not, cond, refl, sym, ap, subst, ◌∙◌, IsTrue, ◌↔◌}
use Rattle.sqlite.specs.Effect.{Database}
use Rattle.sqlite.specs.State.{State, HasCleanDisk, IsUnchanged}
use Rattle.pw_model.specs.declared.records.Key.{Key}
use Rattle.pw_model.specs.declared.records.Content.{Content}
use Rattle.pw_model.specs.declared.records.Entry.{Entry}
use Rattle.pw_model.specs.Counting.{Member}
use Rattle.pw_store.specs.Content.{records_of}
use Rattle.pw_store.specs.Kept.{IsInside, written_of}

pub mode_is : (b mode : Bool) → b ≡ false → b ≡ not mode → mode ≡ true
mode_is b true e f = refl
mode_is b false e f = absurd (let bad : true ≡ false = sym f ∙ e in cc)

pub entry_is : (e : Entry) (k : Key) (c : Content) → e.key ≡ k → e.content ≡ c → e ≡ record { key = k; content = c }
entry_is e k c a b = λ i. record { key = a i; content = b i }

pub held_live : (s base : State) → IsTrue s.is_open → (written_of s base).records ≡ records_of s.now.trees
held_live s base live = ap (λ b. records_of (cond b s.now.trees base.committed.trees)) live

pub fresh_inside : (s base : State) (e : Entry) → IsInside s → s.in_transaction ≡ true → (HasCleanDisk s → Member e (written_of s base).records → ⊥) → HasCleanDisk s → Member e (records_of s.now.trees) → ⊥
fresh_inside s base e inside mode fresh clean m = fresh clean (subst (Member e) (sym (held_live s base (inside clean mode))) m)

-- the connection was open, and its tables are what was held
pub held_woken : (old new base : State) → IsUnchanged old new → (written_of old base).records ≡ records_of new.now.trees
held_woken old new base u = held_live old base u.0.was_open ∙ ap (λ (d : Database). records_of d.trees) (sym u.0.now_is)

pub held_iff : (old new base : State) (e f : Entry) (b : Bool) → IsUnchanged old new → e ≡ f → IsTrue b ↔ Member f (records_of new.now.trees) → IsTrue b ↔ Member e (written_of old base).records
held_iff old new base e f b same is h =
    let records = held_woken old new base same in (
      λ t. subst (λ rs. Member e rs) (sym records) (subst (λ x. Member x (records_of new.now.trees)) (sym is) (h.0 t)),
      λ m. h.1 (subst (λ x. Member x (records_of new.now.trees)) is (subst (λ rs. Member e rs) records m)),
    )
