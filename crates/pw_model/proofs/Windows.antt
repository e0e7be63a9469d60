-- Which pairs of a register change where a meter has another assignment.
use Rattle.std.proofs.Common.{◌≡◌, ℕ, ◌+◌, ◌<◌, ◌≤◌, Bool, cond, Option, Some, None, List, [], ◌∷◌, ap, sym, ◌∙◌, ⊎_elim, arith}
use Rattle.pw_obis.specs.declared.reference.Register.{Register}
use Rattle.pw_tariff.specs.declared.ids.AccountId.{AccountId}
use Rattle.pw_model.specs.declared.records.Key.{Key}
use Rattle.pw_model.specs.declared.records.Contents.{Contents}
use Rattle.pw_model.specs.Counting.{point, start}
use Rattle.pw_tariff.specs.Office.{OfficeRules}
use Rattle.pw_model.specs.Energy.{Asked, owner_at, asked_seconds}
use Rattle.pw_model.specs.Changes.{OtherStartWindow}
use Rattle.pw_model.specs.Changes.{TakesIn}
use Rattle.pw_model.specs.Changes.{IsOtherStart}
use Rattle.pw_model.proofs.Assignments.{before-start, behind-next}
use Rattle.pw_flow.specs.Flow.{flow}
use Rattle.pw_flow.specs.Energy.{kept, register_energy}
use Rattle.pw_flow.specs.Pairs.{last_of}
use Rattle.pw_flow.specs.Pairs.{Chain}
use Rattle.pw_flow.specs.Pairs.{pairs_sum}
use Rattle.pw_flow.proofs.Pairs.{flow-first, flow-last, energy-window}
use Rattle.pw_flow.proofs.Sums.{kept-nothing}

chain-end : (p : ℕ → Option ℕ) (a : ℕ × ℕ) (ps : List (ℕ × ℕ)) → Chain p a ps → p (last_of a ps).0 ≡ Some (last_of a ps).1
chain-end p a [] h = h
chain-end p a (b ∷ ps) h = chain-end p b ps h.1

no-flow : (k l : ℕ → Bool) (p : ℕ → Option ℕ) (end t : ℕ) → flow p end t ≡ 0 → kept k (flow p end) t ≡ kept l (flow p end) t
no-flow k l p end t h = kept-nothing (k t) (flow p end t) h ∙ sym (kept-nothing (l t) (flow p end t) h)

same-owner : (old new : Key → Contents) (asked : Asked) (m : ℕ) (p : ℕ → Option ℕ) (end t : ℕ) → owner_at old m t ≡ owner_at new m t →
    kept (asked_seconds old asked m) (flow p end) t ≡ kept (asked_seconds new asked m) (flow p end) t
same-owner old new asked m p end t h = ap (λ (o : Option AccountId). cond (asked o t) (flow p end t) 0) h

early-same : (office : OfficeRules) (old new : Key → Contents) (m z : ℕ) → IsOtherStart old new m z → (r : Register) (asked : Asked) (a : ℕ × ℕ) (ps : List (ℕ × ℕ)) → TakesIn old m r z a ps → (t : ℕ) → t < a.0 →
    kept (asked_seconds old asked m) (flow (point old m r) office.end) t ≡ kept (asked_seconds new asked m) (flow (point old m r) office.end) t
early-same office old new m z h r asked a ps w t l =
    ⊎_elim
    (λ (b : a.0 ≤ z). same-owner old new asked m (point old m r) office.end t (before-start old new m z h t (omega arith)))
    (λ (n : (s : ℕ) → s < a.0 → point old m r s ≡ None). no-flow (asked_seconds old asked m) (asked_seconds new asked m) (point old m r) office.end t (flow-first (point old m r) office.end t (λ s k. n s (omega arith))))
    w.begins

late-same : (office : OfficeRules) (old new : Key → Contents) (m z : ℕ) → IsOtherStart old new m z → (r : Register) (asked : Asked) (a : ℕ × ℕ) (ps : List (ℕ × ℕ)) → TakesIn old m r z a ps → (t : ℕ) → (last_of a ps).0 ≤ t →
    kept (asked_seconds old asked m) (flow (point old m r) office.end) t ≡ kept (asked_seconds new asked m) (flow (point old m r) office.end) t
late-same office old new m z h r asked a ps w t l =
    ⊎_elim
    (λ (e : (y : ℕ) × (o : Option AccountId) × (start old m y ≡ Some o) × (z < y) × (y ≤ (last_of a ps).0)).
    same-owner old new asked m (point old m r) office.end t (behind-next old new m z h e.0 t e.1 e.2 e.3 (omega (arith, e.4, l))))
    (λ (n : (s : ℕ) → (last_of a ps).0 < s → point old m r s ≡ None).
    no-flow (asked_seconds old asked m) (asked_seconds new asked m) (point old m r) office.end t
    (flow-last (point old m r) office.end (last_of a ps).0 t (last_of a ps).1 n l (chain-end (point old m r) a ps w.chain)))
    w.ends

pub other-window : OtherStartWindow
other-window office old new m z h r asked a ps w l =
    let same : point old m r ≡ point new m r = λ i. h.points i m r in
    energy-window (asked_seconds old asked m) (asked_seconds new asked m) (point old m r) office.end a ps w.chain l
    (early-same office old new m z h r asked a ps w) (late-same office old new m z h r asked a ps w)
    ∙ ap (λ (p : ℕ → Option ℕ). register_energy (asked_seconds new asked m) p office.end + pairs_sum (asked_seconds old asked m) (a ∷ ps)) same
