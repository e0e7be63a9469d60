-- A body has one reading or one fault.
use Rattle.std.proofs.Common.{◌≡◌, ℕ, List, [], ◌∷◌, Result, Ok, Err, length, drop, refl, sym, ap, ◌∙◌, subst, arith}
use Rattle.std.proofs.lemmas.List.{drop_all}
use Rattle.pw_frame.specs.declared.frame.FrameFault.{FrameFault}
use Rattle.pw_frame.specs.Frame.{FrameText, Whole}
use Rattle.pw_frame.specs.FirstFault.{IsFault}
use Rattle.pw_frame.specs.Body.{FramesFrom, Front, BodyReading, BodyFault}
use Rattle.pw_frame.specs.Laws.{IsOutcome, OneOutcome}
use Rattle.pw_frame.proofs.Unique.{one_text}
use Rattle.pw_frame.proofs.Fronts.{one_gap, one_next}
use Rattle.pw_frame.proofs.OneFault.{one_fault}

abbrev Stops : List ℕ → ℕ → Type 0
Stops body p = (f : FrameText) (size : ℕ) → Whole (drop p body) f size → ⊥

stops_at_end : (body : List ℕ) → Stops body (length body)
stops_at_end body f size w =
    let none : drop (length body) body ≡ [] = drop_all (length body) body (omega arith) in
    let w2 : Whole [] f size = subst (λ (r : List ℕ). Whole r f size) none w in
    let bad : 0 ≡ 47 = w2.framed.head.header.slash in
    omega (arith, bad)

one_list : (body : List ℕ) (fs gs : List FrameText) (from p q : ℕ) → FramesFrom body from fs p → Stops body p → FramesFrom body from gs q → Stops body q → (fs ≡ gs) × (p ≡ q)
one_list body [] [] from p q x m y n = (refl, sym x ∙ y)
one_list body [] (g ∷ gs) from p q x m y n = absurd (m g y.1.size (subst (λ (k : ℕ). Whole (drop k body) g y.1.size) x y.1.whole))
one_list body (f ∷ fs) [] from p q x m y n = absurd (n f x.1.size (subst (λ (k : ℕ). Whole (drop k body) f x.1.size) y x.1.whole))
one_list body (f ∷ fs) (g ∷ gs) from p q x m y n =
    let first : f ≡ g = one_text (drop from body) f g _ _ x.1.whole y.1.whole in
    let next : x.0 ≡ y.0 = one_next body from x.0 y.0 f g x.1 y.1 in
    let rest : (fs ≡ gs) × (p ≡ q) = one_list body fs gs y.0 p q (subst (λ (k : ℕ). FramesFrom body k fs p) next x.2) m y.2 n in
    let both : f ∷ fs ≡ g ∷ gs = cc (first, rest.0) in
    (both, rest.1)

pub one_front_list : (body : List ℕ) (fs gs : List FrameText) (p q : ℕ) → Front body fs p → Stops body p → Front body gs q → Stops body q → (fs ≡ gs) × (p ≡ q)
one_front_list body fs gs p q x m y n =
    one_list body fs gs y.start p q (subst (λ (k : ℕ). FramesFrom body k fs p) (one_gap body 0 x.start y.start x.gap y.gap) x.frames_are) m y.frames_are n

-- ---- one outcome

read_refused : (body : List ℕ) (fs gs : List FrameText) (g : FrameFault) → BodyReading body fs → BodyFault body gs g → ⊥
read_refused body fs gs g x y =
    let e : (fs ≡ gs) × (length body ≡ y.place) = one_front_list body fs gs (length body) y.place x.front (stops_at_end body) y.front y.no_frame in
    y.no_reading (subst (BodyReading body) e.0 x)

abbrev with_fault : List FrameText → FrameFault → List FrameText × FrameFault
with_fault fs f = (fs, f)

same_refusal : (fs gs : List FrameText) (f g : FrameFault) → fs ≡ gs → f ≡ g → with_fault fs f ≡ with_fault gs g
same_refusal fs gs f g a b = ap (λ x. with_fault x f) a ∙ ap (with_fault gs) b

pub one_outcome : (body : List ℕ) (a b : Result (List FrameText) (List FrameText × FrameFault)) → IsOutcome body a → IsOutcome body b → a ≡ b
one_outcome body (Ok fs) (Ok gs) x y =
    ap Ok (one_front_list body fs gs (length body) (length body) x.front (stops_at_end body) y.front (stops_at_end body)).0
one_outcome body (Ok fs) (Err g) x y = absurd (read_refused body fs g.0 g.1 x y)
one_outcome body (Err f) (Ok gs) x y = absurd (read_refused body gs f.0 f.1 y x)
one_outcome body (Err f) (Err g) x y =
    let e : (f.0 ≡ g.0) × (x.place ≡ y.place) = one_front_list body f.0 g.0 x.place y.place x.front x.no_frame y.front y.no_frame in
    let same : f.1 ≡ g.1 = one_fault (drop y.place body) y.place f.1 g.1 (subst (λ (k : ℕ). IsFault (drop k body) k f.1) e.1 x.first) y.first in
    ap Err (same_refusal f.0 g.0 f.1 g.1 e.0 same)

pub outcome_read : (body : List ℕ) (fs : List FrameText) → BodyReading body fs → OneOutcome body
outcome_read body fs x = record { outcome = Ok fs; holds = x; only = λ o y. one_outcome body (Ok fs) o x y }

pub outcome_refused : (body : List ℕ) (fs : List FrameText) (f : FrameFault) → BodyFault body fs f → OneOutcome body
outcome_refused body fs f x = record { outcome = Err (fs, f); holds = x; only = λ o y. one_outcome body (Err (fs, f)) o x y }
