-- Of two fronts of a body one is the beginning of the other.
use Rattle.std.proofs.Common.{◌≡◌, ℕ, List, [], ◌∷◌, ◌++◌, Result, Ok, Err, length, drop, refl, sym, ap, subst, arith}
use Rattle.std.proofs.lemmas.List.{append-nil, drop_all}
use Rattle.pw_frame.specs.declared.frame.FrameFault.{FrameFault}
use Rattle.pw_frame.specs.Frame.{FrameText, Whole}
use Rattle.pw_frame.specs.Body.{FramesFrom, Front, BodyReading, BodyFault}
use Rattle.pw_frame.proofs.Unique.{one_text}
use Rattle.pw_frame.proofs.Fronts.{one_gap, one_next}
use Rattle.pw_frame.proofs.OneOutcome.{one_outcome}

-- no whole frame stands at a place
abbrev pub Stops : List ℕ → ℕ → Type 0
Stops body place = (frame : FrameText) (size : ℕ) → Whole (drop place body) frame size → ⊥

pub stops-at-end : (body : List ℕ) → Stops body (length body)
stops-at-end body frame size w =
    let none : drop (length body) body ≡ [] = drop_all (length body) body (omega arith) in
    let there : Whole [] frame size = subst (λ (r : List ℕ). Whole r frame size) none w in
    let slash : 0 ≡ 47 = there.framed.head.header.slash in
    omega (arith, slash)

-- ---- frames that reach to a place behind which no frame stands
frames-behind : (body : List ℕ) (fs gs : List FrameText) (from p q : ℕ) → FramesFrom body from fs p → Stops body p → FramesFrom body from gs q
    → (rest : List FrameText) × (fs ≡ gs ++ rest)
frames-behind body fs [] from p q x m y = (fs, refl)
frames-behind body [] (g ∷ gs) from p q x m y = absurd (m g y.1.size (subst (λ (k : ℕ). Whole (drop k body) g y.1.size) x y.1.whole))
frames-behind body (f ∷ fs) (g ∷ gs) from p q x m y =
    let first : f ≡ g = one_text (drop from body) f g _ _ x.1.whole y.1.whole in
    let next : x.0 ≡ y.0 = one_next body from x.0 y.0 f g x.1 y.1 in
    let there : FramesFrom body y.0 fs p = subst (λ (k : ℕ). FramesFrom body k fs p) next x.2 in
    let more : (rest : List FrameText) × (fs ≡ gs ++ rest) = frames-behind body fs gs y.0 p q there m y.2 in
    let same : f ∷ fs ≡ g ∷ (gs ++ more.0) = cc (first, more.1) in
    (more.0, same)

-- the start of a front is one
from-start : (body : List ℕ) (fs gs : List FrameText) (p q : ℕ) → (x : Front body fs p) → (y : Front body gs q) → FramesFrom body y.start fs p
from-start body fs gs p q x y = subst (λ (k : ℕ). FramesFrom body k fs p) (one_gap body 0 x.start y.start x.gap y.gap) x.frames_are

pub front-behind : (body : List ℕ) (fs gs : List FrameText) (p q : ℕ) → Front body fs p → Stops body p → Front body gs q → (rest : List FrameText) × (fs ≡ gs ++ rest)
front-behind body fs gs p q x m y = frames-behind body fs gs y.start p q (from-start body fs gs p q x y) m y.frames_are

-- ---- any two
frames-compared : (body : List ℕ) (fs gs : List FrameText) (from p q : ℕ) → FramesFrom body from fs p → FramesFrom body from gs q
    → (xs : List FrameText) × (ys : List FrameText) × (fs ++ xs ≡ gs ++ ys)
frames-compared body [] gs from p q x y = (gs, [], sym (append-nil gs))
frames-compared body (f ∷ fs) [] from p q x y = ([], f ∷ fs, append-nil (f ∷ fs))
frames-compared body (f ∷ fs) (g ∷ gs) from p q x y =
    let first : f ≡ g = one_text (drop from body) f g _ _ x.1.whole y.1.whole in
    let next : x.0 ≡ y.0 = one_next body from x.0 y.0 f g x.1 y.1 in
    let there : FramesFrom body y.0 fs p = subst (λ (k : ℕ). FramesFrom body k fs p) next x.2 in
    let more : (xs : List FrameText) × (ys : List FrameText) × (fs ++ xs ≡ gs ++ ys) = frames-compared body fs gs y.0 p q there y.2 in
    let same : f ∷ (fs ++ more.0) ≡ g ∷ (gs ++ more.1) = cc (first, more.2) in
    (more.0, more.1, same)

pub front-compared : (body : List ℕ) (fs gs : List FrameText) (p q : ℕ) → Front body fs p → Front body gs q → (xs : List FrameText) × (ys : List FrameText) × (fs ++ xs ≡ gs ++ ys)
front-compared body fs gs p q x y = frames-compared body fs gs y.start p q (from-start body fs gs p q x y) y.frames_are

-- ---- one reading or one fault
abbrev Outcome : Type 0
Outcome = Result (List FrameText) (List FrameText × FrameFault)

abbrev read : List FrameText → Outcome
read frames = Ok frames

abbrev refused : List FrameText → FrameFault → Outcome
refused frames fault = Err (frames, fault)

abbrev frames_of : Outcome → List FrameText
frames_of (Ok frames) = frames
frames_of (Err both) = both.0

abbrev fault_of : FrameFault → Outcome → FrameFault
fault_of otherwise (Ok frames) = otherwise
fault_of otherwise (Err both) = both.1

same-refused : (fs gs : List FrameText) (f g : FrameFault) → refused fs f ≡ refused gs g → (fs ≡ gs) × (f ≡ g)
same-refused fs gs f g e = (ap frames_of e, ap (fault_of f) e)

read-or-refused : (fs gs : List FrameText) (g : FrameFault) → read fs ≡ refused gs g → ⊥
read-or-refused fs gs g e = cc

pub one-reading : (body : List ℕ) (fs gs : List FrameText) → BodyReading body fs → BodyReading body gs → fs ≡ gs
one-reading body fs gs x y = ap frames_of (one_outcome body (read fs) (read gs) x y)

pub reading-or-fault : (body : List ℕ) (fs gs : List FrameText) (g : FrameFault) → BodyReading body fs → BodyFault body gs g → ⊥
reading-or-fault body fs gs g x y = read-or-refused fs gs g (one_outcome body (read fs) (refused gs g) x y)

pub one-fault : (body : List ℕ) (fs gs : List FrameText) (f g : FrameFault) → BodyFault body fs f → BodyFault body gs g → (fs ≡ gs) × (f ≡ g)
one-fault body fs gs f g x y = same-refused fs gs f g (one_outcome body (refused fs f) (refused gs g) x y)
