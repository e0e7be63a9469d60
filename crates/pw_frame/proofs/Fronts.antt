-- Fronts: a list of frames stands up to one place, each frame takes room, and a further frame or a fault behind it.
use Rattle.std.proofs.Common.{◌≡◌, ℕ, ◌+◌, ◌<◌, ◌≤◌, List, [], ◌∷◌, ◌++◌, length, drop, refl, sym, ◌∙◌, subst, arith}
use Rattle.pw_frame.specs.declared.frame.Kind.{Kind}
use Rattle.pw_frame.specs.declared.frame.Kind.TheVariants.{Telegram, Readout}
use Rattle.pw_frame.specs.declared.frame.FrameFault.{FrameFault}
use Rattle.pw_frame.specs.Frame.{FrameText, Whole, ending_size}
use Rattle.pw_frame.specs.FirstFault.{IsFault}
use Rattle.pw_frame.specs.Body.{PairAt, PairsBetween, NextFrame, FramesFrom, Front, BodyFault}
use Rattle.pw_frame.proofs.Unique.{same_place, one_size}
use Rattle.pw_frame.proofs.NoFault.{no_whole}

gap_before : (body : List ℕ) (from a b : ℕ) → (x : PairsBetween body from a) → (y : PairsBetween body from b) → x.count < y.count → ⊥
gap_before body from a b x y l = x.more (subst (PairAt body) (sym x.place) (y.pairs x.count l))

pub one_gap : (body : List ℕ) (from a b : ℕ) → PairsBetween body from a → PairsBetween body from b → a ≡ b
one_gap body from a b x y =
    let e : x.count ≡ y.count = same_place x.count y.count (gap_before body from a b x y) (gap_before body from b a y x) in
    omega (arith, e, x.place, y.place)

pub one_next : (body : List ℕ) (from a b : ℕ) (f g : FrameText) → NextFrame body from f a → NextFrame body from g b → a ≡ b
one_next body from a b f g x y =
    one_gap body (from + x.size) a b x.gap (subst (λ (s : ℕ). PairsBetween body (from + s) b) (one_size (drop from body) g f y.size x.size y.whole x.whole) y.gap)

one_stop : (body : List ℕ) (fs : List FrameText) (from a b : ℕ) → FramesFrom body from fs a → FramesFrom body from fs b → a ≡ b
one_stop body [] from a b x y = sym x ∙ y
one_stop body (f ∷ fs) from a b x y =
    one_stop body fs y.0 a b (subst (λ (n : ℕ). FramesFrom body n fs a) (one_next body from x.0 y.0 f f x.1 y.1) x.2) y.2

pub one_front : (body : List ℕ) (fs : List FrameText) (a b : ℕ) → Front body fs a → Front body fs b → a ≡ b
one_front body fs a b x y =
    one_stop body fs y.start a b (subst (λ (n : ℕ). FramesFrom body n fs a) (one_gap body 0 x.start y.start x.gap y.gap) x.frames_are) y.frames_are

-- frames take room
ending_some : (kind : Kind) → 0 < ending_size kind
ending_some Telegram = omega arith
ending_some Readout = omega arith

pub next_rises : (body : List ℕ) (from to : ℕ) (f : FrameText) → NextFrame body from f to → from < to
next_rises body from to f x = omega (arith, ending_some f.kind, x.whole.whole, x.gap.place)

frames_rise : (body : List ℕ) (fs : List FrameText) (from to : ℕ) → FramesFrom body from fs to → from ≤ to
frames_rise body [] from to x = omega (arith, x)
frames_rise body (f ∷ fs) from to x =
    let first : from < x.0 = next_rises body from x.0 f x.1 in
    let others : x.0 ≤ to = frames_rise body fs x.0 to x.2 in
    omega arith

frames_rise_more : (body : List ℕ) (fs : List FrameText) (from to : ℕ) → (fs ≡ [] → ⊥) → FramesFrom body from fs to → from < to
frames_rise_more body [] from to n x = absurd (n refl)
frames_rise_more body (f ∷ fs) from to n x =
    let first : from < x.0 = next_rises body from x.0 f x.1 in
    let others : x.0 ≤ to = frames_rise body fs x.0 to x.2 in
    omega arith

pub front_rises : (body : List ℕ) (fs : List FrameText) (first place : ℕ) → PairsBetween body 0 first → (fs ≡ [] → ⊥) → Front body fs place → first < place
front_rises body fs first place g n x =
    let e : first ≡ x.start = one_gap body 0 first x.start g x.gap in
    let l : x.start < place = frames_rise_more body fs x.start place n x.frames_are in
    omega arith

pub front_some : (body : List ℕ) (fs : List FrameText) (first place : ℕ) → PairsBetween body 0 first → first < place → Front body fs place → fs ≡ [] → ⊥
front_some body [] first place g l x n =
    let e : first ≡ x.start = one_gap body 0 first x.start g x.gap in
    omega (arith, e, x.frames_are)
front_some body (f ∷ fs) first place g l x n = cc

-- one frame more
frames_push : (body : List ℕ) (fs : List FrameText) (f : FrameText) (from mid to : ℕ) → FramesFrom body from fs mid → NextFrame body mid f to → FramesFrom body from (fs ++ f ∷ []) to
frames_push body [] f from mid to x y = (to, subst (λ (n : ℕ). NextFrame body n f to) (sym x) y, refl)
frames_push body (g ∷ fs) f from mid to x y = (x.0, x.1, frames_push body fs f x.0 mid to x.2 y)

pub front_push : (body : List ℕ) (fs : List FrameText) (f : FrameText) (mid to size : ℕ) → Front body fs mid → Whole (drop mid body) f size → PairsBetween body (mid + size) to → Front body (fs ++ f ∷ []) to
front_push body fs f mid to size x w g = record {
  start = x.start;
  gap = x.gap;
  frames_are = frames_push body fs f x.start mid to x.frames_are (record { size = size; whole = w; gap = g });
}

pub front_fault : (body : List ℕ) (fs : List FrameText) (first place : ℕ) (fault : FrameFault) → PairsBetween body 0 first
    → Front body fs place → IsFault (drop place body) place fault → (place ≡ length body → place ≤ first) → BodyFault body fs fault
front_fault body fs first place fault g x h last = record {
  place = place;
  front = x;
  no_frame = λ f s w. no_whole (drop place body) place fault f s h w;
  no_reading = λ r.
      let e : place ≡ length body = one_front body fs place (length body) x r.front in
      let l : first < place = front_rises body fs first place g r.some x in
      let m : place ≤ first = last e in
      omega arith;
  first = h;
}

-- one frame more takes room
last_rises : (body : List ℕ) (fs : List FrameText) (f : FrameText) (from p q : ℕ) → FramesFrom body from fs p → FramesFrom body from (fs ++ f ∷ []) q → p < q
last_rises body [] f from p q x y =
    let first : from < y.0 = next_rises body from y.0 f y.1 in
    omega (arith, first, x, y.2)
last_rises body (g ∷ fs) f from p q x y =
    last_rises body fs f y.0 p q (subst (λ (k : ℕ). FramesFrom body k fs p) (one_next body from x.0 y.0 g g x.1 y.1) x.2) y.2

pub front_more_rises : (body : List ℕ) (fs : List FrameText) (f : FrameText) (p q : ℕ) → Front body fs p → Front body (fs ++ f ∷ []) q → p < q
front_more_rises body fs f p q x y =
    last_rises body fs f y.start p q (subst (λ (k : ℕ). FramesFrom body k fs p) (one_gap body 0 x.start y.start x.gap y.gap) x.frames_are) y.frames_are
