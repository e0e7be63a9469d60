-- What is taken and then put is put, and so is what is set, or put where there was nothing to be set.
use Rattle.std.proofs.Common.{◌≡◌, ◌<◌, ℕ, zero, suc, Bool, true, false, cond, Option, IsSome, Result, Ok, Err, OnOk, refl, sym, ◌∙◌, arith}
use Rattle.pw_obis.specs.declared.reference.Register.{Register}
use Rattle.pw_tariff.specs.declared.ids.AccountId.{AccountId}
use Rattle.pw_model.specs.Counting.{reading_key, assignment_key}
use Rattle.pw_model.specs.Same.{same_key}
use Rattle.pw_model.specs.Shelf.{ShelfContent}
use Rattle.pw_shelf.specs.Changes.{with_point, with_start}
use Rattle.pw_store.specs.Kept.{begun_of}
use Rattle.pw_store.specs.inner.Changing.{where_any}

pub once_more : {A : Type 0} (b : Bool) (x y z : A) → cond b x (cond b y z) ≡ cond b x z
once_more true x y z = refl
once_more false x y z = refl

pub point_again : (c : ShelfContent) (m : ℕ) (r : Register) (t : ℕ) (v w : Option ℕ) → with_point (with_point c m r t v) m r t w ≡ with_point c m r t w
point_again c m r t v w = λ i. record c { point = λ n s u. once_more (same_key (reading_key m r t) (reading_key n s u)) w v (c.point n s u) i }

start_again : (c : ShelfContent) (m t : ℕ) (v w : Option (Option AccountId)) → with_start (with_start c m t v) m t w ≡ with_start c m t w
start_again c m t v w = λ i. record c { start = λ n u. once_more (same_key (assignment_key m t) (assignment_key n u)) w v (c.start n u) i }

pub start_if : {A E : Type 0} (r : Result A E) (x c : ShelfContent) (m t : ℕ) (v w : Option (Option AccountId)) → OnOk r (x ≡ with_start (with_start c m t v) m t w) → OnOk r (x ≡ with_start c m t w)
start_if (Ok a) x c m t v w h = h ∙ start_again c m t v w
start_if (Err b) x c m t v w h = tt

-- a total was set in a row, or there was none
pub set_any : (n : ℕ) (x c d : ShelfContent) → 0 < n → x ≡ where_any n c d → x ≡ d
set_any zero x c d some h = absurd (omega (arith, some))
set_any (suc n) x c d some h = h

pub set_none : (n : ℕ) (x c d : ShelfContent) → n ≡ 0 → x ≡ where_any n c d → x ≡ c
set_none zero x c d none h = h
set_none (suc n) x c d none h = absurd (omega (arith, none))

pub is_begun : (begun : Bool) (c : ShelfContent) → IsSome (begun_of begun c) → begun ≡ true
is_begun true c s = refl
is_begun false c s = absurd (let bad : true ≡ false = sym s in cc)
