-- What a change of a map of peers leaves at each number.
use Rattle.std.proofs.Common.{◌≡◌, ◌≢◌, ℕ, List, Option, Some, None, Result, Ok, Err, true, false, refl, sym, ap, ◌∙◌, ◌⊎◌, inl, inr, subst}
use Rattle.std.specs.BTreeMap.{BTreeMap, IsEmpty, IsUnchanged, Updates, get, is_at}
use Rattle.std.specs.Ordering.{is_eq, nat_cmp}
use Rattle.std.specs.declared.cmp.Ordering.{Ordering}
use Rattle.std.specs.declared.cmp.Ordering.TheVariants.{Less, Equal, Greater}
use Rattle.std.specs.Map.{lookup}
use Rattle.std.specs.Option.{is_some}
use Rattle.std.specs.Result.{OnErr, OnOk, is_err}
use Rattle.std.proofs.lemmas.Bool.{cases_eq, true≢false}
use Rattle.std.proofs.lemmas.Map.Lookups.{exact_unsigned}
use Rattle.pw_serve.specs.declared.peer.Peer.{Peer}
use Rattle.pw_serve.specs.inner.Now.{AreSame, HaveLooked, IsSet, Peers}
use Rattle.pw_serve.specs.inner.Peers.{HasLooked}

not_equal : (o : Ordering) → (o ≡ Equal → ⊥) → is_eq o ≡ false
not_equal Less h = refl
not_equal Equal h = absurd (h refl)
not_equal Greater h = refl

apart : (k j : ℕ) → j ≢ k → is_at (nat_cmp k) j ≡ false
apart k j d = not_equal (nat_cmp k j) (λ e. d (sym (exact_unsigned k j e)))

pub set_by : (k : ℕ) (m n : BTreeMap ℕ Peer) (w : Option Peer) → Updates nat_cmp m n k w → IsSet k w (get nat_cmp m) (get nat_cmp n)
set_by k m n w u = record { one = u.1; others = λ j d. u.2 j (apart k j d) }

pub none_in_empty : (m : BTreeMap ℕ Peer) → IsEmpty m → (j : ℕ) → get nat_cmp m j ≡ None
none_in_empty m e j = ap (λ (es : List (ℕ × Peer)). lookup (is_at (nat_cmp j)) es) e

pub same_rows : (m n : BTreeMap ℕ Peer) → IsUnchanged m n → AreSame (get nat_cmp m) (get nat_cmp n)
same_rows m n e j = ap (λ (es : List (ℕ × Peer)). lookup (is_at (nat_cmp j)) es) e

-- a row was put in, or there was no memory for it
pub put_at : {E : Type 0} (r : Result (Option Peer) E) (k : ℕ) (m n : BTreeMap ℕ Peer) (c : Peer) → is_err r ≡ false → OnOk r (Updates nat_cmp m n k (Some c)) → IsSet k (Some c) (get nat_cmp m) (get nat_cmp n)
put_at (Ok old) k m n c e u = set_by k m n (Some c) u
put_at (Err f) k m n c e u = absurd (true≢false e)

pub unfit : {E : Type 0} (r : Result (Option Peer) E) (m n : BTreeMap ℕ Peer) → is_err r ≡ true → OnErr r (IsUnchanged m n) → AreSame (get nat_cmp m) (get nat_cmp n)
unfit (Ok old) m n e u = absurd (true≢false (sym e))
unfit (Err f) m n e u = same_rows m n u

-- a row that is there
pub row_at : (o : Option Peer) → is_some o ≡ true → (c : Peer) × (o ≡ Some c)
row_at None e = absurd (true≢false (sym e))
row_at (Some c) e = (c, refl)

pub rows_are : (m n : BTreeMap ℕ Peer) → n ≡ m → AreSame (get nat_cmp m) (get nat_cmp n)
rows_are m n e j = ap (λ (o : BTreeMap ℕ Peer). get nat_cmp o j) e

-- ---- those that were looked at
some-same : (c d : Peer) (o : Option Peer) → o ≡ Some c → o ≡ Some d → c ≡ d
some-same c d o x y = let z : Some c ≡ Some d = sym x ∙ y in cc

some-none : (c : Peer) (o : Option Peer) → o ≡ None → o ≡ Some c → ⊥
some-none c o x y = let z : None ≡ Some c = sym x ∙ y in cc

pub looked-same : (waits : List ℕ → Type 0) (peers others : Peers) → AreSame peers others → HaveLooked waits peers → HaveLooked waits others
looked-same waits peers others same h = λ j c e. h j c (sym (same j) ∙ e)

-- another one is at k, which was looked at if it says so
pub looked-set : (waits : List ℕ → Type 0) (k : ℕ) (d : Peer) (peers others : Peers) → IsSet k (Some d) peers others → HasLooked waits d → HaveLooked waits peers → HaveLooked waits others
looked-set waits k d peers others set new h = λ j c e. elim (cases_eq j k) [
  | inl same ↦ subst (λ (p : Peer). HasLooked waits p) (some-same d c (others k) set.one (subst (λ (n : ℕ). others n ≡ Some c) same e)) new
  | inr other ↦ h j c (sym (set.others j other) ∙ e)
]

pub looked-gone : (waits : List ℕ → Type 0) (k : ℕ) (peers others : Peers) → IsSet k None peers others → HaveLooked waits peers → HaveLooked waits others
looked-gone waits k peers others set h = λ j c e. elim (cases_eq j k) [
  | inl same ↦ absurd (some-none c (others k) set.one (subst (λ (n : ℕ). others n ≡ Some c) same e))
  | inr other ↦ h j c (sym (set.others j other) ∙ e)
]

pub looked-none : (waits : List ℕ → Type 0) (peers : Peers) → ((j : ℕ) → peers j ≡ None) → HaveLooked waits peers
looked-none waits peers none = λ j c e. absurd (some-none c (peers j) (none j) e)

pub not-looked : (waits : List ℕ → Type 0) (c : Peer) → c.looked ≡ false → HasLooked waits c
not-looked waits c new = λ e. absurd (true≢false (sym e ∙ new))
