-- The entries of an upload that aren't held.
use Rattle.std.proofs.Common.{◌≡◌, ℕ, ◌+◌, ◌<◌, ◌≤◌, Bool, true, false, cond, not, List, [], ◌∷◌, ◌++◌, length, take, get_or, refl, ap, sym, ◌∙◌, inl, inr, arith}
use Rattle.std.proofs.lemmas.Bool.{cases_Bool, true≢false}
use Rattle.std.proofs.lemmas.List.{append-nil}
use Rattle.std.proofs.lemmas.List.Elements.{filter_more}
use Rattle.pw_model.specs.declared.records.Entry.{Entry}
use Rattle.pw_model.specs.Counting.{Member, EachOnce, SameMembers}
use Rattle.pw_model.specs.Payments.{stands_in}
use Rattle.pw_model.specs.Same.{same_entry}
use Rattle.pw_model.proofs.Once.{stands-decides}
use Rattle.pw_model.proofs.Places.{member-left, member-right, member-split}
use Rattle.pw_model.proofs.Same.{same_entry-decides}
use Rattle.pw_book.specs.Posting.{fresh_in, fresh_of}
use Rattle.pw_book.specs.inner.Fresh.{AreFresh}
use Rattle.pw_book.proofs.EachOne.{once-step}
use Rattle.pw_model.proofs.Filtered.{filtered-member, filtered-once, member-filtered}

module _ (held : List Entry) where
  abbrev pub is_fresh : Entry → Bool
  is_fresh e = not (stands_in same_entry e held)

  pub stands : (e : Entry) → (stands_in same_entry e held ≡ true → Member e held) × (Member e held → stands_in same_entry e held ≡ true)
  stands e = stands-decides same_entry same_entry-decides (λ x. 0) e held

  fresh-apart : (e : Entry) → is_fresh e ≡ true → Member e held → ⊥
  fresh-apart e t m = true≢false (sym t ∙ ap not ((stands e).1 m))

  -- they stand once each, and none is held
  pub are-fresh : (xs : List Entry) → EachOnce xs → AreFresh held (fresh_of held xs)
  are-fresh xs o = record {
    once = filtered-once is_fresh xs o;
    apart = λ e m. fresh-apart e (filtered-member is_fresh xs e m).1;
  }

  -- as many as are counted
  pub fresh-length : (xs : List Entry) → EachOnce xs → length (fresh_of held xs) ≡ fresh_in held xs
  fresh-length [] o = refl
  fresh-length (x ∷ xs) o =
      let s = once-step (λ e. cond (stands_in same_entry e held) 0 1) x xs o.0 in
      let r = fresh-length xs o.1 in
      elim (cases_Bool (stands_in same_entry x held)) [
        | inl t ↦ (let u = rw t at s in rw t (omega (arith, u, r)))
        | inr f ↦ (let u = rw f at s in rw f (omega (arith, u, r)))
      ]

  -- with those held they are all
  pub fresh-joined : (entries distinct : List Entry) → SameMembers distinct entries → SameMembers (held ++ fresh_of held distinct) (held ++ entries)
  fresh-joined entries distinct h e = (
    λ m. elim (member-split e held (fresh_of held distinct) m) [
      | inl k ↦ member-left e held entries k
      | inr f ↦ member-right e held entries ((h e).0 (filtered-member is_fresh distinct e f).0)
    ],
    λ m. elim (member-split e held entries m) [
      | inl k ↦ member-left e held (fresh_of held distinct) k
      | inr i ↦ elim (cases_Bool (stands_in same_entry e held)) [
        | inl t ↦ member-left e held (fresh_of held distinct) ((stands e).0 t)
        | inr f ↦ member-right e held (fresh_of held distinct) (member-filtered is_fresh distinct e ((h e).1 i) (ap not f))
      ]
    ],
  )

  -- ---- one entry more is looked up
  turned : (b : Bool) (e : Entry) → let none : List Entry = [] in cond b none (e ∷ []) ≡ cond (not b) (e ∷ []) none
  turned true e = refl
  turned false e = refl

  pub fresh-more : (xs : List Entry) (i : ℕ) (e : Entry) (was now : List Entry) (b : Bool) → i < length xs → e ≡ get_or xs i e → b ≡ stands_in same_entry e held →
      was ≡ fresh_of held (take i xs) → now ≡ was ++ cond b [] (e ∷ []) → now ≡ fresh_of held (take (i + 1) xs)
  fresh-more xs i e was now b l g s w n =
      n ∙ ap (λ (l : List Entry). l ++ cond b [] (e ∷ [])) w
      ∙ ap (λ (l : List Entry). fresh_of held (take i xs) ++ l) (turned b e ∙ ap (λ (c : Bool). cond (not c) (e ∷ []) []) s)
      ∙ ap (λ (x : Entry). fresh_of held (take i xs) ++ cond (is_fresh x) (x ∷ []) []) g
      ∙ sym (filter_more is_fresh xs i e l)

-- it is held
pub passed : (was now : List Entry) (e : Entry) (b : Bool) → b ≡ true → now ≡ was → now ≡ was ++ cond b [] (e ∷ [])
passed was now e b h n = n ∙ sym (append-nil was) ∙ ap (λ (x : Bool). was ++ cond x [] (e ∷ [])) (sym h)

-- it isn't
pub put : (was now : List Entry) (e : Entry) (b : Bool) → b ≡ false → now ≡ was ++ e ∷ [] → now ≡ was ++ cond b [] (e ∷ [])
put was now e b h n = n ∙ ap (λ (x : Bool). was ++ cond x [] (e ∷ [])) (sym h)

-- one more at most
pub one-more : (was : List Entry) (e : Entry) (b : Bool) → length (was ++ cond b [] (e ∷ [])) ≤ length was + 1
one-more [] e true = omega arith
one-more [] e false = omega arith
one-more (x ∷ xs) e b = let r = one-more xs e b in omega (arith, r)

pub the-one : (x e : Entry) (b : Bool) → let none : List Entry = [] in Member x (cond b none (e ∷ none)) → x ≡ e
the-one x e true m = absurd m
the-one x e false (inl i) = i
the-one x e false (inr m) = absurd m
