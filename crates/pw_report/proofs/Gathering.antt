-- There is a list, in order, of what each of some candidates gives.
use Rattle.std.proofs.Common.{◌≡◌, ◌⊎◌, List, [], ◌∷◌, ap, sym, subst, ◌∙◌, refl, inl, inr}
use Rattle.std.specs.Cmp.{IsTotalOrder}
use Rattle.std.specs.Ordering.{ordering_reverse}
use Rattle.std.specs.declared.cmp.Ordering.{Ordering}
use Rattle.std.specs.declared.cmp.Ordering.TheVariants.{Less, Equal, Greater}
use Rattle.pw_model.specs.Counting.{Member}
use Rattle.pw_model.specs.Lists.{IsBeforeAll, IsInOrder, Lists}
use Rattle.pw_model.proofs.EntryOrder.{before-all}
use Rattle.pw_model.proofs.InOrder.{before-member}

order-cases : (o : Ordering) → (o ≡ Less) ⊎ ((o ≡ Equal) ⊎ (o ≡ Greater))
order-cases Less = inl refl
order-cases Equal = inr (inl refl)
order-cases Greater = inr (inr refl)

before-later : {X : Type 0} (order : X → X → Ordering) → IsTotalOrder order → (x y : X) (ys : List X) → order x y ≡ Less → IsBeforeAll order y ys → IsBeforeAll order x ys
before-later order o x y [] h b = tt
before-later order o x y (z ∷ ys) h b = (o.trans x y z h b.0, before-later order o x y ys h b.1)

-- ---- one more in its place
put : {X : Type 0} (order : X → X → Ordering) → IsTotalOrder order → (x : X) (xs : List X) → IsInOrder order xs →
    ((y : X) → Member y xs → order x y ≡ Equal → x ≡ y) → (ys : List X) × Lists order (λ z. (z ≡ x) ⊎ Member z xs) ys
put order o x [] up one = (x ∷ [], record { rising = (tt, tt); members = λ z. (λ m. m, λ m. m) })
put {X} order o x (y ∷ xs) up one =
    elim (order-cases (order x y)) [
      | inl l ↦ (x ∷ y ∷ xs, record { rising = ((l, before-later order o x y xs l up.0), up); members = λ z. (λ m. m, λ m. m) })
      | inr (inl q) ↦ (
        y ∷ xs,
        record {
          rising = up;
          members = λ z. (λ m. inr m, λ m. elim m [ inl i ↦ inl (i ∙ one y (inl refl) q) | inr j ↦ j ]);
        },
      )
      | inr (inr g) ↦ (
          let r : (ys : List X) × Lists order (λ z. (z ≡ x) ⊎ Member z xs) ys = put order o x xs up.1 (λ z m. one z (inr m)) in
          let back : order y x ≡ Less = o.antisymm y x ∙ ap ordering_reverse g in (
            y ∷ r.0,
            record {
              rising = (
                before-all order y r.0 (λ z m. elim ((r.1.members z).0 m) [
                  | inl i ↦ (let P : X → Type 0 = λ v. order y v ≡ Less in subst P (sym i) back)
                  | inr k ↦ before-member order y z xs up.0 k
                ]),
                r.1.rising,
              );
              members = λ z. (
                λ m. elim m [ inl i ↦ inr (inl i) | inr k ↦ elim ((r.1.members z).0 k) [ inl i ↦ inl i | inr j ↦ inr (inr j) ] ],
                λ m. elim m [ inl i ↦ inr ((r.1.members z).1 (inl i)) | inr k ↦ elim k [ inl i ↦ inl i | inr j ↦ inr ((r.1.members z).1 (inr j)) ] ],
              );
            },
          ))
    ]

-- ---- of each candidate what it gives, if it gives something
abbrev pub Gives : {C X : Type 0} → (X → Type 0) → (C → X → Type 0) → C → Type 0
Gives {C} {X} P Of c = ((x : X) × P x × Of c x × ((y : X) → P y → Of c y → y ≡ x)) ⊎ ((y : X) → P y → Of c y → ⊥)

abbrev Among : {C X : Type 0} → (X → Type 0) → (C → X → Type 0) → List C → X → Type 0
Among {C} {X} P Of cs x = P x × ((c : C) × Member c cs × Of c x)

gather : {C X : Type 0} (order : X → X → Ordering) → IsTotalOrder order → (P : X → Type 0) (Of : C → X → Type 0) →
    ((x y : X) → P x → P y → order x y ≡ Equal → x ≡ y) → ((c : C) → Gives P Of c) → (cs : List C) →
    (xs : List X) × Lists order (Among P Of cs) xs
gather order o P Of one known [] = ([], record { rising = tt; members = λ x. (λ m. absurd m, λ m. absurd m.1.1) })
gather {C} {X} order o P Of one known (c ∷ cs) =
    let r : (xs : List X) × Lists order (Among P Of cs) xs = gather order o P Of one known cs in
    elim (known c) [
      | inl f ↦ (
          let p = put order o f.0 r.0 r.1.rising (λ y m. one f.0 y f.1 ((r.1.members y).0 m).0) in (
            p.0,
            record {
              rising = p.1.rising;
              members = λ z. (
                λ m. elim ((p.1.members z).0 m) [
                  | inl i ↦ subst (Among P Of (c ∷ cs)) (sym i) (f.1, (c, inl refl, f.2))
                  | inr k ↦ (let a = (r.1.members z).0 k in (a.0, (a.1.0, inr a.1.1, a.1.2)))
                ],
                λ a. elim a.1.1 [
                  | inl i ↦ (p.1.members z).1 (inl (f.3 z a.0 (let Q : C → Type 0 = λ d. Of d z in subst Q i a.1.2)))
                  | inr k ↦ (p.1.members z).1 (inr ((r.1.members z).1 (a.0, (a.1.0, k, a.1.2))))
                ],
              );
            },
          ))
      | inr n ↦ (
        r.0,
        record {
          rising = r.1.rising;
          members = λ z. (
            λ m. (let a = (r.1.members z).0 m in (a.0, (a.1.0, inr a.1.1, a.1.2))),
            λ a. elim a.1.1 [
              | inl i ↦ absurd (n z a.0 (let Q : C → Type 0 = λ d. Of d z in subst Q i a.1.2))
              | inr k ↦ (r.1.members z).1 (a.0, (a.1.0, k, a.1.2))
            ],
          );
        },
      )
    ]

-- so there is a list of all, where each is given by a candidate
pub all-gathered : {C X : Type 0} (order : X → X → Ordering) → IsTotalOrder order → (P : X → Type 0) (Of : C → X → Type 0) →
    ((x y : X) → P x → P y → order x y ≡ Equal → x ≡ y) → ((c : C) → Gives P Of c) → (cs : List C) →
    ((x : X) → P x → (c : C) × Member c cs × Of c x) → (xs : List X) × Lists order P xs
all-gathered order o P Of one known cs each =
    let r = gather order o P Of one known cs in (
      r.0,
      record {
        rising = r.1.rising;
        members = λ x. (λ m. ((r.1.members x).0 m).0, λ p. (r.1.members x).1 (p, each x p));
      },
    )
