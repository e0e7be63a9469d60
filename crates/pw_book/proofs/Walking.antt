-- Changes that are walked in the order of their totals.
use Rattle.std.proofs.Common.{◌≡◌, ℕ, ◌+◌, ◌*◌, ◌<◌, ◌≤◌, ◌⊎◌, ◌↔◌, Bool, IsTrue, false, Option, Some, None, List, [], ◌∷◌, length, Ordering, Less, Equal, Greater, refl, ap, sym, subst, ◌∙◌, arith, inl, inr}
use Rattle.std.specs.FinMap.{nat_cmp-IsAntisymmetric}
use Rattle.std.specs.List.{AllByRecursion}
use Rattle.std.specs.List.Sorted.{IsStrictlySortedBy}
use Rattle.std.specs.Map.{keys_of, lookup}
use Rattle.std.specs.BTreeMap.{BTreeMap, IsOrdered, btree_map_len, get, is_at}
use Rattle.std.specs.Ordering.{is_eq, nat_cmp, ordering_then}
use Rattle.std.proofs.lemmas.Bool.{cases_Bool, true≢false}
use Rattle.std.proofs.lemmas.Cmp.{tied_itself}
use Rattle.std.proofs.lemmas.Nat.{mul-add-lt, row_fits}
use Rattle.pw_tariff.specs.declared.ids.AccountId.{AccountId}
use Rattle.pw_tariff.specs.declared.ids.BandId.{BandId}
use Rattle.pw_tariff.specs.declared.ids.PeriodId.{PeriodId}
use Rattle.pw_tariff.specs.declared.ids.Direction.{Direction}
use Rattle.pw_tariff.specs.declared.ids.Direction.TheVariants.{Import, Export}
use Rattle.pw_tariff.specs.Cells.{owner_place}
use Rattle.pw_model.specs.contracts.records.TotalKeyOrd.TheImpl.Laws as total_laws
use Rattle.pw_model.specs.declared.records.TotalKey.{TotalKey}
use Rattle.pw_model.specs.declared.records.TotalKey.TheVariants.{Energy, TopUps}
use Rattle.pw_model.specs.Counting.{Member}
use Rattle.pw_model.specs.Office.{HasOwner}
use Rattle.pw_model.specs.Same.{direction_place, total_key_order, total_numbers, total_order, same_total}
use Rattle.pw_model.specs.Shelf.{ShelfContent}
use Rattle.pw_model.proofs.InKeyOrder.{totals-ordered}
use Rattle.pw_parts.proofs.Chart.{less-is}
use Rattle.pw_parts.proofs.Kept.{all-key, member-lookup}
use Rattle.pw_tariff.specs.Office.{OfficeRules}
use Rattle.pw_parts.specs.declared.changes.Change.{Change}
use Rattle.pw_parts.specs.declared.changes.Side.{Side}
use Rattle.pw_parts.specs.declared.changes.Side.TheVariants.{Gains, Loses}
use Rattle.pw_book.specs.Cost.{classes_of}
use Rattle.pw_book.specs.inner.Gathered.{due}
use Rattle.pw_book.specs.inner.Moves.{MovesTotals, OfOwners}
use Rattle.pw_parts.specs.Changes.{amount_told, gathered}
use Rattle.pw_book.proofs.Changing.{moves-at, moves-none, moves-then, moves-told, of-owners}
use Rattle.pw_model.proofs.TotalKeys.{same_total-decides, total-tested}

-- ---- the changes that are still to come
-- none of them is the total's
abbrev pub IsApart : TotalKey → List (TotalKey × Change) → Type 0
IsApart k [] = Unit {0}
IsApart k (e ∷ es) = (e.0 ≡ k → ⊥) × IsApart k es

-- the last ones of a map's rows, in their order
pub record IsRest (rows : BTreeMap TotalKey Change) (rest : List (TotalKey × Change)) : Type 0 where
  pub rises : IsStrictlySortedBy total_key_order (keys_of rest)
  pub held : (e : TotalKey × Change) → Member e rest → get total_key_order rows e.0 ≡ Some e.1

-- at first, all of them
pub rest-all : (rows : BTreeMap TotalKey Change) (rest : List (TotalKey × Change)) → IsOrdered total_key_order rows → rest ≡ rows.entries → IsRest rows rest
rest-all rows rest s e =
    let P : List (TotalKey × Change) → Type 0 = λ es. IsRest rows es in
    subst P (sym e) (record { rises = s; held = λ t m. member-lookup rows.entries s t m })

-- one behind another
-- as the iterator gives it
pub rest-same : (rows : BTreeMap TotalKey Change) {es fs : List (TotalKey × Change)} → es ≡ fs → IsRest rows es → IsRest rows fs
rest-same rows e r = let P : List (TotalKey × Change) → Type 0 = λ xs. IsRest rows xs in subst P e r

pub rest-next : (rows : BTreeMap TotalKey Change) (e : TotalKey × Change) (rest : List (TotalKey × Change)) → IsRest rows (e ∷ rest) → IsRest rows rest
unfolding IsStrictlySortedBy
rest-next rows e rest r = record { rises = r.rises.1; held = λ t m. r.held t (inr m) }

-- what is gathered for the first of them
pub first-gathered : (side : Side) (rows : BTreeMap TotalKey Change) (e : TotalKey × Change) (rest : List (TotalKey × Change)) → IsRest rows (e ∷ rest) → amount_told side (Some e.1) ≡ gathered side rows e.0
first-gathered side rows e rest r = ap (amount_told side) (sym (r.held e (inl refl)))

-- where none is a total's, nothing is gathered for it
apart-none : (k : TotalKey) (es : List (TotalKey × Change)) → IsApart k es → lookup (is_at (total_key_order k)) es ≡ None
apart-none k [] h = refl
apart-none k (e ∷ es) h =
    elim (cases_Bool (is_eq (total_key_order k e.0))) [
      | inl t ↦ absurd (h.0 (sym ((same_total-decides k e.0).0 (sym (total-tested k e.0) ∙ t))))
      | inr f ↦ rw f (apart-none k es h.1)
    ]

pub none-gathered : (side : Side) (rows : BTreeMap TotalKey Change) (k : TotalKey) → IsApart k rows.entries → gathered side rows k ≡ 0
none-gathered side rows k h = ap (amount_told side) (apart-none k rows.entries h)

-- the first is apart from those behind it
behind-apart : (k : TotalKey) (es : List (TotalKey × Change)) → AllByRecursion (λ y. total_key_order k y ≡ Less) (keys_of es) → IsApart k es
behind-apart k [] h = tt
behind-apart k (e ∷ es) h = (
  λ q. (
      let a : total_key_order k k ≡ Less = ap (λ (l : TotalKey). total_key_order k l) (sym q) ∙ h.0 in
      let b : Less ≡ Equal = sym a ∙ tied_itself total_laws.total-law k in
      cc),
  behind-apart k es h.1,
)

first-apart : (rows : BTreeMap TotalKey Change) (e : TotalKey × Change) (rest : List (TotalKey × Change)) → IsRest rows (e ∷ rest) → IsApart e.0 rest
unfolding IsStrictlySortedBy
first-apart rows e rest r = behind-apart e.0 rest r.rises.0

-- ---- totals that are moved so far: those of the office of which no change is still to come
abbrev pub Moved : ℕ → ℕ → ℕ → List (TotalKey × Change) → TotalKey → Type 0
Moved periods bands accounts rest k = OfOwners periods bands accounts k × IsApart k rest

pub walk-begins : (periods bands accounts : ℕ) (more less : Side) (rows : BTreeMap TotalKey Change) (rest : List (TotalKey × Change)) (c d : ShelfContent) → d ≡ c → rest ≡ rows.entries →
    MovesTotals (Moved periods bands accounts rest) (gathered more rows) (gathered less rows) c d
walk-begins periods bands accounts more less rows rest c d q e =
    moves-none (Moved periods bands accounts rest) (gathered more rows) (gathered less rows) c d q (λ k t. (
    let P : List (TotalKey × Change) → Type 0 = λ es. IsApart k es in
    let a : IsApart k rows.entries = subst P e t.1 in
    let x = none-gathered more rows k a in
    let y = none-gathered less rows k a in
    omega (arith, x, y)))

-- one that is of the office
pub walk-moves : (periods bands accounts : ℕ) (more less : Side) (rows : BTreeMap TotalKey Change) (e : TotalKey × Change) (rest : List (TotalKey × Change)) (a b : ℕ) (was mid now : ShelfContent) → IsRest rows (e ∷ rest) → OfOwners periods bands accounts e.0 →
    a ≡ gathered more rows e.0 → b ≡ gathered less rows e.0 →
    MovesTotals (Moved periods bands accounts (e ∷ rest)) (gathered more rows) (gathered less rows) was mid → MovesTotals (λ k. k ≡ e.0) (λ k. a) (λ k. b) mid now →
    MovesTotals (Moved periods bands accounts rest) (gathered more rows) (gathered less rows) was now
walk-moves periods bands accounts more less rows e rest a b was mid now r o p q f g =
    moves-told (λ k. Moved periods bands accounts (e ∷ rest) k ⊎ (k ≡ e.0)) (Moved periods bands accounts rest) (gathered more rows) (gathered less rows) was now
    (λ k. (
      λ t. elim t [
        | inl i ↦ (i.0, i.1.1)
        | inr j ↦ (let P : TotalKey → Type 0 = Moved periods bands accounts rest in subst P (sym j) (o, first-apart rows e rest r))
      ],
      λ t. elim (cases_Bool (same_total e.0 k)) [
        | inl y ↦ inr (sym ((same_total-decides e.0 k).0 y))
        | inr n ↦ inl (t.0, ((λ j. true≢false (sym ((same_total-decides e.0 k).1 j) ∙ n)), t.1))
      ],
    ))
    (moves-then (Moved periods bands accounts (e ∷ rest)) (λ k. k ≡ e.0) (gathered more rows) (gathered less rows) was mid now
    (λ k i j. i.1.0 (sym j))
    f (moves-at e.0 (gathered more rows) (gathered less rows) a b mid now p q g))

-- one that isn't is passed over
pub walk-passes : (periods bands accounts : ℕ) (more less : Side) (rows : BTreeMap TotalKey Change) (e : TotalKey × Change) (rest : List (TotalKey × Change)) (was now : ShelfContent) → (OfOwners periods bands accounts e.0 → ⊥) →
    MovesTotals (Moved periods bands accounts (e ∷ rest)) (gathered more rows) (gathered less rows) was now → MovesTotals (Moved periods bands accounts rest) (gathered more rows) (gathered less rows) was now
walk-passes periods bands accounts more less rows e rest was now n f =
    moves-told (Moved periods bands accounts (e ∷ rest)) (Moved periods bands accounts rest) (gathered more rows) (gathered less rows) was now
    (λ k. (
      λ t. (t.0, t.1.1),
      λ t. (t.0, ((λ j. n (let P : TotalKey → Type 0 = OfOwners periods bands accounts in subst P (sym j) t.0)), t.1)),
    ))
    f

pub walk-ends : (periods bands accounts : ℕ) (more less : TotalKey → ℕ) (rest : List (TotalKey × Change)) (was now : ShelfContent) → rest ≡ [] →
    MovesTotals (Moved periods bands accounts rest) more less was now → MovesTotals (OfOwners periods bands accounts) more less was now
walk-ends periods bands accounts more less rest was now e f =
    moves-told (Moved periods bands accounts rest) (OfOwners periods bands accounts) more less was now
    (λ k. (λ t. t.0, λ t. (t, (let P : List (TotalKey × Change) → Type 0 = λ es. IsApart k es in subst P (sym e) tt)))) f

-- ---- how many calls and rows
-- the place of an energy of the office among all of them
abbrev pub place : ℕ → ℕ → TotalKey → ℕ
place periods bands (Energy o p b d) = ((owner_place o * periods + p.0) * bands + b.0) * 2 + direction_place d
place periods bands (TopUps a) = 0

then-less : (o p : Ordering) → ordering_then o p ≡ Less → (o ≡ Less) ⊎ ((o ≡ Equal) × (p ≡ Less))
then-less Less p h = inl refl
then-less Equal p h = inr (refl, h)
then-less Greater p h = absurd (let b : Greater ≡ Less = h in cc)

one-of_two : (d : Direction) → direction_place d ≤ 1
one-of_two Import = omega arith
one-of_two Export = omega arith

-- a place in a later row, or behind another in its row
row-rises : (n a b x y : ℕ) → x < n → (a < b) ⊎ ((a ≡ b) × (x < y)) → a * n + x < b * n + y
row-rises n a b x y l (inl h) = let z = row_fits a n b n h (omega arith) in omega (arith, l, z)
row-rises n a b x y l (inr h) = let z : a * n ≡ b * n = ap (λ (m : ℕ). m * n) h.0 in let w = h.1 in omega (arith, z, w)

-- energies are placed in their order
place-rises : (periods bands : ℕ) (o q : Option AccountId) (p r : PeriodId) (b c : BandId) (d e : Direction) → p.0 < periods → b.0 < bands → total_order (Energy o p b d) (Energy q r c e) ≡ Less →
    place periods bands (Energy o p b d) < place periods bands (Energy q r c e)
unfolding total_numbers
place-rises periods bands o q p r b c d e l m h =
    let x = one-of_two d in
    elim (then-less (nat_cmp (owner_place o) (owner_place q)) _ h) [
      | inl i ↦ (
          let y = row-rises periods (owner_place o) (owner_place q) p.0 r.0 l (inl (less-is (owner_place o) (owner_place q) i)) in
          let z = row-rises bands (owner_place o * periods + p.0) (owner_place q * periods + r.0) b.0 c.0 m (inl y) in
          omega (arith, x, z))
      | inr i ↦ (
          let u : owner_place o ≡ owner_place q = nat_cmp-IsAntisymmetric (owner_place o) (owner_place q) i.0 in
          elim (then-less (nat_cmp p.0 r.0) _ i.1) [
            | inl j ↦ (
                let y = row-rises periods (owner_place o) (owner_place q) p.0 r.0 l (inr (u, less-is p.0 r.0 j)) in
                let z = row-rises bands (owner_place o * periods + p.0) (owner_place q * periods + r.0) b.0 c.0 m (inl y) in
                omega (arith, x, z))
            | inr j ↦ (
                let v : p.0 ≡ r.0 = nat_cmp-IsAntisymmetric p.0 r.0 j.0 in
                let w : owner_place o * periods + p.0 ≡ owner_place q * periods + r.0 = λ t. u t * periods + v t in
                elim (then-less (nat_cmp b.0 c.0) _ j.1) [
                  | inl k ↦ (
                      let z = row-rises bands (owner_place o * periods + p.0) (owner_place q * periods + r.0) b.0 c.0 m (inr (w, less-is b.0 c.0 k)) in
                      omega (arith, x, z))
                  | inr k ↦ (
                      let f : b.0 ≡ c.0 = nat_cmp-IsAntisymmetric b.0 c.0 k.0 in
                      let z : (owner_place o * periods + p.0) * bands + b.0 ≡ (owner_place q * periods + r.0) * bands + c.0 = λ t. w t * bands + f t in
                      elim (then-less (nat_cmp (direction_place d) (direction_place e)) _ k.1) [
                        | inl n ↦ (let g = less-is (direction_place d) (direction_place e) n in omega (arith, z, g))
                        | inr n ↦ absurd (let g : Equal ≡ Less = n.1 in cc)
                      ])
                ])
          ])
    ]

owner-within : (office : OfficeRules) (o : Option AccountId) → HasOwner office o → owner_place o < office.accounts + 1
owner-within office None h = omega arith
owner-within office (Some a) h = omega (arith, h)

pub place-within : (office : OfficeRules) (k : TotalKey) → OfOwners office.periods office.bands office.accounts k → place office.periods office.bands k < 2 * classes_of office
place-within office (TopUps a) h = absurd (let z : 0 ≡ 1 = (of-owners office (TopUps a) h).0 in omega (arith, z))
place-within office (Energy o p b d) h =
    let i = of-owners office (Energy o p b d) h in
    let y = mul-add-lt (owner_place o) office.periods p.0 (office.accounts + 1) (owner-within office o i.3) i.1 in
    let z = mul-add-lt (owner_place o * office.periods + p.0) office.bands b.0 (office.periods * (office.accounts + 1)) y i.2 in
    let x = one-of_two d in
    omega (arith, z, x)

-- calls and rows so far: three for each place that was passed
pub record HasTaken (office : OfficeRules) (rest : List (TotalKey × Change)) (was now : ℕ) : Type 0 where
  pub far : ℕ
  pub taken : now ≤ was + 3 * far
  pub within : far ≤ 2 * classes_of office
  pub ahead : (e : TotalKey × Change) → Member e rest → OfOwners office.periods office.bands office.accounts e.0 → far ≤ place office.periods office.bands e.0

pub taken-none : (office : OfficeRules) (rest : List (TotalKey × Change)) (was now : ℕ) → now ≤ was → HasTaken office rest was now
taken-none office rest was now l = record { far = 0; taken = omega (arith, l); within = omega arith; ahead = λ e m o. omega arith }

energy-behind : (office : OfficeRules) (k l : TotalKey) → OfOwners office.periods office.bands office.accounts k → OfOwners office.periods office.bands office.accounts l → total_key_order k l ≡ Less → place office.periods office.bands k < place office.periods office.bands l
energy-behind office (TopUps a) l h i o = absurd (let z : 0 ≡ 1 = (of-owners office (TopUps a) h).0 in omega (arith, z))
energy-behind office (Energy q p b d) (TopUps a) h i o = absurd (let z : 0 ≡ 1 = (of-owners office (TopUps a) i).0 in omega (arith, z))
energy-behind office (Energy q p b d) (Energy s r c e) h i o =
    let f = of-owners office (Energy q p b d) h in
    place-rises office.periods office.bands q s p r b c d e f.1 f.2 (sym (totals-ordered (Energy q p b d) (Energy s r c e)) ∙ o)

pub taken-more : (office : OfficeRules) (rows : BTreeMap TotalKey Change) (e : TotalKey × Change) (rest : List (TotalKey × Change)) (was mid now : ℕ) → IsRest rows (e ∷ rest) → OfOwners office.periods office.bands office.accounts e.0 →
    HasTaken office (e ∷ rest) was mid → now ≤ mid + 3 → HasTaken office rest was now
unfolding IsStrictlySortedBy
taken-more office rows e rest was mid now r o t l =
    let a = t.ahead e (inl refl) o in
    let b = t.taken in
    let c = place-within office e.0 o in
    record {
      far = place office.periods office.bands e.0 + 1;
      taken = omega (arith, a, b, l);
      within = omega (arith, c);
      ahead = λ f m p. (let q = energy-behind office e.0 f.0 o p (all-key (λ y. total_key_order e.0 y ≡ Less) rest f r.rises.0 m) in omega (arith, q));
    }

pub taken-same : (office : OfficeRules) (was now : ℕ) {es fs : List (TotalKey × Change)} → es ≡ fs → HasTaken office es was now → HasTaken office fs was now
taken-same office was now e h = let P : List (TotalKey × Change) → Type 0 = λ xs. HasTaken office xs was now in subst P e h

pub taken-past : (office : OfficeRules) (e : TotalKey × Change) (rest : List (TotalKey × Change)) (was now : ℕ) → HasTaken office (e ∷ rest) was now → HasTaken office rest was now
taken-past office e rest was now t = record { far = t.far; taken = t.taken; within = t.within; ahead = λ f m. t.ahead f (inr m) }

pub taken-all : (office : OfficeRules) (rest : List (TotalKey × Change)) (was now : ℕ) → HasTaken office rest was now → now ≤ was + 6 * classes_of office
taken-all office rest was now t = let a = t.taken in let b = t.within in omega (arith, a, b)

-- ---- what is due: nothing where nothing is gathered, else no more than of all energies
pub due-most : (office : OfficeRules) (es : List (TotalKey × Change)) → due office es ≤ 6 * classes_of office
due-most office [] = omega arith
due-most office (e ∷ es) = omega arith

pub due-none : (office : OfficeRules) (es : List (TotalKey × Change)) → es ≡ [] → due office es ≡ 0
due-none office es e = ap (due office) e

-- a map that is tested
pub not-empty : {empty : Bool} (rows : BTreeMap TotalKey Change) → IsTrue empty ↔ (btree_map_len rows ≡ 0) → empty ≡ false → btree_map_len rows ≡ 0 → ⊥
not-empty rows h f e = true≢false (sym (h.1 e) ∙ f)

no-rows : (es : List (TotalKey × Change)) → length es ≡ 0 → es ≡ []
no-rows [] e = refl
no-rows (x ∷ xs) e = absurd (omega (arith, e))

pub taken-due : (office : OfficeRules) (es : List (TotalKey × Change)) (rest : List (TotalKey × Change)) (was now : ℕ) → (length es ≡ 0 → ⊥) → HasTaken office rest was now → now ≤ was + due office es
taken-due office [] rest was now n t = absurd (n refl)
taken-due office (e ∷ es) rest was now n t = taken-all office rest was now t

pub nothing-moves : (periods bands accounts : ℕ) (rows : BTreeMap TotalKey Change) (c d : ShelfContent) → d ≡ c → btree_map_len rows ≡ 0 → MovesTotals (OfOwners periods bands accounts) (gathered Gains rows) (gathered Loses rows) c d
nothing-moves periods bands accounts rows c d q e =
    moves-none (OfOwners periods bands accounts) (gathered Gains rows) (gathered Loses rows) c d q (λ k o. (
    let P : List (TotalKey × Change) → Type 0 = λ es. IsApart k es in
    let a : IsApart k rows.entries = subst P (sym (no-rows rows.entries e)) tt in
    let x = none-gathered Gains rows k a in
    let y = none-gathered Loses rows k a in
    omega (arith, x, y)))
