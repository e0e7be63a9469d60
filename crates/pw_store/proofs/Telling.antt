-- What two rows at most tell of a key.
use Rattle.std.proofs.Common.{◌≡◌, inl, inr, take, List, [], ◌∷◌, map, Bool, true, refl, sym, ap, subst, ◌∙◌}
use Rattle.std.proofs.lemmas.Bool.{cases_Bool, true≢false}
use Rattle.std.specs.List.{AllByRecursion, filter}
use Rattle.std.specs.List.Sorted.{IsPermutation}
use Rattle.std.proofs.lemmas.List.Sorted.{IsPermutation-map}
use Rattle.sqlite.specs.Order.{Row}
use Rattle.pw_model.specs.declared.records.Key.{Key}
use Rattle.pw_model.specs.declared.records.Content.{Content}
use Rattle.pw_model.specs.declared.records.Entry.{Entry}
use Rattle.pw_model.specs.declared.records.Contents.{Contents}
use Rattle.pw_model.specs.declared.records.Contents.TheVariants.{Nothing, One, Several}
use Rattle.pw_model.specs.Counting.{Member, EachOnce, contents_at, standing}
use Rattle.pw_model.proofs.Counting.{entry, Tells, tells, tells-one, standing-part}
use Rattle.pw_schema.specs.Rows.{contents_of}
use Rattle.pw_store.proofs.Once.{once-permuted, permuted}

first_two : (cs : List Content) → contents_of (take 2 cs) ≡ contents_of cs
first_two [] = refl
first_two (c ∷ []) = refl
first_two (c ∷ d ∷ more) = refl

-- entries of one key, each once
tells_those : (k : Key) (cs : List Content) → EachOnce (map (entry k) cs) → Tells (map (entry k) cs) k (contents_of cs)
tells_those k [] once = λ c m. m
tells_those k (c ∷ []) once = (inl refl, λ d m. elim m [ inl i ↦ ap (λ (e : Entry). e.content) i | inr n ↦ absurd n ])
tells_those k (c ∷ d ∷ more) once = (c, d, inl refl, inr (inl refl), λ e. once.0 (inl (ap (entry k) e)))

tells_moved : (s t : List Entry) (k : Key) (r : Contents) → ((c : Content) → (Member (entry k c) s → Member (entry k c) t) × (Member (entry k c) t → Member (entry k c) s)) → Tells s k r → Tells t k r
tells_moved s t k Nothing both h = λ c m. h c ((both c).1 m)
tells_moved s t k (One c) both h = ((both c).0 h.0, λ d m. h.1 d ((both d).1 m))
tells_moved s t k Several both h = (h.0, h.1, (both h.0).0 h.2, (both h.1).0 h.3, h.4)

-- where no record has the key
pub nothing_told : (s : List Entry) (k : Key) → ((c : Content) → Member (entry k c) s → ⊥) → Nothing ≡ contents_at s k
nothing_told s k none = tells-one (standing s) (standing s) k Nothing (contents_at s k) (λ x. (λ m. m, λ m. m)) (λ c m. none c (standing-part s (entry k c) m)) (tells s k)

-- ---- what a filter keeps
once_kept : (p : Row → Bool) (f : Row → Entry) (rows : List Row) → EachOnce (map f rows) → EachOnce (map f (filter p rows)) × ((x : Entry) → Member x (map f (filter p rows)) → Member x (map f rows))
once_kept p f [] h = (tt, λ x m. m)
once_kept p f (r ∷ rows) h =
    let rest = once_kept p f rows h.1 in
    elim (cases_Bool (p r)) [
      | inl hit ↦ rw hit ((λ m. h.0 (rest.1 (f r) m), rest.0), λ x m. elim m [ inl i ↦ inl i | inr n ↦ inr (rest.1 x n) ])
      | inr miss ↦ rw miss (rest.0, λ x m. inr (rest.1 x m))
    ]

-- The rows that pass are those whose record has the key; where their records are those that stand, what is shown of them
-- tells the content.
module _ (k : Key) (f : Row → Entry) (p : Row → Bool) (show : Row → Row) (content_in : Row → Content) (IsRow : Row → Type 0)
    (hits : (r : Row) → IsRow r → p r ≡ true → f r ≡ entry k (content_in (show r))) (misses : (r : Row) → IsRow r → (f r).key ≡ k → p r ≡ true) where
  kept_are : (rows : List Row) → AllByRecursion IsRow rows → map f (filter p rows) ≡ map (entry k) (map content_in (map show (filter p rows)))
  kept_are [] all = refl
  kept_are (r ∷ rows) all = elim (cases_Bool (p r)) [
    | inl hit ↦ rw hit (λ j. hits r all.0 hit j ∷ kept_are rows all.1 j)
    | inr miss ↦ rw miss (kept_are rows all.1)
  ]

  keeps : (rows : List Row) → AllByRecursion IsRow rows → (c : Content) → Member (entry k c) (map f rows) → Member (entry k c) (map f (filter p rows))
  keeps [] all c m = m
  keeps (r ∷ rows) all c m = elim (cases_Bool (p r)) [
    | inl hit ↦ rw hit (elim m [ inl i ↦ inl i | inr n ↦ inr (keeps rows all.1 c n) ])
    | inr miss ↦ rw miss (elim m [
      | inl i ↦ absurd (true≢false (sym (misses r all.0 (sym (ap (λ (e : Entry). e.key) i))) ∙ miss))
      | inr n ↦ keeps rows all.1 c n
    ])
  ]

  pub told_at : (table : List Row) (ordered rows : List Row) (s : List Entry) → AllByRecursion IsRow table → EachOnce (map f table)
      → ((c : Content) → (Member (entry k c) (map f table) → Member (entry k c) (standing s)) × (Member (entry k c) (standing s) → Member (entry k c) (map f table)))
      → IsPermutation (map show (filter p table)) ordered → rows ≡ take 2 ordered → contents_of (map content_in rows) ≡ contents_at s k
  told_at table ordered rows s all once both perm is =
      let shown = map content_in ordered in
      let kept = once_kept p f table once in
      let same : IsPermutation (map f (filter p table)) (map (entry k) shown) = subst (λ xs. IsPermutation xs (map (entry k) shown)) (sym (kept_are table all))
      (IsPermutation-map (entry k) (map content_in (map show (filter p table))) shown (IsPermutation-map content_in (map show (filter p table)) ordered perm)) in
      let each = once-permuted (map f (filter p table)) (map (entry k) shown) same kept.0 in
      let members = permuted (map f (filter p table)) (map (entry k) shown) same in
      let here = tells_moved (map (entry k) shown) (standing s) k (contents_of shown) (λ c. (
        λ m. (both c).0 (kept.1 (entry k c) ((members (entry k c)).1 m)),
        λ m. (members (entry k c)).0 (keeps table all c ((both c).1 m)),
      )) (tells_those k shown each) in
      let two : contents_of (map content_in rows) ≡ contents_of shown = ap (λ xs. contents_of (map content_in xs)) is ∙ ap contents_of (map_take content_in ordered) ∙ first_two shown in
      two ∙ tells-one (standing s) (standing s) k (contents_of shown) (contents_at s k) (λ x. (λ m. m, λ m. m)) here (tells s k)
    where
      map_take : {X Y : Type 0} (g : X → Y) (xs : List X) → map g (take 2 xs) ≡ take 2 (map g xs)
      map_take g [] = refl
      map_take g (x ∷ []) = refl
      map_take g (x ∷ y ∷ more) = refl
