-- Checks in their order.
use Rattle.std.proofs.Common.{◌≡◌, ℕ, zero, suc, ◌+◌, ◌<◌, ◌≤◌, Option, Some, None, List, [], ◌∷◌, ◌++◌, length, map, take, drop, get_or, Bool, true, false, cond, refl, sym, ◌∙◌, ap, arith}
use Rattle.std.proofs.lemmas.List.{drop_more, map-append}
use Rattle.std.proofs.Math.ListN.{drop_of_length-le}
use Rattle.pw_tariff.specs.declared.fault.OfficeFault.{OfficeFault}
use Rattle.pw_tariff.specs.declared.fault.OfficeFault.TheVariants.{Toml, MissingField, BadName, TwiceNamed, Week, Price, RegistersOverlap, Empty, TooMany, Period, Memory}
use Rattle.pw_tariff.specs.Checks.{Check, first_refusal, each_in_turn, length_checks, list_checks}
use Rattle.pw_tariff.specs.inner.Checks.{IsListFault}
use Rattle.pw_tariff.specs.inner.Checks.{IsRefusal}
use Rattle.pw_tariff.specs.inner.Checks.{Passes}

no-refusal : {A : Type 0} (x : A) → Some x ≡ None → ⊥
no-refusal x h = cc

-- ---- one list of checks behind another
passes-by : (b : Bool) (f : OfficeFault) (n m d : Option OfficeFault) → (n ≡ None → m ≡ d) → cond b n (Some f) ≡ None → cond b m (Some f) ≡ d
passes-by true f n m d k h = k h
passes-by false f n m d k h = absurd (no-refusal f h)

pub first-passes : (cs ds : List Check) → Passes cs → first_refusal (cs ++ ds) ≡ first_refusal ds
first-passes [] ds h = refl
first-passes (c ∷ cs) ds h = passes-by c.passes c.fault (first_refusal cs) (first_refusal (cs ++ ds)) (first_refusal ds) (first-passes cs ds) h

stays-by : (b : Bool) (f : OfficeFault) (n m d : Option OfficeFault) → (n ≡ d → m ≡ d) → cond b n (Some f) ≡ d → cond b m (Some f) ≡ d
stays-by true f n m d k h = k h
stays-by false f n m d k h = h

pub first-stays : (cs ds : List Check) (e : OfficeFault) → first_refusal cs ≡ Some e → first_refusal (cs ++ ds) ≡ Some e
first-stays [] ds e h = absurd (no-refusal e (sym h))
first-stays (c ∷ cs) ds e h = stays-by c.passes c.fault (first_refusal cs) (first_refusal (cs ++ ds)) (Some e) (first-stays cs ds e) h

-- a refusal of some checks is one of others, where their first is
pub refusal-lift : (ls bs : List Check) (e : OfficeFault) → ((x : OfficeFault) → first_refusal ls ≡ Some x → first_refusal bs ≡ Some x) → IsRefusal ls e → IsRefusal bs e
refusal-lift ls bs Toml h r = r
refusal-lift ls bs MissingField h r = h MissingField r
refusal-lift ls bs BadName h r = h BadName r
refusal-lift ls bs TwiceNamed h r = h TwiceNamed r
refusal-lift ls bs Week h r = h Week r
refusal-lift ls bs Price h r = h Price r
refusal-lift ls bs RegistersOverlap h r = h RegistersOverlap r
refusal-lift ls bs Empty h r = h Empty r
refusal-lift ls bs TooMany h r = h TooMany r
refusal-lift ls bs Period h r = h Period r
refusal-lift ls bs Memory h r = tt

pub refusal-front : (cs ds : List Check) (e : OfficeFault) → IsRefusal cs e → IsRefusal (cs ++ ds) e
refusal-front cs ds e r = refusal-lift cs (cs ++ ds) e (λ x h. first-stays cs ds x h) r

pub refusal-behind : (cs ds : List Check) (e : OfficeFault) → Passes cs → IsRefusal ds e → IsRefusal (cs ++ ds) e
refusal-behind cs ds e p r = refusal-lift ds (cs ++ ds) e (λ x h. first-passes cs ds p ∙ h) r

pub refusal-same : (ls bs : List Check) (e : OfficeFault) → first_refusal ls ≡ first_refusal bs → IsRefusal bs e → IsRefusal ls e
refusal-same ls bs e s r = refusal-lift bs ls e (λ x h. s ∙ h) r

-- ---- a list that has to be there
pub list-missing : {A : Type 0} (most : ℕ) (name : A → List ℕ) (checks : List (List ℕ) → A → List Check) (list : Option (List A)) → list ≡ None → first_refusal (list_checks most name checks list) ≡ Some MissingField
list-missing most name checks list h = rw h refl

pub list-fault : {A : Type 0} (most : ℕ) (name : A → List ℕ) (checks : List (List ℕ) → A → List Check) (list : Option (List A)) (e : OfficeFault) → IsListFault list e → IsRefusal (list_checks most name checks list) e
list-fault most name checks list MissingField h = list-missing most name checks list h
list-fault most name checks list Memory h = tt
list-fault most name checks list Toml h = h
list-fault most name checks list BadName h = absurd h
list-fault most name checks list TwiceNamed h = absurd h
list-fault most name checks list Week h = absurd h
list-fault most name checks list Price h = absurd h
list-fault most name checks list RegistersOverlap h = absurd h
list-fault most name checks list Empty h = absurd h
list-fault most name checks list TooMany h = absurd h
list-fault most name checks list Period h = absurd h

pub list-there : {A : Type 0} (most : ℕ) (name : A → List ℕ) (checks : List (List ℕ) → A → List Check) (list : Option (List A)) (xs : List A) → list ≡ Some xs →
    first_refusal (list_checks most name checks list) ≡ first_refusal (length_checks (length xs) most ++ each_in_turn name checks [] xs)
list-there most name checks list xs h = rw h refl

-- ---- one element after another
pub drop-step : {X : Type 0} (xs : List X) (i : ℕ) (x : X) → i < length xs → x ≡ get_or xs i x → drop i xs ≡ x ∷ drop (i + 1) xs
drop-step xs i x l e = drop_more xs i x l ∙ ap (λ y. y ∷ drop (i + 1) xs) (sym e)

pub take-step : {X : Type 0} (xs : List X) (i : ℕ) (x : X) → i < length xs → x ≡ get_or xs i x → take (i + 1) xs ≡ take i xs ++ x ∷ []
take-step [] i x l e = absurd (omega arith)
take-step (y ∷ xs) zero x l e = ap (λ z. z ∷ []) (sym e)
take-step (y ∷ xs) (suc i) x l e =
    let s : suc i + 1 ≡ suc (i + 1) = omega arith in
    rw s (ap (λ z. y ∷ z) (take-step xs i x (omega arith) e))

-- the checks of all elements come to those from place i on
abbrev pub ComesTo : {A X : Type 0} → List Check → (A → List ℕ) → (List (List ℕ) → A → List Check) → (X → A) → List (List ℕ) → List X → ℕ → Type 0
ComesTo all name checks g earlier xs i = first_refusal all ≡ first_refusal (each_in_turn name checks earlier (map g (drop i xs)))

pub turn : {A X : Type 0} (name : A → List ℕ) (checks : List (List ℕ) → A → List Check) (g : X → A) → (earlier : List (List ℕ)) (xs : List X) (i : ℕ) (x : X) → i < length xs → x ≡ get_or xs i x →
    first_refusal (each_in_turn name checks earlier (map g (drop i xs))) ≡ first_refusal (checks earlier (g x) ++ each_in_turn name checks (earlier ++ name (g x) ∷ []) (map g (drop (i + 1) xs)))
unfolding each_in_turn
turn name checks g earlier xs i x l e = rw (drop-step xs i x l e) refl

pub turn-refused : {A X : Type 0} (all : List Check) (name : A → List ℕ) (checks : List (List ℕ) → A → List Check) (g : X → A) → (earlier : List (List ℕ)) (xs : List X) (i : ℕ) (x : X) (e : OfficeFault) →
    i < length xs → x ≡ get_or xs i x → ComesTo all name checks g earlier xs i → IsRefusal (checks earlier (g x)) e → IsRefusal all e
turn-refused all name checks g earlier xs i x e l s h r =
    refusal-same all (checks earlier (g x) ++ each_in_turn name checks (earlier ++ name (g x) ∷ []) (map g (drop (i + 1) xs))) e (h ∙ turn name checks g earlier xs i x l s)
    (refusal-front (checks earlier (g x)) (each_in_turn name checks (earlier ++ name (g x) ∷ []) (map g (drop (i + 1) xs))) e r)

pub turn-passed : {A X : Type 0} (all : List Check) (name : A → List ℕ) (checks : List (List ℕ) → A → List Check) (g : X → A) → (earlier later : List (List ℕ)) (xs : List X) (i : ℕ) (x : X) →
    i < length xs → x ≡ get_or xs i x → later ≡ earlier ++ name (g x) ∷ [] → ComesTo all name checks g earlier xs i → Passes (checks earlier (g x)) → ComesTo all name checks g later xs (i + 1)
turn-passed all name checks g earlier later xs i x l s n h p =
    h ∙ turn name checks g earlier xs i x l s ∙ first-passes (checks earlier (g x)) (each_in_turn name checks (earlier ++ name (g x) ∷ []) (map g (drop (i + 1) xs))) p
    ∙ ap (λ m. first_refusal (each_in_turn name checks m (map g (drop (i + 1) xs)))) (sym n)

pub turn-ended : {A X : Type 0} (all : List Check) (name : A → List ℕ) (checks : List (List ℕ) → A → List Check) (g : X → A) → (earlier : List (List ℕ)) (xs : List X) (i : ℕ) → length xs ≤ i →
    ComesTo all name checks g earlier xs i → Passes all
unfolding each_in_turn
turn-ended all name checks g earlier xs i l h = let n : drop i xs ≡ [] = drop_of_length-le xs l in h ∙ rw n refl

-- the names so far, and one more
pub names-more : {X : Type 0} (f : X → List ℕ) → (xs : List X) (i : ℕ) (x : X) → i < length xs → x ≡ get_or xs i x → map f (take (i + 1) xs) ≡ map f (take i xs) ++ f x ∷ []
names-more f xs i x l e = ap (map f) (take-step xs i x l e) ∙ map-append f (take i xs) (x ∷ [])

pub all-taken : {X : Type 0} (xs : List X) (i : ℕ) → length xs ≤ i → take i xs ≡ xs
all-taken [] zero l = refl
all-taken [] (suc i) l = refl
all-taken (x ∷ xs) zero l = absurd (omega arith)
all-taken (x ∷ xs) (suc i) l = ap (λ z. x ∷ z) (all-taken xs i (omega arith))

-- what is held of the elements so far, and of one more
pub held-more : {X T M V : Type 0} (h : X → T) (p : M → T) (g : V → M) → (held : List X) (b : X) (vs : List V) (i : ℕ) (v : V) → i < length vs → v ≡ get_or vs i v →
    map h held ≡ map p (map g (take i vs)) → h b ≡ p (g v) → map h (held ++ b ∷ []) ≡ map p (map g (take (i + 1) vs))
held-more h p g held b vs i v l e s n =
    map-append h held (b ∷ []) ∙ ap (λ z. z ++ h b ∷ []) s ∙ ap (λ z. map p (map g (take i vs)) ++ z ∷ []) n
    ∙ sym (ap (λ z. map p (map g z)) (take-step vs i v l e) ∙ ap (map p) (map-append g (take i vs) (v ∷ [])) ∙ map-append p (map g (take i vs)) (g v ∷ []))

-- the names of what is held, and one more
pub held-names : {X M V : Type 0} (f : X → List ℕ) (name : M → List ℕ) (g : V → M) → (held : List X) (b : X) (v : V) (t : M) → g v ≡ t → name t ≡ f b → map f (held ++ b ∷ []) ≡ map f held ++ name (g v) ∷ []
held-names f name g held b v t e n = map-append f held (b ∷ []) ∙ ap (λ z. map f held ++ z ∷ []) (sym (ap name e ∙ n))

pub register-more : {T M V : Type 0} (p : M → T) (g : V → M) → (held : List T) (b : T) (vs : List V) (i : ℕ) (v : V) → i < length vs → v ≡ get_or vs i v →
    held ≡ map p (map g (take i vs)) → b ≡ p (g v) → held ++ b ∷ [] ≡ map p (map g (take (i + 1) vs))
register-more p g held b vs i v l e s n =
    ap (λ z. z ++ b ∷ []) s ∙ ap (λ z. map p (map g (take i vs)) ++ z ∷ []) n
    ∙ sym (ap (λ z. map p (map g z)) (take-step vs i v l e) ∙ ap (map p) (map-append g (take i vs) (v ∷ [])) ∙ map-append p (map g (take i vs)) (g v ∷ []))
