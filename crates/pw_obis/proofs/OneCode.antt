-- An address has one code.
use Rattle.std.proofs.Common.{◌≡◌, ℕ, ◌<◌, List, ◌∷◌, ◌++◌, Option, Some, None, refl, sym, ap, ◌∙◌, subst, arith}
use Rattle.std.specs.Char.{digit_value}
use Rattle.pw_obis.specs.declared.reference.Code.{Code}
use Rattle.pw_obis.specs.Address.{Before, Behind, Storage, AddressEnding, Spells, IsCodeOf}
use Rattle.pw_obis.specs.inner.Groups.{FirstGroup, GroupWith, ReadsBefore, ReadsBehind, Unreadable}
use Rattle.pw_obis.proofs.Decimals.{digit_in}
use Rattle.pw_obis.proofs.OnePart.{one_group, group_first, group_with, absent_is, one_before, first_behind, one_behind, one_storage, no_digit_in_storage, no_point_in_storage, ending_d, ending_e}

-- ---- an address has one code

point_is_no_digit : digit_value 46 < 10 → ⊥
point_is_no_digit h = absurd (omega (arith, (digit_in 46 h).0))

colon_is_no_digit : digit_value 58 < 10 → ⊥
colon_is_no_digit h = absurd (omega (arith, (digit_in 58 h).1))

dash_is_no_digit : digit_value 45 < 10 → ⊥
dash_is_no_digit h = absurd (omega (arith, (digit_in 45 h).0))

one_mark : (m n : ℕ) (text : List ℕ) → (digit_value m < 10 → ⊥) → (digit_value n < 10 → ⊥) → GroupWith m text → GroupWith n text → m ≡ n
one_mark m n text f g x y =
    let e : (x.value ≡ y.value) × (m ∷ x.rest ≡ n ∷ y.rest) = one_group text x.value y.value (m ∷ x.rest) (n ∷ y.rest) (group_first m text f x) (group_first n text g y) in
    cc (e.1)

spells_c : (address : List ℕ) (code : Code) → (x : Spells address code) → ReadsBefore 46 (x.c_text ++ x.ending) (Some code.c) x.ending
spells_c address code x = record { part = x.c_text; is = x.c_is; spelled = refl; absent = λ h. absurd cc }

-- the code's C is read first where A and B are absent, and B where A is
with_c : (address : List ℕ) (code : Code) → (x : Spells address code) → GroupWith 46 (x.c_text ++ x.ending)
with_c address code x = group_with 46 x.c_text (x.c_text ++ x.ending) x.ending code.c x.c_is refl

no_b : (address : List ℕ) (code : Code) → (x : Spells address code) → GroupWith 58 (x.c_text ++ x.ending) → ⊥
no_b address code x g =
    let e : 58 ≡ 46 = one_mark 58 46 (x.c_text ++ x.ending) colon_is_no_digit point_is_no_digit g (with_c address code x) in
    omega (arith, e)

spells_b : (address : List ℕ) (code : Code) → (x : Spells address code) → ReadsBefore 58 (x.b_text ++ (x.c_text ++ x.ending)) code.b (x.c_text ++ x.ending)
spells_b address code x = record { part = x.b_text; is = x.b_is; spelled = refl; absent = λ h. no_b address code x }

-- what stands behind A begins with B or C
no_a : (rest b_text : List ℕ) (b : Option ℕ) → Before 58 b_text b → GroupWith 46 rest → GroupWith 45 (b_text ++ rest) → ⊥
no_a rest b_text None x c g =
    let h : GroupWith 45 rest = subst (λ (t : List ℕ). GroupWith 45 (t ++ rest)) x g in
    let e : 45 ≡ 46 = one_mark 45 46 rest dash_is_no_digit point_is_no_digit h c in
    omega (arith, e)
no_a rest b_text (Some b) x c g =
    let h : GroupWith 58 (b_text ++ rest) = group_with 58 b_text (b_text ++ rest) rest b x refl in
    let e : 45 ≡ 58 = one_mark 45 58 (b_text ++ rest) dash_is_no_digit colon_is_no_digit g h in
    omega (arith, e)

spells_a : (address : List ℕ) (code : Code) → (x : Spells address code) → ReadsBefore 45 address code.a (x.b_text ++ (x.c_text ++ x.ending))
spells_a address code x = record {
  part = x.a_text;
  is = x.a_is;
  spelled = x.spelled;
  absent = λ h. no_a (x.c_text ++ x.ending) x.b_text code.b x.b_is (with_c address code x);
}

-- what is read of an address is what it spells
pub record SameParts (address : List ℕ) (code : Code) (a b c : Option ℕ) (rest : List ℕ) : Type 0 where
  pub a_same : a ≡ code.a
  pub b_same : b ≡ code.b
  pub c_same : c ≡ Some code.c
  pub rest_is : AddressEnding rest code.d code.e code.f

pub same_parts : (address : List ℕ) (code : Code) (a b c : Option ℕ) (behind_a behind_b behind_c : List ℕ)
    → ReadsBefore 45 address a behind_a → ReadsBefore 58 behind_a b behind_b → ReadsBefore 46 behind_b c behind_c → Spells address code → SameParts address code a b c behind_c
same_parts address code a b c behind_a behind_b behind_c ra rb rc x =
    let ea : (a ≡ code.a) × (behind_a ≡ x.b_text ++ (x.c_text ++ x.ending)) =
    one_before 45 address a code.a behind_a (x.b_text ++ (x.c_text ++ x.ending)) dash_is_no_digit ra (spells_a address code x) in
    let eb : (b ≡ code.b) × (behind_b ≡ x.c_text ++ x.ending) =
    one_before 58 (x.b_text ++ (x.c_text ++ x.ending)) b code.b behind_b (x.c_text ++ x.ending) colon_is_no_digit
    (subst (λ (t : List ℕ). ReadsBefore 58 t b behind_b) ea.1 rb) (spells_b address code x) in
    let ec : (c ≡ Some code.c) × (behind_c ≡ x.ending) =
    one_before 46 (x.c_text ++ x.ending) c (Some code.c) behind_c x.ending point_is_no_digit
    (subst (λ (t : List ℕ). ReadsBefore 46 t c behind_c) eb.1 rc) (spells_c address code x) in
    record { a_same = ea.0; b_same = eb.0; c_same = ec.0; rest_is = subst (λ (t : List ℕ). AddressEnding t code.d code.e code.f) (sym ec.1) x.rest_is }

-- what is read of an ending is what it spells
pub record SameEnding (d v : ℕ) (e w f : Option ℕ) (rest : List ℕ) : Type 0 where
  pub d_same : v ≡ d
  pub e_same : w ≡ e
  pub f_is : Storage rest f

pub same_e : (text : List ℕ) (d v : ℕ) (e f : Option ℕ) (behind : List ℕ) → FirstGroup text v behind → (x : AddressEnding text d e f) → (v ≡ d) × (behind ≡ x.e_text ++ x.f_text)
same_e text d v e f behind r x = one_group text v d behind (x.e_text ++ x.f_text) r (ending_d text d e f x)

pub same_ending : (text : List ℕ) (d v : ℕ) (e w f : Option ℕ) (behind rest : List ℕ) → FirstGroup text v behind → ReadsBehind 46 behind w rest → AddressEnding text d e f → SameEnding d v e w f rest
same_ending text d v e w f behind rest rd re x =
    let ed : (v ≡ d) × (behind ≡ x.e_text ++ x.f_text) = same_e text d v e f behind rd x in
    let ee : (w ≡ e) × (rest ≡ x.f_text) =
    one_behind 46 (x.e_text ++ x.f_text) w e rest x.f_text (subst (λ (t : List ℕ). ReadsBehind 46 t w rest) ed.1 re) (ending_e text d e f x) in
    record { d_same = ed.0; e_same = ee.0; f_is = subst (λ (t : List ℕ). Storage t f) (sym ee.1) x.f_is }

stuck_at_e : (text f_text e_text : List ℕ) (e f : Option ℕ) → Unreadable 46 text → Behind 46 e_text e → Storage f_text f → text ≡ e_text ++ f_text → ⊥
stuck_at_e text f_text e_text None f u x y t = no_point_in_storage f_text u.behind f y (sym (absent_is e_text text f_text x t) ∙ u.spelled)
stuck_at_e text f_text e_text (Some e) f u x y t =
    let b = first_behind 46 text e_text f_text e (no_digit_in_storage f_text f y) x t in
    let same : 46 ∷ u.behind ≡ 46 ∷ b.0 = sym u.spelled ∙ b.1 in
    let behind : b.0 ≡ u.behind = cc in
    u.none e f_text (subst (λ (k : List ℕ). FirstGroup k e f_text) behind b.2)

pub unreadable : (text : List ℕ) (d v : ℕ) (e f : Option ℕ) (behind : List ℕ) → FirstGroup text v behind → Unreadable 46 behind → AddressEnding text d e f → ⊥
unreadable text d v e f behind rd u x =
    stuck_at_e (x.e_text ++ x.f_text) x.f_text x.e_text e f (subst (Unreadable 46) (same_e text d v e f behind rd x).1 u) x.e_is x.f_is refl

all_same : (code other : Code) → code.a ≡ other.a → code.b ≡ other.b → code.c ≡ other.c → code.d ≡ other.d → code.e ≡ other.e → code.f ≡ other.f → code ≡ other
all_same code other a b c d e f =
    ap (λ (x : Option ℕ). record { a = x; b = code.b; c = code.c; d = code.d; e = code.e; f = code.f }) a
    ∙ ap (λ (x : Option ℕ). record { a = other.a; b = x; c = code.c; d = code.d; e = code.e; f = code.f }) b
    ∙ ap (λ (x : ℕ). record { a = other.a; b = other.b; c = x; d = code.d; e = code.e; f = code.f }) c
    ∙ ap (λ (x : ℕ). record { a = other.a; b = other.b; c = other.c; d = x; e = code.e; f = code.f }) d
    ∙ ap (λ (x : Option ℕ). record { a = other.a; b = other.b; c = other.c; d = other.d; e = x; f = code.f }) e
    ∙ ap (λ (x : Option ℕ). record { a = other.a; b = other.b; c = other.c; d = other.d; e = other.e; f = x }) f

-- an address spells one code
pub one_code : (address : List ℕ) (code other : Code) → Spells address code → Spells address other → code ≡ other
one_code address code other x y =
    let p : SameParts address other code.a code.b (Some code.c) x.ending =
    same_parts address other code.a code.b (Some code.c) (x.b_text ++ (x.c_text ++ x.ending)) (x.c_text ++ x.ending) x.ending
    (spells_a address code x) (spells_b address code x) (spells_c address code x) y in
    let z : AddressEnding x.ending code.d code.e code.f = x.rest_is in
    let q : SameEnding other.d code.d other.e code.e other.f z.f_text =
    same_ending x.ending other.d code.d other.e code.e other.f (z.e_text ++ z.f_text) z.f_text
    (ending_d x.ending code.d code.e code.f z) (ending_e x.ending code.d code.e code.f z) p.rest_is in
    let f_same : code.f ≡ other.f = one_storage z.f_text code.f other.f z.f_is q.f_is in
    let c_same : code.c ≡ other.c = (let e : Some code.c ≡ Some other.c = p.c_same in cc) in
    all_same code other p.a_same p.b_same c_same q.d_same q.e_same f_same

pub one_code_or_none : (address : List ℕ) (code other : Option Code) → IsCodeOf address code → IsCodeOf address other → code ≡ other
one_code_or_none address None None x y = refl
one_code_or_none address None (Some other) x y = absurd (x other y)
one_code_or_none address (Some code) None x y = absurd (y code x)
one_code_or_none address (Some code) (Some other) x y = ap Some (one_code address code other x y)
