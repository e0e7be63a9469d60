-- The parts of an address are read in one way.
use Rattle.std.proofs.Common.{false, zero, suc, ◌≡◌, ℕ, ◌+◌, ◌-◌, ◌*◌, ◌<◌, ◌≤◌, inl, inr, length, List, [], ◌∷◌, ◌++◌, take, drop, Option, Some, None, refl, sym, ap, ◌∙◌, subst, arith, get_or, append-nil, append_assoc}
use Rattle.std.specs.Prelude.{◌==◌}
use Rattle.std.specs.Char.{digit_value}
use Rattle.std.specs.Str.Parse.{AllDigits, digits_value, digits_value_after}
use Rattle.std.proofs.lemmas.List.{take_rest}
use Rattle.pw_obis.specs.Address.{Group, Before, Behind, Storage, AddressEnding}
use Rattle.pw_obis.specs.inner.Groups.{StartsWithDigit, FirstGroup, GroupWith, ReadsBefore, ReadsBehind}
use Rattle.pw_obis.proofs.Decimals.{digit_in, after-ge}
use Rattle.pw_obis.proofs.FirstDigits.{one_run}

one_value : (ds : List ℕ) (v w : ℕ) → Group ds v → Group ds w → v ≡ w
one_value ds v w g h = g.is ∙ sym h.is

pub one_group : (text : List ℕ) (v w : ℕ) (r s : List ℕ) → FirstGroup text v r → FirstGroup text w s → (v ≡ w) × (r ≡ s)
one_group text v w r s g h =
    let e : (g.digits ≡ h.digits) × (r ≡ s) = one_run g.digits h.digits r s g.group.digits h.group.digits g.stops h.stops (sym g.spelled ∙ h.spelled) in
    (g.group.is ∙ ap (λ (t : List ℕ). digits_value 10 t) e.0 ∙ sym h.group.is, e.1)

-- digits that a first group begins with are no more than its own, and no larger
digits_within : (n : ℕ) (ds rest : List ℕ) (end : ℕ) → (StartsWithDigit rest → ⊥) → end ≤ length (ds ++ rest) → AllDigits 10 (take end (ds ++ rest))
    → (end ≤ length ds) × (digits_value_after 10 n (take end (ds ++ rest)) ≤ digits_value_after 10 n ds)
digits_within n ds rest zero stops l d = (omega arith, after-ge n ds)
digits_within n [] [] (suc end) stops l d = absurd (omega (arith, l))
digits_within n [] (c ∷ cs) (suc end) stops l d = absurd (stops d.0)
digits_within n (c ∷ ds) rest (suc end) stops l d =
    let more = digits_within (n * 10 + digit_value c) ds rest end stops (omega (arith, l)) d.1 in
    (omega (arith, more.0), more.1)

pub begun_group : (text : List ℕ) (end value : ℕ) (rest : List ℕ) → end ≤ length text → AllDigits 10 (take end text) → FirstGroup text value rest
    → (end ≤ 3) × (digits_value 10 (take end text) ≤ 255)
begun_group text end value rest l d g =
    let more = digits_within 0 g.digits rest end g.stops (subst (λ (t : List ℕ). end ≤ length t) g.spelled l) (subst (λ (t : List ℕ). AllDigits 10 (take end t)) g.spelled d) in
    let same : digits_value 10 (take end text) ≡ digits_value 10 (take end (g.digits ++ rest)) = ap (λ (t : List ℕ). digits_value 10 (take end t)) g.spelled in
    (omega (arith, more.0, g.group.few), omega (arith, same, more.1, g.group.is, g.group.small))

first_digit : (ds rest : List ℕ) → 0 < length ds → AllDigits 10 ds → (0 < length (ds ++ rest)) × StartsWithDigit (ds ++ rest)
first_digit [] rest l d = absurd (omega (arith, l))
first_digit (c ∷ ds) rest l d = (omega arith, d.0)

-- a group begins with a digit
pub some_digit : (text : List ℕ) (start value : ℕ) (rest : List ℕ) → start ≡ 0 → FirstGroup text value rest
    → (start < length text) × (digit_value (get_or text start 0) < 10)
some_digit text start value rest e g =
    subst (λ (k : ℕ). (k < length text) × (digit_value (get_or text k 0) < 10)) (sym e)
    (subst (λ (t : List ℕ). (0 < length t) × StartsWithDigit t) (sym g.spelled) (first_digit g.digits rest g.group.some g.group.digits))

-- a group and its mark are a first group
pub group_first : (mark : ℕ) (text : List ℕ) → (digit_value mark < 10 → ⊥) → (g : GroupWith mark text) → FirstGroup text g.value (mark ∷ g.rest)
group_first mark text n g = record { digits = g.digits; group = g.group; spelled = g.spelled; stops = n }

-- another byte than the mark stands behind the first group
pub no_group_with : (mark : ℕ) (text : List ℕ) (v : ℕ) (rest : List ℕ) → (digit_value mark < 10 → ⊥) → FirstGroup text v rest
    → ((behind : List ℕ) → rest ≡ mark ∷ behind → ⊥) → GroupWith mark text → ⊥
no_group_with mark text v rest n f other g = other g.rest (one_group text v g.value rest (mark ∷ g.rest) f (group_first mark text n g)).1

-- ---- what the parts of the reader read

pub before_some : (mark : ℕ) (text : List ℕ) (v : ℕ) (behind rest : List ℕ) → FirstGroup text v behind → behind ≡ mark ∷ rest → ReadsBefore mark text (Some v) rest
before_some mark text v behind rest g e = record {
  part = g.digits ++ mark ∷ [];
  is = (g.digits, g.group, refl);
  spelled = g.spelled ∙ ap (λ (t : List ℕ). g.digits ++ t) e ∙ sym (append_assoc g.digits (mark ∷ []) rest);
  absent = λ h. absurd cc;
}

pub before_none : (mark : ℕ) (text : List ℕ) → (GroupWith mark text → ⊥) → ReadsBefore mark text None text
before_none mark text n = record { part = []; is = refl; spelled = refl; absent = λ h. n }

pub behind_some : (mark : ℕ) (text : List ℕ) (v : ℕ) (behind rest : List ℕ) → text ≡ mark ∷ behind → FirstGroup behind v rest → ReadsBehind mark text (Some v) rest
behind_some mark text v behind rest e g = record {
  part = mark ∷ g.digits;
  is = (g.digits, g.group, refl);
  spelled = e ∙ ap (λ (t : List ℕ). mark ∷ t) g.spelled;
  absent = λ h. absurd cc;
  stops = λ n h. g.stops;
}

-- a part that is read with its mark
pub group_with : (mark : ℕ) (part text rest : List ℕ) (v : ℕ) → Before mark part (Some v) → text ≡ part ++ rest → GroupWith mark text
group_with mark part text rest v b e = record {
  digits = b.0;
  value = v;
  rest = rest;
  group = b.1;
  spelled = e ∙ ap (λ (t : List ℕ). t ++ rest) b.2 ∙ append_assoc b.0 (mark ∷ []) rest;
}

pub absent_is : (part text rest : List ℕ) → part ≡ [] → text ≡ part ++ rest → text ≡ rest
absent_is part text rest b e = e ∙ ap (λ (t : List ℕ). t ++ rest) b

first_of : (mark : ℕ) (text part rest : List ℕ) (v : ℕ) → (digit_value mark < 10 → ⊥) → Before mark part (Some v) → text ≡ part ++ rest → FirstGroup text v (mark ∷ rest)
first_of mark text part rest v n b e = record {
  digits = b.0;
  group = b.1;
  spelled = e ∙ ap (λ (t : List ℕ). t ++ rest) b.2 ∙ append_assoc b.0 (mark ∷ []) rest;
  stops = n;
}

-- a text is read in one way
pub one_before : (mark : ℕ) (text : List ℕ) (v w : Option ℕ) (r s : List ℕ) → (digit_value mark < 10 → ⊥) → ReadsBefore mark text v r → ReadsBefore mark text w s → (v ≡ w) × (r ≡ s)
one_before mark text None None r s n x y = (refl, sym (absent_is x.part text r x.is x.spelled) ∙ absent_is y.part text s y.is y.spelled)
one_before mark text (Some v) None r s n x y =
    absurd (y.absent refl (subst (GroupWith mark) (absent_is y.part text s y.is y.spelled) (group_with mark x.part text r v x.is x.spelled)))
one_before mark text None (Some w) r s n x y =
    absurd (x.absent refl (subst (GroupWith mark) (absent_is x.part text r x.is x.spelled) (group_with mark y.part text s w y.is y.spelled)))
one_before mark text (Some v) (Some w) r s n x y =
    let e : (v ≡ w) × (mark ∷ r ≡ mark ∷ s) = one_group text v w (mark ∷ r) (mark ∷ s) (first_of mark text x.part r v n x.is x.spelled) (first_of mark text y.part s w n y.is y.spelled) in
    (ap Some e.0, cc (e.1))

pub first_behind : (mark : ℕ) (text part rest : List ℕ) (v : ℕ) → (StartsWithDigit rest → ⊥) → Behind mark part (Some v) → text ≡ part ++ rest
    → (behind : List ℕ) × (text ≡ mark ∷ behind) × FirstGroup behind v rest
first_behind mark text part rest v n b e =
    (b.0 ++ rest, e ∙ ap (λ (t : List ℕ). t ++ rest) b.2, record { digits = b.0; group = b.1; spelled = refl; stops = n })

pub one_behind : (mark : ℕ) (text : List ℕ) (v w : Option ℕ) (r s : List ℕ) → ReadsBehind mark text v r → ReadsBehind mark text w s → (v ≡ w) × (r ≡ s)
one_behind mark text None None r s x y = (refl, sym (absent_is x.part text r x.is x.spelled) ∙ absent_is y.part text s y.is y.spelled)
one_behind mark text (Some v) None r s x y =
    let b = first_behind mark text x.part r v (x.stops v refl) x.is x.spelled in
    absurd (y.absent refl b.0 (sym (absent_is y.part text s y.is y.spelled) ∙ b.1))
one_behind mark text None (Some w) r s x y =
    let b = first_behind mark text y.part s w (y.stops w refl) y.is y.spelled in
    absurd (x.absent refl b.0 (sym (absent_is x.part text r x.is x.spelled) ∙ b.1))
one_behind mark text (Some v) (Some w) r s x y =
    let b = first_behind mark text x.part r v (x.stops v refl) x.is x.spelled in
    let d = first_behind mark text y.part s w (y.stops w refl) y.is y.spelled in
    let same : mark ∷ b.0 ≡ mark ∷ d.0 = sym b.1 ∙ d.1 in
    let behind : b.0 ≡ d.0 = cc in
    let e : (v ≡ w) × (r ≡ s) = one_group d.0 v w r s (subst (λ (t : List ℕ). FirstGroup t v r) behind b.2) d.2 in
    (ap Some e.0, e.1)

-- ---- an ending is read in one way

-- the group F, its mark lower than a point and than digits
record Marked (text : List ℕ) (f : ℕ) : Type 0 where
  pub mark : ℕ
  pub digits : List ℕ
  pub group : Group digits f
  pub spelled : text ≡ mark ∷ digits
  pub low : mark < 46

marked : (text : List ℕ) (f : ℕ) → Storage text (Some f) → Marked text f
marked text f (inl x) = record { mark = 42; digits = x.0; group = x.1; spelled = x.2; low = omega arith }
marked text f (inr x) = record { mark = 38; digits = x.0; group = x.1; spelled = x.2; low = omega arith }

empty : (text : List ℕ) → Storage text None → text ≡ []
empty text (inl x) = x
empty text (inr x) = x

pub some_length : (n : ℕ) → (n == 0) ≡ false → 0 < n
some_length zero e = absurd cc
some_length (suc n) e = omega arith

-- behind the mark of the group F stands a first group, and nothing behind that
marked_group : (text : List ℕ) (f : ℕ) → Marked text f → FirstGroup (drop 1 text) f []
marked_group text f x = record {
  digits = x.digits;
  group = x.group;
  spelled = ap (λ (t : List ℕ). drop 1 t) x.spelled ∙ sym (append-nil x.digits);
  stops = λ h. absurd (omega (arith, (digit_in 0 h).0));
}

pub stored_group : (text : List ℕ) (f : Option ℕ) → 0 < length text → Storage text f → (value : ℕ) × FirstGroup (take (length text - 1) (drop 1 text)) value []
stored_group text None l x = (let e : length text ≡ 0 = ap length (empty text x) in absurd (omega (arith, l, e)))
stored_group text (Some f) l x = (f, subst (λ (t : List ℕ). FirstGroup t f []) (sym (take_rest text 1)) (marked_group text f (marked text f x)))

not_both : (text : List ℕ) (f : ℕ) → text ≡ [] → Marked text f → ⊥
not_both text f e x = (let h : [] ≡ x.mark ∷ x.digits = sym e ∙ x.spelled in cc)

same_marked : (text : List ℕ) (f g : ℕ) → Marked text f → Marked text g → f ≡ g
same_marked text f g x y =
    let e : x.mark ∷ x.digits ≡ y.mark ∷ y.digits = sym x.spelled ∙ y.spelled in
    let digits : x.digits ≡ y.digits = cc in
    x.group.is ∙ ap (digits_value 10) digits ∙ sym y.group.is

pub one_storage : (text : List ℕ) (f g : Option ℕ) → Storage text f → Storage text g → f ≡ g
one_storage text None None x y = refl
one_storage text None (Some g) x y = absurd (not_both text g (empty text x) (marked text g y))
one_storage text (Some f) None x y = absurd (not_both text f (empty text y) (marked text f x))
one_storage text (Some f) (Some g) x y = ap Some (same_marked text f g (marked text f x) (marked text g y))

low_digit : (c : ℕ) → c < 46 → digit_value c < 10 → ⊥
low_digit c l h = omega (arith, (digit_in c h).0)

no_digit_in_marked : (text : List ℕ) (f : ℕ) → Marked text f → StartsWithDigit text → ⊥
no_digit_in_marked text f x h = low_digit x.mark x.low (subst StartsWithDigit x.spelled h)

-- what stands behind E begins with `*` or `&`, or nothing stands there
pub no_digit_in_storage : (text : List ℕ) (f : Option ℕ) → Storage text f → StartsWithDigit text → ⊥
no_digit_in_storage text None x h = (let m : digit_value 0 < 10 = subst StartsWithDigit (empty text x) h in low_digit 0 (omega arith) m)
no_digit_in_storage text (Some f) x h = no_digit_in_marked text f (marked text f x) h

pub no_point_in_storage : (text behind : List ℕ) (f : Option ℕ) → Storage text f → text ≡ 46 ∷ behind → ⊥
no_point_in_storage text behind None x h = (let e : [] ≡ 46 ∷ behind = sym (empty text x) ∙ h in cc)
no_point_in_storage text behind (Some f) x h =
    let m : Marked text f = marked text f x in
    let e : m.mark ∷ m.digits ≡ 46 ∷ behind = sym m.spelled ∙ h in
    let same : m.mark ≡ 46 = cc in
    omega (arith, same, m.low)

no_digit_in_rest : (e_text f_text : List ℕ) (e f : Option ℕ) → Behind 46 e_text e → Storage f_text f → StartsWithDigit (e_text ++ f_text) → ⊥
no_digit_in_rest e_text f_text None f x y h = no_digit_in_storage f_text f y (subst (λ (t : List ℕ). StartsWithDigit (t ++ f_text)) x h)
no_digit_in_rest e_text f_text (Some e) f x y h =
    (let m : StartsWithDigit ((46 ∷ x.0) ++ f_text) = subst (λ (t : List ℕ). StartsWithDigit (t ++ f_text)) x.2 h in absurd (omega (arith, (digit_in 46 m).0)))

pub ending_d : (text : List ℕ) (d : ℕ) (e f : Option ℕ) → (x : AddressEnding text d e f) → FirstGroup text d (x.e_text ++ x.f_text)
ending_d text d e f x = record { digits = x.d_text; group = x.d_is; spelled = x.spelled; stops = no_digit_in_rest x.e_text x.f_text e f x.e_is x.f_is }

pub ending_e : (text : List ℕ) (d : ℕ) (e f : Option ℕ) → (x : AddressEnding text d e f) → ReadsBehind 46 (x.e_text ++ x.f_text) e x.f_text
ending_e text d e f x = record {
  part = x.e_text;
  is = x.e_is;
  spelled = refl;
  absent = λ h behind. no_point_in_storage x.f_text behind f x.f_is;
  stops = λ n h. no_digit_in_storage x.f_text f x.f_is;
}
