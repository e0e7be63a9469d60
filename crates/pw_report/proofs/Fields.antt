-- Rows of CSV by their fields, and rows behind rows.
use Rattle.std.proofs.Common.{◌≡◌, ◌∙◌, ◌<◌, ◌+◌, ℕ, List, [], ◌∷◌, ◌++◌, Result, Ok, Err, OnOk, IfOk, Vec, Global, length, get_or, take, ap, append_assoc, refl, subst, sym}
use Rattle.std.specs.Prelude.{map}
use Rattle.std.specs.List.{flat_map}
use Rattle.std.proofs.lemmas.Grind.{flat_map-append}
use Rattle.std.proofs.lemmas.List.{append-nil, flat_map_more, get_or_default, map-append, take_more}
use Rattle.pw_obis.specs.declared.reference.Register.{Register}
use Rattle.pw_obis.specs.Registers.{registers}
use Rattle.pw_tariff.specs.Office.{OfficeFile}
use Rattle.pw_model.specs.declared.records.Entry.{Entry}
use Rattle.pw_model.specs.declared.records.ReadingRow.{ReadingRow}
use Rattle.pw_model.specs.Kinds.{ListsHeld}
use Rattle.pw_model.specs.Lists.{AreReadings}
use Rattle.pw_model.specs.Shelf.{ShelfContent}
use Rattle.pw_record.specs.declared.row.RowKind.{RowKind}
use Rattle.pw_record.specs.Row.{header_of}
use Rattle.pw_report.specs.Exports.{csv_line, meter_lines, one_meter_text, reading_line, readings_header, readings_text, record_line, records_text}
use Rattle.pw_report.specs.Layout.{listed_below}
use Rattle.pw_report.specs.Names.{meter_name}
use Rattle.pw_report.specs.Pages.{IsOfRow, IsOneMeterText, IsReadingsText, IsRecordsText}
use Rattle.pw_report.specs.declared.rows.Rows.{Rows}
use Rattle.pw_report.specs.inner.Rows.{HasText}
use Rattle.pw_report.proofs.Listed.{listed-next}

-- ---- a text under another name
pub text-is : (rows : Rows) (a b : List ℕ) → a ≡ b → HasText rows a [] → HasText rows b []
text-is rows a b e h = subst (λ (t : List ℕ). HasText rows t []) e h

pub written-is : {T E : Type 0} (result : Result T E) (rows : Rows) (a b : List ℕ) → a ≡ b → OnOk result (HasText rows a []) → OnOk result (HasText rows b [])
written-is result rows a b e h = subst (λ (t : List ℕ). OnOk result (HasText rows t [])) e h

pub row-of : {T E : Type 0} (result : Result T E) (rows : Rows) (before : List ℕ) (fields others : List (List ℕ)) → fields ≡ others →
    OnOk result (HasText rows (before ++ csv_line fields) []) → OnOk result (HasText rows (before ++ csv_line others) [])
row-of result rows before fields others e h = subst (λ (xs : List (List ℕ)). OnOk result (HasText rows (before ++ csv_line xs) [])) e h

-- ---- fields behind fields
pub fields-are : {T E : Type 0} (result : Result T E) (rows : Rows) (before : List ℕ) (fields others : List (List ℕ)) → fields ≡ others →
    OnOk result (HasText rows before fields) → OnOk result (HasText rows before others)
fields-are result rows before fields others e h = subst (λ (xs : List (List ℕ)). OnOk result (HasText rows before xs)) e h

pub three-more : (fields : List (List ℕ)) (a b c : List ℕ) → ((fields ++ (a ∷ [])) ++ (b ∷ [])) ++ (c ∷ []) ≡ fields ++ (a ∷ b ∷ c ∷ [])
three-more [] a b c = refl
three-more (field ∷ fields) a b c = ap (λ (xs : List (List ℕ)). field ∷ xs) (three-more fields a b c)

pub four-more : (fields : List (List ℕ)) (a b c d : List ℕ) → (((fields ++ (a ∷ [])) ++ (b ∷ [])) ++ (c ∷ [])) ++ (d ∷ []) ≡ fields ++ (a ∷ b ∷ c ∷ d ∷ [])
four-more [] a b c d = refl
four-more (field ∷ fields) a b c d = ap (λ (xs : List (List ℕ)). field ∷ xs) (four-more fields a b c d)

pub six-more : (fields : List (List ℕ)) (a b c d e f : List ℕ) →
    (((((fields ++ (a ∷ [])) ++ (b ∷ [])) ++ (c ∷ [])) ++ (d ∷ [])) ++ (e ∷ [])) ++ (f ∷ []) ≡ fields ++ (a ∷ b ∷ c ∷ d ∷ e ∷ f ∷ [])
six-more [] a b c d e f = refl
six-more (field ∷ fields) a b c d e f = ap (λ (xs : List (List ℕ)). field ∷ xs) (six-more fields a b c d e f)

-- ---- texts of the members of a list, one more
pub each-next : {X : Type 0} (f : X → List ℕ) (before : List ℕ) (xs : List X) (i : ℕ) (x : X) → i < length xs → x ≡ get_or xs i x →
    (before ++ flat_map f (take i xs)) ++ f x ≡ before ++ flat_map f (take (i + 1) xs)
each-next f before xs i x within is =
    flat_map_more f before (take i xs) x ∙ ap (λ y. before ++ flat_map f (take i xs ++ y ∷ [])) is ∙ ap (λ ys. before ++ flat_map f ys) (sym (take_more xs i x within))

-- the members of a list under a function, one more
pub mapped-next : {X Y : Type 0} (f : X → Y) (xs : List X) (i : ℕ) (d : X) → i < length xs → map f (take i xs) ++ (f (get_or xs i d) ∷ []) ≡ map f (take (i + 1) xs)
mapped-next f xs i d within = sym (map-append f (take i xs) (get_or xs i d ∷ [])) ∙ ap (λ ys. map f ys) (sym (take_more xs i d within))

-- two more, of the next number
pub two-next : {X : Type 0} (f : X → List ℕ) (before : List ℕ) (g : ℕ → List X) (n : ℕ) (x y : X) → (x ∷ y ∷ []) ≡ g n →
    ((before ++ flat_map f (listed_below n g)) ++ f x) ++ f y ≡ before ++ flat_map f (listed_below (n + 1) g)
two-next f before g n x y e =
    let xs = listed_below n g in
    ap (λ t. t ++ f y) (flat_map_more f before xs x) ∙ flat_map_more f before (xs ++ x ∷ []) y
    ∙ ap (λ ys. before ++ flat_map f ys) (append_assoc xs (x ∷ []) (y ∷ []) ∙ ap (λ ys. xs ++ ys) e ∙ listed-next g n)

-- all of the next number
pub all-next : {X : Type 0} (f : X → List ℕ) (before : List ℕ) (first : List X) (g : ℕ → List X) (n : ℕ) →
    (before ++ flat_map f (first ++ listed_below n g)) ++ flat_map f (g n) ≡ before ++ flat_map f (first ++ listed_below (n + 1) g)
all-next f before first g n =
    append_assoc before (flat_map f (first ++ listed_below n g)) (flat_map f (g n))
    ∙ ap (λ t. before ++ t) (sym (flat_map-append f (first ++ listed_below n g) (g n)))
    ∙ ap (λ ys. before ++ flat_map f ys) (append_assoc first (listed_below n g) (g n) ∙ ap (λ ys. first ++ ys) (listed-next g n))

-- none yet
pub flat-none : {X : Type 0} (f : X → List ℕ) (before : List ℕ) (g : ℕ → List X) → before ≡ before ++ flat_map f (listed_below 0 g)
unfolding listed_below
flat-none f before g = sym (append-nil before)

-- ---- the registers of a meter, one more
register-more : (rows : Rows) (now name : List ℕ) (readings : Register → List ReadingRow) (before : List ℕ) (i : ℕ) (d : Register) → now ≡ name → i < 6 →
    HasText rows ((before ++ flat_map (λ r. flat_map (reading_line name r) (readings r)) (take i registers)) ++ flat_map (reading_line now (get_or registers i d)) (readings (get_or registers i d))) [] →
    HasText rows (before ++ flat_map (λ r. flat_map (reading_line name r) (readings r)) (take (i + 1) registers)) []
register-more rows now name readings before i d e within h =
    let f : Register → List ℕ = λ r. flat_map (reading_line name r) (readings r) in
    let r = get_or registers i d in
    text-is rows _ _ ((λ j. (before ++ flat_map f (take i registers)) ++ flat_map (reading_line (e j) r) (readings r)) ∙ each-next f before registers i r within (get_or_default registers i d r within)) h

pub register-next : (new old : Rows) (content was : ShelfContent) (now name : List ℕ) (m : ℕ) (readings : Register → List ReadingRow) (before : List ℕ) (i : ℕ) (d : Register) → content ≡ was → now ≡ name → i < 6 →
    ((r : Register) → AreReadings was.records m r (readings r)) →
    HasText old (before ++ flat_map (λ r. flat_map (reading_line name r) (readings r)) (take i registers)) [] →
    ((rows : List ReadingRow) → AreReadings content.records m (get_or registers i d) rows → (text : List ℕ) → HasText old text [] → HasText new (text ++ flat_map (reading_line now (get_or registers i d)) rows) []) →
    HasText new (before ++ flat_map (λ r. flat_map (reading_line name r) (readings r)) (take (i + 1) registers)) []
register-next new old content was now name m readings before i d c e within are h put =
    let r = get_or registers i d in
    let here : AreReadings content.records m r (readings r) = subst (λ (k : ShelfContent). AreReadings k.records m r (readings r)) (sym c) (are r) in
    register-more new now name readings before i d e within (put (readings r) here _ h)

-- ---- what the rows end with
pub ended-is : {E : Type 0} (result : Result (Vec ℕ Global) E) (a b : List ℕ) → a ≡ b → IfOk result (λ v. v.items ≡ a) → IfOk result (λ v. v.items ≡ b)
ended-is result a b e h = subst (λ (t : List ℕ). IfOk result (λ v. v.items ≡ t)) e h

pub meter-told : {E : Type 0} (result : Result (Vec ℕ Global) E) (file now : OfficeFile) (s : List Entry) (m : ℕ) (readings : Register → List ReadingRow) → now ≡ file →
    ((r : Register) → AreReadings s m r (readings r)) →
    IfOk result (λ v. v.items ≡ csv_line readings_header ++ meter_lines (meter_name now m) readings) → IfOk result (λ v. IsOneMeterText file s m v.items)
unfolding one_meter_text
meter-told (Ok v) file now s m readings o are h = (readings, are, h ∙ (λ i. csv_line readings_header ++ meter_lines (meter_name (o i) m) readings))
meter-told (Err fault) file now s m readings o are h = tt

pub readings-told : {E : Type 0} (result : Result (Vec ℕ Global) E) (file : OfficeFile) (s : List Entry) (readings : ℕ → Register → List ReadingRow) (n : ℕ) → n ≡ length file.meters →
    ((m : ℕ) (r : Register) → AreReadings s m r (readings m r)) →
    IfOk result (λ v. v.items ≡ csv_line readings_header ++ listed_below n (λ m. meter_lines (meter_name file m) (readings m))) → IfOk result (λ v. IsReadingsText file s v.items)
unfolding readings_text
readings-told (Ok v) file s readings n e are h = (readings, are, h ∙ ap (λ k. csv_line readings_header ++ listed_below k (λ m. meter_lines (meter_name file m) (readings m))) e)
readings-told (Err fault) file s readings n e are h = tt

pub records-told : {E : Type 0} (result : Result (Vec ℕ Global) E) (kind : RowKind) (file now : OfficeFile) (s records shown : List Entry) → now ≡ file → shown ≡ records → ListsHeld (IsOfRow kind) s records →
    IfOk result (λ v. v.items ≡ csv_line (header_of kind) ++ flat_map (record_line now) shown) → IfOk result (λ v. IsRecordsText kind file s v.items)
unfolding records_text
records-told (Ok v) kind file now s records shown o e held h = (records, held, h ∙ (λ i. csv_line (header_of kind) ++ flat_map (record_line (o i)) (e i)))
records-told (Err fault) kind file now s records shown o e held h = tt
