-- A writer of rows of any number of fields writes each as the default writer does.
use Rattle.std.proofs.Common.{◌≡◌, ◌++◌, ℕ, List, [], ◌∷◌, ap, refl}
use Rattle.std.specs.Prelude.{◌==◌, if◌then◌else◌, length}
use Rattle.std.specs.List.{list_any}
use Rattle.csv.specs.Writing.{default_writer, escaped, field_text, fields_text, is_blank, needs_byte, row_body, row_text}
use Rattle.pw_report.specs.inner.Rows.{flexible_writer}

escaped-same : (x : List ℕ) → escaped flexible_writer x ≡ escaped default_writer x
unfolding escaped
escaped-same [] = refl
escaped-same (b ∷ rest) = ap (λ t. if b == 34 then 34 ∷ b ∷ t else b ∷ t) (escaped-same rest)

field-same : (x : List ℕ) → field_text flexible_writer x ≡ field_text default_writer x
field-same x = ap (λ t. if list_any (needs_byte default_writer) x then 34 ∷ (t ++ (34 ∷ [])) else x) (escaped-same x)

fields-same : (xs : List (List ℕ)) → fields_text flexible_writer xs ≡ fields_text default_writer xs
unfolding fields_text
fields-same [] = refl
fields-same (x ∷ xs) = λ i. 44 ∷ (field-same x i ++ fields-same xs i)

body-same : (xs : List (List ℕ)) → row_body flexible_writer xs ≡ row_body default_writer xs
body-same [] = refl
body-same (x ∷ xs) = λ i. field-same x i ++ fields-same xs i

blank-same : (xs : List (List ℕ)) → is_blank flexible_writer xs ≡ is_blank default_writer xs
unfolding is_blank
blank-same [] = refl
blank-same (x ∷ []) = ap (λ t. length t == 0) (field-same x)
blank-same (x ∷ y ∷ ys) = refl

pub row-same : (xs : List (List ℕ)) → row_text flexible_writer xs ≡ row_text default_writer xs
row-same xs = λ i. body-same xs i ++ ((if blank-same xs i then 34 ∷ 34 ∷ [] else []) ++ (10 ∷ []))
