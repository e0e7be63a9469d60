-- What comes of uploads makes the records after them.
use Rattle.std.proofs.Common.{◌≡◌, ℕ, suc, ◌<◌, List, [], ◌∷◌, ◌++◌, map, length, get_or, inl, inr, Result, Ok, Err, refl, sym, subst, ◌∙◌, append_assoc, arith}
use Rattle.std.specs.List.{flat_map}
use Rattle.std.proofs.lemmas.List.{append-nil}
use Rattle.pw_tariff.specs.Office.{OfficeFile, office_of}
use Rattle.pw_model.specs.declared.records.Entry.{Entry}
use Rattle.pw_model.specs.Counting.{SameMembers}
use Rattle.pw_model.proofs.Answers.{order_counts_nothing}
use Rattle.pw_record.specs.declared.fault.UploadFault.{UploadFault}
use Rattle.pw_record.specs.declared.laws.UploadBytes.{UploadBytes}
use Rattle.pw_record.specs.Uploads.{Upload, RefusesContent}
use Rattle.pw_record.specs.Laws.{HasOneOutcome, upload_of}
use Rattle.pw_record.proofs.EachOutcome.{only-one}
use Rattle.pw_book.specs.After.{Brings, After, AreOutcomes, given_by, after_of, HaveOneAfter}
use Rattle.pw_book.proofs.Order.{AreOne, one-after}
use Rattle.pw_book.proofs.Running.{accepted-first, behind-nothing}

abbrev Outcome : Type 0
Outcome = Result (List Entry) UploadFault

-- ---- one list of outcomes
one-more : (o p : Outcome) (os ps : List Outcome) → o ≡ p → os ≡ ps → o ∷ os ≡ p ∷ ps
one-more o p os ps e f = cc

one-list : (file : OfficeFile) → AreOne file → (us : List Upload) (os ps : List Outcome) → AreOutcomes file us os → AreOutcomes file us ps → os ≡ ps
one-list file one [] os ps a b = a ∙ sym b
one-list file one (u ∷ us) [] ps a b = absurd a
one-list file one (u ∷ us) (o ∷ os) [] a b = absurd b
one-list file one (u ∷ us) (o ∷ os) (p ∷ ps) a b = one-more o p os ps (only-one file u (one u) o p a.0 b.0) (one-list file one us os ps a.1 b.1)

-- ---- the records that it makes
refused-first : (file : OfficeFile) → AreOne file → (v : Upload) (fault : UploadFault) (s t : List Entry) (us : List Upload) → RefusesContent file v fault → After file s us t → After file s (v ∷ us) t
refused-first file one v fault s t us r a x = (
  λ m. elim ((a x).0 m) [ inl b ↦ inl b | inr b ↦ inr (b.0, inr b.1, b.2) ],
  λ m. (a x).1 (elim m [
    | inl b ↦ inl b
    | inr b ↦ elim b.1 [
      | inl i ↦ (let P : Upload → Type 0 = λ w. Brings file w x in let c : Brings file v x = subst P i b.2 in absurd ((one v).either c.0 fault c.1 r))
      | inr n ↦ inr (b.0, n, b.2)
    ]
  ]),
)

made : (file : OfficeFile) → AreOne file → (us : List Upload) (os : List Outcome) → AreOutcomes file us os → (before : List Entry) → After file before us (after_of before os)
made file one [] [] a before = let P : List Entry → Type 0 = λ t. After file before [] t in subst P (sym (append-nil before)) (behind-nothing file before)
made file one [] (o ∷ os) a before = absurd (let e : o ∷ os ≡ [] = a in cc)
made file one (u ∷ us) [] a before = absurd a
made file one (u ∷ us) (Ok entries ∷ os) a before =
    let P : List Entry → Type 0 = λ t. After file before (u ∷ us) t in
    subst P (append_assoc before entries (flat_map given_by os))
    (accepted-first file one u entries before (before ++ entries) (after_of (before ++ entries) os) us a.0 (λ x. (λ m. m, λ m. m)) (made file one us os a.1 (before ++ entries)))
made file one (u ∷ us) (Err fault ∷ os) a before = refused-first file one u fault before (after_of before os) us a.0 (made file one us os a.1 before)

-- ---- outcomes there are
-- each of these uploads has its outcome
abbrev pub EachHas : OfficeFile → List UploadBytes → ℕ → Type 0
EachHas file xs n = (k : ℕ) → k < n → (d : UploadBytes) → HasOneOutcome file (upload_of (get_or xs k d))

there-are : (file : OfficeFile) (xs : List UploadBytes) → EachHas file xs (length xs) → (os : List Outcome) × AreOutcomes file (map upload_of xs) os
there-are file [] h = ([], refl)
there-are file (x ∷ xs) h =
    let here : HasOneOutcome file (upload_of x) = h 0 (omega arith) x in
    let more : (os : List Outcome) × AreOutcomes file (map upload_of xs) os = there-are file xs (λ k l. h (suc k) (omega (arith, l))) in
    (here.outcome ∷ more.0, (here.holds, more.1))

pub have-one-after : (file : OfficeFile) → AreOne file → (xs : List UploadBytes) → EachHas file xs (length xs) → HaveOneAfter file (map upload_of xs)
have-one-after file one xs h =
    let us : List Upload = map upload_of xs in
    let os : (os : List Outcome) × AreOutcomes file us os = there-are file xs h in
    record {
      outcomes = os.0;
      each = os.1;
      only = λ others a. one-list file one us os.0 others os.1 a;
      after = λ before. made file one us os.0 os.1 before;
      alone = λ before records a.
          let same : SameMembers (after_of before os.0) records = one-after file before us (after_of before os.0) records (made file one us os.0 os.1 before) a in
          (same, order_counts_nothing (office_of file) (after_of before os.0) records same);
    }
