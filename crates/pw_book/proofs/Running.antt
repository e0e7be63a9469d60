-- What runs of uploads bring.
use Rattle.std.proofs.Common.{◌≡◌, ℕ, List, [], ◌∷◌, ◌++◌, refl, sym, subst, inl, inr, Ok, Err}
use Rattle.pw_tariff.specs.Office.{OfficeFile, office_of}
use Rattle.pw_model.specs.declared.records.Entry.{Entry}
use Rattle.pw_model.specs.Counting.{SameMembers}
use Rattle.pw_model.specs.Shelf.{ShelfContent}
use Rattle.pw_model.proofs.Answers.{order_counts_nothing}
use Rattle.pw_record.specs.Uploads.{Upload, Gives}
use Rattle.pw_book.specs.declared.fault.PostFault.TheVariants.{Full, Device, Memory, Reopen}
use Rattle.pw_book.specs.After.{Brings, After, Outcome, Refused, Posted, LeadsTo, IsRun, if_accepted, accepted_in, AreAccepted, RunsLeaveAfter}
use Rattle.pw_model.proofs.Places.{member-left, member-right, member-split}
use Rattle.pw_book.proofs.Order.{AreOne, brings-these, in-order, one-after}

-- an upload that isn't accepted leaves the content as it is
refused-same : (file : OfficeFile) (old new : ShelfContent) (us : List Upload) (t : List Entry) → new ≡ old → After file new.records us t → After file old.records us t
refused-same file old new us t e a = let P : ShelfContent → Type 0 = λ c. After file c.records us t in subst P e a

-- an accepted one adds what it gives
pub accepted-first : (file : OfficeFile) → AreOne file → (v : Upload) (entries old mid t : List Entry) (us : List Upload) → Gives file v entries → SameMembers mid (old ++ entries) → After file mid us t → After file old (v ∷ us) t
accepted-first file one v entries old mid t us g same a x = (
  λ m. elim ((a x).0 m) [
    | inl b ↦ elim (member-split x old entries ((same x).0 b)) [ inl c ↦ inl c | inr c ↦ inr (v, inl refl, (entries, g, c)) ]
    | inr b ↦ inr (b.0, inr b.1, b.2)
  ],
  λ m. (a x).1 (elim m [
    | inl b ↦ inl ((same x).1 (member-left x old entries b))
    | inr b ↦ elim b.1 [
      | inl i ↦ let P : Upload → Type 0 = λ w. Brings file w x in inl ((same x).1 (member-right x old entries (brings-these file one v entries x g (subst P i b.2))))
      | inr n ↦ inr (b.0, n, b.2)
    ]
  ]),
)

one-step : (file : OfficeFile) → AreOne file → (limit : ℕ) (v : Upload) (outcome : Outcome) (old mid : ShelfContent) (us : List Upload) (t : List Entry) → LeadsTo file limit v outcome old mid → After file mid.records us t →
    After file old.records (if_accepted outcome v ++ us) t
one-step file one limit v (Refused fault) old mid us t s a = refused-same file old mid us t s.1 a
one-step file one limit v (Posted (Ok accepted)) old mid us t s a = accepted-first file one v s.0 old.records mid.records t us s.1 s.2.content.records a
one-step file one limit v (Posted (Err (Full held stated))) old mid us t s a = refused-same file old mid us t s.2.content a
one-step file one limit v (Posted (Err Device)) old mid us t s a = refused-same file old mid us t s.2 a
one-step file one limit v (Posted (Err Memory)) old mid us t s a = refused-same file old mid us t s.2 a
one-step file one limit v (Posted (Err Reopen)) old mid us t s a = absurd (s.3 refl)

pub behind-nothing : (file : OfficeFile) (s : List Entry) → After file s [] s
behind-nothing file s x = (λ m. inl m, λ m. elim m [ inl b ↦ b | inr b ↦ absurd b.1 ])

run-after : (file : OfficeFile) → AreOne file → (limit : ℕ) (run : List (Upload × Outcome)) (old new : ShelfContent) → IsRun file limit run old new → After file old.records (accepted_in run) new.records
run-after file one limit [] old new e = let P : ShelfContent → Type 0 = λ c. After file old.records [] c.records in subst P (sym e) (behind-nothing file old.records)
run-after file one limit (sent ∷ others) old new (mid, s, r) = one-step file one limit sent.0 sent.1 old mid (accepted_in others) new.records s (run-after file one limit others mid new r)

-- uploads that are refused for their content bring nothing
beside-after : (file : OfficeFile) → AreOne file → (run : List (Upload × Outcome)) (us : List Upload) (s t : List Entry) → AreAccepted file run us → After file s (accepted_in run) t → After file s us t
beside-after file one run us s t h a x = (
  λ m. elim ((a x).0 m) [ inl b ↦ inl b | inr b ↦ inr (b.0, h.all b.0 b.1, b.2) ],
  λ m. (a x).1 (elim m [
    | inl b ↦ inl b
    | inr b ↦ elim (h.only b.0 b.1) [ inl n ↦ inr (b.0, n, b.2) | inr f ↦ absurd ((one b.0).either b.2.0 f.0 b.2.1 f.1) ]
  ]),
)

-- from the same records
from-same : (file : OfficeFile) (s s' : List Entry) (us : List Upload) (t : List Entry) → SameMembers s s' → After file s us t → After file s' us t
from-same file s s' us t h a x = (
  λ m. elim ((a x).0 m) [ inl b ↦ inl ((h x).0 b) | inr b ↦ inr b ],
  λ m. (a x).1 (elim m [ inl b ↦ inl ((h x).1 b) | inr b ↦ inr b ]),
)

pub runs-leave-after : (file : OfficeFile) → AreOne file → RunsLeaveAfter file
runs-leave-after file one = record {
  after = run-after file one;
  beside = λ limit run us old new r h. beside-after file one run us old.records new.records h (run-after file one limit run old new r);
  same = λ limit limit' run run' old new old' new' r r' s h.
      let a = in-order file old'.records (accepted_in run) (accepted_in run') new.records h (from-same file old.records old'.records (accepted_in run) new.records s (run-after file one limit run old new r)) in
      let t = one-after file old'.records (accepted_in run') new.records new'.records a (run-after file one limit' run' old' new' r') in
      (t, order_counts_nothing (office_of file) new.records new'.records t);
}
