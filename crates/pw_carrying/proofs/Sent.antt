-- Records that are carried, some behind others.
use Rattle.std.proofs.Common.{◌≡◌, ℕ, ◌+◌, ◌≤◌, List, [], ◌∷◌, ◌++◌, take, drop, length, Result, Ok, Err, refl, ap, sym, subst, ◌∙◌, inl, inr}
use Rattle.std.proofs.lemmas.List.{append-nil, append_assoc, map-append, take-append-drop, take_all}
use Rattle.pw_tariff.specs.Office.{OfficeFile, office_of}
use Rattle.pw_model.specs.declared.records.Entry.{Entry}
use Rattle.pw_model.specs.Counting.{Member, SameMembers}
use Rattle.pw_model.specs.Office.{AllOfOffice, IsOfOffice}
use Rattle.pw_model.specs.inner.Search.{IsAt}
use Rattle.pw_model.proofs.Places.{at-member, drop-at, member-left, member-right, member-split, push-to, take-at}
use Rattle.pw_book.specs.declared.fault.PostFault.TheVariants as post
use Rattle.pw_moving.specs.Renaming.{Offices, CanBeCarried, AllCanBeCarried, all_carried, by_names, carried}
use Rattle.pw_moving.proofs.Carried.{member-as, member-from}
use Rattle.pw_carrying.specs.Carrying.{HasCarriedSome}
use Rattle.pw_carrying.specs.declared.fault.CarryFault.{CarryFault}
use Rattle.pw_carrying.specs.declared.fault.CarryFault.TheVariants as carry
use Rattle.pw_carrying.specs.inner.Stages.{AreSent, Gives, HasSent, IsOwnFault, Leads, Sends, StopsAt}

-- ---- carried lists of the same records
pub same-carried : (o : Offices) (before xs ys : List Entry) → SameMembers xs ys → SameMembers (before ++ all_carried o xs) (before ++ all_carried o ys)
same-carried o before xs ys h e =
    let over : (us vs : List Entry) → ((x : Entry) → Member x us → Member x vs) → Member e (before ++ all_carried o us) → Member e (before ++ all_carried o vs) = λ us vs h m.
    elim (member-split e before (all_carried o us) m) [
      | inl k ↦ member-left e before (all_carried o vs) k
      | inr k ↦ (
          let r = member-from (by_names o) us e k in
          let P : Entry → Type 0 = λ x. Member x (all_carried o vs) in
          member-right e before (all_carried o vs) (subst P (sym r.2) (member-as (by_names o) vs r.0 (h r.0 r.1))))
    ] in
    (over xs ys (λ x. (h x).0), over ys xs (λ x. (h x).1))

-- ---- those that can be carried
pub able-both : (o : Offices) (xs ys : List Entry) → AllCanBeCarried o xs → AllCanBeCarried o ys → AllCanBeCarried o (xs ++ ys)
able-both o xs ys a b e m = elim (member-split e xs ys m) [ inl k ↦ a e k | inr k ↦ b e k ]

pub able-more : (o : Offices) (records : List Entry) (i : ℕ) (e : Entry) → IsAt records i e → AllCanBeCarried o (take i records) → CanBeCarried o e → AllCanBeCarried o (take (i + 1) records)
able-more o records i e at a c =
    let P : List Entry → Type 0 = λ xs. AllCanBeCarried o xs in
    let Q : Entry → Type 0 = λ x. CanBeCarried o x in
    subst P (sym (take-at records i e at)) (λ x m. elim (push-to (take i records) e x m) [ inl k ↦ a x k | inr k ↦ subst Q (sym k) c ])

pub carried-more : (o : Offices) (records : List Entry) (i : ℕ) (e f : Entry) (was now : List Entry) → IsAt records i e → f ≡ carried o e → was ≡ all_carried o (take i records) → now ≡ was ++ f ∷ [] →
    now ≡ all_carried o (take (i + 1) records)
carried-more o records i e f was now at h w n =
    n ∙ ap (λ (xs : List Entry). xs ++ f ∷ []) w
    ∙ ap (λ (x : Entry). all_carried o (take i records) ++ x ∷ []) h
    ∙ sym (map-append (carried o) (take i records) (e ∷ []))
    ∙ ap (all_carried o) (sym (take-at records i e at))

pub carried-office : (o : Offices) (xs : List Entry) → AllCanBeCarried o xs → AllOfOffice (office_of o.new) (all_carried o xs)
carried-office o xs a e m =
    let r = member-from (by_names o) xs e m in
    let P : Entry → Type 0 = λ x. IsOfOffice (office_of o.new) x in
    subst P (sym r.2) (a r.0 r.1)

-- all of a list
pub able-all : (o : Offices) (records : List Entry) (i : ℕ) → length records ≤ i → AllCanBeCarried o (take i records) → AllCanBeCarried o records
able-all o records i l a = let P : List Entry → Type 0 = λ xs. AllCanBeCarried o xs in subst P (take_all i records l) a

pub carried-all : (o : Offices) (records : List Entry) (i : ℕ) (found : List Entry) → length records ≤ i → found ≡ all_carried o (take i records) → found ≡ all_carried o records
carried-all o records i found l h = h ∙ ap (all_carried o) (take_all i records l)

-- ---- the first that can't
pub stops-here : (o : Offices) (records : List Entry) (i : ℕ) (e : Entry) → IsAt records i e → AllCanBeCarried o (take i records) → (CanBeCarried o e → ⊥) → StopsAt o records e
stops-here o records i e at a n =
    (take i records, drop (i + 1) records, sym (take-append-drop i records) ∙ ap (λ (xs : List Entry). take i records ++ xs) (drop-at records i e at), a, n)

-- with others in front of them, and behind
pub stops-behind : (o : Offices) (xs ys all : List Entry) (e : Entry) → all ≡ xs ++ ys → AllCanBeCarried o xs → StopsAt o ys e → StopsAt o all e
stops-behind o xs ys all e h a (us, vs, q, b, n) =
    (xs ++ us, vs, h ∙ ap (λ (zs : List Entry). xs ++ zs) q ∙ sym (append_assoc xs us (e ∷ vs)), able-both o xs us a b, n)

pub stops-before : (o : Offices) (xs ys : List Entry) (e : Entry) → StopsAt o xs e → StopsAt o (xs ++ ys) e
stops-before o xs ys e (us, vs, q, b, n) = (us, vs ++ ys, ap (λ (zs : List Entry). zs ++ ys) q ∙ append_assoc us (e ∷ vs) ys, b, n)

-- ---- what came of a step, weaker
pub leads-also : {X : Type 0} (result : Result X CarryFault) (well well' : Type 0) (stop stop' : Entry → Type 0) (part part' : Type 0) → (well → well') → ((e : Entry) → stop e → stop' e) → (part → part') →
    Leads result well stop part → Leads result well' stop' part'
leads-also (Ok x) well well' stop stop' part part' f g h r = f r
leads-also (Err (carry.Record e)) well well' stop stop' part part' f g h r = (g e r.0, h r.1)
leads-also (Err (carry.Post (post.Full held limit))) well well' stop stop' part part' f g h r = h r
leads-also (Err (carry.Post post.Device)) well well' stop stop' part part' f g h r = h r
leads-also (Err (carry.Post post.Memory)) well well' stop stop' part part' f g h r = h r
leads-also (Err (carry.Post post.Reopen)) well well' stop stop' part part' f g h r = tt
leads-also (Err (carry.Book fault)) well well' stop stop' part part' f g h r = h r
leads-also (Err carry.Memory) well well' stop stop' part part' f g h r = h r

-- ---- what was given
-- part of it is carried
pub sent-some : (o : Offices) (given waiting before now : List Entry) → HasSent o given waiting before now → HasCarriedSome o given before now
sent-some o given waiting before now h = record {
  some = h.sent;
  among = λ e m. (let P : List Entry → Type 0 = λ xs. Member e xs in subst P (sym h.all) (member-left e h.sent waiting m));
  content = h.content;
}

pub some-more : (o : Offices) (given more before now : List Entry) → HasCarriedSome o given before now → HasCarriedSome o (given ++ more) before now
some-more o given more before now h = record { some = h.some; among = λ e m. member-left e given more (h.among e m); content = h.content }

pub some-among : (o : Offices) (given records before now : List Entry) → ((e : Entry) → Member e given → Member e records) → HasCarriedSome o given before now → HasCarriedSome o records before now
some-among o given records before now k h = record { some = h.some; among = λ e m. k e (h.among e m); content = h.content }

-- one more waits
pub sent-waits : (o : Offices) (given waiting before now more waiting' : List Entry) → waiting' ≡ waiting ++ more → HasSent o given waiting before now → HasSent o (given ++ more) waiting' before now
sent-waits o given waiting before now more waiting' e h = record {
  sent = h.sent;
  all = ap (λ (xs : List Entry). xs ++ more) h.all ∙ append_assoc h.sent waiting more ∙ ap (λ (xs : List Entry). h.sent ++ xs) (sym e);
  able = h.able;
  content = h.content;
}

-- those that waited are carried
pub sent-all : (o : Offices) (given waiting left before now now' : List Entry) → HasSent o given waiting before now → AreSent o waiting left now now' → HasSent o given left before now'
sent-all o given waiting left before now now' h s = record {
  sent = h.sent ++ waiting;
  all = h.all ∙ sym (append-nil (h.sent ++ waiting)) ∙ ap (λ (xs : List Entry). h.sent ++ waiting ++ xs) (sym s.none_left);
  able = able-both o h.sent waiting h.able s.able;
  content = λ e. (
    λ m. elim (member-split e now (all_carried o waiting) ((s.content e).0 m)) [
      | inl k ↦ elim (member-split e before (all_carried o h.sent) ((h.content e).0 k)) [
        | inl b ↦ member-left e before (all_carried o (h.sent ++ waiting)) b
        | inr b ↦ member-right e before (all_carried o (h.sent ++ waiting)) (over e (member-left e (all_carried o h.sent) (all_carried o waiting) b))
      ]
      | inr k ↦ member-right e before (all_carried o (h.sent ++ waiting)) (over e (member-right e (all_carried o h.sent) (all_carried o waiting) k))
    ],
    λ m. (s.content e).1 (elim (member-split e before (all_carried o (h.sent ++ waiting)) m) [
      | inl b ↦ member-left e now (all_carried o waiting) ((h.content e).1 (member-left e before (all_carried o h.sent) b))
      | inr b ↦ elim (member-split e (all_carried o h.sent) (all_carried o waiting) (back e b)) [
        | inl k ↦ member-left e now (all_carried o waiting) ((h.content e).1 (member-right e before (all_carried o h.sent) k))
        | inr k ↦ member-right e now (all_carried o waiting) k
      ]
    ]),
  );
}
  where
    over : (e : Entry) → Member e (all_carried o h.sent ++ all_carried o waiting) → Member e (all_carried o (h.sent ++ waiting))
    over e m = (let P : List Entry → Type 0 = λ xs. Member e xs in subst P (sym (map-append (carried o) h.sent waiting)) m)

    back : (e : Entry) → Member e (all_carried o (h.sent ++ waiting)) → Member e (all_carried o h.sent ++ all_carried o waiting)
    back e m = (let P : List Entry → Type 0 = λ xs. Member e xs in subst P (map-append (carried o) h.sent waiting) m)

-- ---- steps
-- one record more waits
pub gives-waits : {X : Type 0} (x : X) (old new : OfficeFile) (more now waiting waiting' : List Entry) → waiting' ≡ waiting ++ more → Gives {X = X} old new more now waiting now waiting' (Ok x)
gives-waits x old new more now waiting waiting' e o given before p q of h = sent-waits o given waiting before now more waiting' e h

-- one more waits, and then all are posted
pub gives-sends : {X : Type 0} (result : Result X CarryFault) (old new : OfficeFile) (more now waiting full now' waiting' : List Entry) → full ≡ waiting ++ more → Sends old new now full now' waiting' result →
    Gives old new more now waiting now' waiting' result
gives-sends result old new more now waiting full now' waiting' e s o given before p q of h =
    let waits = sent-waits o given waiting before now more full e h in
    leads-also result (AreSent o full waiting' now now') (HasSent o (given ++ more) waiting' before now') (StopsAt o full) (StopsAt o (given ++ more)) (now' ≡ now) (HasCarriedSome o (given ++ more) before now')
    (λ a. sent-all o (given ++ more) full waiting' before now now' waits a)
    (λ x k. stops-behind o waits.sent full (given ++ more) x waits.all waits.able k)
    (λ k. (let P : List Entry → Type 0 = λ z. HasCarriedSome o (given ++ more) before z in subst P (sym k) (sent-some o (given ++ more) full before now waits)))
    (s o p q (λ x m. of x (let M : List Entry → Type 0 = λ xs. Member x xs in subst M (sym waits.all) (member-right x waits.sent full m))))

-- none is given
pub gives-none : {X : Type 0} (x : X) (old new : OfficeFile) (now waiting : List Entry) → Gives {X = X} old new [] now waiting now waiting (Ok x)
gives-none x old new now waiting o given before p q of h =
    let P : List Entry → Type 0 = λ xs. HasSent o xs waiting before now in
    subst P (sym (append-nil given)) h

-- memory is refused before anything is done
pub gives-fails : (X : Type 0) (old new : OfficeFile) (more now waiting waiting' : List Entry) → Gives {X = X} old new more now waiting now waiting' (Err carry.Memory)
gives-fails X old new more now waiting waiting' o given before p q of h = some-more o given more before now (sent-some o given waiting before now h)

-- some and then others
pub gives-then : {X Y : Type 0} (x : X) (result : Result Y CarryFault) (old new mid : OfficeFile) (some more now waiting now' waiting' now'' waiting'' : List Entry) → mid ≡ new →
    Gives {X = X} old new some now waiting now' waiting' (Ok x) → Gives old mid more now' waiting' now'' waiting'' result → Gives old new (some ++ more) now waiting now'' waiting'' result
gives-then x result old new mid some more now waiting now' waiting' now'' waiting'' same a b o given before p q of h =
    let M : Entry → List Entry → Type 0 = λ e xs. Member e xs in
    let joined : given ++ some ++ more ≡ given ++ (some ++ more) = append_assoc given some more in
    let one = a o given before p q (λ e m. of e (subst (M e) joined (member-left e (given ++ some) more m))) h in
    let two = b o (given ++ some) before p (q ∙ sym same) (λ e m. of e (subst (M e) joined m)) one in
    let L : List Entry → Type 0 = λ xs. Leads result (HasSent o xs waiting'' before now'') (StopsAt o xs) (HasCarriedSome o xs before now'') in
    subst L joined two

-- ---- one after another, by a renaming that is this one
pub all-next : (o q : Offices) (records : List Entry) (i : ℕ) (e f : Entry) (was now : List Entry) → q ≡ o → IsAt records i e → (f ≡ carried q e) × IsOfOffice (office_of q.new) f → was ≡ all_carried o (take i records) →
    AllCanBeCarried o (take i records) → now ≡ was ++ f ∷ [] → (now ≡ all_carried o (take (i + 1) records)) × AllCanBeCarried o (take (i + 1) records)
all-next o q records i e f was now same at is w a n =
    let P : Offices → Type 0 = λ x. (f ≡ carried x e) × IsOfOffice (office_of x.new) f in
    let here = subst P same is in
    let Q : Entry → Type 0 = λ x. IsOfOffice (office_of o.new) x in
    (carried-more o records i e f was now at here.0 w n, able-more o records i e at a (subst Q here.0 here.1))

pub all-stops : (o q : Offices) (records : List Entry) (i : ℕ) (e : Entry) → q ≡ o → IsAt records i e → (IsOfOffice (office_of o.old) e → CanBeCarried q e → ⊥) → AllCanBeCarried o (take i records) →
    AllOfOffice (office_of o.old) records → StopsAt o records e × Unit {0}
all-stops o q records i e same at unable a of =
    let P : Offices → Type 0 = λ x. CanBeCarried x e → ⊥ in
    (stops-here o records i e at a (subst P same (unable (of e (at-member records i e at)))), tt)

-- ---- faults
pub leads-err : (X Y : Type 0) (f : CarryFault) (well well' : Type 0) (stop stop' : Entry → Type 0) (part part' : Type 0) → ((e : Entry) → stop e → stop' e) → (part → part') → Leads {X = X} (Err f) well stop part → Leads {X = Y} (Err f) well' stop' part'
leads-err X Y (carry.Record e) well well' stop stop' part part' g h r = (g e r.0, h r.1)
leads-err X Y (carry.Post (post.Full held limit)) well well' stop stop' part part' g h r = h r
leads-err X Y (carry.Post post.Device) well well' stop stop' part part' g h r = h r
leads-err X Y (carry.Post post.Memory) well well' stop stop' part part' g h r = h r
leads-err X Y (carry.Post post.Reopen) well well' stop stop' part part' g h r = tt
leads-err X Y (carry.Book fault) well well' stop stop' part part' g h r = h r
leads-err X Y carry.Memory well well' stop stop' part part' g h r = h r

abbrev offices : OfficeFile → OfficeFile → Offices
offices old new = record { old = old; new = new }

-- one of the records that wait can't be carried, or memory is refused
own-fault : (X Y : Type 0) (f : CarryFault) (well well' : Type 0) (stop : Entry → Type 0) (now : List Entry) → IsOwnFault f → Leads {X = X} (Err f) well stop (Unit {0}) → Leads {X = Y} (Err f) well' stop (now ≡ now)
own-fault X Y (carry.Record e) well well' stop now own r = (r.0, refl)
own-fault X Y (carry.Post fault) well well' stop now own r = absurd own
own-fault X Y (carry.Book fault) well well' stop now own r = absurd own
own-fault X Y carry.Memory well well' stop now own r = refl

pub sends-failed : (X : Type 0) {Y : Type 0} (f : CarryFault) (result : Result Y CarryFault) (old new : OfficeFile) (now waiting left lent : List Entry) (well : Type 0) → lent ≡ waiting → result ≡ Err f → IsOwnFault f →
    (AllOfOffice (office_of old) lent → Leads {X = X} (Err f) well (StopsAt (record { old = old; new = new }) lent) (Unit {0})) → Sends old new now waiting now left result
sends-failed X {Y} f result old new now waiting left lent well same e own h o p q of =
    let all : offices old new ≡ o = λ i. offices (sym p i) (sym q i) in
    let A : OfficeFile → List Entry → Type 0 = λ file xs. AllOfOffice (office_of file) xs in
    let r = h (subst (λ xs. A old xs) (sym same) (subst (λ file. A file waiting) p of)) in
    let S : Offices → List Entry → Type 0 = λ x xs. Leads {X = X} (Err f) well (StopsAt x xs) (Unit {0}) in
    let here = subst (λ xs. S o xs) same (subst (λ x. S x lent) all r) in
    let L : Result Y CarryFault → Type 0 = λ x. Leads x (AreSent o waiting left now now) (StopsAt o waiting) (now ≡ now) in
    subst L (sym e) (own-fault X Y f well (AreSent o waiting left now now) (StopsAt o waiting) now own here)

-- all of them are posted
pub sends-well : {X : Type 0} (x : X) (old new : OfficeFile) (now waiting now' left lent found posted : List Entry) → lent ≡ waiting → found ≡ all_carried (record { old = old; new = new }) lent → posted ≡ found → left ≡ [] →
    (AllOfOffice (office_of old) lent → AllCanBeCarried (record { old = old; new = new }) lent) → SameMembers now' (now ++ posted) → Sends {X = X} old new now waiting now' left (Ok x)
sends-well x old new now waiting now' left lent found posted same f g none able h o p q of =
    let all : offices old new ≡ o = λ i. offices (sym p i) (sym q i) in
    let A : OfficeFile → List Entry → Type 0 = λ file xs. AllOfOffice (office_of file) xs in
    let r = able (subst (λ xs. A old xs) (sym same) (subst (λ file. A file waiting) p of)) in
    let C : Offices → List Entry → Type 0 = λ z xs. AllCanBeCarried z xs in
    let M : List Entry → Type 0 = λ xs. SameMembers now' (now ++ xs) in
    record {
      none_left = none;
      able = subst (λ xs. C o xs) same (subst (λ z. C z lent) all r);
      content = subst M (g ∙ f ∙ (λ i. all_carried (all i) (same i))) h;
    }

pub gives-failed : {X : Type 0} (f : CarryFault) (result : Result X CarryFault) (old new : OfficeFile) (more now waiting waiting' : List Entry) → result ≡ Err f → f ≡ carry.Memory → Gives old new more now waiting now waiting' result
gives-failed {X} f result old new more now waiting waiting' e m =
    let G : Result X CarryFault → Type 0 = λ r. Gives old new more now waiting now waiting' r in
    let F : CarryFault → Type 0 = λ x. Gives {X = X} old new more now waiting now waiting' (Err x) in
    subst G (sym e) (subst F (sym m) (gives-fails X old new more now waiting waiting'))

-- it stops before others are given
pub gives-short : (X : Type 0) {Y : Type 0} (f g : CarryFault) (result : Result Y CarryFault) (old new : OfficeFile) (some more all now waiting now' waiting' : List Entry) → some ++ more ≡ all → result ≡ Err g → g ≡ f →
    Gives {X = X} old new some now waiting now' waiting' (Err f) → Gives old new all now waiting now' waiting' result
gives-short X {Y} f g result old new some more all now waiting now' waiting' joined e m h o given before p q of u =
    let G : Result Y CarryFault → Type 0 = λ r. Leads r (HasSent o (given ++ all) waiting' before now') (StopsAt o (given ++ all)) (HasCarriedSome o (given ++ all) before now') in
    let F : CarryFault → Type 0 = λ x. G (Err x) in
    let whole : given ++ some ++ more ≡ given ++ all = append_assoc given some more ∙ ap (λ (xs : List Entry). given ++ xs) joined in
    let M : Entry → List Entry → Type 0 = λ x xs. Member x xs in
    let S : Entry → List Entry → Type 0 = λ x xs. StopsAt o xs x in
    let C : List Entry → Type 0 = λ xs. HasCarriedSome o xs before now' in
    subst G (sym e) (subst F (sym m)
    (leads-err X Y f (HasSent o (given ++ some) waiting' before now') (HasSent o (given ++ all) waiting' before now') (StopsAt o (given ++ some)) (StopsAt o (given ++ all)) (HasCarriedSome o (given ++ some) before now')
    (HasCarriedSome o (given ++ all) before now')
    (λ x t. subst (S x) whole (stops-before o (given ++ some) more x t))
    (λ t. subst C whole (some-more o (given ++ some) more before now' t))
    (h o given before p q (λ x n. of x (subst (M x) whole (member-left x (given ++ some) more n))) u)))
