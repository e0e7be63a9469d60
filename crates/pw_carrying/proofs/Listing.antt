-- The lists that a store tells, and the order of their records.
use Rattle.std.proofs.Common.{◌≡◌, ◌↔◌, ℕ, ◌+◌, ◌*◌, ◌<◌, ◌≤◌, true, false, List, [], ◌∷◌, ◌++◌, Result, Ok, Err, Less, refl, ap, sym, subst, ◌∙◌, inl, inr, arith}
use Rattle.std.proofs.lemmas.Bool.{cases_lt, true≢false}
use Rattle.std.proofs.lemmas.List.{append-nil}
use Rattle.pw_obis.specs.declared.reference.Register.{Register}
use Rattle.pw_tariff.specs.declared.ids.MeterId.{MeterId}
use Rattle.pw_tariff.specs.Office.{OfficeFile, OfficeRules, office_of}
use Rattle.pw_model.specs.declared.records.Key.{Key}
use Rattle.pw_model.specs.declared.records.Key.TheVariants as key
use Rattle.pw_model.specs.declared.records.Content.{Content}
use Rattle.pw_model.specs.declared.records.Content.TheVariants as content
use Rattle.pw_model.specs.declared.records.Entry.{Entry}
use Rattle.pw_model.specs.Counting.{Member, SameMembers}
use Rattle.pw_model.specs.Kinds.{IsReadingOf, IsWithdrawal, ListsHeld}
use Rattle.pw_model.specs.Lists.{IsInOrder, Lists, record_count}
use Rattle.pw_model.specs.Office.{AllOfOffice, IsOf}
use Rattle.pw_model.specs.Same.{entry_order, key_order}
use Rattle.pw_model.proofs.EntryOrder.{entry-strict}
use Rattle.pw_model.proofs.InOrder.{before-member}
use Rattle.pw_model.proofs.Places.{member-right, member-split}
use Rattle.pw_book.specs.inner.Places.{IsWithin, key_place}
use Rattle.pw_book.proofs.Contested.{assignment-place, key-before, key-within, reading-place, topup-place}
use Rattle.pw_book.proofs.Segments.{place-few, segment-more}
use Rattle.pw_moving.specs.Renaming.{Offices}
use Rattle.pw_carrying.specs.Carrying.{HasCarried, HasCarriedSome, IsCarried, IsFirstNotCarried}
use Rattle.pw_carrying.specs.declared.fault.CarryFault.{CarryFault}
use Rattle.pw_carrying.specs.declared.fault.CarryFault.TheVariants as carry
use Rattle.pw_book.specs.declared.fault.BookFault.{BookFault}
use Rattle.pw_book.specs.declared.fault.PostFault.TheVariants as post
use Rattle.pw_carrying.specs.declared.lists.HeldList.{HeldList}
use Rattle.pw_carrying.specs.declared.lists.HeldList.TheVariants as held
use Rattle.pw_carrying.specs.inner.Stages.{AreSent, CarriesOn, Gives, HasSent, IsListOf, IsOfList, IsUpTo, Leads, StopsAt, list_place}
use Rattle.pw_carrying.proofs.Sent.{leads-also, leads-err, same-carried, sent-all, sent-some, some-among, stops-behind}

-- ---- no reading of a register that doesn't count
counted : (office : OfficeRules) (m : MeterId) (r : Register) (k : Key) (c : Content) → IsOf office k c → IsReadingOf m r k → office.counts m.0 r ≡ true
counted office m r (key.Reading n s t) (content.Reading w) h i =
    ap (λ (x : MeterId). office.counts x.0 r) (sym i.0) ∙ ap (office.counts n.0) (sym i.1) ∙ h.1
counted office m r (key.Reading n s t) (content.Assignment o) h i = absurd h
counted office m r (key.Reading n s t) (content.TopUp a c u) h i = absurd h
counted office m r (key.Reading n s t) content.Withdrawal h i = absurd h
counted office m r (key.Assignment n t) c h i = absurd i
counted office m r (key.TopUp x) c h i = absurd i
counted office m r (key.Withdrawal x) c h i = absurd i

pub none-listed : (office : OfficeRules) (records : List Entry) (m : MeterId) (r : Register) → AllOfOffice office records → office.counts m.0 r ≡ false → ListsHeld (IsReadingOf m r) records []
none-listed office records m r of n = record {
  rising = tt;
  members = λ e. (λ k. absurd k, λ p. absurd (true≢false (sym (counted office m r e.key e.content (of e p.0) p.1) ∙ n)));
}

-- ---- the records of an office
-- the last place
pub placed : (meters : ℕ) (k : Key) → IsWithin meters k → key_place meters k < 7 * meters + 2
placed meters (key.Reading n q t) w = let f = place-few q in omega (arith, f, w)
placed meters (key.Assignment n t) w = omega (arith, w)
placed meters (key.TopUp x) w = omega arith
placed meters (key.Withdrawal n) w = omega arith

-- ---- the order of keys by their places
pub entry-before : (e f : Entry) → key_order e.key f.key ≡ Less → entry_order e f ≡ Less
entry-before e f h = rw h refl

-- ---- the keys at a list's place
withdrawal-place : (meters : ℕ) (k : Key) → IsWithin meters k → IsWithdrawal k ↔ (key_place meters k ≡ 7 * meters + 1)
withdrawal-place meters (key.Reading n q t) w = (λ h. absurd h, λ e. absurd (let f = place-few q in omega (arith, f, w, e)))
withdrawal-place meters (key.Assignment n t) w = (λ h. absurd h, λ e. absurd (omega (arith, w, e)))
withdrawal-place meters (key.TopUp x) w = (λ h. absurd h, λ e. absurd (omega (arith, e)))
withdrawal-place meters (key.Withdrawal x) w = (λ h. refl, λ e. tt)

pub list-place : (meters : ℕ) (l : HeldList) → IsListOf meters l → (k : Key) → IsWithin meters k → IsOfList l k ↔ (key_place meters k ≡ list_place meters l)
list-place meters (held.Readings m r) h k w = reading-place meters m r h k w
list-place meters (held.Assignments m) h k w = assignment-place meters m h k w
list-place meters held.TopUps h k w = topup-place meters k w
list-place meters held.Withdrawals h k w = withdrawal-place meters k w

-- ---- lists behind one another
module _ (o : Offices) (records : List Entry) where
  meters : ℕ
  meters = (office_of o.old).meters

  abbrev AreBefore : ℕ → List Entry → Type 0
  AreBefore n given = Lists entry_order (λ e. Member e records × (key_place (office_of o.old).meters e.key < n)) given

  -- the list at the next place
  list-more : (l : HeldList) (given more : List Entry) → AllOfOffice (office_of o.old) records → IsListOf (office_of o.old).meters l → ListsHeld (IsOfList l) records more →
      AreBefore (list_place (office_of o.old).meters l) given → AreBefore (list_place (office_of o.old).meters l + 1) (given ++ more)
  list-more l given more of h held before =
      segment-more entry_order (λ e. Member e records) (λ e. IsOfList l e.key) (λ e. key_place (office_of o.old).meters e.key) (list_place (office_of o.old).meters l) given more before held
      (λ e m. list-place (office_of o.old).meters l h e.key (key-within (office_of o.old) e.key e.content (of e m)))
      (λ e f m n p. entry-before e f (key-before (office_of o.old).meters e.key f.key (key-within (office_of o.old) e.key e.content (of e m)) (key-within (office_of o.old) f.key f.content (of f n)) p))

  -- what stands before a record that is listed is listed before it
  up-to : (e f : Entry) → AllOfOffice (office_of o.old) records → Member e records → Member f records → entry_order f e ≡ Less → key_place (office_of o.old).meters f.key ≤ key_place (office_of o.old).meters e.key
  up-to e f of m n h = elim (cases_lt (key_place (office_of o.old).meters e.key) (key_place (office_of o.old).meters f.key)) [
    | inl l ↦ absurd (entry-strict.apart e (entry-strict.trans e f e (entry-before e f (key-before (office_of o.old).meters e.key f.key (key-within (office_of o.old) e.key e.content (of e m)) (key-within (office_of o.old) f.key f.content (of f n)) l)) h))
    | inr l ↦ l
  ]

  split-order : (xs ys : List Entry) (e f : Entry) → IsInOrder entry_order (xs ++ e ∷ ys) → Member f ys → entry_order e f ≡ Less
  split-order [] ys e f r m = before-member entry_order e f ys r.0 m
  split-order (x ∷ xs) ys e f r m = split-order xs ys e f r.1 m

  -- the first of the list that can't be carried is the first of all
  pub first-of : (n : ℕ) (given : List Entry) (e : Entry) → AllOfOffice (office_of o.old) records → AreBefore n given → StopsAt o given e → IsFirstNotCarried o records e
  first-of n given e of before (xs, ys, all, able, unable) =
      let L : List Entry → Type 0 = λ zs. AreBefore n zs in
      let here = subst L all before in
      let is = (here.members e).0 (member-right e xs (e ∷ ys) (inl refl)) in
      record {
        held = is.0;
        unable = unable;
        before = λ f m h.
            let l = up-to e f of is.0 m h in
            let k = is.1 in
            elim (member-split f xs (e ∷ ys) ((here.members f).1 (m, omega (arith, l, k)))) [
              | inl a ↦ able f a
              | inr b ↦ elim b [
                | inl i ↦ absurd (let P : Entry → Type 0 = λ x. entry_order x e ≡ Less in entry-strict.apart e (subst P i h))
                | inr j ↦ absurd (entry-strict.apart e (entry-strict.trans e f e (split-order xs ys e f here.rising j) h))
              ]
            ];
      }

-- ---- steps
-- a list more
pub list-given : {X : Type 0} (result : Result X CarryFault) (old new : OfficeFile) (records : List Entry) (l : HeldList) (more now waiting now' waiting' : List Entry) → IsListOf (office_of old).meters l →
    (AllOfOffice (office_of old) records → ListsHeld (IsOfList l) records more) → Gives old new more now waiting now' waiting' result →
    CarriesOn old new records (list_place (office_of old).meters l) (list_place (office_of old).meters l + 1) now waiting now' waiting' result
list-given result old new records l more now waiting now' waiting' h rows g o rs before p q same u =
    let given = u.given in
    let s = u.sent in
    let H : OfficeFile → Type 0 = λ f. IsListOf (office_of f).meters l in
    let R : OfficeFile → Type 0 = λ f. AllOfOffice (office_of f) records → ListsHeld (IsOfList l) records more in
    let K : List Entry → Type 0 = λ xs. AllOfOffice (office_of o.old) xs → ListsHeld (IsOfList l) xs more in
    let held = subst K same (subst R (sym p) rows) u.of_office in
    let N : OfficeFile → Type 0 = λ f. Lists entry_order (λ e. Member e rs × (key_place (office_of o.old).meters e.key < list_place (office_of f).meters l)) given in
    let lists = list-more o rs l given more u.of_office (subst H (sym p) h) held (subst N (sym p) u.lists) in
    let among : (e : Entry) → Member e (given ++ more) → Member e rs = λ e m. ((lists.members e).0 m).0 in
    let M : OfficeFile → Type 0 = λ f. Lists entry_order (λ e. Member e rs × (key_place (office_of o.old).meters e.key < list_place (office_of f).meters l + 1)) (given ++ more) in
    leads-also result (HasSent o (given ++ more) waiting' before now') (IsUpTo o rs (list_place (office_of old).meters l + 1) waiting' before now') (StopsAt o (given ++ more)) (IsFirstNotCarried o rs)
    (HasCarriedSome o (given ++ more) before now') (HasCarriedSome o rs before now')
    (λ t. record { of_office = u.of_office; given = given ++ more; lists = subst M p lists; sent = t })
    (λ e t. first-of o rs (list_place (office_of o.old).meters l + 1) (given ++ more) e u.of_office lists t)
    (λ t. some-among o (given ++ more) rs before now' among t)
    (g o given before p q (λ e m. u.of_office e (among e m)) s)

-- no list
pub carries-none : {X : Type 0} (x : X) (old new : OfficeFile) (records : List Entry) (n : ℕ) (now waiting : List Entry) → CarriesOn {X = X} old new records n n now waiting now waiting (Ok x)
carries-none x old new records n now waiting o rs before p q same u = u

-- lists behind others
pub carries-then : {X Y : Type 0} (x : X) (result : Result Y CarryFault) (old new mid : OfficeFile) (was is : List Entry) (from to end : ℕ) (now waiting now' waiting' now'' waiting'' : List Entry) → mid ≡ new → is ≡ was →
    CarriesOn {X = X} old new was from to now waiting now' waiting' (Ok x) → CarriesOn old mid is to end now' waiting' now'' waiting'' result → CarriesOn old new was from end now waiting now'' waiting'' result
carries-then x result old new mid was is from to end now waiting now' waiting' now'' waiting'' e f a b o rs before p q same u =
    b o rs before p (q ∙ sym e) (f ∙ same) (a o rs before p q same u)

-- up to the same places
pub carries-at : {X : Type 0} (result : Result X CarryFault) (old new : OfficeFile) (records : List Entry) (from to from' to' : ℕ) (now waiting now' waiting' : List Entry) → from ≡ from' → to ≡ to' →
    CarriesOn old new records from to now waiting now' waiting' result → CarriesOn old new records from' to' now waiting now' waiting' result
carries-at result old new records from to from' to' now waiting now' waiting' e f a =
    let P : ℕ → ℕ → Type 0 = λ m n. CarriesOn old new records m n now waiting now' waiting' result in
    subst (λ m. P m to') e (subst (λ n. P from n) f a)

-- a fault is one wherever it was to end
pub carries-short : (X : Type 0) {Y : Type 0} (f g : CarryFault) (result : Result Y CarryFault) (old new : OfficeFile) (records : List Entry) (from to end : ℕ) (now waiting now' waiting' : List Entry) → result ≡ Err g → g ≡ f →
    CarriesOn {X = X} old new records from to now waiting now' waiting' (Err f) → CarriesOn old new records from end now waiting now' waiting' result
carries-short X {Y} f g result old new records from to end now waiting now' waiting' e m a o rs before p q same u =
    let G : Result Y CarryFault → Type 0 = λ r. Leads r (IsUpTo o rs end waiting' before now') (IsFirstNotCarried o rs) (HasCarriedSome o rs before now') in
    let F : CarryFault → Type 0 = λ x. G (Err x) in
    subst G (sym e) (subst F (sym m)
    (leads-err X Y f (IsUpTo o rs to waiting' before now') (IsUpTo o rs end waiting' before now') (IsFirstNotCarried o rs) (IsFirstNotCarried o rs) (HasCarriedSome o rs before now') (HasCarriedSome o rs before now')
    (λ x t. t) (λ t. t) (a o rs before p q same u)))

-- the book that is read doesn't answer
pub carries-unread : {X : Type 0} (fault : BookFault) (g : CarryFault) (result : Result X CarryFault) (old new : OfficeFile) (records : List Entry) (from to : ℕ) (now waiting waiting' : List Entry) → result ≡ Err g → g ≡ carry.Book fault →
    CarriesOn old new records from to now waiting now waiting' result
carries-unread {X} fault g result old new records from to now waiting waiting' e m o rs before p q same u =
    let G : Result X CarryFault → Type 0 = λ r. Leads r (IsUpTo o rs to waiting' before now) (IsFirstNotCarried o rs) (HasCarriedSome o rs before now) in
    let F : CarryFault → Type 0 = λ x. G (Err x) in
    subst G (sym e) (subst F (sym m) (some-among o u.given rs before now (λ x k. ((u.lists.members x).0 k).0) (sent-some o u.given waiting before now u.sent)))

-- ---- all records
pub up-to-none : (o : Offices) (records waiting before : List Entry) → AllOfOffice (office_of o.old) records → waiting ≡ [] → IsUpTo o records 0 waiting before before
up-to-none o records waiting before of e = record {
  of_office = of;
  given = [];
  lists = record { rising = tt; members = λ x. (λ m. absurd m, λ p. absurd (let l = p.1 in omega (arith, l))) };
  sent = record {
    sent = [];
    all = sym e;
    able = λ x m. absurd m;
    content = (let P : List Entry → Type 0 = λ xs. SameMembers before xs in subst P (sym (append-nil before)) (λ x. (λ m. m, λ m. m)));
  };
}

pub all-carried : (o : Offices) (records waiting left before mid after : List Entry) (m n : ℕ) → m ≡ 7 * (office_of o.old).meters + 2 → IsUpTo o records m waiting before mid → AreSent o waiting left mid after → n ≡ record_count records → HasCarried o records before after n
all-carried o records waiting left before mid after m n last u s count =
    let t = sent-all o u.given waiting left before mid after u.sent s in
    let whole : u.given ≡ t.sent = t.all ∙ ap (λ (xs : List Entry). t.sent ++ xs) s.none_left ∙ append-nil t.sent in
    let M : Entry → List Entry → Type 0 = λ x xs. Member x xs in
    let same : SameMembers t.sent records = λ x. (
      λ k. ((u.lists.members x).0 (subst (M x) (sym whole) k)).0,
      λ k. subst (M x) whole ((u.lists.members x).1 (k, (let l = placed (office_of o.old).meters x.key (key-within (office_of o.old) x.key x.content (u.of_office x k)) in omega (arith, l, last)))),
    ) in
    record {
      able = λ x m. t.able x ((same x).1 m);
      content = λ x. (
        λ m. (same-carried o before t.sent records same x).0 ((t.content x).0 m),
        λ m. (t.content x).1 ((same-carried o before t.sent records same x).1 m),
      );
      count = count;
    }

-- those that wait are the office's
pub waits-of-office : (o : Offices) (records : List Entry) (n : ℕ) (waiting before now : List Entry) → IsUpTo o records n waiting before now → AllOfOffice (office_of o.old) waiting
waits-of-office o records n waiting before now u e m =
    let M : List Entry → Type 0 = λ xs. Member e xs in
    u.of_office e ((u.lists.members e).0 (subst M (sym u.sent.all) (member-right e u.sent.sent waiting m))).0

-- a fault of the last upload
pub last-failed : (X Y : Type 0) (f : CarryFault) (o : Offices) (records waiting left before mid after : List Entry) (n : ℕ) (well : Type 0) → IsUpTo o records n waiting before mid → Leads {X = X} (Err f) (AreSent o waiting left mid after) (StopsAt o waiting) (after ≡ mid) →
    Leads {X = Y} (Err f) well (IsFirstNotCarried o records) (HasCarriedSome o records before after)
last-failed X Y f o records waiting left before mid after n well u r =
    leads-err X Y f (AreSent o waiting left mid after) well (StopsAt o waiting) (IsFirstNotCarried o records) (after ≡ mid) (HasCarriedSome o records before after)
    (λ e t. first-of o records n u.given e u.of_office u.lists (stops-behind o u.sent.sent waiting u.given e u.sent.all u.sent.able t))
    (λ e. (let P : List Entry → Type 0 = λ xs. HasCarriedSome o records before xs in
    subst P (sym e) (some-among o u.given records before mid (λ x k. ((u.lists.members x).0 k).0) (sent-some o u.given waiting before mid u.sent))))
    r

carried-fault : (X : Type 0) (f : CarryFault) (o : Offices) (records before after : List Entry) (well : Type 0) → Leads {X = X} (Err f) well (IsFirstNotCarried o records) (HasCarriedSome o records before after) → IsCarried o records before after (Err f)
carried-fault X (carry.Record e) o records before after well r = r
carried-fault X (carry.Post (post.Full held limit)) o records before after well r = r
carried-fault X (carry.Post post.Device) o records before after well r = r
carried-fault X (carry.Post post.Memory) o records before after well r = r
carried-fault X (carry.Post post.Reopen) o records before after well r = tt
carried-fault X (carry.Book fault) o records before after well r = r
carried-fault X carry.Memory o records before after well r = r

pub carried-failed : (X : Type 0) (f g : CarryFault) (result : Result ℕ CarryFault) (o : Offices) (records before after : List Entry) (well : Type 0) → result ≡ Err g → g ≡ f → Leads {X = X} (Err f) well (IsFirstNotCarried o records) (HasCarriedSome o records before after) →
    IsCarried o records before after result
carried-failed X f g result o records before after well e m r =
    let G : Result ℕ CarryFault → Type 0 = λ x. IsCarried o records before after x in
    let F : CarryFault → Type 0 = λ x. IsCarried o records before after (Err x) in
    subst G (sym e) (subst F (sym m) (carried-fault X f o records before after well r))

-- nothing yet
pub nothing-carried : (o : Offices) (records before : List Entry) → HasCarriedSome o records before before
nothing-carried o records before = record {
  some = [];
  among = λ x m. absurd m;
  content = (let P : List Entry → Type 0 = λ xs. SameMembers before xs in subst P (sym (append-nil before)) (λ x. (λ m. m, λ m. m)));
}
