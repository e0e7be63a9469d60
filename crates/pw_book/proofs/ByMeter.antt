-- The assignments of all meters, put together meter by meter.
use Rattle.std.proofs.Common.{◌≡◌, ◌↔◌, ◌+◌, ◌<◌, List, [], ◌∷◌, ◌++◌, Less, ap, refl}
use Rattle.pw_tariff.specs.declared.ids.MeterId.{MeterId}
use Rattle.pw_tariff.specs.Office.{OfficeRules}
use Rattle.pw_model.specs.declared.records.Key.{Key}
use Rattle.pw_model.specs.declared.records.Key.TheVariants as key
use Rattle.pw_model.specs.declared.records.Content.{Content}
use Rattle.pw_model.specs.declared.records.Content.TheVariants as content
use Rattle.pw_model.specs.declared.records.Entry.{Entry}
use Rattle.pw_model.specs.Counting.{Member}
use Rattle.pw_model.specs.Kinds.{IsAssignment, IsAssignmentOf, ListsHeld}
use Rattle.pw_model.specs.Office.{AllOfOffice, IsOf}
use Rattle.pw_model.specs.Same.{entry_order, key_numbers, key_order}
use Rattle.pw_book.specs.inner.Places.{AssignmentsBefore, meter_place}
use Rattle.pw_book.proofs.Segments.{first-less, segment-all, segment-more, segment-none, then-less}

-- an assignment of a meter is one
of-meter : (m : MeterId) (k : Key) → IsAssignmentOf m k → IsAssignment k
of-meter m (key.Reading n r t) h = absurd h
of-meter m (key.Assignment n t) h = tt
of-meter m (key.TopUp r) h = absurd h
of-meter m (key.Withdrawal n) h = absurd h

is-of-meter : (m : MeterId) (k : Key) → IsAssignment k → IsAssignmentOf m k ↔ (meter_place k ≡ m.0)
is-of-meter m (key.Reading n r t) h = absurd h
is-of-meter m (key.Assignment n t) h = (λ e. ap (λ (x : MeterId). x.0) e, λ e. ap (λ i. let x : MeterId = record { 0 = i } in x) e)
is-of-meter m (key.TopUp r) h = absurd h
is-of-meter m (key.Withdrawal n) h = absurd h

-- those of a lower meter stand before
key-first : (k l : Key) → IsAssignment k → IsAssignment l → meter_place k < meter_place l → key_order k l ≡ Less
unfolding key_numbers
key-first (key.Assignment m t) (key.Assignment n u) h i l = then-less 1 1 (m.0 ∷ t ∷ []) (n.0 ∷ u ∷ []) refl (first-less m.0 n.0 (t ∷ []) (u ∷ []) l)
key-first (key.Reading m r t) l h i q = absurd h
key-first (key.TopUp r) l h i q = absurd h
key-first (key.Withdrawal n) l h i q = absurd h
key-first (key.Assignment m t) (key.Reading n r u) h i q = absurd i
key-first (key.Assignment m t) (key.TopUp r) h i q = absurd i
key-first (key.Assignment m t) (key.Withdrawal n) h i q = absurd i

before-entry : (e f : Entry) → key_order e.key f.key ≡ Less → entry_order e f ≡ Less
before-entry e f h = rw h refl

-- none yet
pub assignments-none : (s : List Entry) → AssignmentsBefore s 0 []
assignments-none s = segment-none entry_order (λ e. Member e s × IsAssignment e.key) (λ e. meter_place e.key)

-- those of the next meter behind them
pub assignments-more : (s : List Entry) (m : MeterId) (old more : List Entry) → AssignmentsBefore s m.0 old → ListsHeld (IsAssignmentOf m) s more → AssignmentsBefore s (m.0 + 1) (old ++ more)
assignments-more s m old more a b =
    segment-more entry_order (λ e. Member e s × IsAssignment e.key) (λ e. IsAssignmentOf m e.key) (λ e. meter_place e.key) m.0 old more a
    (record {
      rising = b.rising;
      members = λ e. (
        λ k. (let h = (b.members e).0 k in ((h.0, of-meter m e.key h.1), h.1)),
        λ h. (b.members e).1 (h.0.0, h.1),
      );
    })
    (λ e h. is-of-meter m e.key h.1)
    (λ e f h i l. before-entry e f (key-first e.key f.key h.1 i.1 l))

-- all, where each is of a meter of the office
of-office : (office : OfficeRules) (k : Key) (c : Content) → IsOf office k c → IsAssignment k → meter_place k < office.meters
of-office office (key.Assignment m t) (content.Assignment o) h i = h.0
of-office office (key.Assignment m t) (content.Reading w) h i = absurd h
of-office office (key.Assignment m t) (content.TopUp a c u) h i = absurd h
of-office office (key.Assignment m t) content.Withdrawal h i = absurd h
of-office office (key.Reading m r t) c h i = absurd i
of-office office (key.TopUp r) c h i = absurd i
of-office office (key.Withdrawal n) c h i = absurd i

pub assignments-all : (office : OfficeRules) (s found : List Entry) → AllOfOffice office s → AssignmentsBefore s office.meters found → ListsHeld IsAssignment s found
assignments-all office s found o a =
    segment-all entry_order (λ e. Member e s × IsAssignment e.key) (λ e. meter_place e.key) office.meters found a
    (λ e h. of-office office e.key e.content (o e h.0) h.1)
