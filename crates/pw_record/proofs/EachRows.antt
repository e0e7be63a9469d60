-- A body of rows gives entries, or is refused for its content.
use Rattle.std.proofs.Common.{◌≡◌, ℕ, zero, suc, ◌<◌, ◌⊎◌, inl, inr, Bool, true, false, cond, Option, Some, None, List, [], ◌∷◌, ◌++◌, length, refl, sym, ap, subst, arith}
use Rattle.std.proofs.lemmas.Bool.{cases_lt}
use Rattle.std.proofs.lemmas.Option.{none-some, same_Some}
use Rattle.csv.specs.Machine.{Read, next_record, ends_at_end, step, is_end, fields_after, field_after}
use Rattle.csv.specs.Reading.{Reached, default_config, strip_bom}
use Rattle.csv.specs.declared.parser.Config.{Config}
use Rattle.csv.specs.declared.parser.State.{State}
use Rattle.csv.specs.declared.parser.State.TheVariants as st
use Rattle.csv.proofs.ReadFacts.{reached-more}
use Rattle.pw_tariff.specs.Office.{OfficeFile}
use Rattle.pw_time.proofs.Deciding.{list-known, text-known}
use Rattle.pw_model.specs.declared.records.Entry.{Entry}
use Rattle.pw_record.specs.declared.fault.Cause.{Cause}
use Rattle.pw_record.specs.declared.fault.Cause.TheVariants.{Header, TooManyParts, Memory}
use Rattle.pw_record.specs.declared.fault.UploadFault.{UploadFault}
use Rattle.pw_record.specs.declared.row.RowKind.{RowKind}
use Rattle.pw_record.specs.declared.rows.TheConstants.{MOST_ROWS}
use Rattle.pw_record.specs.Causes.{want_of_memory}
use Rattle.pw_record.specs.Listed.{AreListed}
use Rattle.pw_record.specs.Row.{Row, header_of}
use Rattle.pw_record.specs.Rows.{AreGoodRecords, RowsGive, RefusesRecord, RowsRefused}
use Rattle.pw_record.specs.inner.Steps.{TakesRecord}
use Rattle.pw_record.proofs.EachListed.{listed-there_is}
use Rattle.pw_record.proofs.EachRow.{row-there_is}
use Rattle.pw_record.proofs.RowFacts.{good-more, rows-give}

-- ---- a record takes some of the text, or it was the last
abbrev GoesOn : List ℕ → Read → Type 0
GoesOn xs p = (length p.2 < length xs) ⊎ ((p.1 ≡ st.StartRecord) × (p.2 ≡ []))

read-or-more : (b : Bool) (r p : Read) (o : Option Read) → cond b (Some r) o ≡ Some p → (r ≡ p) ⊎ (o ≡ Some p)
read-or-more true r p o e = inl (same_Some r p e)
read-or-more false r p o e = inr e

goes-on : (cfg : Config) (s : State) (fields : List (List ℕ)) (field xs : List ℕ) (p : Read) → next_record cfg s fields field xs ≡ Some p → GoesOn xs p
unfolding next_record
goes-on cfg s fields field [] p e =
    elim (read-or-more (ends_at_end s) (fields ++ field ∷ [], st.StartRecord, []) p None e) [
      | inl h ↦ inr (ap (λ (q : Read). q.1) (sym h), ap (λ (q : Read). q.2) (sym h))
      | inr h ↦ absurd (none-some p h)
    ]
goes-on cfg s fields field (c ∷ rest) p e =
    let act = (step cfg s c).1 in
    let next = (step cfg s c).0 in
    let after = fields_after act fields field in
    elim (read-or-more (is_end act) (after, next, rest) p (next_record cfg next after (field_after act c field) rest) e) [
      | inl h ↦ (let l : length rest ≡ length p.2 = ap (λ (q : Read). length q.2) h in inl (omega (arith, l)))
      | inr h ↦ elim (goes-on cfg next after (field_after act c field) rest p h) [
        | inl l ↦ inl (omega (arith, l))
        | inr n ↦ inr n
      ]
    ]

nothing-behind : (s : State) (ys : List ℕ) → s ≡ st.StartRecord → ys ≡ [] → next_record default_config s [] [] ys ≡ None
unfolding next_record
nothing-behind s ys e f =
    let P : State → Type 0 = λ t. next_record default_config t [] [] ys ≡ None in
    let Q : List ℕ → Type 0 = λ l. next_record default_config st.StartRecord [] [] l ≡ None in
    subst P (sym e) (subst Q (sym f) refl)

read-cases : (o : Option Read) → (o ≡ None) ⊎ ((p : Read) × (o ≡ Some p))
read-cases None = inl refl
read-cases (Some p) = inr (p, refl)

pub of-content : (part : ℕ) (cause : Cause) → (cause ≡ Memory → ⊥) → record { part = part; cause = cause } ≡ want_of_memory → ⊥
of-content part cause n e = n (ap (λ (f : UploadFault). f.cause) e)

module _ (file : OfficeFile) (kind : RowKind) where
  -- ---- one record
  abbrev RecordOutcome : ℕ → Row → List Entry → Type 0
  RecordOutcome part row old = ((new : List Entry) × TakesRecord file kind part row old new) ⊎ ((cause : Cause) × RefusesRecord file kind part row cause × (cause ≡ Memory → ⊥))

  record-there_is : (part : ℕ) (row : Row) (old : List Entry) → RecordOutcome part row old
  record-there_is zero row old =
      elim (list-known text-known row (header_of kind)) [
        | inl e ↦ inl (old, inl (refl, e, refl))
        | inr n ↦ inr (Header, inl (record { first = refl; unlike = n; cause_is = refl }), λ e. cc)
      ]
  record-there_is (suc k) row old =
      elim (cases_lt MOST_ROWS (suc k)) [
        | inl l ↦ inr (TooManyParts, inr (inl (record { late = l; cause_is = refl })), λ e. cc)
        | inr l ↦ elim (row-there_is file kind row) [
          | inl e ↦ inl (old ++ e.0 ∷ [], inr (omega arith, l, (e.0, e.1, refl)))
          | inr f ↦ inr (f.0, inr (inr (record { behind = omega arith; early = l; refused = f.1 })), f.2)
        ]
      ]

  module _ (body : List ℕ) where
    abbrev pub HasRowsOutcome : Type 0
    HasRowsOutcome = ((entries : List Entry) × RowsGive file kind body entries) ⊎ ((fault : UploadFault) × RowsRefused file kind body fault × (fault ≡ want_of_memory → ⊥))

    -- ---- the records are at their end
    ended : (before : List Row) (given : List Entry) (s : State) (ys : List ℕ) → Reached default_config st.StartRecord (strip_bom body) before s ys → AreGoodRecords file kind before given
        → next_record default_config s [] [] ys ≡ None → HasRowsOutcome
    ended [] given s ys r g e =
        inr (record { part = 0; cause = Header }, inr (inl (record { none = (s, ys, r, e); part_is = refl; cause_is = refl })), of-content 0 Header (λ f. cc))
    ended (header ∷ rows) given s ys r g e =
        let l : (listed : List Entry) × AreListed given listed = listed-there_is given in
        inl (l.0, rows-give file kind body (header ∷ rows) given l.0 (λ n. omega (arith, n)) (s, ys, r, e) g l.1)

    -- ---- a record more
    walk : (n : ℕ) (before : List Row) (given : List Entry) (s : State) (ys : List ℕ) → Reached default_config st.StartRecord (strip_bom body) before s ys → AreGoodRecords file kind before given
        → (length ys < n) ⊎ (next_record default_config s [] [] ys ≡ None) → HasRowsOutcome
    walk zero before given s ys r g (inl l) = absurd (omega (arith, l))
    walk zero before given s ys r g (inr e) = ended before given s ys r g e
    walk (suc n) before given s ys r g (inr e) = ended before given s ys r g e
    walk (suc n) before given s ys r g (inl l) =
        elim (read-cases (next_record default_config s [] [] ys)) [
          | inl e ↦ ended before given s ys r g e
          | inr p ↦
              let row : Row = p.0.0 in
              let front = reached-more default_config st.StartRecord s (strip_bom body) ys before p.0 r p.1 in
              elim (record-there_is (length before) row given) [
                | inr f ↦ inr (
                  record { part = length before; cause = f.0 },
                  inr (inr (record {
                    before = before;
                    given = given;
                    row = row;
                    front = record { state = p.0.1; rest = p.0.2; reached = front };
                    good = g;
                    part_is = refl;
                    refused = f.1;
                  })),
                  of-content (length before) f.0 f.2,
                )
                | inl t ↦
                    walk n (before ++ row ∷ []) t.0 p.0.1 p.0.2 front (good-more file kind before row (length before) given t.0 refl g t.1)
                    (elim (goes-on default_config s [] [] ys p.0 p.1) [
                      | inl m ↦ inl (omega (arith, l, m))
                      | inr m ↦ inr (nothing-behind p.0.1 p.0.2 m.0 m.1)
                    ])
              ]
        ]

    pub rows-there_are : HasRowsOutcome
    unfolding Reached
    rows-there_are = walk (suc (length (strip_bom body))) [] [] st.StartRecord (strip_bom body) (refl, refl) refl (inl (omega arith))
