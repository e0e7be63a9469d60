use Rattle.std.proofs.Common.{Bor, List, ◌≡◌, ◌⊎◌, rules, ℕ, ◌∙◌, sym, refl, inl, inr, Some, Err, ◌∷◌, ◌++◌, [], arith, ap}
use Rattle.std.proofs.lemmas.List.{length-append}
use Rattle.std.proofs.lemmas.Result.{err_from_is_err_and}
use Rattle.csv.specs.Reading.{Reached, default_config, strip_bom}
use Rattle.csv.specs.Records.{fields_of}
use Rattle.csv.specs.declared.parser.State.TheVariants as st
use Rattle.csv.proofs.ReadFacts.{rows-end, rows-more}
use Rattle.pw_record.specs.declared.fault.UploadFault.{UploadFault}
use Rattle.pw_record.specs.Rows.{AreRows, HasNoRecord, RefusedAt}
use Rattle.pw_record.specs.inner.Halts.{fault_of_part}
use Rattle.pw_record.proofs.OfOffice.{listed-of-office}
use Rattle.pw_record.proofs.RowFacts.{good-more, good-of-office, rows-give}
use Rattle.pw_record.proofs.Stopped.{kept, stopped, told-of-part}
use Rattle.pw_record.proofs.rows.rows_in.Goals as goal

pub loop-row-init : goal.loop-row-init
unfolding Reached
loop-row-init c =
    let fr = c.from_reader-reader.ensures in
    let e = c.has_headers.ensures in
    let f = c.flexible.ensures in
    let start = c.into_iter-row-iterator.ensures.into_iter_gives ∙ refl in
    let rdr = c.into_byte_records-row-items.ensures.rdr in
    let left = c.into_byte_records-row-items.ensures.left in
    rw (start, rdr, c.new-given.ensures.items) (
      rw (f, e) at fr.trim ∙ c.new.ensures.trim,
      inr (inr (rw (f, e) at fr.has_headers, fr.headers)),
      left,
      rw (f, e) at fr.config ∙ c.new.ensures.config,
      strip_bom c.args.body.now,
      fr.source,
      [],
      (sym fr.state, refl),
      refl,
      refl,
    )

pub loop-row-preserved : goal.loop-row-preserved
loop-row-preserved c =
    let inv = c.loop-row.invariant in
    let s = rw (c.in-Some.is, c.in-Ok.is) at ((c.next.ensures.steps inv.2 inv.0).0 inv.1) in
    let m = rows-more (λ (s : Bor (List ℕ)). Some s.now) c.loop-row.row-iterator.rdr c.next.new.self.rdr (fields_of c.in-Ok.row) default_config st.StartRecord (strip_bom c.args.body.now) inv.4 inv.6 inv.3 inv.5 inv.7 s.0 in
    let taken = kept c.put_record.result c.map_err.result _ _ c.map_err.ensures.cases c.in_ok-map_err.was c.put_record.ensures.ok in (
      s.0.3 ∙ inv.0,
      inl s.1,
      s.2,
      s.0.2 ∙ inv.3,
      m.0,
      m.1,
      inv.6 ++ fields_of c.in-Ok.row ∷ [],
      m.2,
      good-more c.args.office.now c.args.kind inv.6 (fields_of c.in-Ok.row) c.loop-row.part c.loop-row.given.items c.put_record.new.given.items inv.9 inv.8 taken,
      simp length-append (omega (arith, inv.9)),
    )

pub returns-in_err-map_err-clause-refused : goal.returns-in_err-map_err-clause-refused
returns-in_err-map_err-clause-refused c =
    let inv = c.loop-row.invariant in
    let s = rw (c.in-Some.is, c.in-Ok.is) at ((c.next.ensures.steps inv.2 inv.0).0 inv.1) in
    let m = rows-more (λ (s : Bor (List ℕ)). Some s.now) c.loop-row.row-iterator.rdr c.next.new.self.rdr (fields_of c.in-Ok.row) default_config st.StartRecord (strip_bom c.args.body.now) inv.4 inv.6 inv.3 inv.5 inv.7 s.0 in
    let p = err_from_is_err_and c.from_residual.result c.from_residual.ensures.1 in
    let q = stopped c.put_record.result c.map_err.result _ c.in_err-map_err.field-0.0 c.map_err.ensures.cases c.in_err-map_err.was in
    let is : c.in_err-map_err.field-0.0 ≡ fault_of_part q.0 c.loop-row.part = search rules in
    let file = c.args.office.now in
    let body = c.args.body.now in
    let refused = λ (fault : UploadFault). HasNoRecord body fault ⊎ RefusedAt file c.args.kind body fault.part fault.cause in
    rw (p.1, p.2, is) (told-of-part q.0 c.loop-row.part refused (λ cause because. inr (record {
      before = inv.6;
      given = c.loop-row.given.items;
      row = fields_of c.in-Ok.row;
      front = record { state = c.next.new.self.rdr.state; rest = m.0; reached = m.2 };
      good = inv.8;
      part_is = inv.9;
      refused = c.put_record.ensures.err cause (q.1 ∙ ap Err because);
    })))

pub returns-clause-entries : goal.returns-clause-entries
returns-clause-entries c =
    let inv = c.loop-row.invariant in
    let s = rw c.in-None.is at ((c.next.ensures.steps inv.2 inv.0).0 inv.1) in
    let all : AreRows c.args.body.now inv.6 =
    (c.loop-row.row-iterator.rdr.state, inv.4, inv.7, rows-end (λ (s : Bor (List ℕ)). Some s.now) c.loop-row.row-iterator.rdr c.next.new.self.rdr [] default_config inv.4 inv.3 inv.5 s) in
    rows-give c.args.office.now c.args.kind c.args.body.now inv.6 c.loop-row.given.items c.in_order.result (λ n. omega (arith, n, inv.9, c.if-part-eq0.false)) all inv.8 c.in_order.ensures

pub returns-clause-of_office : goal.returns-clause-of_office
returns-clause-of_office c =
    let inv = c.loop-row.invariant in
    listed-of-office c.args.office.now c.loop-row.given.items c.in_order.result c.in_order.ensures (good-of-office c.args.office.now c.args.kind inv.6 c.loop-row.given.items inv.8)
