use Rattle.std.proofs.Common.{◌≡◌, ◌↔◌, Some, Ok, IsTrue, filter, sym, subst, ◌∙◌}
use Rattle.std.proofs.lemmas.Result.{IfOk-from_err}
use Rattle.std.specs.Option.{option_copied}
use Rattle.sqlite.specs.Held.{state}
use Rattle.pw_tariff.specs.Office.{office_of}
use Rattle.pw_schema.specs.declared.kind.RecordKind.TheVariants.{Assignments}
use Rattle.pw_schema.specs.declared.kind.TotalKind.TheVariants.{Energies, Payments}
use Rattle.pw_schema.specs.Judges.{IsRest, is_above_zero}
use Rattle.pw_schema.proofs.Outcomes.{early}
use Rattle.pw_store.specs.Content.{start_tree, energy_tree, payment_tree}
use Rattle.pw_store.specs.inner.Opened.{HoldsEnergies, RefusesUnless}
use Rattle.pw_store.specs.inner.Sums.{TellsKept, TellsTotals}
use Rattle.pw_store.proofs.Compared.{all_read}
use Rattle.pw_store.proofs.InTurn.{trees_same}
use Rattle.pw_store.proofs.OfContent.{energies_held}
use Rattle.pw_store.proofs.Scanning.{looked, looks_last, refuses_more}
use Rattle.pw_store.proofs.Passed.{passed}
use Rattle.pw_store.specs.Opening.{HoldsSums}
use Rattle.pw_store.proofs.sums.read_sums.Goals as goal

pub returns-in_err-energies-clause-cause : goal.returns-in_err-energies-clause-cause
returns-in_err-energies-clause-cause g c clean =
    let office = office_of c.args.office.now in
    let s0 = state g.S.Store c.args.conn.now in
    let s1 = state g.S.Store c.read_kept.new.conn in
    let s2 = state g.S.Store c.read_kept-2.new.conn in
    let clean2 = early s2 (state g.S.Store c.read_energies.new.conn) c.in_err-energies.ensures.looks.crash clean in
    let clean1 = early s1 s2 c.in_ok-starts.ensures.looks.crash clean2 in
    let same = trees_same s1 s2 (c.in_ok-starts.ensures.looks.same clean2) ∙ trees_same s0 s1 (c.in_ok-points.ensures.looks.same clean1) in
    passed c.from_residual-in_err-energies.result (RefusesUnless (HoldsSums office s0.now.trees)) c.from_residual-in_err-energies.ensures.1 (refuses_more _ _ c.in_err-energies.field-0.0 (λ it. subst (HoldsEnergies office) (sym same) (energies_held office s0.now.trees it)) (c.in_err-energies.ensures.cause clean))

pub returns-in_err-payments-clause-looks : goal.returns-in_err-payments-clause-looks
returns-in_err-payments-clause-looks g c =
    looks_last c.from_residual-in_err-payments.result (state g.S.Store c.args.conn.now) (state g.S.Store c.read_kept.new.conn) (state g.S.Store c.read_kept-2.new.conn) (state g.S.Store c.read_energies.new.conn) (state g.S.Store c.read_payments.new.conn)
    (looked _ _ _ c.in_ok-points.ensures.looks) (looked _ _ _ c.in_ok-starts.ensures.looks) (looked _ _ _ c.in_ok-energies.ensures.looks) (record { same = λ clean. IfOk-from_err c.from_residual-in_err-payments.result _ c.from_residual-in_err-payments.ensures.0; kept = c.in_err-payments.ensures.looks.kept; crash = c.in_err-payments.ensures.looks.crash })

pub returns-clause-looks : goal.returns-clause-looks
returns-clause-looks g c =
    looks_last (Ok c.are_all.result) (state g.S.Store c.args.conn.now) (state g.S.Store c.read_kept.new.conn) (state g.S.Store c.read_kept-2.new.conn) (state g.S.Store c.read_energies.new.conn) (state g.S.Store c.read_payments.new.conn)
    (looked _ _ _ c.in_ok-points.ensures.looks) (looked _ _ _ c.in_ok-starts.ensures.looks) (looked _ _ _ c.in_ok-energies.ensures.looks) (record { same = c.in_ok-payments.ensures.looks.same; kept = c.in_ok-payments.ensures.looks.kept; crash = c.in_ok-payments.ensures.looks.crash })

pub returns-clause-tells : goal.returns-clause-tells
returns-clause-tells g c clean =
    let s0 = state g.S.Store c.args.conn.now in
    let s1 = state g.S.Store c.read_kept.new.conn in
    let s2 = state g.S.Store c.read_kept-2.new.conn in
    let s3 = state g.S.Store c.read_energies.new.conn in
    let s4 = state g.S.Store c.read_payments.new.conn in
    let clean3 = early s3 s4 c.in_ok-payments.ensures.looks.crash clean in
    let clean2 = early s2 s3 c.in_ok-energies.ensures.looks.crash clean3 in
    let clean1 = early s1 s2 c.in_ok-starts.ensures.looks.crash clean2 in
    let same1 = trees_same s0 s1 (c.in_ok-points.ensures.looks.same clean1) in
    let same2 = trees_same s1 s2 (c.in_ok-starts.ensures.looks.same clean2) ∙ same1 in
    let same3 = trees_same s2 s3 (c.in_ok-energies.ensures.looks.same clean3) ∙ same2 in
    let p = c.in_ok-points.ensures.tells clean1 in
    let s = c.in_ok-starts.ensures.tells clean2 in
    let e = c.in_ok-energies.ensures.tells clean3 in
    let y = c.in_ok-payments.ensures.tells clean in (
      record { points = p.0; starts = s.0; energies = e.0; payments = y.0 },
      record {
        points_told = p.1;
        starts_told = subst (λ db. TellsKept Assignments (db start_tree) s.0) same1 s.1;
        energies_told = subst (λ db. TellsTotals Energies (db energy_tree) e.0) same2 e.1;
        payments_told = subst (λ db. TellsTotals Payments (db payment_tree) y.0) same3 y.1;
      },
      all_read c.args.parts.now p.0 s.0 e.0 y.0 (option_copied c.in_ok-energies.energies.1) c.in_ok-points.points.1 c.in_ok-starts.starts.1 c.in_ok-payments.payments.1 c.are_all.result c.are_all.ensures
          (subst (λ l. IsTrue c.in_ok-points.points.1 ↔ l ≡ p.0) c.as_slice.ensures.value p.2)
          (subst (λ l. IsTrue c.in_ok-starts.starts.1 ↔ l ≡ s.0) c.as_slice-2.ensures.value s.2)
          (subst (λ l. IsRest (Some l) (filter is_above_zero e.0) (option_copied c.in_ok-energies.energies.1)) c.as_slice-3.ensures.value e.2)
          y.2,
    )
