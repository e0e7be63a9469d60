use Rattle.std.proofs.Common.{ℕ, Option, Some, List, length, refl, ap, sym, subst, ◌+◌, ◌∙◌}
use Rattle.pw_tariff.specs.declared.ids.AccountId.{AccountId}
use Rattle.pw_moving.specs.Renaming.{Offices, by_names}
use Rattle.pw_moving.specs.Tables.{HasAccounts, account_below}
use Rattle.pw_moving.proofs.Tabled.{answer-told, count-more, one-more}
use Rattle.pw_moving.proofs.renaming.accounts_of.Goals as goal

pub loop-account-preserved : goal.loop-account-preserved
loop-account-preserved c =
    let o : Offices = record { old = c.args.old.now; new = c.args.new.now } in
    let was = c.loop-account.invariant in
    let wrap : ℕ → AccountId = λ n. record { 0 = n } in
    let number : AccountId → ℕ = λ a. a.0 in
    let named = c.account_name-name.ensures ∙ ap (λ (n : List ℕ). Some n) (sym c.as_bytes.ensures.value) in
    let told = answer-told wrap number (λ a. refl) c.args.old.now.accounts c.args.new.now.accounts c.loop-account.account c.as_bytes.result.now
    named c.account.result c.account.ensures.some c.account.ensures.only c.account.ensures.none in
    let P : List (Option AccountId) → Type 0 = HasAccounts o (c.loop-account.account + 1) in
    subst P (sym {A = List (Option AccountId)} c.in_ok-push.ensures.items) (record {
      count = count-more c.loop-account.table.items c.account.result c.loop-account.account was.count;
      each = one-more (λ i. account_below (length c.args.new.now.accounts) ((by_names o).account i)) c.loop-account.table.items c.account.result c.loop-account.account was.count was.each told;
    })
