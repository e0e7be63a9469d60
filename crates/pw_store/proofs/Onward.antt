-- One change within an upload behind another.
use Rattle.std.proofs.Common.{◌≡◌, ℕ, ◌+◌, Result, Ok, Err, ap, refl, sym, ◌∙◌, arith}
use Rattle.sqlite_trees.specs.declared.store.Store.{Ghosts}
use Rattle.pw_shelf.specs.declared.fault.ShelfFault.{ShelfFault}
use Rattle.pw_shelf.specs.Calls.{failures_in, failures_told}
use Rattle.pw_store.specs.declared.shelf.SqlShelf.{SqlShelf}
use Rattle.pw_store.specs.inner.AllElse.{KeepsElse}

module _ {S : Type 0} (store : Ghosts S) where
  pub on_itself : (a : SqlShelf S store) → KeepsElse {X = Unit {0}} store (Ok tt) a a
  on_itself a = record {
    begun = refl;
    base = refl;
    opened = refl;
    failures = omega arith;
    abandons = refl;
    tally = refl;
    left = λ clean d l. l;
    clean = λ clean. clean;
  }

  pub on_then : {X Y : Type 0} (x : X) (answer : Result Y ShelfFault) (a b c : SqlShelf S store) → KeepsElse {X = X} store (Ok x) a b → KeepsElse store answer b c → KeepsElse store answer a c
  on_then x answer a b c f g = record {
    begun = g.begun ∙ f.begun;
    base = g.base ∙ f.base;
    opened = g.opened ∙ f.opened;
    failures = (let one = f.failures in let two = g.failures in omega (arith, one, two));
    abandons = g.abandons ∙ f.abandons;
    tally = g.tally ∙ f.tally;
    left = λ clean d l. f.left (g.clean clean) d (g.left clean d l);
    clean = λ clean. f.clean (g.clean clean);
  }

  -- where another answer tells as many failures
  pub on_told : {X Y : Type 0} (answer : Result X ShelfFault) (other : Result Y ShelfFault) (a b : SqlShelf S store) → failures_told answer ≡ failures_told other → KeepsElse store answer a b → KeepsElse store other a b
  on_told answer other a b e f = record {
    begun = f.begun;
    base = f.base;
    opened = f.opened;
    failures = f.failures ∙ ap (λ (n : ℕ). a.failures.count + n) e;
    abandons = f.abandons;
    tally = f.tally;
    left = f.left;
    clean = f.clean;
  }

  -- as an exit tells a fault
  pub on_failed : {X : Type 0} (Y : Type 0) (f g : ShelfFault) (result : Result X ShelfFault) (a b : SqlShelf S store) → result ≡ Err g → g ≡ f → KeepsElse {X = Y} store (Err f) a b → KeepsElse store result a b
  on_failed Y f g result a b e m = on_told {X = Y} (Err f) result a b (ap failures_in (sym m) ∙ ap failures_told (sym e))
