-- What a judge was handed of the rows that a query shows. It serves `src/scan.rt` and `src/listings.rt`.
-- (Definitions of this project.)
use Rattle.std.specs.Prelude.{◌≡◌, ◌⊎◌, List, [], Result, Ok, Err}
use Rattle.sqlite.specs.Order.{Row}
use Rattle.sqlite.specs.Given.{IsPlain}
use Rattle.sqlite_resolve.specs.declared.compiled.Compiled.{Compiled}
use Rattle.sqlite_resolve.specs.declared.error.CompileError.{CompileError}
use Rattle.sqlite_schema.specs.declared.command.Command.{Command}
use Rattle.sqlite_schema.specs.declared.command.Command.TheVariants.{Select}
use Rattle.sqlite_schema.specs.Program.{lets_of}
use Rattle.pw_store.specs.declared.fault.OpenFault.{OpenFault}
use Rattle.pw_store.specs.declared.fault.OpenFault.TheVariants.{Store, Memory, Unclean}

-- ---- which texts
-- a query with no other before it
abbrev pub IsSelect : Command → Type 0
IsSelect (Select q names) = lets_of q ≡ []
IsSelect _ = ⊥

-- it returns nothing of a write, and doesn't read the time
abbrev pub IsOneQuery : Result Compiled CompileError → Type 0
IsOneQuery (Ok c) = IsPlain (Ok c) × IsSelect c.command
IsOneQuery (Err e) = ⊥

-- ---- what is known behind it
-- the judge took rows, all of which are shown
abbrev pub HasTaken : {J : Type 0} → (J → List Row → J → Type 0) → (List Row → Type 0) → J → J → Type 0
HasTaken took Shows old new = (rows : List Row) × took old rows new × Shows rows

-- rows are shown that the judge refuses
abbrev pub HasRefused : {J : Type 0} → (J → List Row → Type 0) → (List Row → Type 0) → J → Type 0
HasRefused refuses Shows old = (rows : List Row) × refuses old rows × Shows rows

-- the fault is none of version or text
abbrev pub IsOther : {A : Type 0} → Result A OpenFault → Type 0
IsOther r = (r ≡ Err Unclean) ⊎ ((r ≡ Err Memory) ⊎ (r ≡ Err Store))
