-- What a statement is given. It serves `src/given.rt`.
-- (A format of this project.)
use Rattle.std.specs.Prelude.{List, take}
use Rattle.sqlite_value.specs.declared.value.ValueRef.{ValueRef}
use Rattle.pw_store.specs.declared.given.Given.{Given}

abbrev pub values_of : Given → List ValueRef
values_of given = take given.count given.values
