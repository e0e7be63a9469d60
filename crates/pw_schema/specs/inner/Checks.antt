-- The nodes of a comparison. It serves `src/checks.rt`.
use Rattle.std.specs.Prelude.{◌≡◌, ℕ, pos, List, Some, slice_get}
use Rattle.sqlite.specs.declared.types.Value.TheVariants.{Int}
use Rattle.sqlite_schema.specs.declared.code.Op.{Op}
use Rattle.sqlite_schema.specs.declared.code.Op.TheVariants as op
use Rattle.sqlite_sql.specs.declared.ops.BinaryOp.TheVariants.{Compare}
use Rattle.sqlite_sql.specs.declared.ops.CompareOp.TheVariants.{Eq}
use Rattle.sqlite_value.specs.declared.keys.Collation.TheVariants as collation

-- the node at a place is `id = 1`, where id is the rowid
pub record IsOnlyOne (nodes : List Op) (root : ℕ) : Type 0 where
  pub id : ℕ
  pub one : ℕ
  pub at_root : slice_get nodes root ≡ Some (op.Binary (Compare Eq collation.Binary) id one)
  pub at_id : slice_get nodes id ≡ Some (op.Column 1 0)
  pub at_one : slice_get nodes one ≡ Some (op.Literal (Int (pos 1)))
