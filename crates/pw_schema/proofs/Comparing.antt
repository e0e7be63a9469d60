-- The nodes of `id = 1`, and the term that they stand for.
use Rattle.std.proofs.Common.{◌≡◌, ℕ, zero, suc, pos, List, [], ◌∷◌, Some, get_or, length, refl, sym, ap, ◌∙◌}
use Rattle.std.specs.Prelude.{slice_get}
use Rattle.std.proofs.lemmas.Option.{get_or_from_slice_get}
use Rattle.sqlite.specs.declared.types.Value.TheVariants.{Null, Int}
use Rattle.sqlite.specs.Term.{lit, col, op2}
use Rattle.sqlite_schema.specs.declared.code.Op.{Op}
use Rattle.sqlite_schema.specs.declared.code.Op.TheVariants.{Literal, Column, Unary, Binary, Case}
use Rattle.sqlite_schema.specs.Code.{op_term, term_to, terms_in}
use Rattle.sqlite_sql.specs.declared.ops.BinaryOp.{BinaryOp}
use Rattle.sqlite_sql.specs.declared.ops.BinaryOp.TheVariants.{Compare}
use Rattle.sqlite_sql.specs.declared.ops.CompareOp.TheVariants.{Eq}
use Rattle.sqlite_value.specs.declared.keys.Collation.TheVariants as collation
use Rattle.pw_schema.specs.Tables.{only_one}
use Rattle.pw_schema.specs.inner.Checks.{IsOnlyOne}

abbrev nothing : Op
nothing = Literal Null

abbrev equals : BinaryOp
equals = Compare Eq collation.Binary

abbrev one : Op
one = Literal (Int (pos 1))

-- what is read at a place stands there, where it isn't what is read past the end
there : (nodes : List Op) (at : ℕ) (node : Op) → get_or nodes at nothing ≡ node → (node ≡ nothing → ⊥) → slice_get nodes at ≡ Some node
there [] at node is some = absurd (some (sym is))
there (n ∷ nodes) zero node is some = ap Some is
there (n ∷ nodes) (suc at) node is some = there nodes at node is some

-- in a list of one, all places have the same
alone : (n : Op) (at : ℕ) (node : Op) → slice_get (n ∷ []) at ≡ Some node → n ≡ node
alone n zero node e = cc
alone n (suc at) node e = absurd cc

-- ---- from the nodes to the term
pub compared : (nodes : List Op) (root : ℕ) → IsOnlyOne nodes root → terms_in nodes (root ∷ []) ≡ only_one
compared [] root it = absurd (let e = it.at_root in cc)
compared (n ∷ []) root it = absurd (let same : Binary equals it.id it.one ≡ Column 1 0 = sym (alone n root _ it.at_root) ∙ alone n it.id _ it.at_id in cc)
compared (n ∷ m ∷ nodes) root it = ap (λ t. t ∷ []) (ap (op_term (term_to (n ∷ m ∷ nodes) (suc (length nodes)))) at_root ∙ (λ i. op2 equals (id_is i) (one_is i)))
  where
    at_root : get_or (n ∷ m ∷ nodes) root nothing ≡ Binary equals it.id it.one
    at_root = get_or_from_slice_get (n ∷ m ∷ nodes) root _ nothing it.at_root

    id_is : term_to (n ∷ m ∷ nodes) (suc (length nodes)) it.id ≡ col 1 0
    id_is = ap (op_term (term_to (n ∷ m ∷ nodes) (length nodes))) (get_or_from_slice_get (n ∷ m ∷ nodes) it.id _ nothing it.at_id)

    one_is : term_to (n ∷ m ∷ nodes) (suc (length nodes)) it.one ≡ lit (Int (pos 1))
    one_is = ap (op_term (term_to (n ∷ m ∷ nodes) (length nodes))) (get_or_from_slice_get (n ∷ m ∷ nodes) it.one _ nothing it.at_one)

-- ---- from the term to the nodes
module _ (nodes : List Op) where
  column_there : (depth at : ℕ) → term_to nodes depth at ≡ col 1 0 → slice_get nodes at ≡ Some (Column 1 0)
  column_there zero at e = absurd cc
  column_there (suc depth) at e = go (get_or nodes at nothing) refl e
    where
      go : (node : Op) → get_or nodes at nothing ≡ node → op_term (term_to nodes depth) node ≡ col 1 0 → slice_get nodes at ≡ Some (Column 1 0)
      go (Literal v) is f = absurd cc
      go (Column slot place) is f = there nodes at (Column 1 0) (let same : Column slot place ≡ Column 1 0 = cc in is ∙ same) (λ bad. cc)
      go (Unary o a) is f = absurd cc
      go (Binary o a b) is f = absurd cc
      go (Case t a b) is f = absurd cc

  one_there : (depth at : ℕ) → term_to nodes depth at ≡ lit (Int (pos 1)) → slice_get nodes at ≡ Some one
  one_there zero at e = absurd cc
  one_there (suc depth) at e = go (get_or nodes at nothing) refl e
    where
      go : (node : Op) → get_or nodes at nothing ≡ node → op_term (term_to nodes depth) node ≡ lit (Int (pos 1)) → slice_get nodes at ≡ Some one
      go (Literal v) is f = there nodes at one (let same : Literal v ≡ one = cc in is ∙ same) (λ bad. cc)
      go (Column slot place) is f = absurd cc
      go (Unary o a) is f = absurd cc
      go (Binary o a b) is f = absurd cc
      go (Case t a b) is f = absurd cc

  root_there : (depth at : ℕ) → term_to nodes depth at ≡ op2 equals (col 1 0) (lit (Int (pos 1))) → IsOnlyOne nodes at
  root_there zero at e = absurd cc
  root_there (suc depth) at e = go (get_or nodes at nothing) refl e
    where
      go : (node : Op) → get_or nodes at nothing ≡ node → op_term (term_to nodes depth) node ≡ op2 equals (col 1 0) (lit (Int (pos 1))) → IsOnlyOne nodes at
      go (Literal v) is f = absurd cc
      go (Column slot place) is f = absurd cc
      go (Unary o a) is f = absurd cc
      go (Case t a b) is f = absurd cc
      go (Binary o a b) is f = record {
        id = a;
        one = b;
        at_root = there nodes at (Binary equals a b) (let same : Binary o a b ≡ Binary equals a b = cc in is ∙ same) (λ bad. cc);
        at_id = column_there depth a cc;
        at_one = one_there depth b cc;
      }

  pub comparing : (roots : List ℕ) → terms_in nodes roots ≡ only_one → (root : ℕ) × (roots ≡ root ∷ []) × IsOnlyOne nodes root
  comparing [] e = absurd cc
  comparing (r ∷ []) e = (r, refl, root_there (length nodes) r cc)
  comparing (r ∷ s ∷ roots) e = absurd cc
