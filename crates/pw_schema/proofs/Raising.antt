-- What is made of the trees of a store that is brought to version 3, one statement behind the other.
use Rattle.std.proofs.Common.{refl, ◌∙◌}
use Rattle.sqlite.specs.Tree.{Trees}
use Rattle.pw_schema.specs.Raised.{HasSame, IsRaised, lasting_trees}
use Rattle.pw_schema.specs.declared.kind.StoreVersion.{StoreVersion}
use Rattle.pw_schema.specs.declared.kind.StoreVersion.TheVariants.{First, Second, Third}

-- where the rows that stay are the same
pub raised_on : (v : StoreVersion) (a b c : Trees) → IsRaised v a b → HasSame lasting_trees b c → IsRaised v a c
raised_on First a b c r s = record {
  same = (s.0 ∙ r.same.0, (s.1.0 ∙ r.same.1.0, (s.1.1.0 ∙ r.same.1.1.0, (s.1.1.1.0 ∙ r.same.1.1.1.0, (s.1.1.1.1.0 ∙ r.same.1.1.1.1.0, (s.1.1.1.1.1.0 ∙ r.same.1.1.1.1.1.0, tt))))));
  empty = (s.1.1.1.1.1.1.0 ∙ r.empty.0, (s.1.1.1.1.1.1.1.0 ∙ r.empty.1.0, (s.1.1.1.1.1.1.1.1.0 ∙ r.empty.1.1.0, tt)));
}
raised_on Second a b c r s = record {
  same = (s.0 ∙ r.same.0, (s.1.0 ∙ r.same.1.0, (s.1.1.0 ∙ r.same.1.1.0, (s.1.1.1.0 ∙ r.same.1.1.1.0, (s.1.1.1.1.0 ∙ r.same.1.1.1.1.0, (s.1.1.1.1.1.0 ∙ r.same.1.1.1.1.1.0, (s.1.1.1.1.1.1.0 ∙ r.same.1.1.1.1.1.1.0, (s.1.1.1.1.1.1.1.0 ∙ r.same.1.1.1.1.1.1.1.0, (s.1.1.1.1.1.1.1.1.0 ∙ r.same.1.1.1.1.1.1.1.1.0, tt)))))))));
  empty = tt;
}
raised_on Third a b c r s = record {
  same = (s.0 ∙ r.same.0, (s.1.0 ∙ r.same.1.0, (s.1.1.0 ∙ r.same.1.1.0, (s.1.1.1.0 ∙ r.same.1.1.1.0, (s.1.1.1.1.0 ∙ r.same.1.1.1.1.0, (s.1.1.1.1.1.0 ∙ r.same.1.1.1.1.1.0, (s.1.1.1.1.1.1.0 ∙ r.same.1.1.1.1.1.1.0, (s.1.1.1.1.1.1.1.0 ∙ r.same.1.1.1.1.1.1.1.0, (s.1.1.1.1.1.1.1.1.0 ∙ r.same.1.1.1.1.1.1.1.1.0, tt)))))))));
  empty = tt;
}

-- by one statement and then another
pub raised_behind : (v : StoreVersion) (a b c d : Trees) → IsRaised v a b → HasSame lasting_trees b c → HasSame lasting_trees c d → IsRaised v a d
raised_behind v a b c d r s t = raised_on v a c d (raised_on v a b c r s) t

-- where nothing is done
pub raised_itself : (db : Trees) → IsRaised Third db db
raised_itself db = record { same = (refl, (refl, (refl, (refl, (refl, (refl, (refl, (refl, (refl, tt))))))))); empty = tt }
