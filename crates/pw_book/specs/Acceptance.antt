-- The line of an accepted upload.
-- (A format of this project.)
use Rattle.std.specs.Prelude.{ℕ, List, ◌++◌, codes, decimal}
use Rattle.pw_book.specs.declared.book.Accepted.{Accepted}

-- `accepted fresh N repeated M`, without its end
abbrev pub acceptance_line : Accepted → List ℕ
acceptance_line a = codes "accepted fresh " ++ (decimal a.fresh ++ (codes " repeated " ++ decimal a.repeated))
