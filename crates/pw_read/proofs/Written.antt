-- A text that is written by its front and what follows.
use Rattle.std.proofs.Common.{◌+◌, take, drop, ℕ, List, Option}
use Rattle.std.proofs.Math.Seq.{take-add}
use Rattle.std.proofs.KnownBytes.{Appends-trans}
use Rattle.std.specs.Io.KnownBytes.{Appends}

pub Appends-further : (u v w : Option (List ℕ)) (a n : ℕ) (xs : List ℕ)
    → Appends u v (take a xs) → Appends v w (take n (drop a xs)) → Appends u w (take (a + n) xs)
Appends-further u v w a n xs x y = rw (take-add a n xs) (Appends-trans u v w (take a xs) (take n (drop a xs)) x y)
