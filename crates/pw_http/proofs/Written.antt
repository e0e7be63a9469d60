-- One text is written, and then another.
use Rattle.std.proofs.Common.{ℕ, List, ◌+◌, ◌++◌, length, Option, Result, Ok, Err}
use Rattle.std.specs.Io.KnownBytes.{Appends}
use Rattle.pw_serve.proofs.Known.{Appends-then}
use Rattle.pw_http.specs.Writing.{Writes}
use Rattle.pw_http.proofs.KnownLemmas.{Appends-front}

pub Writes-behind : {T E : Type 0} (u v w : Option (List ℕ)) (xs ys : List ℕ) (r : Result T E) → Appends u v xs → Writes v w ys r → Writes u w (xs ++ ys) r
Writes-behind u v w xs ys (Ok t) x y = Appends-then u v w xs ys x y
Writes-behind u v w xs ys (Err e) x y = (length xs + y.0, Appends-front u v w xs ys y.0 x y.1)
