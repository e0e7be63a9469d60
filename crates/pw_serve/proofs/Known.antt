-- Known bytes that are read or written one text after another.
use Rattle.std.proofs.Common.{ℕ, List, ◌++◌, Option, Some, None, [], refl, sym, ap, ◌∙◌, append_assoc, subst}
use Rattle.std.proofs.lemmas.List.{append-nil}
use Rattle.std.specs.Io.KnownBytes.{Appends, Consumes, IsAtEnd, Keeps}
use Rattle.pw_serve.specs.Served.{IsAllOf}

pub Keeps-same : (u : Option (List ℕ)) → Keeps u u
Keeps-same None = tt
Keeps-same (Some xs) = refl

pub Keeps-then : (u v w : Option (List ℕ)) → Keeps u v → Keeps v w → Keeps u w
Keeps-then None v w x y = tt
Keeps-then (Some xs) None w x y = absurd x
Keeps-then (Some xs) (Some ys) None x y = y
Keeps-then (Some xs) (Some ys) (Some zs) x y = y ∙ x

-- ---- nothing is read or written
pub Consumes-none : (u v : Option (List ℕ)) → Keeps u v → Consumes u v []
Consumes-none None v x = tt
Consumes-none (Some xs) None x = absurd x
Consumes-none (Some xs) (Some ys) x = sym x

pub Appends-none : (u v : Option (List ℕ)) → Keeps u v → Appends u v []
Appends-none None v x = tt
Appends-none (Some xs) None x = absurd x
Appends-none (Some xs) (Some ys) x = x ∙ sym (append-nil xs)

-- ---- one text, and then another or none
pub Appends-then : (u v w : Option (List ℕ)) (a b : List ℕ) → Appends u v a → Appends v w b → Appends u w (a ++ b)
Appends-then None v w a b x y = tt
Appends-then (Some xs) None w a b x y = absurd x
Appends-then (Some xs) (Some ys) None a b x y = y
Appends-then (Some xs) (Some ys) (Some zs) a b x y = y ∙ ap (λ (t : List ℕ). t ++ b) x ∙ append_assoc xs a b

pub Appends-kept : (u v w : Option (List ℕ)) (a : List ℕ) → Appends u v a → Keeps v w → Appends u w a
Appends-kept u v w a x y = subst (λ (t : List ℕ). Appends u w t) (append-nil a) (Appends-then u v w a [] x (Appends-none v w y))

pub Consumes-then : (u v w : Option (List ℕ)) (a b : List ℕ) → Consumes u v a → Consumes v w b → Consumes u w (a ++ b)
Consumes-then None v w a b x y = tt
Consumes-then (Some xs) None w a b x y = absurd x
Consumes-then (Some xs) (Some ys) None a b x y = y
Consumes-then (Some xs) (Some ys) (Some zs) a b x y = x ∙ ap (λ (t : List ℕ). a ++ t) y ∙ sym (append_assoc a b zs)

pub Consumes-kept : (u v w : Option (List ℕ)) (a : List ℕ) → Consumes u v a → Keeps v w → Consumes u w a
Consumes-kept u v w a x y = subst (λ (t : List ℕ). Consumes u w t) (append-nil a) (Consumes-then u v w a [] x (Consumes-none v w y))

-- what was read, and nothing is left, is all of it
pub all-read : (u w : Option (List ℕ)) (got : List ℕ) → Consumes u w got → IsAtEnd w → IsAllOf u got
all-read None w got x y = tt
all-read (Some xs) None got x y = absurd x
all-read (Some xs) (Some ys) got x y = x ∙ ap (λ (t : List ℕ). got ++ t) y ∙ append-nil got
