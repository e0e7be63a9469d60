use Rattle.std.proofs.Common.{◌≡◌, true, false, refl}
use Rattle.pw_record.specs.Told.{read_as, TellNothing, TellOne, TellUnlike}
use Rattle.pw_obis.specs.inner.Given.{set_text}
use Rattle.pw_record.proofs.Telling.{skip, no-code, other-code, first-told, told-again, told-unlike, still-unlike}
use Rattle.pw_record.proofs.meanings.with_set.Goals as goal

pub returns-in_default : goal.returns-in_default
returns-in_default c = λ sets x. skip c.args.meaning sets (set_text c.args.set.now) c.args.told (no-code c.args.meaning c.args.set.now c.requires c.in_default.is) x

pub returns-then-not-is_meant_by : goal.returns-then-not-is_meant_by
returns-then-not-is_meant_by c = λ sets x.
    skip c.args.meaning sets (set_text c.args.set.now) c.args.told
    (other-code c.args.meaning c.args.set.now c.in-Some.code c.requires c.in-Some.is (λ m. (let e : false ≡ true = c.if-not-is_meant_by.ensures.1 m in cc))) x

pub returns-in-Nothing : goal.returns-in-Nothing
returns-in-Nothing c = λ sets x.
    let n : TellNothing c.args.meaning sets = rw c.in-Nothing.is at x in
    first-told c.args.meaning sets c.args.set.now c.in-Some.code c.first_value-value.result.now c.requires c.in-Some.is (c.if-not-is_meant_by.ensures.0 refl) c.first_value-value.ensures n

pub returns-then-are_alike : goal.returns-then-are_alike
returns-then-are_alike c = λ sets x.
    let o : TellOne c.args.meaning sets (read_as c.args.meaning c.in-One.first.now) = rw c.in-One.is at x in
    told-again c.args.meaning sets c.args.set.now c.in-Some.code c.first_value-value.result.now (read_as c.args.meaning c.in-One.first.now)
    c.requires c.in-Some.is (c.if-not-is_meant_by.ensures.0 refl) c.first_value-value.ensures (c.if-are_alike.ensures.0 refl) o

pub returns-else-are_alike : goal.returns-else-are_alike
returns-else-are_alike c = λ sets x.
    let o : TellOne c.args.meaning sets (read_as c.args.meaning c.in-One.first.now) = rw c.in-One.is at x in
    told-unlike c.args.meaning sets c.args.set.now c.in-Some.code c.first_value-value.result.now (read_as c.args.meaning c.in-One.first.now)
    c.requires c.in-Some.is (c.if-not-is_meant_by.ensures.0 refl) c.first_value-value.ensures (λ s. (let e : false ≡ true = c.if-are_alike.ensures.1 s in cc)) o

pub returns-in-Unlike : goal.returns-in-Unlike
returns-in-Unlike c = λ sets x.
    let u : TellUnlike c.args.meaning sets = rw c.in-Unlike.is at x in
    still-unlike c.args.meaning sets c.args.set.now u
