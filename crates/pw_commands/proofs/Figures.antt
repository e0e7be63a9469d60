-- What stays where a new office file adopts the records of a book.
use Rattle.std.proofs.Common.{List, ℕ, Result, Ok, Err, IfOk}
use Rattle.pw_tariff.specs.Office.{OfficeFile, IsSound, office_of}
use Rattle.pw_tariff.specs.Text.{IsOfficeOf}
use Rattle.pw_tariff.proofs.Answered.{office-sound}
use Rattle.pw_model.specs.declared.records.Entry.{Entry}
use Rattle.pw_model.specs.Laws.{HaveSameFigures}
use Rattle.pw_model.specs.Office.{AllOfOffice}
use Rattle.pw_model.proofs.SoundOffice.{sound-office}
use Rattle.pw_moving.specs.declared.change.Respelling.{Respelling}
use Rattle.pw_moving.proofs.Adopted.{adopted-agree}
use Rattle.pw_moving.proofs.Agreed.{agreeing-alike}
use Rattle.pw_commands.specs.Adoptions.{MayTake}

pub figures-stay : (text : List ℕ) (words : List Respelling) (old new : OfficeFile) (s : List Entry) → IsSound old → IsOfficeOf text new → AllOfOffice (office_of old) s →
    MayTake words (record { old = old; new = new }) s → HaveSameFigures (office_of old) (office_of new) s
figures-stay text words old new s sound read all (last, up_to, adopts) =
    let agree = adopted-agree words last (record { old = old; new = new }) s sound (office-sound text new read) up_to adopts in
    agreeing-alike (office_of old) (office_of new) s (sound-office old sound).period all agree

-- of what is known of a result, more
pub if_ok_more : {A E : Type 0} (P Q R : A → Type 0) (r : Result A E) → IfOk r P → IfOk r Q → ((a : A) → P a → Q a → R a) → IfOk r R
if_ok_more P Q R (Ok a) p q more = more a p q
if_ok_more P Q R (Err e) p q more = tt
