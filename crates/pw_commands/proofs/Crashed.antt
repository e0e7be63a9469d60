-- What a crash leaves of a store that was opened, and to which uploads were posted.
use Rattle.std.proofs.Common.{◌≡◌, List, ℕ, refl, sym, subst, Result, IfOk}
use Rattle.std.proofs.lemmas.Result.{IfOk-weaker}
use Rattle.sqlite.specs.Effect.{Database}
use Rattle.sqlite.specs.State.{State as Sql}
use Rattle.pw_tariff.specs.Office.{OfficeFile, office_of}
use Rattle.pw_tariff.specs.Text.{IsOfficeOf}
use Rattle.pw_model.specs.Shelf.{ShelfContent}
use Rattle.pw_store.specs.Content.{content_of}
use Rattle.pw_store.specs.Kept.{left_of}
use Rattle.pw_store.specs.Left.{IsLeftBehind, IsOfText, IsSoundOf}
use Rattle.pw_store.proofs.OneOffice.{one-office}
use Rattle.pw_book.specs.declared.laws.crashes.Sent.{Sent}
use Rattle.pw_book.specs.Crashes.{IsLeftWhole}
use Rattle.pw_commands.specs.Crashes.{HoldsWhole, IsCrashed, WasHeld}

module _ (text : List ℕ) (office : OfficeFile) (is : IsOfficeOf text office) (before : ShelfContent) (uploads : List Sent) (s opened found : Sql)
    (left : (c : ShelfContent) → left_of s c → IsLeftWhole (office_of office) before.records uploads c) (it : IsCrashed s found.committed) where
  whole : IsLeftWhole (office_of office) before.records uploads (content_of found.committed.trees)
  whole = left (content_of found.committed.trees) (found.committed.trees, it.left, refl)

  sound : IsSoundOf (office_of office) (content_of found.committed.trees)
  sound = record { of_office = whole.sound.of_office; few = whole.sound.few; truth = whole.sound.truth }

  -- it is one of the store that was opened for the text
  pub left-behind : (other : OfficeFile) × IsOfficeOf text other × IsOfText (office_of other) text opened.now.trees → IsLeftBehind s opened text found
  left-behind (other, h, t) another k = record {
    clean = it.clean;
    text = subst (λ (o : OfficeFile). IsOfText (office_of o) text opened.now.trees) (one-office text other another h k) t;
    database = it.database;
    left = it.left;
    sound = subst (λ (o : OfficeFile). IsSoundOf (office_of o) (content_of found.committed.trees)) (one-office text office another is k) sound;
  }

  -- opened again, it holds that
  pub holds-whole : {X E : Type 0} (first : Database) (again : Result X E) (clean : X → Type 0) (content : X → ShelfContent) → WasHeld (office_of office) first before →
      IfOk again (λ x. clean x → content x ≡ content_of found.committed.trees) → IfOk again (λ x. clean x → HoldsWhole (office_of office) first uploads (content x))
  holds-whole first again clean content was h =
      IfOk-weaker again (λ x. clean x → content x ≡ content_of found.committed.trees) (λ x. clean x → HoldsWhole (office_of office) first uploads (content x))
      (λ x f k. (before, was, subst (λ (c : ShelfContent). IsLeftWhole (office_of office) before.records uploads c) (sym (f k)) whole)) h
