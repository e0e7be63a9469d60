-- The files of the page, each by its text.
-- (Of this project. What they show: docs/HTTP.md.)
use Rattle.std.specs.Prelude.{ℕ, List}
use Rattle.pw_page.specs.declared.File.{File}
use Rattle.pw_page.specs.declared.File.TheVariants.{Page, Script, Style}
use Rattle.pw_page.specs.declared.texts.TheConstants.{PAGE, SCRIPT, STYLE}

abbrev pub text_of : File → List ℕ
text_of Page = PAGE.now
text_of Script = SCRIPT.now
text_of Style = STYLE.now
