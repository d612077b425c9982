-- What a call writes of a page.
use Rattle.std.specs.Prelude.{ℕ, List, Result}
use Rattle.canary_once.specs.declared.book.BookFault.{BookFault}
use Rattle.canary_once.specs.declared.book.BookFault.TheVariants as book
use Rattle.canary_base.specs.Writes.{Known}
use Rattle.canary_files.specs.Exporting.{Puts}
use Rattle.canary_page_html.specs.Pages.{IsOfPieces}
use Rattle.canary_page.specs.declared.fault.PageFault.{PageFault}
use Rattle.canary_page.specs.declared.fault.PageFault.TheVariants as fault

abbrev pub of_book : BookFault → PageFault
of_book book.Memory = fault.Memory
of_book book.Storage = fault.Storage

-- (here `w` is what the writer holds)
-- the first bytes of a text that is made of pieces went out, and all of them if the call succeeded
abbrev pub IsDrawn : {A E : Type 0} → Known → Known → Result A E → Type 0
IsDrawn w new_w result = (text : List ℕ) × IsOfPieces text × Puts w new_w text result
