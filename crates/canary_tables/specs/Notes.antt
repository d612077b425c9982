-- What a book has noted of its tables.
use Rattle.std.specs.Prelude.{ℕ, ℤ, List, None, IfSome}
use Rattle.sqlite.specs.Effect.{Database}
use Rattle.canary_tables_read.specs.Places.{IsMark}
use Rattle.canary_tables.specs.declared.notes.Mark.{Mark}
use Rattle.canary_tables.specs.declared.notes.Notes.{Notes}

abbrev pub no_notes : Notes
no_notes = record { mark = None }

abbrev pub mark_at : List ℕ → ℕ → ℤ → Mark
mark_at service index place = record { service = service; index = index; place = place }

-- up to the mark's place stand as many of its service's measurements as it says
abbrev pub IsMarked : Database → Mark → Type 0
IsMarked db mark = IsMark db mark.service mark.index mark.place

-- all that is noted holds of a database
pub record AreTrue (db : Database) (notes : Notes) : Type 0 where
  pub mark : IfSome notes.mark (IsMarked db)
