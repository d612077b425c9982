-- What a book has noted, and that it holds.
use Rattle.std.proofs.Common.{◌≡◌, ℕ, ℤ, List, Option, Some, None, ◌⊎◌, inl, inr, sym, subst}
use Rattle.std.specs.Prelude.{IfSome}
use Rattle.sqlite.specs.Effect.{Database}
use Rattle.canary_tables_read.specs.Places.{IsMark}
use Rattle.canary_tables.specs.declared.notes.Mark.{Mark}
use Rattle.canary_tables.specs.declared.notes.Notes.{Notes}
use Rattle.canary_tables.specs.Notes.{no_notes, mark_at, IsMarked, AreTrue}

pub none_noted : (db : Database) (notes : Notes) → notes ≡ no_notes → AreTrue db notes
none_noted db notes none = subst (AreTrue db) (sym none) (record { mark = tt })

-- a place that is known by a note
pub noted_place : (db : Database) (notes : Notes) (service : List ℕ) (index : ℕ) (place : Option ℤ) → AreTrue db notes → IfSome place (λ p. notes.mark ≡ Some (mark_at service index p)) → IfSome place (IsMark db service index)
noted_place db notes service index None true_of cached = tt
noted_place db notes service index (Some p) true_of cached = subst (λ (o : Option Mark). IfSome o (IsMarked db)) cached true_of.mark

-- a later mark
pub noted_later : (db : Database) (before after : Notes) (later : Option Mark) → AreTrue db before → IfSome later (IsMarked db) → (after ≡ before) ⊎ (after.mark ≡ later) → AreTrue db after
noted_later db before after later true_of holds (inl same) = subst (AreTrue db) (sym same) true_of
noted_later db before after later true_of holds (inr marked) = record { mark = subst (λ (o : Option Mark). IfSome o (IsMarked db)) (sym marked) holds }

-- a mark of the service, at an index up to whose place so many stand
pub marked : (db : Database) (mark : Mark) (service : List ℕ) (index : ℕ) → mark.service ≡ service → mark.index ≡ index → IsMark db service index mark.place → IsMarked db mark
marked db mark service index same at counted = subst (λ (s : List ℕ). IsMark db s mark.index mark.place) (sym same) (subst (λ (n : ℕ). IsMark db service n mark.place) (sym at) counted)
