-- A row that is inserted comes last.
use Rattle.std.proofs.Common.{◌≡◌, List, [], ◌∷◌, ◌++◌, map, drop, refl, sym, ap, subst, ◌∙◌}
use Rattle.sqlite.specs.declared.types.Value.TheVariants.{Int}
use Rattle.sqlite.specs.Order.{Row}
use Rattle.sqlite.specs.Tree.{put_row}
use Rattle.sqlite.specs.Rowids.{Rowids}
use Rattle.sqlite.specs.Edit.{next_rowid, at_least}
use Rattle.canary_tables_schema.specs.Cells.{cells_of}
use Rattle.canary_tables_schema.specs.Stores.{IsNumbered}
use Rattle.canary_tables_write.proofs.Places.{comes_last, stays_numbered}

map_last : {A B : Type 0} (f : A → B) (xs : List A) (x : A) → map f (xs ++ x ∷ []) ≡ map f xs ++ f x ∷ []
map_last f [] x = refl
map_last f (y ∷ xs) x = ap (λ ys. f y ∷ ys) (map_last f xs x)

-- in whatever way the rowid is chosen
module _ (rowids : Rowids) (row : Row) (old new : List Row) (up : IsNumbered old) (put : new ≡ put_row (Int (at_least rowids (next_rowid old)) ∷ row) old) where
  pub appended : {R : Type 0} (cells : R → Row) (rows : List R) (last : R) → cells last ≡ row → cells_of old ≡ map cells rows → cells_of new ≡ map cells (rows ++ last ∷ [])
  appended cells rows last is stored =
      ap cells_of (put ∙ comes_last rowids row old up) ∙ map_last (drop 1) old _ ∙ (λ i. stored i ++ sym is i ∷ []) ∙ sym (map_last cells rows last)

  pub still_numbered : IsNumbered new
  still_numbered = subst IsNumbered (sym put) (stays_numbered (Int (at_least rowids (next_rowid old)) ∷ row) old refl up)
