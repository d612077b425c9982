-- From the meaning of a text to the rows that it shows.
use Rattle.std.proofs.Common.{◌≡◌, ℕ, List, [], map, filter, Bool, false, ap, ◌∙◌}
use Rattle.sqlite.specs.declared.types.Value.TheVariants.{Null}
use Rattle.sqlite.specs.Order.{Row}
use Rattle.sqlite.specs.Term.{Term}
use Rattle.sqlite.specs.Query.{page}
use Rattle.sqlite.specs.Listing.{understood, reads_listing}
use Rattle.sqlite.specs.State.{State, Shown}
use Rattle.sqlite.specs.Command.TheVariants.{Select}
use Rattle.sqlite.proofs.Callers.{IsPlain, command_of, reads_as}
use Rattle.sqlite_value.specs.declared.keys.Key.{Key}
use Rattle.canary_tables_schema.specs.Layout.{Layout}
use Rattle.canary_tables_schema.specs.Schema.{schema_at}
use Rattle.canary_tables_schema.specs.Cells.{cells_of}
use Rattle.canary_tables_schema.specs.Stores.{IsNumbered}
use Rattle.canary_tables_read.proofs.Answer.{query_of, no_limit, from_start, by_column, passes, shows, rowid_answer, IsOrdered, is_ordered}
use Rattle.canary_tables_read.proofs.TypedRows.{Tells, typed}

-- what a text asks for in a layout: of the rows of a tree, those that pass the tests, with these columns, in that order
pub record AsksAt (at : Layout) (text : List ℕ) (tree : ℕ) (tests shown : List Term) (order : List (Term × Key)) (limit offset : Term) : Type 0 where
  pub names : List (List ℕ)
  pub is : command_of (understood (schema_at at) text) ≡ Select (record { lets = []; body = query_of tree tests shown order limit offset }) names
  pub plain : IsPlain (understood (schema_at at) text)
  pub unlisted : reads_listing (schema_at at) text ≡ false

-- so in each layout
abbrev pub Asks : List ℕ → (Layout → ℕ) → List Term → List Term → List (Term × Key) → Term → Term → Type 0
Asks text tree tests shown order limit offset = (at : Layout) → AsksAt at text (tree at) tests shown order limit offset

-- the rows that a text shows of a tree with these cells
pub record Reads {X : Type 0} (text : List ℕ) (tree : Layout → ℕ) (cells : X → Row) (xs : List X) (params : Row) (rows : List Row) : Type 1 where
  pub old : State
  pub new : State
  pub layout : Layout
  pub schema : old.now.schema ≡ schema_at layout
  pub numbered : IsNumbered (old.now.trees (tree layout))
  pub stored : cells_of (old.now.trees (tree layout)) ≡ map cells xs
  pub shows_rows : Shown text params old new rows

module _ {X Y : Type 0} (text : List ℕ) (tree : Layout → ℕ) (tests shown : List Term) (limit offset : Term) (asks : Asks text tree tests shown (by_column 0) limit offset) (cells : X → Row) (test : X → Bool) (told : X → Y) (whole : Row → Y)
    (params : Row) (tells : Tells cells test told whole (passes tests params) (shows shown params)) (xs : List X) (rows : List Row) where
  -- in the order of the rowids, as a page
  pub page_found : (h : Reads text tree cells xs params rows) → (all : List Row) × (rows ≡ page (query_of (tree h.layout) tests shown (by_column 0) limit offset) params all) × (map whole all ≡ map told (filter test xs))
  page_found h =
      let a = asks h.layout in (
        map (shows shown params) (filter (passes tests params) (h.old.now.trees (tree h.layout))),
        rowid_answer Null (tree h.layout) tests shown limit offset h.old.now.trees params rows h.numbered
            ((reads_as text params h.old h.new (schema_at h.layout) h.schema _ a.is a.plain a.unlisted rows h.shows_rows).answer Null),
        typed cells test told whole (passes tests params) (shows shown params) tells (h.old.now.trees (tree h.layout)) xs h.stored,
      )

module _ {X Y : Type 0} (text : List ℕ) (tree : Layout → ℕ) (tests shown : List Term) (asks : Asks text tree tests shown (by_column 0) no_limit from_start) (cells : X → Row) (test : X → Bool) (told : X → Y) (whole : Row → Y)
    (params : Row) (tells : Tells cells test told whole (passes tests params) (shows shown params)) (xs : List X) (rows : List Row) where
  -- all of them, in the order of the rowids
  pub all_found : Reads text tree cells xs params rows → map whole rows ≡ map told (filter test xs)
  all_found h = let p = page_found text tree tests shown no_limit from_start asks cells test told whole params tells xs rows h in ap (map whole) p.1 ∙ p.2

-- in another order
pub ordered_found : {X : Type 0} (text : List ℕ) (tree : Layout → ℕ) (tests shown : List Term) (order : List (Term × Key)) (limit : Term) → Asks text tree tests shown order limit from_start → (cells : X → Row) (params : Row) (xs : List X) (rows : List Row)
    → (h : Reads text tree cells xs params rows) → IsOrdered Null (tree h.layout) tests shown order limit from_start h.old.now.trees params rows
ordered_found text tree tests shown order limit asks cells params xs rows h =
    let a = asks h.layout in
    is_ordered Null (tree h.layout) tests shown order limit from_start h.old.now.trees params rows ((reads_as text params h.old h.new (schema_at h.layout) h.schema _ a.is a.plain a.unlisted rows h.shows_rows).answer Null)
