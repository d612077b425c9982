-- Measurements with their places, and how far those of a service are read.
use Rattle.std.specs.Prelude.{Result, IfOk, ◌≡◌, ◌+◌, ◌++◌, ℕ, suc, ℤ, int_le, int_lt, List, [], ◌∷◌, length, map, filter, take, drop, slice_get, Option, None, option_map, IfSome}
use Rattle.std.specs.List.{filter_map}
use Rattle.sqlite.specs.Effect.{Database}
use Rattle.sqlite.specs.State.{State}
use Rattle.sqlite_value.specs.declared.value.Value.TheVariants.{Int}
use Rattle.sqlite_value.specs.Order.{Row}
use Rattle.canary_tables_rows.specs.declared.rows.MeasurementRow.{MeasurementRow}
use Rattle.canary_tables_rows.specs.Tables.{Tables, is_measurement_of}
use Rattle.canary_tables_schema.specs.Layout.{measurement_at}
use Rattle.canary_tables_schema.specs.Stores.{IsUsable, Stores}
use Rattle.canary_tables_schema.specs.Cells.{layout_of, measurement_cells, measurement_in}
use Rattle.canary_tables_read.specs.declared.after.MeasurementAt.{MeasurementAt}

-- the cells of a measurement as a query shows them, its place last
abbrev pub placed_cells : MeasurementAt → Row
placed_cells p = measurement_cells p.row ++ Int p.place ∷ []

abbrev pub at_place : ℤ → MeasurementRow → MeasurementAt
at_place place row = record { place = place; row = row }

-- the measurement that a row of the table is; its place is its rowid
abbrev pub placed_of : Row → Option MeasurementAt
placed_of (Int place ∷ cells) = option_map (at_place place) (measurement_in cells)
placed_of row = None

-- the measurements that a database holds, with their places, in their order
abbrev pub placed_in : Database → List MeasurementAt
placed_in db = filter_map placed_of (db.trees (measurement_at (layout_of db.schema)))

-- those of a service
abbrev pub placed_for : List ℕ → Database → List MeasurementAt
placed_for service db = filter (λ p. is_measurement_of service p.row) (placed_in db)

-- so many of them have a place up to this one
abbrev pub IsMark : Database → List ℕ → ℕ → ℤ → Type 0
IsMark db service index place =
    length (filter (λ p. int_le p.place place) (placed_for service db)) ≡ index

abbrev pub row_of : MeasurementAt → MeasurementRow
row_of p = p.row

-- A page of a service's measurements: from that one on, at most so many. Up to the place of each
-- stand as many as come before it, and itself.
pub record IsPlacedPage (db : Database) (t : Tables) (service : List ℕ) (from most : ℕ)
    (page : List MeasurementAt) : Type 0 where
  pub rows : map row_of page
      ≡ take most (drop from (filter (is_measurement_of service) t.measurements))
  pub marks : (i : ℕ) → IfSome (slice_get page i) (λ p. IsMark db service (from + suc i) p.place)

-- so many of them from that one on, counted from 0
abbrev pub placed_from : List ℕ → ℕ → ℕ → Database → List MeasurementAt
placed_from service from most db = take most (drop from (placed_for service db))

-- so many of those after a place
abbrev pub placed_after : List ℕ → ℤ → ℕ → Database → List MeasurementAt
placed_after service place most db =
    take most (filter (λ p. int_lt place p.place) (placed_for service db))

-- it finds the page from that one on, if the place is where the page before it ends
abbrev pub FindsPlaced : {Q F : Type 0} → List ℕ → ℕ → Option ℤ → ℕ → (Q → State) → Q → Q
    → Result (List MeasurementAt) F → Type 0
FindsPlaced service from place most shows old new result = IsUsable (shows new) → (t : Tables)
    → Stores (shows old) t → IfSome place (IsMark (shows old).now service from)
    → IfOk result (IsPlacedPage (shows old).now t service from most)

-- the place, if there is one, is where a page ends
abbrev pub MarksEnd : List MeasurementAt → Option ℤ → Type 0
MarksEnd page place = (db : Database) (t : Tables) (service : List ℕ) (from most : ℕ)
    → IsPlacedPage db t service from most page
    → IfSome place (IsMark db service (from + length page))
