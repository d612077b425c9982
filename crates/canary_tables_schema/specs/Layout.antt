-- Under which numbers the trees of a desk stand.
use Rattle.std.specs.Prelude.{ℕ, Bool, true, false, List, [], ◌∷◌}
use Rattle.canary_tables_schema.specs.declared.numbers.Numbers.{Numbers}

-- Made: the file was made with the tables that it has. Moved: it was made with the tables of the
-- first schema, of which two made way for the three last ones; the others kept their numbers.
-- Packed: a moved file that VACUUM numbered anew.
pub data Layout : Type 0 where
  made : Layout
  moved : Layout
  packed : Layout

-- no number is left out; and whether place is declared NOT NULL
abbrev pub dense : Bool → Numbers
dense is_placed = record {
  service = 5;
  run = 7;
  measurement = 9;
  sequence = 11;
  history = 12;
  revision = 13;
  binding = 15;
  tally = 17;
  indexes = 19;
  is_placed = is_placed;
}

-- those of the tables and indexes that went are left out
abbrev pub gapped : Numbers
gapped = record {
  service = 7;
  run = 9;
  measurement = 13;
  sequence = 15;
  history = 16;
  revision = 17;
  binding = 19;
  tally = 21;
  indexes = 23;
  is_placed = false;
}

abbrev pub numbers_at : Layout → Numbers
numbers_at made = dense true
numbers_at moved = gapped
numbers_at packed = dense false

-- The trees of the tables; meta has 0, caller 1 and kept 3.

abbrev pub service_at : Layout → ℕ
service_at at = (numbers_at at).service

abbrev pub run_at : Layout → ℕ
run_at at = (numbers_at at).run

abbrev pub measurement_at : Layout → ℕ
measurement_at at = (numbers_at at).measurement

abbrev pub sequence_at : Layout → ℕ
sequence_at at = (numbers_at at).sequence

abbrev pub history_at : Layout → ℕ
history_at at = (numbers_at at).history

abbrev pub revision_at : Layout → ℕ
revision_at at = (numbers_at at).revision

abbrev pub binding_at : Layout → ℕ
binding_at at = (numbers_at at).binding

abbrev pub tally_at : Layout → ℕ
tally_at at = (numbers_at at).tally

-- those of the ten tables, in the order of the tables; SQLite's own table of counts is left out
abbrev pub desk_trees : Layout → List ℕ
desk_trees at =
    0 ∷ 1 ∷ 3 ∷ service_at at ∷ run_at at ∷ measurement_at at ∷ history_at at ∷ revision_at at
    ∷ binding_at at ∷ tally_at at ∷ []
