-- From the definitions of canary_migrate to those here.
use Rattle.std.proofs.Common.{◌≡◌, ℕ, List, [], ◌∷◌, map, Bool, true, false, IsTrue, Some, None, refl, sym, ap, subst, ◌∙◌}
use Rattle.std.specs.Prelude.{Result, Ok, Err, IfOk, Option, ◌&&◌, is_none}
use Rattle.std.specs.List.{AllByRecursion, list_all}
use Rattle.sqlite.specs.Effect.{Database}
use Rattle.sqlite.specs.Held.{Held, state}
use Rattle.sqlite.specs.State.{State}
use Rattle.sqlite_trees.specs.declared.store.Store.{Ghosts}
use Rattle.canary_plan.specs.declared.template_spec.MetricSpec.{MetricSpec}
use Rattle.canary_once.specs.Contents.{Contents}
use Rattle.canary_tables_rows.specs.Tables.{Tables}
use Rattle.canary_tables_schema.specs.Cells.{tables_in}
use Rattle.canary_tables_schema.specs.Laws.{OneReading}
use Rattle.canary_tables_schema.specs.Stores.{IsUsable, IsHeld}
use Rattle.canary_tables_contents.specs.Laws.{ReadsBack}
use Rattle.canary_tables_contents.specs.Reading.{contents_of}
use Rattle.canary_tables_contents.specs.Soundness.{AreSoundTables, ExactlyThose}
use Rattle.canary_tables_read.specs.First.{template_cells, first_tally_cells}
use Rattle.canary_migrate.specs.FirstContents.{AreFirstContents, template_row, first_tally, first_rows, HasFirstRowsOf}
use Rattle.canary_migrate.specs.Migrated.{HoldsFirst}
use Rattle.canary_migrate.specs.Migrates.{IsMigrated, HasSoundFirstRows}
use Rattle.canary_tables_laws.specs.FirstDesks.{AreOfFirstSchema, HoldsFirstOf, HoldsFirstContents, HoldsSoundFirst, IsDeskOfFirst}
use Rattle.canary_tables_laws.specs.TableBooks.{IsIntact}

mapped : {X Y Z : Type 0} (f : Y → Z) (g : X → Y) (xs : List X) → map f (map g xs) ≡ map (λ x. f (g x)) xs
mapped f g [] = refl
mapped f g (x ∷ xs) = ap (λ (zs : List _). f (g x) ∷ zs) (mapped f g xs)

-- Rows.

to_first : (db : Database) (t : Tables) → HoldsFirst db (first_rows t) → HoldsFirstOf db t
to_first db t h = record {
  schema = h.schema;
  meta = h.meta;
  callers = h.callers;
  kept = h.kept;
  templates = h.templates ∙ mapped template_cells template_row t.revisions;
  services = h.services;
  runs = h.runs;
  tallies = h.tallies ∙ mapped first_tally_cells first_tally t.tallies;
  measurements = h.measurements;
  history = h.history;
}

from_first : (db : Database) (t : Tables) → HoldsFirstOf db t → HoldsFirst db (first_rows t)
from_first db t h = record {
  schema = h.schema;
  meta = h.meta;
  callers = h.callers;
  kept = h.kept;
  templates = h.templates ∙ sym (mapped template_cells template_row t.revisions);
  services = h.services;
  runs = h.runs;
  tallies = h.tallies ∙ sym (mapped first_tally_cells first_tally t.tallies);
  measurements = h.measurements;
  history = h.history;
}

-- Contents.

and_left : (a b : Bool) → (a && b) ≡ true → a ≡ true
and_left true b e = refl
and_left false b e = cc e

and_right : (a b : Bool) → (a && b) ≡ true → b ≡ true
and_right true b e = e
and_right false b e = cc e

is_there_none : (o : Option ℕ) → is_none o ≡ true → o ≡ None
is_there_none None e = refl
is_there_none (Some n) e = cc e

without : (ms : List MetricSpec) → IsTrue (list_all (λ (m : MetricSpec). is_none m.pass_after) ms) → AllByRecursion (λ (m : MetricSpec). m.pass_after ≡ None) ms
without [] e = tt
without (m ∷ ms) e =
    let rest = list_all (λ (m : MetricSpec). is_none m.pass_after) ms in
    (is_there_none m.pass_after (and_left (is_none m.pass_after) rest e), without ms (and_right (is_none m.pass_after) rest e))

plain_if : (ms : List MetricSpec) → AllByRecursion (λ (m : MetricSpec). m.pass_after ≡ None) ms → IsTrue (list_all (λ (m : MetricSpec). is_none m.pass_after) ms)
plain_if [] all = refl
plain_if (m ∷ ms) all = ap (λ (o : Option ℕ). is_none o && list_all (λ (m : MetricSpec). is_none m.pass_after) ms) all.0 ∙ plain_if ms all.1

to_contents : (c : Contents) → AreFirstContents c → AreOfFirstSchema c
to_contents c h = record {
  templates = λ name ts e. let is = h.templates name ts e in (is.0, record { only = is.1; no_passes = without is.0.spec.metrics is.2 });
  services = h.services;
}

from_contents : (c : Contents) → AreOfFirstSchema c → AreFirstContents c
from_contents c h = record {
  templates = λ name ts e. let is = h.templates name ts e in (is.0, is.1.only, plain_if is.0.spec.metrics is.1.no_passes);
  services = h.services;
}

-- What is held, and what becomes of it.

module _ (reads : ReadsBack) (those : ExactlyThose) where
  rows_of : (db : Database) (c : Contents) (h : HoldsFirstContents db c) → HasFirstRowsOf db h.rows
  rows_of db c h =
      let same : contents_of h.rows ≡ c = reads h.rows c h.are h.readable h.lawful in
      record {
        held = from_first db h.rows h.held;
        within = h.within;
        sound = (those h.rows).0 (c, h.are, h.readable, h.lawful, h.sound);
        first = subst AreFirstContents (sym same) (from_contents c h.first);
      }

  pub none_held : (db : Database) → ¬ HasSoundFirstRows db → ¬ HoldsSoundFirst db
  none_held db none h = none (h.1.rows, rows_of db h.0 h.1)

  module _ (one : OneReading) (old new : State) where
    became : IsMigrated old new → IsDeskOfFirst old new
    became m =
        let same : tables_in new.now ≡ m.rows = one new.now m.rows m.stores in
        let sound : AreSoundTables (tables_in new.now) = subst AreSoundTables (sym same) m.sound in
        record {
          stores = subst (IsHeld new.now) (sym same) m.stores;
          rows = sound.0.rows;
          lawful = sound.0.lawful;
          sound = sound.1;
          first = to_contents (contents_of (tables_in new.now)) (subst (λ (t : Tables). AreFirstContents (contents_of t)) (sym same) m.first);
          held = to_first old.now (tables_in new.now) (subst (λ (t : Tables). HoldsFirst old.now (first_rows t)) (sym same) m.held);
          contents = λ c h. m.contents h.rows (rows_of old.now c h) ∙ reads h.rows c h.are h.readable h.lawful;
        }

pub became_so : {S E : Type 0} (g : Ghosts S) (reads : ReadsBack) (those : ExactlyThose) (one : OneReading) (old : State) (r : Result (Held S) E)
    → IfOk r (λ it. IsUsable (state g it) → IsMigrated old (state g it)) → IfOk r (λ it. IsIntact (state g it) → IsDeskOfFirst old (state g it))
became_so g reads those one old (Ok it) done = λ i. became reads those one old (state g it) (done (record { clean = i.0; is_open = i.1 }))
became_so g reads those one old (Err e) done = tt
