-- The tables of a desk, whose rows are those of tables if no number is negative.
use Rattle.std.proofs.Common.{◌≡◌, ◌&&◌, ◌++◌, ℕ, suc, List, [], ◌∷◌, length, drop, false, true, codes, refl, sym, ap, subst, ◌∙◌, arith}
use Rattle.std.specs.List.{AllByRecursion}
use Rattle.sqlite.specs.declared.types.Value.TheVariants.{Null}
use Rattle.sqlite.specs.Order.{Row}
use Rattle.sqlite.specs.Schema.{Schema}
use Rattle.sqlite.specs.Table.{Table}
use Rattle.sqlite.specs.Effect.{Database, IsDatabase}
use Rattle.sqlite.specs.State.{State, Shown}
use Rattle.sqlite_schema.specs.Rules.{are_typed, has_computed, are_present}
use Rattle.sqlite_schema.specs.declared.schema.Constraint.TheVariants.{Datatype, NotNull}
use Rattle.sqlite_keyed.proofs.ListLemmas.{all_both, all_weaker}
use Rattle.canary_tables_rows.specs.declared.rows.CallerRow.{CallerRow}
use Rattle.canary_tables_rows.specs.declared.rows.KeptRow.{KeptRow}
use Rattle.canary_tables_rows.specs.declared.rows.ServiceRow.{ServiceRow}
use Rattle.canary_tables_rows.specs.declared.rows.RunRow.{RunRow}
use Rattle.canary_tables_rows.specs.declared.rows.TallyRow.{TallyRow}
use Rattle.canary_tables_rows.specs.declared.rows.MeasurementRow.{MeasurementRow}
use Rattle.canary_tables_rows.specs.declared.rows.HistoryRow.{HistoryRow}
use Rattle.canary_tables_rows.specs.declared.rows.RevisionRow.{RevisionRow}
use Rattle.canary_tables_rows.specs.declared.rows.BindingRow.{BindingRow}
use Rattle.canary_tables_schema.specs.Layout.{Layout, numbers_at as numbers_of, service_at, run_at, measurement_at, history_at, revision_at, binding_at, tally_at}
use Rattle.canary_tables_schema.specs.Cells.{tally_tree, caller_cells, kept_cells, service_cells, run_cells, measurement_cells, history_cells, revision_cells, binding_cells, tally_cells}
use Rattle.canary_tables_schema.specs.Formed.{AreWhole, HasWholeTallies}
use Rattle.canary_tables_schema.specs.Schema.{place, schema_at, early_tables, late_tables}
use Rattle.canary_tables_read.specs.TreeRows.{HasCells}
use Rattle.canary_tables_read.proofs.Answer.{passes}
use Rattle.canary_tables_read.proofs.Holdings.{Holding, text, number, number_or_none, FromFirstRow, told_cells, numbers_at, has_negative, or_below_is}
use Rattle.canary_tables_read.proofs.Seeking.{SeeksAt, below, or_below, none_passes, one_passes}
use Rattle.canary_tables_read.proofs.SeekTexts.{callers_below_text, callers_below, kept_below_text, kept_below, services_below_text, services_below, runs_below_text, runs_below, revisions_below_text, revisions_below, bindings_below_text, bindings_below, tallies_below_text, tallies_below, measurements_below_text, measurements_below, history_below_text, history_below}
use Rattle.canary_tables_read.proofs.TableRows.{AreRaw, plain_row, plain_long, counted_row, are_told, are_fine}
use Rattle.canary_tables_read.proofs.Tests.{and_true, and_first}

tables_are : (schema : Schema) (at : Layout) → schema ≡ schema_at at → schema.tables ≡ early_tables (numbers_of at) ++ late_tables (numbers_of at)
tables_are schema at is = ap (λ (s : Schema). s.tables) is

abbrev pub IsTyped : Table → Row → Type 0
IsTyped t row = (are_typed t.key 0 t.columns (drop 1 row) && has_computed t row) ≡ true

abbrev pub IsPresent : Table → Row → Type 0
IsPresent t row = are_present t.key 0 t.columns row ≡ true

pub typed_rows : (db : Database) → IsDatabase db → (at : Layout) → db.schema ≡ schema_at at → AllByRecursion (λ (t : Table). AllByRecursion (IsTyped t) (db.trees t.tree)) (early_tables (numbers_of at) ++ late_tables (numbers_of at))
typed_rows db sound at schema = subst (λ ts. AllByRecursion (λ (t : Table). AllByRecursion (IsTyped t) (db.trees t.tree)) ts) (tables_are db.schema at schema) (sound.obeys.rules Datatype)

pub present_rows : (db : Database) → IsDatabase db → (at : Layout) → db.schema ≡ schema_at at → AllByRecursion (λ (t : Table). AllByRecursion (IsPresent t) (db.trees t.tree)) (early_tables (numbers_of at) ++ late_tables (numbers_of at))
present_rows db sound at schema = subst (λ ts. AllByRecursion (λ (t : Table). AllByRecursion (IsPresent t) (db.trees t.tree)) ts) (tables_are db.schema at schema) (sound.obeys.rules NotNull)

-- a table of a text that looks for negative numbers
module _ {X : Type 0} (cells : X → Row) (front : Row) (ks : List Holding) (make : FromFirstRow ks → X) (made : (v : FromFirstRow ks) → cells (make v) ≡ front ++ told_cells ks v) (tell : X → FromFirstRow ks) (told : (x : X) → cells x ≡ front ++ told_cells ks (tell x))
    (text_of : List ℕ) (tree at : ℕ) (others : List ℕ) (places : numbers_at (suc (length front)) ks ≡ at ∷ others) (layout : Layout) (asks : SeeksAt layout text_of tree (or_below (below at) others)) (old new : State) (schema : old.now.schema ≡ schema_at layout) where
  passing : (row : Row) → passes (or_below (below at) others ∷ []) [] row ≡ has_negative row (numbers_at (suc (length front)) ks)
  passing row = and_true _ ∙ or_below_is [] row (below at) others ∙ ap (has_negative row) (sym places)

  assured : AllByRecursion (AreRaw front ks) (old.now.trees tree) → Shown text_of [] old new [] → HasCells cells (old.now.trees tree)
  assured raw shown =
      are_told cells front ks make made tell told (old.now.trees tree) raw
      (all_weaker _ (λ row. has_negative row (numbers_at (suc (length front)) ks) ≡ false) (λ row e. sym (passing row) ∙ e) (old.now.trees tree) (none_passes text_of tree (or_below (below at) others ∷ []) old new (schema_at layout) schema asks shown))

  denied : (row : Row) (rows : List Row) → Shown text_of [] old new (row ∷ rows) → HasCells cells (old.now.trees tree) → ⊥
  denied row rows shown has =
      one_passes text_of tree (or_below (below at) others ∷ []) old new row rows (schema_at layout) schema asks shown
      (all_weaker _ (λ row. passes (or_below (below at) others ∷ []) [] row ≡ false) (λ row e. passing row ∙ e) (old.now.trees tree) (are_fine cells front ks make made tell told (old.now.trees tree) has))

abbrev callers_columns : List Holding
callers_columns = text (codes "name") ∷ number (codes "settled") ∷ []

abbrev callers_make : FromFirstRow callers_columns → CallerRow
callers_make v = record { name = v.0; settled = v.1.0 }

abbrev callers_tell : CallerRow → FromFirstRow callers_columns
callers_tell x = (x.name, (x.settled, tt))

callers_raw : (db : Database) → IsDatabase db → (at : Layout) → db.schema ≡ schema_at at → AllByRecursion (AreRaw [] callers_columns) (db.trees 1)
callers_raw db sound at schema =
    all_both _ _ (AreRaw [] callers_columns) (λ row typed present. plain_row callers_columns row (and_first _ _ typed) present (plain_long callers_columns row (and_first _ _ typed) present tt)) (db.trees 1) (typed_rows db sound at schema).1.0 (present_rows db sound at schema).1.0

pub callers_assured : (old new : State) → IsDatabase old.now → (at : Layout) → old.now.schema ≡ schema_at at → Shown callers_below_text [] old new [] → HasCells caller_cells (old.now.trees 1)
callers_assured old new sound at schema shown = assured caller_cells [] callers_columns callers_make (λ v. refl) callers_tell (λ x. refl) callers_below_text 1 2 ([]) refl at (callers_below at) old new schema (callers_raw old.now sound at schema) shown

pub callers_denied : (old new : State) (at : Layout) → old.now.schema ≡ schema_at at → (row : Row) (rows : List Row) → Shown callers_below_text [] old new (row ∷ rows) → HasCells caller_cells (old.now.trees 1) → ⊥
callers_denied old new at schema row rows shown has = denied caller_cells [] callers_columns callers_make (λ v. refl) callers_tell (λ x. refl) callers_below_text 1 2 ([]) refl at (callers_below at) old new schema row rows shown has

abbrev kept_columns : List Holding
kept_columns = text (codes "caller") ∷ number (codes "number") ∷ text (codes "command") ∷ number (codes "status") ∷ text (codes "body") ∷ []

abbrev kept_make : FromFirstRow kept_columns → KeptRow
kept_make v = record { caller = v.0; number = v.1.0; command = v.1.1.0; status = v.1.1.1.0; body = v.1.1.1.1.0 }

abbrev kept_tell : KeptRow → FromFirstRow kept_columns
kept_tell x = (x.caller, (x.number, (x.command, (x.status, (x.body, tt)))))

kept_raw : (db : Database) → IsDatabase db → (at : Layout) → db.schema ≡ schema_at at → AllByRecursion (AreRaw [] kept_columns) (db.trees 3)
kept_raw db sound at schema =
    all_both _ _ (AreRaw [] kept_columns) (λ row typed present. plain_row kept_columns row (and_first _ _ typed) present (plain_long kept_columns row (and_first _ _ typed) present tt)) (db.trees 3) (typed_rows db sound at schema).1.1.0 (present_rows db sound at schema).1.1.0

pub kept_assured : (old new : State) → IsDatabase old.now → (at : Layout) → old.now.schema ≡ schema_at at → Shown kept_below_text [] old new [] → HasCells kept_cells (old.now.trees 3)
kept_assured old new sound at schema shown = assured kept_cells [] kept_columns kept_make (λ v. refl) kept_tell (λ x. refl) kept_below_text 3 2 (4 ∷ []) refl at (kept_below at) old new schema (kept_raw old.now sound at schema) shown

pub kept_denied : (old new : State) (at : Layout) → old.now.schema ≡ schema_at at → (row : Row) (rows : List Row) → Shown kept_below_text [] old new (row ∷ rows) → HasCells kept_cells (old.now.trees 3) → ⊥
kept_denied old new at schema row rows shown has = denied kept_cells [] kept_columns kept_make (λ v. refl) kept_tell (λ x. refl) kept_below_text 3 2 (4 ∷ []) refl at (kept_below at) old new schema row rows shown has

abbrev services_columns : List Holding
services_columns = text (codes "name") ∷ text (codes "spec") ∷ text (codes "stable") ∷ text (codes "version") ∷ number (codes "state") ∷ number (codes "step") ∷ number (codes "entered") ∷ number (codes "hold") ∷ number (codes "background") ∷ number (codes "runs") ∷ number (codes "last") ∷ []

abbrev services_make : FromFirstRow services_columns → ServiceRow
services_make v = record { name = v.0; spec = v.1.0; standing = record { stable = v.1.1.0; version = v.1.1.1.0; state = v.1.1.1.1.0; step = v.1.1.1.1.1.0; entered = v.1.1.1.1.1.1.0; hold = v.1.1.1.1.1.1.1.0; background = v.1.1.1.1.1.1.1.1.0; runs = v.1.1.1.1.1.1.1.1.1.0; last = v.1.1.1.1.1.1.1.1.1.1.0 } }

abbrev services_tell : ServiceRow → FromFirstRow services_columns
services_tell x = (x.name, (x.spec, (x.standing.stable, (x.standing.version, (x.standing.state, (x.standing.step, (x.standing.entered, (x.standing.hold, (x.standing.background, (x.standing.runs, (x.standing.last, tt)))))))))))

services_raw : (db : Database) → IsDatabase db → (at : Layout) → db.schema ≡ schema_at at → AllByRecursion (AreRaw [] services_columns) (db.trees (service_at at))
services_raw db sound at schema =
    all_both _ _ (AreRaw [] services_columns) (λ row typed present. plain_row services_columns row (and_first _ _ typed) present (plain_long services_columns row (and_first _ _ typed) present tt)) (db.trees (service_at at)) (typed_rows db sound at schema).1.1.1.0 (present_rows db sound at schema).1.1.1.0

pub services_assured : (old new : State) → IsDatabase old.now → (at : Layout) → old.now.schema ≡ schema_at at → Shown services_below_text [] old new [] → HasCells service_cells (old.now.trees (service_at at))
services_assured old new sound at schema shown = assured service_cells [] services_columns services_make (λ v. refl) services_tell (λ x. refl) services_below_text (service_at at) 5 (6 ∷ 7 ∷ 8 ∷ 9 ∷ 10 ∷ 11 ∷ []) refl at (services_below at) old new schema (services_raw old.now sound at schema) shown

pub services_denied : (old new : State) (at : Layout) → old.now.schema ≡ schema_at at → (row : Row) (rows : List Row) → Shown services_below_text [] old new (row ∷ rows) → HasCells service_cells (old.now.trees (service_at at)) → ⊥
services_denied old new at schema row rows shown has = denied service_cells [] services_columns services_make (λ v. refl) services_tell (λ x. refl) services_below_text (service_at at) 5 (6 ∷ 7 ∷ 8 ∷ 9 ∷ 10 ∷ 11 ∷ []) refl at (services_below at) old new schema row rows shown has

abbrev runs_columns : List Holding
runs_columns = text (codes "service") ∷ number (codes "number") ∷ number_or_none (codes "step") ∷ number (codes "started") ∷ number_or_none (codes "closed") ∷ number (codes "outside") ∷ number (codes "verdict") ∷ []

abbrev runs_make : FromFirstRow runs_columns → RunRow
runs_make v = record { service = v.0; number = v.1.0; step = v.1.1.0; started = v.1.1.1.0; ending = record { closed = v.1.1.1.1.0; outside = v.1.1.1.1.1.0; verdict = v.1.1.1.1.1.1.0 } }

abbrev runs_tell : RunRow → FromFirstRow runs_columns
runs_tell x = (x.service, (x.number, (x.step, (x.started, (x.ending.closed, (x.ending.outside, (x.ending.verdict, tt)))))))

runs_raw : (db : Database) → IsDatabase db → (at : Layout) → db.schema ≡ schema_at at → AllByRecursion (AreRaw [] runs_columns) (db.trees (run_at at))
runs_raw db sound at schema =
    all_both _ _ (AreRaw [] runs_columns) (λ row typed present. plain_row runs_columns row (and_first _ _ typed) present (plain_long runs_columns row (and_first _ _ typed) present tt)) (db.trees (run_at at)) (typed_rows db sound at schema).1.1.1.1.0 (present_rows db sound at schema).1.1.1.1.0

pub runs_assured : (old new : State) → IsDatabase old.now → (at : Layout) → old.now.schema ≡ schema_at at → Shown runs_below_text [] old new [] → HasCells run_cells (old.now.trees (run_at at))
runs_assured old new sound at schema shown = assured run_cells [] runs_columns runs_make (λ v. refl) runs_tell (λ x. refl) runs_below_text (run_at at) 2 (3 ∷ 4 ∷ 5 ∷ 6 ∷ 7 ∷ []) refl at (runs_below at) old new schema (runs_raw old.now sound at schema) shown

pub runs_denied : (old new : State) (at : Layout) → old.now.schema ≡ schema_at at → (row : Row) (rows : List Row) → Shown runs_below_text [] old new (row ∷ rows) → HasCells run_cells (old.now.trees (run_at at)) → ⊥
runs_denied old new at schema row rows shown has = denied run_cells [] runs_columns runs_make (λ v. refl) runs_tell (λ x. refl) runs_below_text (run_at at) 2 (3 ∷ 4 ∷ 5 ∷ 6 ∷ 7 ∷ []) refl at (runs_below at) old new schema row rows shown has

abbrev measurements_columns : List Holding
measurements_columns = text (codes "service") ∷ number (codes "run") ∷ number (codes "metric") ∷ number (codes "ordinal") ∷ number (codes "taken") ∷ number (codes "phase") ∷ text (codes "outcome") ∷ []

abbrev measurements_make : FromFirstRow measurements_columns → MeasurementRow
measurements_make v = record { service = v.0; run = v.1.0; metric = v.1.1.0; ordinal = v.1.1.1.0; taken = v.1.1.1.1.0; phase = v.1.1.1.1.1.0; outcome = v.1.1.1.1.1.1.0 }

abbrev measurements_tell : MeasurementRow → FromFirstRow measurements_columns
measurements_tell x = (x.service, (x.run, (x.metric, (x.ordinal, (x.taken, (x.phase, (x.outcome, tt)))))))

measurements_raw : (db : Database) → IsDatabase db → (at : Layout) → db.schema ≡ schema_at at → AllByRecursion (AreRaw (Null ∷ []) measurements_columns) (db.trees (measurement_at at))
measurements_raw db sound at schema =
    all_both _ _ (AreRaw (Null ∷ []) measurements_columns) (λ row typed present. counted_row (place (numbers_of at).is_placed) measurements_columns (omega arith) tt row (and_first _ _ typed) present) (db.trees (measurement_at at)) (typed_rows db sound at schema).1.1.1.1.1.0 (present_rows db sound at schema).1.1.1.1.1.0

pub measurements_assured : (old new : State) → IsDatabase old.now → (at : Layout) → old.now.schema ≡ schema_at at → Shown measurements_below_text [] old new [] → HasCells measurement_cells (old.now.trees (measurement_at at))
measurements_assured old new sound at schema shown = assured measurement_cells (Null ∷ []) measurements_columns measurements_make (λ v. refl) measurements_tell (λ x. refl) measurements_below_text (measurement_at at) 3 (4 ∷ 5 ∷ 6 ∷ 7 ∷ []) refl at (measurements_below at) old new schema (measurements_raw old.now sound at schema) shown

pub measurements_denied : (old new : State) (at : Layout) → old.now.schema ≡ schema_at at → (row : Row) (rows : List Row) → Shown measurements_below_text [] old new (row ∷ rows) → HasCells measurement_cells (old.now.trees (measurement_at at)) → ⊥
measurements_denied old new at schema row rows shown has = denied measurement_cells (Null ∷ []) measurements_columns measurements_make (λ v. refl) measurements_tell (λ x. refl) measurements_below_text (measurement_at at) 3 (4 ∷ 5 ∷ 6 ∷ 7 ∷ []) refl at (measurements_below at) old new schema row rows shown has

abbrev history_columns : List Holding
history_columns = text (codes "service") ∷ number (codes "moment") ∷ text (codes "line") ∷ []

abbrev history_make : FromFirstRow history_columns → HistoryRow
history_make v = record { service = v.0; moment = v.1.0; line = v.1.1.0 }

abbrev history_tell : HistoryRow → FromFirstRow history_columns
history_tell x = (x.service, (x.moment, (x.line, tt)))

history_raw : (db : Database) → IsDatabase db → (at : Layout) → db.schema ≡ schema_at at → AllByRecursion (AreRaw (Null ∷ []) history_columns) (db.trees (history_at at))
history_raw db sound at schema =
    all_both _ _ (AreRaw (Null ∷ []) history_columns) (λ row typed present. counted_row (place (numbers_of at).is_placed) history_columns (omega arith) tt row (and_first _ _ typed) present) (db.trees (history_at at)) (typed_rows db sound at schema).1.1.1.1.1.1.1.0 (present_rows db sound at schema).1.1.1.1.1.1.1.0

pub history_assured : (old new : State) → IsDatabase old.now → (at : Layout) → old.now.schema ≡ schema_at at → Shown history_below_text [] old new [] → HasCells history_cells (old.now.trees (history_at at))
history_assured old new sound at schema shown = assured history_cells (Null ∷ []) history_columns history_make (λ v. refl) history_tell (λ x. refl) history_below_text (history_at at) 3 ([]) refl at (history_below at) old new schema (history_raw old.now sound at schema) shown

pub history_denied : (old new : State) (at : Layout) → old.now.schema ≡ schema_at at → (row : Row) (rows : List Row) → Shown history_below_text [] old new (row ∷ rows) → HasCells history_cells (old.now.trees (history_at at)) → ⊥
history_denied old new at schema row rows shown has = denied history_cells (Null ∷ []) history_columns history_make (λ v. refl) history_tell (λ x. refl) history_below_text (history_at at) 3 ([]) refl at (history_below at) old new schema row rows shown has

abbrev revisions_columns : List Holding
revisions_columns = text (codes "name") ∷ number (codes "revision") ∷ text (codes "spec") ∷ []

abbrev revisions_make : FromFirstRow revisions_columns → RevisionRow
revisions_make v = record { name = v.0; revision = v.1.0; spec = v.1.1.0 }

abbrev revisions_tell : RevisionRow → FromFirstRow revisions_columns
revisions_tell x = (x.name, (x.revision, (x.spec, tt)))

revisions_raw : (db : Database) → IsDatabase db → (at : Layout) → db.schema ≡ schema_at at → AllByRecursion (AreRaw [] revisions_columns) (db.trees (revision_at at))
revisions_raw db sound at schema =
    all_both _ _ (AreRaw [] revisions_columns) (λ row typed present. plain_row revisions_columns row (and_first _ _ typed) present (plain_long revisions_columns row (and_first _ _ typed) present tt)) (db.trees (revision_at at)) (typed_rows db sound at schema).1.1.1.1.1.1.1.1.0 (present_rows db sound at schema).1.1.1.1.1.1.1.1.0

pub revisions_assured : (old new : State) → IsDatabase old.now → (at : Layout) → old.now.schema ≡ schema_at at → Shown revisions_below_text [] old new [] → HasCells revision_cells (old.now.trees (revision_at at))
revisions_assured old new sound at schema shown = assured revision_cells [] revisions_columns revisions_make (λ v. refl) revisions_tell (λ x. refl) revisions_below_text (revision_at at) 2 ([]) refl at (revisions_below at) old new schema (revisions_raw old.now sound at schema) shown

pub revisions_denied : (old new : State) (at : Layout) → old.now.schema ≡ schema_at at → (row : Row) (rows : List Row) → Shown revisions_below_text [] old new (row ∷ rows) → HasCells revision_cells (old.now.trees (revision_at at)) → ⊥
revisions_denied old new at schema row rows shown has = denied revision_cells [] revisions_columns revisions_make (λ v. refl) revisions_tell (λ x. refl) revisions_below_text (revision_at at) 2 ([]) refl at (revisions_below at) old new schema row rows shown has

abbrev bindings_columns : List Holding
bindings_columns = text (codes "service") ∷ number (codes "run") ∷ text (codes "template") ∷ number (codes "revision") ∷ []

abbrev bindings_make : FromFirstRow bindings_columns → BindingRow
bindings_make v = record { service = v.0; run = v.1.0; template = v.1.1.0; revision = v.1.1.1.0 }

abbrev bindings_tell : BindingRow → FromFirstRow bindings_columns
bindings_tell x = (x.service, (x.run, (x.template, (x.revision, tt))))

bindings_raw : (db : Database) → IsDatabase db → (at : Layout) → db.schema ≡ schema_at at → AllByRecursion (AreRaw [] bindings_columns) (db.trees (binding_at at))
bindings_raw db sound at schema =
    all_both _ _ (AreRaw [] bindings_columns) (λ row typed present. plain_row bindings_columns row (and_first _ _ typed) present (plain_long bindings_columns row (and_first _ _ typed) present tt)) (db.trees (binding_at at)) (typed_rows db sound at schema).1.1.1.1.1.1.1.1.1.0 (present_rows db sound at schema).1.1.1.1.1.1.1.1.1.0

pub bindings_assured : (old new : State) → IsDatabase old.now → (at : Layout) → old.now.schema ≡ schema_at at → Shown bindings_below_text [] old new [] → HasCells binding_cells (old.now.trees (binding_at at))
bindings_assured old new sound at schema shown = assured binding_cells [] bindings_columns bindings_make (λ v. refl) bindings_tell (λ x. refl) bindings_below_text (binding_at at) 2 (4 ∷ []) refl at (bindings_below at) old new schema (bindings_raw old.now sound at schema) shown

pub bindings_denied : (old new : State) (at : Layout) → old.now.schema ≡ schema_at at → (row : Row) (rows : List Row) → Shown bindings_below_text [] old new (row ∷ rows) → HasCells binding_cells (old.now.trees (binding_at at)) → ⊥
bindings_denied old new at schema row rows shown has = denied binding_cells [] bindings_columns bindings_make (λ v. refl) bindings_tell (λ x. refl) bindings_below_text (binding_at at) 2 (4 ∷ []) refl at (bindings_below at) old new schema row rows shown has

abbrev tallies_columns : List Holding
tallies_columns = text (codes "service") ∷ number (codes "run") ∷ number (codes "metric") ∷ number (codes "counted") ∷ number (codes "failed") ∷ number (codes "inconclusive") ∷ number (codes "errors") ∷ number (codes "consecutive") ∷ number (codes "passes") ∷ number_or_none (codes "last") ∷ []

abbrev tallies_make : FromFirstRow tallies_columns → TallyRow
tallies_make v = record { service = v.0; run = v.1.0; metric = v.1.1.0; counts = record { counted = v.1.1.1.0; failed = v.1.1.1.1.0; inconclusive = v.1.1.1.1.1.0; errors = v.1.1.1.1.1.1.0; consecutive = v.1.1.1.1.1.1.1.0; passes = v.1.1.1.1.1.1.1.1.0; last = v.1.1.1.1.1.1.1.1.1.0 } }

abbrev tallies_tell : TallyRow → FromFirstRow tallies_columns
tallies_tell x = (x.service, (x.run, (x.metric, (x.counts.counted, (x.counts.failed, (x.counts.inconclusive, (x.counts.errors, (x.counts.consecutive, (x.counts.passes, (x.counts.last, tt))))))))))

tallies_raw : (db : Database) → IsDatabase db → (at : Layout) → db.schema ≡ schema_at at → AreWhole (tally_at at) db.trees → AllByRecursion (AreRaw [] tallies_columns) (db.trees (tally_at at))
tallies_raw db sound at schema whole =
    all_both _ _ (AreRaw [] tallies_columns) (λ row long more. more long) (db.trees (tally_at at)) whole
    (all_both _ _ (λ row. length row ≡ 11 → AreRaw [] tallies_columns row) (λ row typed present long. plain_row tallies_columns row (and_first _ _ typed) present (eleven row long)) (db.trees (tally_at at)) (typed_rows db sound at schema).1.1.1.1.1.1.1.1.1.1.0 (present_rows db sound at schema).1.1.1.1.1.1.1.1.1.1.0)
  where
    eleven : (row : Row) → length row ≡ 11 → length (drop 1 row) ≡ 10
    eleven [] e = absurd (omega (arith, e))
    eleven (v ∷ vs) e = omega (arith, e)

-- the tree of the eleventh table is that of tally
whole_tallies : (db : Database) (at : Layout) → db.schema ≡ schema_at at → HasWholeTallies db → AreWhole (tally_at at) db.trees
whole_tallies db at schema whole = subst (λ (s : Schema). AreWhole (tally_tree s) db.trees) schema whole

pub tallies_assured : (old new : State) → IsDatabase old.now → (at : Layout) → old.now.schema ≡ schema_at at → HasWholeTallies old.now → Shown tallies_below_text [] old new [] → HasCells tally_cells (old.now.trees (tally_at at))
tallies_assured old new sound at schema whole shown = assured tally_cells [] tallies_columns tallies_make (λ v. refl) tallies_tell (λ x. refl) tallies_below_text (tally_at at) 2 (3 ∷ 4 ∷ 5 ∷ 6 ∷ 7 ∷ 8 ∷ 9 ∷ 10 ∷ []) refl at (tallies_below at) old new schema (tallies_raw old.now sound at schema (whole_tallies old.now at schema whole)) shown

pub tallies_denied : (old new : State) (at : Layout) → old.now.schema ≡ schema_at at → (row : Row) (rows : List Row) → Shown tallies_below_text [] old new (row ∷ rows) → HasCells tally_cells (old.now.trees (tally_at at)) → ⊥
tallies_denied old new at schema row rows shown has = denied tally_cells [] tallies_columns tallies_make (λ v. refl) tallies_tell (λ x. refl) tallies_below_text (tally_at at) 2 (3 ∷ 4 ∷ 5 ∷ 6 ∷ 7 ∷ 8 ∷ 9 ∷ 10 ∷ []) refl at (tallies_below at) old new schema row rows shown has
