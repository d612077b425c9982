-- What the texts that make a desk's tables and indexes mean.
use Rattle.std.proofs.Common.{[], ◌∷◌, codes, refl, true}
use Rattle.sqlite_tied.specs.Compute.{everything}
use Rattle.sqlite.specs.Listing.{understood}
use Rattle.canary_tables_schema.specs.Layout.{made}
use Rattle.canary_tables_schema.specs.Schema.{meta, caller, kept, service, run, measurement, history, revision, binding, tally, by, no_schema, with_meta, with_caller, with_kept, with_service, with_run, with_measurement, with_history, with_revision, with_binding, with_tally, with_runs_indexed, with_measurements_indexed, schema_at}
use Rattle.canary_tables_schema.specs.Makes.{IsTableText, IsIndexText}

pub makes_meta : IsTableText no_schema (codes "CREATE TABLE meta (id INTEGER NOT NULL PRIMARY KEY, schema INTEGER NOT NULL) STRICT") with_meta
unfolding understood everything
makes_meta = record { table = meta; command = refl; whole = refl; plain = (refl, refl); defined = refl; next_is = refl }

pub makes_caller : IsTableText with_meta (codes "CREATE TABLE caller (name TEXT NOT NULL PRIMARY KEY, settled INTEGER NOT NULL) STRICT") with_caller
unfolding understood everything
makes_caller = record { table = caller; command = refl; whole = refl; plain = (refl, refl); defined = refl; next_is = refl }

pub makes_kept : IsTableText with_caller (codes "CREATE TABLE kept (caller TEXT NOT NULL REFERENCES caller (name), number INTEGER NOT NULL, command TEXT NOT NULL, status INTEGER NOT NULL, body TEXT NOT NULL, PRIMARY KEY (caller, number)) STRICT") with_kept
unfolding understood everything
makes_kept = record { table = kept; command = refl; whole = refl; plain = (refl, refl); defined = refl; next_is = refl }

pub makes_service : IsTableText with_kept (codes "CREATE TABLE service (name TEXT NOT NULL PRIMARY KEY, spec TEXT NOT NULL, stable TEXT NOT NULL, version TEXT NOT NULL, state INTEGER NOT NULL, step INTEGER NOT NULL, entered INTEGER NOT NULL, hold INTEGER NOT NULL, background INTEGER NOT NULL, runs INTEGER NOT NULL, last INTEGER NOT NULL) STRICT") with_service
unfolding understood everything
makes_service = record { table = service; command = refl; whole = refl; plain = (refl, refl); defined = refl; next_is = refl }

pub makes_run : IsTableText with_service (codes "CREATE TABLE run (service TEXT NOT NULL REFERENCES service (name), number INTEGER NOT NULL, step INTEGER, started INTEGER NOT NULL, closed INTEGER, outside INTEGER NOT NULL, verdict INTEGER NOT NULL, PRIMARY KEY (service, number)) STRICT") with_run
unfolding understood everything
makes_run = record { table = run; command = refl; whole = refl; plain = (refl, refl); defined = refl; next_is = refl }

pub makes_measurement : IsTableText with_run (codes "CREATE TABLE measurement (place INTEGER NOT NULL PRIMARY KEY AUTOINCREMENT, service TEXT NOT NULL, run INTEGER NOT NULL, metric INTEGER NOT NULL, ordinal INTEGER NOT NULL, taken INTEGER NOT NULL, phase INTEGER NOT NULL, outcome TEXT NOT NULL, UNIQUE (service, run, metric, ordinal)) STRICT") with_measurement
unfolding understood everything
makes_measurement = record { table = measurement true; command = refl; whole = refl; plain = (refl, refl); defined = refl; next_is = refl }

pub makes_history : IsTableText with_measurement (codes "CREATE TABLE history (place INTEGER NOT NULL PRIMARY KEY AUTOINCREMENT, service TEXT NOT NULL, moment INTEGER NOT NULL, line TEXT NOT NULL) STRICT") with_history
unfolding understood everything
makes_history = record { table = history true; command = refl; whole = refl; plain = (refl, refl); defined = refl; next_is = refl }

pub makes_revision : IsTableText with_history (codes "CREATE TABLE revision (name TEXT NOT NULL, revision INTEGER NOT NULL, spec TEXT NOT NULL, PRIMARY KEY (name, revision)) STRICT") with_revision
unfolding understood everything
makes_revision = record { table = revision; command = refl; whole = refl; plain = (refl, refl); defined = refl; next_is = refl }

pub makes_binding : IsTableText with_revision (codes "CREATE TABLE binding (service TEXT NOT NULL REFERENCES service (name), run INTEGER NOT NULL, template TEXT NOT NULL, revision INTEGER NOT NULL, PRIMARY KEY (service, run, template)) STRICT") with_binding
unfolding understood everything
makes_binding = record { table = binding; command = refl; whole = refl; plain = (refl, refl); defined = refl; next_is = refl }

pub makes_tally : IsTableText with_binding (codes "CREATE TABLE tally (service TEXT NOT NULL, run INTEGER NOT NULL, metric INTEGER NOT NULL, counted INTEGER NOT NULL, failed INTEGER NOT NULL, inconclusive INTEGER NOT NULL, errors INTEGER NOT NULL, consecutive INTEGER NOT NULL, passes INTEGER NOT NULL, last INTEGER, PRIMARY KEY (service, run, metric)) STRICT") with_tally
unfolding understood everything
makes_tally = record { table = tally; command = refl; whole = refl; plain = (refl, refl); defined = refl; next_is = refl }

pub makes_run_closed : IsIndexText with_tally (codes "CREATE INDEX run_closed ON run (service, closed)") with_runs_indexed
unfolding understood everything
makes_run_closed = record { at = 4; table = record run { tree = 7 }; index = by (codes "run_closed") 7 (1 ∷ 5 ∷ []); command = refl; whole = refl; plain = (refl, refl); there = refl; defined = refl; next_is = refl }

pub makes_measurement_service : IsIndexText with_runs_indexed (codes "CREATE INDEX measurement_service ON measurement (service)") with_measurements_indexed
unfolding understood everything
makes_measurement_service = record { at = 5; table = record (measurement true) { tree = 9 }; index = by (codes "measurement_service") 9 (2 ∷ []); command = refl; whole = refl; plain = (refl, refl); there = refl; defined = refl; next_is = refl }

-- all tables and indexes are there then
pub makes_history_service : IsIndexText with_measurements_indexed (codes "CREATE INDEX history_service ON history (service)") (schema_at made)
unfolding understood everything
makes_history_service = record { at = 7; table = record (history true) { tree = 12 }; index = by (codes "history_service") 12 (2 ∷ []); command = refl; whole = refl; plain = (refl, refl); there = refl; defined = refl; next_is = refl }
