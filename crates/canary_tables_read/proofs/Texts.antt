-- What the texts of the queries ask for, in each layout.
use Rattle.std.proofs.Common.{ℕ, pos, List, [], ◌∷◌, true, codes, refl}
use Rattle.sqlite.specs.Term.{Term, lit, col, op2}
use Rattle.sqlite.specs.Listing.{understood}
use Rattle.sqlite_sql.specs.declared.ops.BinaryOp.TheVariants.{Compare, Is}
use Rattle.sqlite.specs.declared.types.Value.TheVariants.{Null, Int}
use Rattle.sqlite_sql.specs.declared.ops.CompareOp.TheVariants.{Eq}
use Rattle.sqlite_value.specs.declared.keys.Collation.TheVariants.{Binary}
use Rattle.sqlite_tied.specs.Compute.{everything}
use Rattle.canary_tables_read.specs.Queries.{IsQuery}
use Rattle.canary_tables_schema.specs.Layout.{made, moved, packed, service_at, run_at, measurement_at, history_at, revision_at, binding_at, tally_at}
use Rattle.canary_tables_read.proofs.Answer.{no_limit, from_start, sorted_by, by_column}
use Rattle.canary_tables_read.proofs.Asking.{Asks}

-- the column of the row is the parameter
abbrev pub equals : ℕ → ℕ → Term
equals column parameter = op2 (Compare Eq Binary) (col 1 column) (col 0 parameter)

abbrev pub settled_text : List ℕ
settled_text = codes "SELECT settled FROM caller WHERE name = ?1 ORDER BY rowid"

abbrev pub settled_tests : List Term
settled_tests = equals 1 0 ∷ []

abbrev pub settled_shown : List Term
settled_shown = col 1 2 ∷ []

pub settled_query : IsQuery settled_text
unfolding everything
settled_query = tt

pub settled_asks : Asks settled_text (λ _. 1) settled_tests settled_shown (by_column 0) no_limit from_start
unfolding understood everything
settled_asks at = record { names = _; is = refl; plain = (refl, refl); unlisted = refl }

abbrev pub kept_text : List ℕ
kept_text = codes "SELECT number, command, status, body FROM kept WHERE caller = ?1 AND number = ?2 ORDER BY rowid"

abbrev pub kept_tests : List Term
kept_tests = equals 1 0 ∷ equals 2 1 ∷ []

abbrev pub kept_shown : List Term
kept_shown = col 1 2 ∷ col 1 3 ∷ col 1 4 ∷ col 1 5 ∷ []

pub kept_query : IsQuery kept_text
unfolding everything
kept_query = tt

pub kept_asks : Asks kept_text (λ _. 3) kept_tests kept_shown (by_column 0) no_limit from_start
unfolding understood everything
kept_asks at = record { names = _; is = refl; plain = (refl, refl); unlisted = refl }

abbrev pub revision_text : List ℕ
revision_text = codes "SELECT revision, spec FROM revision WHERE name = ?1 AND revision = ?2 ORDER BY rowid"

abbrev pub revision_tests : List Term
revision_tests = equals 1 0 ∷ equals 2 1 ∷ []

abbrev pub revision_shown : List Term
revision_shown = col 1 2 ∷ col 1 3 ∷ []

pub revision_query : IsQuery revision_text
unfolding everything
revision_query = tt

pub revision_asks : Asks revision_text revision_at revision_tests revision_shown (by_column 0) no_limit from_start
unfolding understood everything
revision_asks made = record { names = _; is = refl; plain = (refl, refl); unlisted = refl }
revision_asks moved = record { names = _; is = refl; plain = (refl, refl); unlisted = refl }
revision_asks packed = record { names = _; is = refl; plain = (refl, refl); unlisted = refl }

abbrev pub newest_text : List ℕ
newest_text = codes "SELECT revision, spec FROM revision WHERE name = ?1 ORDER BY revision DESC LIMIT 1"

abbrev pub newest_tests : List Term
newest_tests = equals 1 0 ∷ []

abbrev pub only_one : Term
only_one = lit (Int (pos 1))

pub newest_query : IsQuery newest_text
unfolding everything
newest_query = tt

pub newest_asks : Asks newest_text revision_at newest_tests revision_shown (sorted_by true 2) only_one from_start
unfolding understood everything
newest_asks made = record { names = _; is = refl; plain = (refl, refl); unlisted = refl }
newest_asks moved = record { names = _; is = refl; plain = (refl, refl); unlisted = refl }
newest_asks packed = record { names = _; is = refl; plain = (refl, refl); unlisted = refl }

abbrev pub service_text : List ℕ
service_text = codes "SELECT spec, stable, version, state, step, entered, hold, background, runs, last FROM service WHERE name = ?1 ORDER BY rowid"

abbrev pub service_tests : List Term
service_tests = equals 1 0 ∷ []

abbrev pub service_shown : List Term
service_shown = col 1 2 ∷ col 1 3 ∷ col 1 4 ∷ col 1 5 ∷ col 1 6 ∷ col 1 7 ∷ col 1 8 ∷ col 1 9 ∷ col 1 10 ∷ col 1 11 ∷ []

pub service_query : IsQuery service_text
unfolding everything
service_query = tt

pub service_asks : Asks service_text service_at service_tests service_shown (by_column 0) no_limit from_start
unfolding understood everything
service_asks made = record { names = _; is = refl; plain = (refl, refl); unlisted = refl }
service_asks moved = record { names = _; is = refl; plain = (refl, refl); unlisted = refl }
service_asks packed = record { names = _; is = refl; plain = (refl, refl); unlisted = refl }

abbrev pub bindings_text : List ℕ
bindings_text = codes "SELECT run, template, revision FROM binding WHERE service = ?1 AND run = ?2 ORDER BY rowid"

abbrev pub bindings_tests : List Term
bindings_tests = equals 1 0 ∷ equals 2 1 ∷ []

abbrev pub bindings_shown : List Term
bindings_shown = col 1 2 ∷ col 1 3 ∷ col 1 4 ∷ []

pub bindings_query : IsQuery bindings_text
unfolding everything
bindings_query = tt

pub bindings_asks : Asks bindings_text binding_at bindings_tests bindings_shown (by_column 0) no_limit from_start
unfolding understood everything
bindings_asks made = record { names = _; is = refl; plain = (refl, refl); unlisted = refl }
bindings_asks moved = record { names = _; is = refl; plain = (refl, refl); unlisted = refl }
bindings_asks packed = record { names = _; is = refl; plain = (refl, refl); unlisted = refl }

abbrev pub has_bindings_text : List ℕ
has_bindings_text = codes "SELECT template FROM binding WHERE service = ?1 AND run = 0 ORDER BY rowid"

abbrev pub has_bindings_tests : List Term
has_bindings_tests = equals 1 0 ∷ op2 (Compare Eq Binary) (col 1 2) (lit (Int (pos 0))) ∷ []

abbrev pub has_bindings_shown : List Term
has_bindings_shown = col 1 3 ∷ []

pub has_bindings_query : IsQuery has_bindings_text
unfolding everything
has_bindings_query = tt

pub has_bindings_asks : Asks has_bindings_text binding_at has_bindings_tests has_bindings_shown (by_column 0) no_limit from_start
unfolding understood everything
has_bindings_asks made = record { names = _; is = refl; plain = (refl, refl); unlisted = refl }
has_bindings_asks moved = record { names = _; is = refl; plain = (refl, refl); unlisted = refl }
has_bindings_asks packed = record { names = _; is = refl; plain = (refl, refl); unlisted = refl }

abbrev pub open_runs_text : List ℕ
open_runs_text = codes "SELECT number, step, started, closed, outside, verdict FROM run WHERE service = ?1 AND closed IS NULL ORDER BY number"

abbrev pub open_runs_tests : List Term
open_runs_tests = equals 1 0 ∷ op2 (Is Binary) (col 1 5) (lit Null) ∷ []

abbrev pub open_runs_shown : List Term
open_runs_shown = col 1 2 ∷ col 1 3 ∷ col 1 4 ∷ col 1 5 ∷ col 1 6 ∷ col 1 7 ∷ []

pub open_runs_query : IsQuery open_runs_text
unfolding everything
open_runs_query = tt

pub open_runs_asks : Asks open_runs_text run_at open_runs_tests open_runs_shown (by_column 2) no_limit from_start
unfolding understood everything
open_runs_asks made = record { names = _; is = refl; plain = (refl, refl); unlisted = refl }
open_runs_asks moved = record { names = _; is = refl; plain = (refl, refl); unlisted = refl }
open_runs_asks packed = record { names = _; is = refl; plain = (refl, refl); unlisted = refl }

abbrev pub front_runs_text : List ℕ
front_runs_text = codes "SELECT number, step, started, closed, outside, verdict FROM run WHERE service = ?1 ORDER BY closed LIMIT 3"

abbrev pub front_runs_tests : List Term
front_runs_tests = equals 1 0 ∷ []

abbrev pub three : Term
three = lit (Int (pos 3))

pub front_runs_query : IsQuery front_runs_text
unfolding everything
front_runs_query = tt

pub front_runs_asks : Asks front_runs_text run_at front_runs_tests open_runs_shown (by_column 5) three from_start
unfolding understood everything
front_runs_asks made = record { names = _; is = refl; plain = (refl, refl); unlisted = refl }
front_runs_asks moved = record { names = _; is = refl; plain = (refl, refl); unlisted = refl }
front_runs_asks packed = record { names = _; is = refl; plain = (refl, refl); unlisted = refl }

abbrev pub run_text : List ℕ
run_text = codes "SELECT number, step, started, closed, outside, verdict FROM run WHERE service = ?1 AND number = ?2 ORDER BY rowid"

abbrev pub run_tests : List Term
run_tests = equals 1 0 ∷ equals 2 1 ∷ []

abbrev pub run_shown : List Term
run_shown = col 1 2 ∷ col 1 3 ∷ col 1 4 ∷ col 1 5 ∷ col 1 6 ∷ col 1 7 ∷ []

pub run_query : IsQuery run_text
unfolding everything
run_query = tt

pub run_asks : Asks run_text run_at run_tests run_shown (by_column 0) no_limit from_start
unfolding understood everything
run_asks made = record { names = _; is = refl; plain = (refl, refl); unlisted = refl }
run_asks moved = record { names = _; is = refl; plain = (refl, refl); unlisted = refl }
run_asks packed = record { names = _; is = refl; plain = (refl, refl); unlisted = refl }

abbrev pub tallies_text : List ℕ
tallies_text = codes "SELECT run, metric, counted, failed, inconclusive, errors, consecutive, passes, last FROM tally WHERE service = ?1 AND run = ?2 ORDER BY metric"

abbrev pub tallies_tests : List Term
tallies_tests = equals 1 0 ∷ equals 2 1 ∷ []

abbrev pub tallies_shown : List Term
tallies_shown = col 1 2 ∷ col 1 3 ∷ col 1 4 ∷ col 1 5 ∷ col 1 6 ∷ col 1 7 ∷ col 1 8 ∷ col 1 9 ∷ col 1 10 ∷ []

pub tallies_query : IsQuery tallies_text
unfolding everything
tallies_query = tt

pub tallies_asks : Asks tallies_text tally_at tallies_tests tallies_shown (by_column 3) no_limit from_start
unfolding understood everything
tallies_asks made = record { names = _; is = refl; plain = (refl, refl); unlisted = refl }
tallies_asks moved = record { names = _; is = refl; plain = (refl, refl); unlisted = refl }
tallies_asks packed = record { names = _; is = refl; plain = (refl, refl); unlisted = refl }

abbrev pub history_text : List ℕ
history_text = codes "SELECT moment, line FROM history WHERE service = ?1 ORDER BY place"

abbrev pub history_tests : List Term
history_tests = equals 2 0 ∷ []

abbrev pub history_shown : List Term
history_shown = col 1 3 ∷ col 1 4 ∷ []

pub history_query : IsQuery history_text
unfolding everything
history_query = tt

pub history_asks : Asks history_text history_at history_tests history_shown (by_column 0) no_limit from_start
unfolding understood everything
history_asks made = record { names = _; is = refl; plain = (refl, refl); unlisted = refl }
history_asks moved = record { names = _; is = refl; plain = (refl, refl); unlisted = refl }
history_asks packed = record { names = _; is = refl; plain = (refl, refl); unlisted = refl }

abbrev pub lines_text : List ℕ
lines_text = codes "SELECT moment, line FROM history WHERE service = ?1 ORDER BY place LIMIT ?3 OFFSET ?2"

pub lines_query : IsQuery lines_text
unfolding everything
lines_query = tt

pub lines_asks : Asks lines_text history_at history_tests history_shown (by_column 0) (col 0 2) (col 0 1)
unfolding understood everything
lines_asks made = record { names = _; is = refl; plain = (refl, refl); unlisted = refl }
lines_asks moved = record { names = _; is = refl; plain = (refl, refl); unlisted = refl }
lines_asks packed = record { names = _; is = refl; plain = (refl, refl); unlisted = refl }

abbrev pub measurements_tests : List Term
measurements_tests = equals 2 0 ∷ []

abbrev pub measurements_shown : List Term
measurements_shown = col 1 3 ∷ col 1 4 ∷ col 1 5 ∷ col 1 6 ∷ col 1 7 ∷ col 1 8 ∷ []

abbrev pub callers_text : List ℕ
callers_text = codes "SELECT name, settled FROM caller ORDER BY rowid"

abbrev pub callers_shown : List Term
callers_shown = col 1 1 ∷ col 1 2 ∷ []

pub callers_query : IsQuery callers_text
unfolding everything
callers_query = tt

pub callers_asks : Asks callers_text (λ _. 1) [] callers_shown (by_column 0) no_limit from_start
unfolding understood everything
callers_asks at = record { names = _; is = refl; plain = (refl, refl); unlisted = refl }

abbrev pub name_shown : List Term
name_shown = col 1 1 ∷ []

abbrev pub revision_keys_text : List ℕ
revision_keys_text = codes "SELECT name, revision FROM revision ORDER BY rowid"

abbrev pub revision_keys_shown : List Term
revision_keys_shown = col 1 1 ∷ col 1 2 ∷ []

pub revision_keys_query : IsQuery revision_keys_text
unfolding everything
revision_keys_query = tt

pub revision_keys_asks : Asks revision_keys_text revision_at [] revision_keys_shown (by_column 0) no_limit from_start
unfolding understood everything
revision_keys_asks made = record { names = _; is = refl; plain = (refl, refl); unlisted = refl }
revision_keys_asks moved = record { names = _; is = refl; plain = (refl, refl); unlisted = refl }
revision_keys_asks packed = record { names = _; is = refl; plain = (refl, refl); unlisted = refl }

abbrev pub service_names_text : List ℕ
service_names_text = codes "SELECT name FROM service ORDER BY rowid"

pub service_names_query : IsQuery service_names_text
unfolding everything
service_names_query = tt

pub service_names_asks : Asks service_names_text service_at [] name_shown (by_column 0) no_limit from_start
unfolding understood everything
service_names_asks made = record { names = _; is = refl; plain = (refl, refl); unlisted = refl }
service_names_asks moved = record { names = _; is = refl; plain = (refl, refl); unlisted = refl }
service_names_asks packed = record { names = _; is = refl; plain = (refl, refl); unlisted = refl }
