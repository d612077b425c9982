-- What the texts of the counts ask for, in each layout.
use Rattle.std.proofs.Common.{ℕ, List, codes, refl}
use Rattle.sqlite.specs.Listing.{understood}
use Rattle.sqlite_tied.specs.Compute.{everything}
use Rattle.canary_tables_schema.specs.Layout.{made, moved, packed, run_at, measurement_at, history_at, binding_at, tally_at}
use Rattle.canary_tables_read.specs.Queries.{IsQuery}
use Rattle.canary_tables_read.proofs.Counting.{Counts}

abbrev pub kept_count_text : List ℕ
kept_count_text = codes "SELECT count(*) FROM kept"

pub kept_count_query : IsQuery kept_count_text
unfolding everything
kept_count_query = tt

pub kept_counts : Counts kept_count_text (λ _. 3)
unfolding understood everything
kept_counts at = record { names = _; is = refl; plain = (refl, refl); unlisted = refl }

abbrev pub run_count_text : List ℕ
run_count_text = codes "SELECT count(*) FROM run"

pub run_count_query : IsQuery run_count_text
unfolding everything
run_count_query = tt

pub run_counts : Counts run_count_text run_at
unfolding understood everything
run_counts made = record { names = _; is = refl; plain = (refl, refl); unlisted = refl }
run_counts moved = record { names = _; is = refl; plain = (refl, refl); unlisted = refl }
run_counts packed = record { names = _; is = refl; plain = (refl, refl); unlisted = refl }

abbrev pub binding_count_text : List ℕ
binding_count_text = codes "SELECT count(*) FROM binding"

pub binding_count_query : IsQuery binding_count_text
unfolding everything
binding_count_query = tt

pub binding_counts : Counts binding_count_text binding_at
unfolding understood everything
binding_counts made = record { names = _; is = refl; plain = (refl, refl); unlisted = refl }
binding_counts moved = record { names = _; is = refl; plain = (refl, refl); unlisted = refl }
binding_counts packed = record { names = _; is = refl; plain = (refl, refl); unlisted = refl }

abbrev pub tally_count_text : List ℕ
tally_count_text = codes "SELECT count(*) FROM tally"

pub tally_count_query : IsQuery tally_count_text
unfolding everything
tally_count_query = tt

pub tally_counts : Counts tally_count_text tally_at
unfolding understood everything
tally_counts made = record { names = _; is = refl; plain = (refl, refl); unlisted = refl }
tally_counts moved = record { names = _; is = refl; plain = (refl, refl); unlisted = refl }
tally_counts packed = record { names = _; is = refl; plain = (refl, refl); unlisted = refl }

abbrev pub measurement_count_text : List ℕ
measurement_count_text = codes "SELECT count(*) FROM measurement"

pub measurement_count_query : IsQuery measurement_count_text
unfolding everything
measurement_count_query = tt

pub measurement_counts : Counts measurement_count_text measurement_at
unfolding understood everything
measurement_counts made = record { names = _; is = refl; plain = (refl, refl); unlisted = refl }
measurement_counts moved = record { names = _; is = refl; plain = (refl, refl); unlisted = refl }
measurement_counts packed = record { names = _; is = refl; plain = (refl, refl); unlisted = refl }

abbrev pub history_count_text : List ℕ
history_count_text = codes "SELECT count(*) FROM history"

pub history_count_query : IsQuery history_count_text
unfolding everything
history_count_query = tt

pub history_counts : Counts history_count_text history_at
unfolding understood everything
history_counts made = record { names = _; is = refl; plain = (refl, refl); unlisted = refl }
history_counts moved = record { names = _; is = refl; plain = (refl, refl); unlisted = refl }
history_counts packed = record { names = _; is = refl; plain = (refl, refl); unlisted = refl }
