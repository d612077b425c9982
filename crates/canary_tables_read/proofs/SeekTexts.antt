-- What the texts that look for negative numbers ask for, in each layout.
use Rattle.std.proofs.Common.{ℕ, List, [], ◌∷◌, codes, refl}
use Rattle.sqlite.specs.Listing.{understood}
use Rattle.sqlite_tied.specs.Compute.{everything}
use Rattle.canary_tables_schema.specs.Layout.{made, moved, packed, service_at, run_at, measurement_at, history_at, revision_at, binding_at, tally_at}
use Rattle.canary_tables_read.specs.Queries.{IsQuery}
use Rattle.canary_tables_read.proofs.Seeking.{Seeks, below, or_below}

abbrev pub callers_below_text : List ℕ
callers_below_text = codes "SELECT 1 FROM caller WHERE settled < 0 LIMIT 1"

pub callers_below_query : IsQuery callers_below_text
unfolding everything
callers_below_query = tt

pub callers_below : Seeks callers_below_text (λ _. 1) (or_below (below 2) ([]))
unfolding understood everything
callers_below at = record { names = _; is = refl; plain = (refl, refl); unlisted = refl }

abbrev pub kept_below_text : List ℕ
kept_below_text = codes "SELECT 1 FROM kept WHERE number < 0 OR status < 0 LIMIT 1"

pub kept_below_query : IsQuery kept_below_text
unfolding everything
kept_below_query = tt

pub kept_below : Seeks kept_below_text (λ _. 3) (or_below (below 2) (4 ∷ []))
unfolding understood everything
kept_below at = record { names = _; is = refl; plain = (refl, refl); unlisted = refl }

abbrev pub services_below_text : List ℕ
services_below_text = codes "SELECT 1 FROM service WHERE state < 0 OR step < 0 OR entered < 0 OR hold < 0 OR background < 0 OR runs < 0 OR last < 0 LIMIT 1"

pub services_below_query : IsQuery services_below_text
unfolding everything
services_below_query = tt

pub services_below : Seeks services_below_text service_at (or_below (below 5) (6 ∷ 7 ∷ 8 ∷ 9 ∷ 10 ∷ 11 ∷ []))
unfolding understood everything
services_below made = record { names = _; is = refl; plain = (refl, refl); unlisted = refl }
services_below moved = record { names = _; is = refl; plain = (refl, refl); unlisted = refl }
services_below packed = record { names = _; is = refl; plain = (refl, refl); unlisted = refl }

abbrev pub runs_below_text : List ℕ
runs_below_text = codes "SELECT 1 FROM run WHERE number < 0 OR step < 0 OR started < 0 OR closed < 0 OR outside < 0 OR verdict < 0 LIMIT 1"

pub runs_below_query : IsQuery runs_below_text
unfolding everything
runs_below_query = tt

pub runs_below : Seeks runs_below_text run_at (or_below (below 2) (3 ∷ 4 ∷ 5 ∷ 6 ∷ 7 ∷ []))
unfolding understood everything
runs_below made = record { names = _; is = refl; plain = (refl, refl); unlisted = refl }
runs_below moved = record { names = _; is = refl; plain = (refl, refl); unlisted = refl }
runs_below packed = record { names = _; is = refl; plain = (refl, refl); unlisted = refl }

abbrev pub tallies_below_text : List ℕ
tallies_below_text = codes "SELECT 1 FROM tally WHERE run < 0 OR metric < 0 OR counted < 0 OR failed < 0 OR inconclusive < 0 OR errors < 0 OR consecutive < 0 OR passes < 0 OR last < 0 LIMIT 1"

pub tallies_below_query : IsQuery tallies_below_text
unfolding everything
tallies_below_query = tt

pub tallies_below : Seeks tallies_below_text tally_at (or_below (below 2) (3 ∷ 4 ∷ 5 ∷ 6 ∷ 7 ∷ 8 ∷ 9 ∷ 10 ∷ []))
unfolding understood everything
tallies_below made = record { names = _; is = refl; plain = (refl, refl); unlisted = refl }
tallies_below moved = record { names = _; is = refl; plain = (refl, refl); unlisted = refl }
tallies_below packed = record { names = _; is = refl; plain = (refl, refl); unlisted = refl }

abbrev pub measurements_below_text : List ℕ
measurements_below_text = codes "SELECT 1 FROM measurement WHERE run < 0 OR metric < 0 OR ordinal < 0 OR taken < 0 OR phase < 0 LIMIT 1"

pub measurements_below_query : IsQuery measurements_below_text
unfolding everything
measurements_below_query = tt

pub measurements_below : Seeks measurements_below_text measurement_at (or_below (below 3) (4 ∷ 5 ∷ 6 ∷ 7 ∷ []))
unfolding understood everything
measurements_below made = record { names = _; is = refl; plain = (refl, refl); unlisted = refl }
measurements_below moved = record { names = _; is = refl; plain = (refl, refl); unlisted = refl }
measurements_below packed = record { names = _; is = refl; plain = (refl, refl); unlisted = refl }

abbrev pub history_below_text : List ℕ
history_below_text = codes "SELECT 1 FROM history WHERE moment < 0 LIMIT 1"

pub history_below_query : IsQuery history_below_text
unfolding everything
history_below_query = tt

pub history_below : Seeks history_below_text history_at (or_below (below 3) ([]))
unfolding understood everything
history_below made = record { names = _; is = refl; plain = (refl, refl); unlisted = refl }
history_below moved = record { names = _; is = refl; plain = (refl, refl); unlisted = refl }
history_below packed = record { names = _; is = refl; plain = (refl, refl); unlisted = refl }

abbrev pub revisions_below_text : List ℕ
revisions_below_text = codes "SELECT 1 FROM revision WHERE revision < 0 LIMIT 1"

pub revisions_below_query : IsQuery revisions_below_text
unfolding everything
revisions_below_query = tt

pub revisions_below : Seeks revisions_below_text revision_at (or_below (below 2) ([]))
unfolding understood everything
revisions_below made = record { names = _; is = refl; plain = (refl, refl); unlisted = refl }
revisions_below moved = record { names = _; is = refl; plain = (refl, refl); unlisted = refl }
revisions_below packed = record { names = _; is = refl; plain = (refl, refl); unlisted = refl }

abbrev pub bindings_below_text : List ℕ
bindings_below_text = codes "SELECT 1 FROM binding WHERE run < 0 OR revision < 0 LIMIT 1"

pub bindings_below_query : IsQuery bindings_below_text
unfolding everything
bindings_below_query = tt

pub bindings_below : Seeks bindings_below_text binding_at (or_below (below 2) (4 ∷ []))
unfolding understood everything
bindings_below made = record { names = _; is = refl; plain = (refl, refl); unlisted = refl }
bindings_below moved = record { names = _; is = refl; plain = (refl, refl); unlisted = refl }
bindings_below packed = record { names = _; is = refl; plain = (refl, refl); unlisted = refl }
