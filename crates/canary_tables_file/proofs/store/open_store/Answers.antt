use Rattle.std.proofs.Common.{Bool, cond, List, ℕ, ap, ap₂, ◌∙◌}
use Rattle.sqlite_disk.specs.Events.{Event, replay}
use Rattle.canary_tables_file.proofs.Found.{image_at, all_of, all_trees_of}
use Rattle.canary_tables_file.proofs.store.open_store.Goals as goal

abbrev seen : List ℕ → List ℕ → Bool → List Event → List ℕ
seen log db is_log history = (replay (cond is_log log db) history).seen

pub returns-clause-found : goal.returns-clause-found
returns-clause-found g c =
    let (log, db) = c.in_ok-files.ensures.fresh in
    let first = seen g.S.Start.log g.S.Start.db in
    let logs = ap (λ f. first f.is_log f.calls.log.events) c.with_reports.ensures.same_log ∙ ap₂ first log.0 log.1 in
    let dbs = ap (λ f. first f.is_log f.calls.log.events) c.with_reports.ensures.same_db ∙ ap₂ first db.0 db.1 in
    all_of _ _ (ap₂ image_at logs dbs) c.store_of.result c.store_of.ensures.found

pub returns-clause-trees : goal.returns-clause-trees
returns-clause-trees g c = all_trees_of _ c.store_of.result (returns-clause-found g c) c.store_of.ensures.reads
