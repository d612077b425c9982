use Rattle.std.specs.Prelude.{IsTrue, ◌&&◌}
use Rattle.std.proofs.Common.{Bool, cond, List, ℕ, ap, ap₂, sym, subst, subst₂, ◌∙◌}
use Rattle.std.proofs.lemmas.Result.{IfOk-weaker}
use Rattle.sqlite_disk.specs.Events.{Event, Model, replay}
use Rattle.sqlite.specs.Files.{file_state}
use Rattle.sqlite.specs.Start.{FindsIn}
use Rattle.canary_tables_file.proofs.Found.{image_at}
use Rattle.canary_tables_file.specs.Found.{HoldNothing}
use Rattle.canary_tables_file.proofs.Made.{finds_nothing}
use Rattle.canary_tables_file.proofs.connect.connect.Goals as goal

abbrev model : List ℕ → List ℕ → Bool → List Event → Model
model log db is_log history = replay (cond is_log log db) history

pub returns-clause-found : goal.returns-clause-found
returns-clause-found g c =
    let first = model g.S.Start.log g.S.Start.db in
    let log = c.with_reports.ensures.same_log in
    let db = c.with_reports.ensures.same_db in
    IfOk-weaker c.connection.result _ _ (λ conn found clean none.
    let finds = found clean in
    let was = subst₂ (λ a b. IsTrue ((first a.is_log a.calls.log.events).is_honest && (first b.is_log b.calls.log.events).is_honest)) log db finds.honest in
    let same = ap₂ image_at (ap (λ f. (first f.is_log f.calls.log.events).seen) log) (ap (λ f. (first f.is_log f.calls.log.events).seen) db) in
    subst (λ i. FindsIn i (file_state conn)) (same ∙ c.in_ok-files.ensures.found was none) (record { holds = finds.holds; reads = finds.reads }))
    c.connection.ensures.found

pub returns-clause-made : goal.returns-clause-made
returns-clause-made g c =
    let first = model g.S.Start.log g.S.Start.db in
    let log = c.with_reports.ensures.same_log in
    let db = c.with_reports.ensures.same_db in
    IfOk-weaker c.connection.result _ _ (λ conn found clean none.
    let finds = found clean in
    let was = subst₂ (λ a b. IsTrue ((first a.is_log a.calls.log.events).is_honest && (first b.is_log b.calls.log.events).is_honest)) log db finds.honest in
    let same = ap₂ image_at (ap (λ f. (first f.is_log f.calls.log.events).seen) log) (ap (λ f. (first f.is_log f.calls.log.events).seen) db) in
    finds_nothing _ (file_state conn).committed.trees finds.holds (subst (λ i. ∥ HoldNothing i ∥₁) (sym same) (c.in_ok-files.ensures.made was none)))
    c.connection.ensures.found
