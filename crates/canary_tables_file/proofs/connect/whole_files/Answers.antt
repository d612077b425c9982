use Rattle.std.proofs.Common.{Bool, cond, List, ℕ, ap₂, subst}
use Rattle.std.proofs.lemmas.Result.{IfOk-weaker}
use Rattle.sqlite_disk.specs.Events.{Event, replay}
use Rattle.canary_tables_file.specs.Found.{HaveNoDatabase}
use Rattle.canary_tables_file.proofs.Found.{image_at}
use Rattle.canary_tables_file.proofs.connect.whole_files.Goals as goal

abbrev seen : List ℕ → List ℕ → Bool → List Event → List ℕ
seen log db is_log history = (replay (cond is_log log db) history).seen

pub returns-in-Ok-true-clause-found : goal.returns-in-Ok-true-clause-found
returns-in-Ok-true-clause-found g c =
    let log = c.in_ok-files.ensures.fresh.0 in
    let db = c.in_ok-files.ensures.fresh.1 in
    let first = seen g.S.Start.log g.S.Start.db in
    let same = ap₂ image_at (ap₂ first log.0 log.1) (ap₂ first db.0 db.1) in
    IfOk-weaker c.make.result _ _ (λ made was clean none.
    absurd (none (subst HaveNoDatabase same ((c.in-Ok-true.ensures.blank (was clean)).0 c.in-Ok-true.field-0-test))))
    c.make.ensures.clean
