use Rattle.std.proofs.Common.{ap, ap₂, ◌∙◌}
use Rattle.sqlite_wal.specs.Files.{seen_image}
use Rattle.canary_tables_file.proofs.Found.{image_at, all_of}
use Rattle.canary_tables_file.proofs.store.store_of.Goals as goal

pub returns-in_ok-unopened-in-Ok-Some-clause-found : goal.returns-in_ok-unopened-in-Ok-Some-clause-found
returns-in_ok-unopened-in-Ok-Some-clause-found g c =
    all_of _ _ (ap (λ p. seen_image g.D.Disk p.0 p.1) c.in_ok-unopened-in-Ok-Some.ensures.files ∙ ap₂ image_at c.plain_size.ensures.same_log c.plain_size.ensures.same_db) c.store_over.result c.store_over.ensures.found
