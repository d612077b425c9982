use Rattle.std.specs.Prelude.{◌↔◌, ℕ, IsTrue}
use Rattle.std.proofs.Common.{subst}
use Rattle.sqlite_pool.specs.Opening.{IsBlankFile}
use Rattle.sqlite_wal.specs.Files.{seen_image}
use Rattle.sqlite_wal.specs.Reads.{AreClean}
use Rattle.canary_tables_file.proofs.pages.is_blank.Goals as goal

pub returns-in-Ok-clause-blank : goal.returns-in-Ok-clause-blank
returns-in-Ok-clause-blank g c =
    let old = c.args.files.now in
    let new = c.probe_blank.new.files in
    subst (λ (n : ℕ). AreClean g.D.Disk new.log new.db → (IsTrue c.in-Ok.is_blank ↔ IsBlankFile n (seen_image g.D.Disk old.log old.db))) c.new_size.ensures c.in-Ok.ensures.ok
