use Rattle.std.proofs.Common.{rules, arith}
use Rattle.sqlite_exec.proofs.CheckLemmas.{from_no_key}
use Rattle.canary_tables_schema.proofs.whole.read_tallies.Goals as goal

pub rows-init : goal.rows-init
rows-init g c = (search rules, search rules, search rules, λ clean. rw (c.in_ok-seek.ensures.ok (omega (arith, c.seek.ensures.quiet.clean)), c.clear.ensures, from_no_key) (λ h. h, λ h. h))
