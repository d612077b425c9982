use Rattle.std.proofs.Common.{rules}
use Rattle.canary_page.proofs.DrawnLemmas.{part_failed}
use Rattle.canary_page.proofs.page.put_out.Goals as goal

pub returns-in-Err : goal.returns-in-Err
returns-in-Err g c = record { drawn = part_failed _ _ _ c.write_all.result _ (search rules) c.write_all.ensures }
