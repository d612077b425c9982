use Rattle.canary_tables_contents.proofs.Parts.{parts_make_them_sound}
use Rattle.canary_tables_contents.proofs.judged_laws.parts.Goals as goal

pub returns : goal.returns
returns c = parts_make_them_sound
