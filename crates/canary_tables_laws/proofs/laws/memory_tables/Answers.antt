use Rattle.canary_tables_laws.proofs.TableBooks.{in_memory}
use Rattle.canary_tables_laws.proofs.laws.memory_tables.Goals as goal

pub returns : goal.returns
returns c = in_memory
