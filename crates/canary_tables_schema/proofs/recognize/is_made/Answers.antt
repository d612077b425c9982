use Rattle.std.proofs.Common.{◌≡◌, ◌↔◌, IsTrue, subst}
use Rattle.canary_tables_schema.specs.declared.numbers.Numbers.{Numbers}
use Rattle.canary_tables_schema.specs.Schema.{schema_of}
use Rattle.canary_tables_schema.proofs.recognize.is_made.Goals as goal

pub returns : goal.returns
returns c = subst (λ (n : Numbers). IsTrue c.is_numbered.result ↔ (c.args.schema.now ≡ schema_of n)) c.dense.ensures c.is_numbered.ensures
