use Rattle.canary_tables_schema.proofs.Wholes.{in_layout, of_layout}
use Rattle.canary_tables_schema.proofs.recognize.is_desk.Goals as goal

pub returns : goal.returns
returns c = (λ e. in_layout c.args.schema.now (c.is_in_layout.ensures.0 e), λ desk. c.is_in_layout.ensures.1 (of_layout c.args.schema.now desk))
