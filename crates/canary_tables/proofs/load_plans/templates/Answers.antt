use Rattle.canary_tables.proofs.load_plans.templates.Goals as goal

pub templates-requires-clause-kept : goal.templates-requires-clause-kept
templates-requires-clause-kept g c = λ usable. c.new-nothing.ensures.kept _
