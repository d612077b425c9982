use Rattle.std.proofs.Common.{sym, ◌∙◌}
use Rattle.canary_tables.proofs.HistoryLemmas.{only_taken, told_so}
use Rattle.canary_tables.proofs.cache.Cache.add_lines.Goals as goal

pub returns-in-Ok-clause-histories : goal.returns-in-Ok-clause-histories
returns-in-Ok-clause-histories c =
    told_so c.args.self.now.histories c.put.new.self c.args.name c.args.effects.now c.in-Some.history c.in-Ok.lines (sym c.in-Some.is ∙ c.take.ensures.value) c.in-Ok.ensures c.take.new.self c.take.ensures.rest c.put.ensures.within

pub returns-in_default-clause-histories : goal.returns-in_default-clause-histories
returns-in_default-clause-histories c = only_taken c.args.self.now.histories c.take.new.self c.args.name _ c.take.ensures.rest

pub returns-in_default-lines_after-clause-histories : goal.returns-in_default-lines_after-clause-histories
returns-in_default-lines_after-clause-histories c = only_taken c.args.self.now.histories c.take.new.self c.args.name _ c.take.ensures.rest
