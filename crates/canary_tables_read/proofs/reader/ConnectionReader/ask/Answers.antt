use Rattle.std.proofs.Common.{rules}
use Rattle.sqlite.specs.Held.{state}
use Rattle.canary_tables_read.proofs.Queries.{keeps, keeps_committed}
use Rattle.canary_tables_read.proofs.reader.ConnectionReader.ask.Goals as goal

pub returns-in-Ok-clause-kept : goal.returns-in-Ok-clause-kept
returns-in-Ok-clause-kept g c =
    keeps_committed _ _ (state g.S.Store c.args.self.now) (state g.S.Store c.query_all.new.self) c.query_all.result _ c.requires.query c.query_all.ensures.survives c.query_all.ensures.ok c.query_all.ensures.err

pub returns-in-Ok-clause-same : goal.returns-in-Ok-clause-same
returns-in-Ok-clause-same g c =
    keeps _ _ (state g.S.Store c.args.self.now) (state g.S.Store c.query_all.new.self) c.query_all.result _ c.requires.query (search rules) c.query_all.ensures.survives c.query_all.ensures.ok c.query_all.ensures.err

pub returns-in-Err-clause-kept : goal.returns-in-Err-clause-kept
returns-in-Err-clause-kept g c =
    keeps_committed _ _ (state g.S.Store c.args.self.now) (state g.S.Store c.query_all.new.self) c.query_all.result _ c.requires.query c.query_all.ensures.survives c.query_all.ensures.ok c.query_all.ensures.err

pub returns-in-Err-clause-same : goal.returns-in-Err-clause-same
returns-in-Err-clause-same g c =
    keeps _ _ (state g.S.Store c.args.self.now) (state g.S.Store c.query_all.new.self) c.query_all.result _ c.requires.query (search rules) c.query_all.ensures.survives c.query_all.ensures.ok c.query_all.ensures.err
