use Rattle.std.proofs.Common.{subst, sym}
use Rattle.sqlite.specs.Held.{state}
use Rattle.sqlite.specs.Effect.{Database, IsDatabase}
use Rattle.canary_tables_read.specs.Reader.{seen_inside}
use Rattle.canary_tables_read.proofs.Queries.{keeps_inside, same_inside, shown_inside, fails_inside}
use Rattle.canary_tables_read.proofs.reader.TransactionReader.ask.Goals as goal

pub returns-in-Ok-clause-mode : goal.returns-in-Ok-clause-mode
returns-in-Ok-clause-mode g c usable =
    let same = same_inside _ _ (state g.S.Store c.args.self.now.conn.now) (state g.S.Store c.query_all.new.self.conn.now) c.query_all.result _ c.requires.query c.query_all.ensures.survives c.query_all.ensures.ok c.query_all.ensures.err usable in
    subst (λ (db : Database). IsDatabase db) (sym same.1) (c.requires.ready same.0)

pub returns-in-Ok-clause-kept : goal.returns-in-Ok-clause-kept
returns-in-Ok-clause-kept g c =
    keeps_inside _ _ (state g.S.Store c.args.self.now.conn.now) (state g.S.Store c.query_all.new.self.conn.now) c.query_all.result _ c.requires.query c.query_all.ensures.survives c.query_all.ensures.ok c.query_all.ensures.err

pub returns-in-Ok-clause-same : goal.returns-in-Ok-clause-same
returns-in-Ok-clause-same g c =
    same_inside _ _ (state g.S.Store c.args.self.now.conn.now) (state g.S.Store c.query_all.new.self.conn.now) c.query_all.result _ c.requires.query c.query_all.ensures.survives c.query_all.ensures.ok c.query_all.ensures.err

pub returns-in-Err-clause-mode : goal.returns-in-Err-clause-mode
returns-in-Err-clause-mode g c usable =
    let same = same_inside _ _ (state g.S.Store c.args.self.now.conn.now) (state g.S.Store c.query_all.new.self.conn.now) c.query_all.result _ c.requires.query c.query_all.ensures.survives c.query_all.ensures.ok c.query_all.ensures.err usable in
    subst (λ (db : Database). IsDatabase db) (sym same.1) (c.requires.ready same.0)

pub returns-in-Err-clause-kept : goal.returns-in-Err-clause-kept
returns-in-Err-clause-kept g c =
    keeps_inside _ _ (state g.S.Store c.args.self.now.conn.now) (state g.S.Store c.query_all.new.self.conn.now) c.query_all.result _ c.requires.query c.query_all.ensures.survives c.query_all.ensures.ok c.query_all.ensures.err

pub returns-in-Err-clause-same : goal.returns-in-Err-clause-same
returns-in-Err-clause-same g c =
    same_inside _ _ (state g.S.Store c.args.self.now.conn.now) (state g.S.Store c.query_all.new.self.conn.now) c.query_all.result _ c.requires.query c.query_all.ensures.survives c.query_all.ensures.ok c.query_all.ensures.err

pub returns-in-Ok-clause-shown : goal.returns-in-Ok-clause-shown
returns-in-Ok-clause-shown g c usable =
    shown_inside _ _ (state g.S.Store c.args.self.now.conn.now) (state g.S.Store c.query_all.new.self.conn.now) c.in-Ok.rows.items c.requires.query usable (c.in-Ok.ensures.ok usable.clean)

pub returns-in-Err-clause-failed : goal.returns-in-Err-clause-failed
returns-in-Err-clause-failed g c clean = (
  c.in-Err.error,
  (fails_inside _ _ (state g.S.Store c.args.self.now.conn.now) (state g.S.Store c.query_all.new.self.conn.now) c.in-Err.error c.requires.query (c.in-Err.ensures.err clean), c.fault_of.ensures),
)
