use Rattle.std.proofs.Common.{rules}
use Rattle.sqlite.specs.Held.{state}
use Rattle.canary_tables.proofs.Settling.{settles, is_desk, contents_are}
use Rattle.canary_tables.proofs.settle.settle.Goals as goal

pub returns-clause-desk : goal.returns-clause-desk
returns-clause-desk g c = λ usable.
    is_desk c.args.settlement.now (state g.S.Store c.args.conn.now) (state g.S.Store c.commit.new.conn) c.commit.result
    (settles c.one_reading.ensures c.requests.ensures.find c.requests.ensures.settle c.args.settlement.now c.in_ok-is_bound.is_bound (state g.S.Store c.args.conn.now) (state g.S.Store c.is_bound.new.conn) (state g.S.Store c.commit.new.conn) c.commit.result
    (search rules) c.requires.ready.desk c.requires.settling c.is_bound.ensures.reads.same (search rules) c.commit.ensures.held c.commit.ensures.stored c.commit.ensures.readable usable)

pub returns-clause-settled : goal.returns-clause-settled
returns-clause-settled g c = λ usable.
    contents_are c.args.settlement.now (state g.S.Store c.args.conn.now) (state g.S.Store c.commit.new.conn) c.commit.result
    (settles c.one_reading.ensures c.requests.ensures.find c.requests.ensures.settle c.args.settlement.now c.in_ok-is_bound.is_bound (state g.S.Store c.args.conn.now) (state g.S.Store c.is_bound.new.conn) (state g.S.Store c.commit.new.conn) c.commit.result
    (search rules) c.requires.ready.desk c.requires.settling c.is_bound.ensures.reads.same (search rules) c.commit.ensures.held c.commit.ensures.stored c.commit.ensures.readable usable)
