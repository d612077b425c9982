use Rattle.std.proofs.Common.{ap, ◌∙◌}
use Rattle.sqlite.specs.Held.{state}
use Rattle.canary_tables.specs.Desk.{contents_in}
use Rattle.canary_tables.specs.Caches.{kept_of}
use Rattle.canary_tables.proofs.KeptLemmas.{known_so, settled_kept}
use Rattle.canary_tables.proofs.cached.commit.Goals as goal

pub settle-requires-clause-cached : goal.settle-requires-clause-cached
settle-requires-clause-cached g c = λ usable.
    known_so (contents_in (state g.S.Store c.args.conn.now)) c.args.kept.now.services c.args.settlement.change _ (c.requires.kept usable).services
    (c.cached.ensures ∙ ap (λ m. kept_of m c.args.settlement.change) c.forget_revised.ensures.services)

pub returns-in-Ok-clause-kept : goal.returns-in-Ok-clause-kept
returns-in-Ok-clause-kept g c = λ usable.
    settled_kept c.changes.ensures (state g.S.Store c.args.conn.now) (state g.S.Store c.settle.new.conn) c.args.settlement c.args.kept.now c.forget_revised.new.self c.keep.new.self
    (c.requires.settling (c.settle.ensures.held usable)) (c.in-Ok.ensures.desk usable) (c.in-Ok.ensures.settled usable) (c.requires.kept (c.settle.ensures.held usable))
    c.forget_revised.ensures.counts c.forget_revised.ensures.services c.forget_revised.ensures.templates c.keep.ensures.counts c.keep.ensures.services c.keep.ensures.templates c.forget_revised.ensures.receipts c.keep.ensures.receipts c.forget_revised.ensures.histories c.keep.ensures.histories

pub returns-in-Err-clause-kept : goal.returns-in-Err-clause-kept
returns-in-Err-clause-kept g c = λ usable. c.forget.ensures.kept _
