use Rattle.std.proofs.Common.{ℕ, Option, ap, ◌∙◌}
use Rattle.std.specs.Prelude.{unwrap_or}
use Rattle.sqlite.specs.Held.{state}
use Rattle.canary_tables_schema.specs.Cells.{tables_in}
use Rattle.canary_tables.specs.Desk.{IsDesk}
use Rattle.canary_tables.proofs.load.count.Goals as goal

pub returns-clause-found : goal.returns-clause-found
returns-clause-found g c usable =
    let old = state g.S.Store c.args.conn.now in
    let desk : IsDesk old = c.requires.ready.desk (c.in_ok-settled.ensures.reads.same usable).0 in
    c.unwrap_or.ensures ∙ ap (λ (o : Option ℕ). unwrap_or o 0) (c.in_ok-settled.ensures.found usable (tables_in old.now) desk.stores) ∙ c.counts_found.ensures (tables_in old.now) desk.holds c.args.caller.now
