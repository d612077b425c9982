use Rattle.std.proofs.Common.{rules}
use Rattle.sqlite_trees.specs.View.{IsClean}
use Rattle.canary_tables_schema.specs.Listed.{ListsTally}
use Rattle.canary_tables_schema.proofs.Rising.{rising_first, whole_first}
use Rattle.canary_tables_schema.proofs.reopen.open_desk.Goals as goal

pub returns-in-Ok-clause-numbered : goal.returns-in-Ok-clause-numbered
returns-in-Ok-clause-numbered g c =
    rising_first g.S.Store c.args.store c.in-Ok.opened.0 c.in-Ok.ensures.clean c.in-Ok.ensures.trees c.in-Ok.ensures.opens
    (λ at. g.met.S.Store.ordered c.args.store (c.requires at).sound) (λ at. g.met.S.Alter.listed c.args.store (c.requires at).sound)

pub returns-in-Ok-clause-whole : goal.returns-in-Ok-clause-whole
returns-in-Ok-clause-whole g c =
    let lists : IsClean (g.S.Store.view c.args.store) → ListsTally (g.S.Store.view c.args.store).trees c.in-Ok-Some.tally = search rules in
    whole_first g.S.Store c.args.store c.in-Ok.opened.0 c.in-Ok.ensures.clean c.in-Ok.ensures.trees c.in-Ok.ensures.opens c.in-Ok-Some.tally c.in-Ok.opened.1 lists c.in-Ok.ensures.whole
