use Rattle.std.proofs.Common.{sym, subst}
use Rattle.canary_tables_schema.specs.First.{HasFirstMeta}
use Rattle.canary_tables_read.specs.Meta.{Stands}
use Rattle.canary_tables_read.proofs.MetaRows.{first_query, others_query, first_stands}
use Rattle.canary_tables_read.proofs.meta.first_row.Goals as goal

pub is_shown-requires-clause-query : goal.is_shown-requires-clause-query
is_shown-requires-clause-query g c = first_query

pub is_shown-requires-2-clause-query : goal.is_shown-requires-2-clause-query
is_shown-requires-2-clause-query g c = others_query

pub returns-clause-found : goal.returns-clause-found
returns-clause-found g c usable first =
    let old = g.Q.Reader.shows c.args.conn.now in
    let mid = g.Q.Reader.shows c.is_shown.new.conn in
    let new = g.Q.Reader.shows c.is_shown-2.new.conn in
    let later = (c.is_shown-2.ensures.reads.same usable).0 in
    let was = c.is_shown.ensures.reads.same later in
    let sound = c.look.ensures.live was.0 in
    subst (Stands 1 (HasFirstMeta (old.now.trees 0)) (old.now.trees 0)) (sym c.standing.ensures)
    (first_stands old mid new sound first was.1 c.in_ok-is_there.is_there c.in_ok-has_others.has_others (c.in_ok-is_there.ensures.shown later) (c.in_ok-has_others.ensures.shown usable))
