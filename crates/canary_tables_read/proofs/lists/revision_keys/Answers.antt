use Rattle.std.proofs.lemmas.Result.{IfOk-weaker}
use Rattle.canary_tables_read.proofs.Texts.{revision_keys_query}
use Rattle.canary_tables_read.proofs.FoundLists.{keys_found, keys_whole}
use Rattle.canary_tables_read.proofs.lists.revision_keys.Goals as goal

pub ask-requires-clause-query : goal.ask-requires-clause-query
ask-requires-clause-query g c = revision_keys_query

pub returns-clause-found : goal.returns-clause-found
returns-clause-found g c usable t has =
    IfOk-weaker c.all.result _ _
    (λ found read. keys_found (g.Q.Reader.shows c.args.conn.now) (g.Q.Reader.shows c.ask.new.self) t _ c.in_ok-rows.rows.items has found (c.in_ok-rows.ensures.shown usable) (rw c.as_slice.ensures.value at read)) c.all.ensures.found

pub returns-clause-broken : goal.returns-clause-broken
returns-clause-broken g c usable t has is within =
    keys_whole (g.Q.Reader.shows c.args.conn.now) (g.Q.Reader.shows c.ask.new.self) t _ c.in_ok-rows.rows.items has (c.in_ok-rows.ensures.shown usable) (rw c.as_slice.ensures.value at (c.all.ensures.broken is)) within
