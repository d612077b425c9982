use Rattle.std.proofs.lemmas.Result.{IfOk-weaker}
use Rattle.canary_tables_read.proofs.SeekTexts.{bindings_below_query}
use Rattle.canary_tables_read.proofs.DeskRows.{bindings_assured, bindings_denied}
use Rattle.canary_tables_read.proofs.check_types.bindings_typed.Goals as goal

pub none_shown-requires-clause-query : goal.none_shown-requires-clause-query
none_shown-requires-clause-query g c = bindings_below_query

pub returns-clause-typed : goal.returns-clause-typed
returns-clause-typed g c usable at schema =
    let was = (c.none_shown.ensures.reads.same usable).0 in
    IfOk-weaker c.none_shown.result _ _
    (λ _ shown. bindings_assured (g.Q.Reader.shows c.args.conn.now) (g.Q.Reader.shows c.none_shown.new.conn) (c.look.ensures.live was) at schema shown) (c.none_shown.ensures.none usable)

pub returns-clause-broken : goal.returns-clause-broken
returns-clause-broken g c usable at schema is has =
    let one = c.none_shown.ensures.some usable is in
    bindings_denied (g.Q.Reader.shows c.args.conn.now) (g.Q.Reader.shows c.none_shown.new.conn) at schema one.0 one.1 one.2 has
