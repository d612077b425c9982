use Rattle.std.proofs.Common.{rules}
use Rattle.sqlite.specs.Held.{state}
use Rattle.canary_tables_schema.specs.Formed.{IsDeskSchema}
use Rattle.canary_tables_schema.specs.Numbered.{IsOpenedAnew}
use Rattle.canary_tables_schema.specs.Stores.{IsUsable}
use Rattle.canary_tables.proofs.Adopting.{adopted_anew, other_before, broken_before, left_as_it_was}
use Rattle.canary_tables.proofs.book.TableBook.adopt.Goals as goal

pub adopt_opened-requires-clause-numbered : goal.adopt_opened-requires-clause-numbered
adopt_opened-requires-clause-numbered g c =
    let opened : IsUsable (state g.S.Store c.in-Ok.opened.0) → IsOpenedAnew (state g.S.Store c.args.conn) (state g.S.Store c.in-Ok.opened.0) = search rules in
    λ usable. (opened usable).numbered

pub returns-in-Ok-adopt_opened-clause-adopted : goal.returns-in-Ok-adopt_opened-clause-adopted
returns-in-Ok-adopt_opened-clause-adopted g c =
    adopted_anew (state g.S.Store c.args.conn) (state g.S.Store c.in-Ok.opened.0) (state g.S.Store c.in-Ok-adopt_opened.book) (search rules) c.in-Ok-adopt_opened.ensures.adopted

pub returns-in-Err-adopt_opened-clause-other : goal.returns-in-Err-adopt_opened-clause-other
returns-in-Err-adopt_opened-clause-other g c =
    λ is. other_before (state g.S.Store c.args.conn) (state g.S.Store c.in-Ok.opened.0) (state g.S.Store c.in-Err-adopt_opened.conn) (search rules) c.in-Err-adopt_opened.ensures.left (c.in-Err-adopt_opened.ensures.other is)

pub returns-in-Err-adopt_opened-clause-broken : goal.returns-in-Err-adopt_opened-clause-broken
returns-in-Err-adopt_opened-clause-broken g c =
    λ is. broken_before (state g.S.Store c.args.conn) (state g.S.Store c.in-Ok.opened.0) (state g.S.Store c.in-Err-adopt_opened.conn) (search rules) c.in-Err-adopt_opened.ensures.left (c.in-Err-adopt_opened.ensures.broken is)

pub returns-in-Err-adopt_opened-clause-left : goal.returns-in-Err-adopt_opened-clause-left
returns-in-Err-adopt_opened-clause-left g c =
    left_as_it_was (state g.S.Store c.args.conn) (state g.S.Store c.in-Ok.opened.0) (state g.S.Store c.in-Err-adopt_opened.conn) (search rules) c.in-Err-adopt_opened.ensures.left

pub returns-in-Ok-adopt_opened-clause-foreign : goal.returns-in-Ok-adopt_opened-clause-foreign
returns-in-Ok-adopt_opened-clause-foreign g c = λ _ other.
    let is : IsDeskSchema c.args.conn.schema = search rules in
    other is

pub returns-in-Err-adopt_opened-clause-foreign : goal.returns-in-Err-adopt_opened-clause-foreign
returns-in-Err-adopt_opened-clause-foreign g c = λ _ other.
    let is : IsDeskSchema c.args.conn.schema = search rules in
    absurd (other is)
