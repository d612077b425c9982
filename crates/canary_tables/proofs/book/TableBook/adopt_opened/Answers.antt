use Rattle.std.proofs.Common.{rules, subst}
use Rattle.sqlite.specs.Held.{state}
use Rattle.canary_tables_schema.specs.Formed.{IsDeskSchema}
use Rattle.canary_tables.proofs.Adopting.{adopted, is_desk}
use Rattle.canary_tables.proofs.book.TableBook.adopt_opened.Goals as goal

pub validate_tables-requires-clause-recognized : goal.validate_tables-requires-clause-recognized
validate_tables-requires-clause-recognized g c = subst IsDeskSchema c.schema.ensures.value (c.is_desk.ensures.0 (search rules))

pub invariant_of-result : goal.invariant_of-result
invariant_of-result g c =
    record {
      autocommit = search rules;
      desk = is_desk c.one_reading.ensures (state g.S.Store c.args.conn) (state g.S.Store c.validate_tables.new.conn) c.validate_tables.ensures.reads.same c.in-Ok.ensures.believed;
      noted = search rules;
      kept = λ usable. c.new.ensures.kept _;
    }

pub returns-in-Ok-clause-adopted : goal.returns-in-Ok-clause-adopted
returns-in-Ok-clause-adopted g c =
    adopted (state g.S.Store c.args.conn) (state g.S.Store c.validate_tables.new.conn) c.validate_tables.ensures.reads.same c.in-Ok.ensures.believed
