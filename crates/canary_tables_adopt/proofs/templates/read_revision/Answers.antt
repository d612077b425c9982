use Rattle.std.proofs.Common.{rules}
use Rattle.canary_tables_adopt.proofs.JudgedCallers.{only_one}
use Rattle.canary_tables_adopt.proofs.templates.read_revision.Goals as goal

pub returns-then-is_of-clause-judged : goal.returns-then-is_of-clause-judged
returns-then-is_of-clause-judged c =
    record {
      row = c.in-Some.row;
      one = only_one c.args.rows c.in-Some.row (search rules);
      has = record { read = c.in_ok-template.template; is = c.in_ok-template.ensures.found; named = search rules };
    }
