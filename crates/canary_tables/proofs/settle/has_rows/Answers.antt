use Rattle.std.proofs.Common.{sym, ap, ◌∙◌, ◌==◌, length}
use Rattle.std.specs.Prelude.{not, option_copied}
use Rattle.sqlite.specs.Held.{state}
use Rattle.canary_plan.specs.Plans.{all_revisions}
use Rattle.canary_tables.proofs.KnownRows.{bindings_there}
use Rattle.canary_tables.proofs.settle.has_rows.Goals as goal

pub returns-in_ok-is_bound_to_any-in-Some-clause-found : goal.returns-in_ok-is_bound_to_any-in-Some-clause-found
returns-in_ok-is_bound_to_any-in-Some-clause-found g c = λ usable t stored.
    c.in_ok-is_bound_to_any-in-Some.ensures ∙ ap (λ b. not (length (all_revisions b) == 0)) c.bound.ensures.value
    ∙ sym (bindings_there c.one_reading.ensures (state g.S.Store c.args.conn.now) t c.args.name.now (option_copied c.args.cached) c.in-Some.service.now c.requires.ready.desk c.requires.cached (ap option_copied c.in-Some.is) usable stored)
