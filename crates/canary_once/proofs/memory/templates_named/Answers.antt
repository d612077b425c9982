use Rattle.std.proofs.Common.{◌∙◌, Some, None, ap, arith}
use Rattle.canary_release.specs.Desks.{newest}
use Rattle.canary_once.proofs.TemplateLemmas.{found_more}
use Rattle.canary_once.proofs.memory.templates_named.Goals as goal
use Rattle.canary_once.proofs.memory.templates_named.Goals.{in-Some+in_ok-copy+in_ok-insert, in_default}

pub loop-name-preserved : goal.loop-name-preserved
loop-name-preserved c = elim c.match-newest.branch [
  | in-Some+in_ok-copy+in_ok-insert w ↦ found_more (newest c.args.known.now) _ _ c.args.names.now c.loop-name.name-index c.name-item.result (Some w.in_ok-copy.field-0) (omega arith) c.name-item.is c.loop-name.invariant (ap Some w.in_ok-copy.ensures ∙ w.in-Some.ensures) (w.found-is ∙ w.in_ok-insert.ensures.ok)
  | in_default w ↦ found_more (newest c.args.known.now) _ _ c.args.names.now c.loop-name.name-index c.name-item.result None (omega arith) c.name-item.is c.loop-name.invariant w.in_default.ensures w.found-is
]
