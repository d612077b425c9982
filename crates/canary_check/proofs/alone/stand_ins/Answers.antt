use Rattle.std.proofs.Common.{ap, sym, ◌∙◌, rules}
use Rattle.std.specs.FinMap as map
use Rattle.canary_check.proofs.StandIns.{one_more}
use Rattle.canary_check.proofs.alone.stand_ins.Goals as goal

pub loop-name-preserved : goal.loop-name-preserved
loop-name-preserved c =
    sym (one_more c.loop-name.known c.insert.new.self c.args.names.now c.loop-name.name-index c.name-item.result (search rules) (search rules)
    (c.in_ok-insert.ensures.ok ∙ ap (map.insert c.loop-name.known c.name-item.result) c.in_ok-template.ensures))
    ∙ c.loop-name.invariant
