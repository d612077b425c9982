use Rattle.std.proofs.Common.{rules, ◌+◌, drop, ap, ◌∙◌}
use Rattle.canary_plan.proofs.Seen.{is_seen, repeats, at_first, one_more, left}
use Rattle.canary_plan.proofs.labels.has_duplicate.Goals as goal

pub loop-name-init : goal.loop-name-init
loop-name-init c = at_first c.new-seen.result c.args.names.now c.new-seen.ensures.len

pub loop-name-preserved : goal.loop-name-preserved
loop-name-preserved c =
    one_more c.loop-name.seen c.insert.new.self c.name-item.result (drop (c.loop-name.name-index + 1) c.args.names.now) c.in_ok-insert.ensures.updates.0 (search rules)
    ∙ ap (repeats (is_seen c.loop-name.seen)) (left c.args.names.now c.loop-name.name-index c.name-item.result c.name-item.is (search rules)) ∙ c.loop-name.invariant
